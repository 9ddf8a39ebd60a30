-- The fields of a `Draft` as the record `Fields` (`fields_of`), by which contracts see every draft and file: in
-- `src/draft.rt` and `src/file.rt`, in tsp_read, and above. A new field needs its line there. The first half is for
-- `src/relayout.rt` alone and may follow its code: which cells of a full matrix have their costs while the matrix is
-- made from half of one. Crates above import it, too.
use Rattle.tsp_file.specs.Prelude.{All, option_map, ℕ, Some, Bool, true, false, nat_le, List, slice_index_or, ℤ, pos, map, on_plane, Point, most_weight, IsNode, cells_of_line, line_len_of, Listed, Layout, FullMatrix, UpperRow, LowerRow, UpperDiagRow, LowerDiagRow, UpperCol, LowerCol, UpperDiagCol, LowerDiagCol, subset_rows_of, steps_of}
use Rattle.std.specs.Global.{Vec}
use Rattle.std.specs.Prelude.{◌+◌, ◌≡◌, ◌≢◌, ◌-◌, ◌*◌, ◌<◌, ◌≤◌}
use Rattle.tsp_file.specs.Cost.{cost, listed_cost}
use Rattle.tsp_file.specs.Fields.{Fields, nodes_of}
use Rattle.tsp_file.specs.Relayout.{costs_in}
use Rattle.tsp_file.specs.Valid.{IsWithin}
use Rattle.tsp_file.specs.declared.coords.Coords.{Coords}
use Rattle.tsp_file.specs.declared.coords.Coords.TheVariants.{Plane, Space}
use Rattle.tsp_file.specs.declared.draft.Draft.{Draft}
use Rattle.tsp_file.specs.declared.relayout.Way.{Way}
use Rattle.tsp_file.specs.declared.relayout.Way.TheVariants.{Already, Within, Across, Anew}

-- the first of these columns
abbrev pub first_own : Layout → ℕ → ℕ
first_own FullMatrix row = 1
first_own UpperRow row = row + 1
first_own LowerRow row = 1
first_own UpperDiagRow row = row
first_own LowerDiagRow row = 1
first_own UpperCol row = 1
first_own LowerCol row = row + 1
first_own UpperDiagCol row = 1
first_own LowerDiagCol row = row

-- the column after the last of them
abbrev pub past_own : Layout → ℕ → ℕ → ℕ
past_own FullMatrix n row = n + 1
past_own UpperRow n row = n + 1
past_own LowerRow n row = row
past_own UpperDiagRow n row = n + 1
past_own LowerDiagRow n row = row + 1
past_own UpperCol n row = row
past_own LowerCol n row = n + 1
past_own UpperDiagCol n row = row + 1
past_own LowerDiagCol n row = n + 1

-- ---- what holds for a file whose weights get into another layout in one of four ways

-- the weights are in that layout; or they are a full matrix; or half of one, to be made full; or these weights are
-- listed again
abbrev pub LeadsTo : Fields → Layout → Way → Type 0
LeadsTo f to Already = (f.weight_format ≡ Some (Listed to)) × (f.weights ≡ Some (costs_in to (nodes_of f) (cost f)))
LeadsTo f to Within = f.weight_format ≡ Some (Listed FullMatrix)
LeadsTo f to (Across from) = (to ≡ FullMatrix) × (from ≢ FullMatrix) × (f.weight_format ≡ Some (Listed from))
LeadsTo f to (Anew weights) = (weights.items ≡ costs_in to (nodes_of f) (cost f)) × All (IsWithin most_weight) weights.items

-- ---- where the lines of half a matrix begin in the full matrix with the same costs

-- how many places of its row come before a line of the layout
abbrev pub places_before : Layout → ℕ → ℕ
places_before FullMatrix line = 0
places_before UpperRow line = line
places_before LowerRow line = 0
places_before UpperDiagRow line = line - 1
places_before LowerDiagRow line = 0
places_before UpperCol line = 0
places_before LowerCol line = line
places_before UpperDiagCol line = 0
places_before LowerDiagCol line = line - 1

-- where the line of a layout begins in the full matrix over n nodes, counted from 0; a column begins where the row
-- across the diagonal does
abbrev pub line_start_of : Layout → ℕ → ℕ → ℕ
line_start_of layout n line = (line - 1) * n + places_before layout line

-- ---- which cells of a full matrix have their costs, while it is made of half of one

-- the lines of the layout, or for a layout by columns the rows across the diagonal, are above the diagonal
abbrev pub goes_above : Layout → Bool
goes_above FullMatrix = false
goes_above UpperRow = true
goes_above LowerRow = false
goes_above UpperDiagRow = true
goes_above LowerDiagRow = false
goes_above UpperCol = false
goes_above LowerCol = true
goes_above UpperDiagCol = false
goes_above LowerDiagCol = true

-- the cell is on the diagonal, or above it (`true`), or below it (`false`)
abbrev pub is_on_side : Bool → ℕ → ℕ → Bool
is_on_side true i j = nat_le i j
is_on_side false i j = nat_le j i

-- the entry of the cell in the full matrix is its cost
abbrev pub IsCostOfCell : (ℕ → ℕ → ℤ) → ℕ → List ℤ → ℕ → ℕ → Type 0
IsCostOfCell cost n full i j = slice_index_or full ((i - 1) * n + (j - 1)) (pos 0) ≡ cost i j

-- each cell on one side of the diagonal, and on it, has its cost
abbrev pub HasSide : Bool → (ℕ → ℕ → ℤ) → ℕ → List ℤ → Type 0
HasSide above cost n full = (i j : ℕ) → IsNode n i → IsNode n j → is_on_side above i j ≡ true → IsCostOfCell cost n full i j

-- each cell that had its cost has it
abbrev pub KeepsCosts : (ℕ → ℕ → ℤ) → ℕ → List ℤ → List ℤ → Type 0
KeepsCosts cost n old new = (i j : ℕ) → IsNode n i → IsNode n j → IsCostOfCell cost n old i j → IsCostOfCell cost n new i j

-- the lines after this one are in their rows of the full matrix
abbrev pub HasLaterLines : Layout → ℕ → ℕ → List ℤ → List ℤ → Type 0
HasLaterLines from n line half full = (l k : ℕ) → line < l → l ≤ n → k < line_len_of from n l
    → slice_index_or full (line_start_of from n l + k) (pos 0)
    ≡ listed_cost from n half (slice_index_or (cells_of_line from n l) k (0, 0)).0
    (slice_index_or (cells_of_line from n l) k (0, 0)).1

-- After a loop the cells that had their cost have it, and so have the cells for which Kind holds.
abbrev pub Fills : (ℕ → ℕ → ℤ) → ℕ → List ℤ → List ℤ → (ℕ → ℕ → Type 0) → Type 0
Fills cost n old new Kind = KeepsCosts cost n old new
    × ((i j : ℕ) → IsNode n i → IsNode n j → Kind i j → IsCostOfCell cost n new i j)

-- ---- the fields of a draft as lists

-- the points, each by its three coordinates
abbrev pub points_of : Coords → List Point
points_of (Plane points) = map (λ point. on_plane point.x point.y) points.items
points_of (Space points) = points.items

-- families, each as its sets, each of them as its nodes
abbrev pub families_of : List (Vec (Vec ℕ)) → List (List (List ℕ))
families_of families = map (λ family. map (λ set. set.items) family.items) families

-- the fields of a draft
abbrev pub fields_of : Draft → Fields
fields_of d = record {
  name = option_map (λ v. v.items) d.name;
  kind = d.kind;
  comments = map (λ v. v.items) d.comments.items;
  others = map (λ p. (p.0.items, p.1.items)) d.others.items;
  dimension = d.dimension;
  capacity = d.capacity;
  scale = d.scale;
  load_unit = d.load_unit;
  weight_kind = d.weight_kind;
  weight_format = d.weight_format;
  coord_kind = d.coord_kind;
  display_kind = d.display_kind;
  coords = option_map points_of d.coords;
  display = option_map points_of d.display;
  demands = option_map (λ v. v.items) d.demands;
  depots = option_map (λ v. v.items) d.depots;
  fixed = option_map (λ v. v.items) d.fixed;
  weights = option_map (λ v. v.items) d.weights;
  tours = option_map (λ v. map (λ t. t.items) v.items) d.tours;
  node_potentials = option_map (λ v. v.items) d.node_potentials;
  row_potentials = option_map (λ v. v.items) d.row_potentials;
  column_potentials = option_map (λ v. v.items) d.column_potentials;
  fixed_potentials = option_map (λ v. v.items) d.fixed_potentials;
  families = option_map (λ v. families_of v.items) d.families;
  memories = option_map (λ v. map (λ list. list.items) v.items) d.memories;
  subset_rows = option_map (λ v. subset_rows_of v.items) d.subset_rows;
  branches = option_map (λ v. steps_of v.items) d.branches;
}
