-- A change of weights leaves the other fields of a valid file alone and the file valid, for `with_weights` and its like
-- in src/file.rt. tsp_text imports it, too.
use Rattle.tsp_file.proofs.Prelude.{◌≡◌, ℕ, suc, zero, ◌+◌, ◌-◌, ◌*◌, ◌/◌, ◌≤◌, Bool, true, false, cond, List, [], ◌∷◌, length, Option, None, Some, refl, sym, ap, subst, ◌∙◌, arith, ◌≢◌, ◌<◌, ◌++◌, map, take, ⊎_elim, false≢true, le-leb, eq-eqb, cases_lt, and_from, ints, length-map, get_or-map, length-append, get_or_append_left, get_or-append_right, ext_get_or, length-take-le, get_or-take, list_all-from_AllPass, mul-le, All, list_all, flat_map, CopiedTo, SameBelow, SameFrom, option_map, option_or, IsSome, unwrap_or, not, ◌&&◌, nat_le, ℤ, pos, neg_ℤ, int_le, slice_index_or as get_or, IsTrue, cells_counted, line_counted, most_matrix_nodes, most_weight, cells, cell_count_of, IsNode, nodes_to, cells_of_line, line_len_of, fields_in_order, IsSymmetric, Field, NameKey, TypeKey, CommentKey, OtherKey, DimensionKey, CapacityKey, ScaleKey, LoadUnitKey, EdgeWeightTypeKey, EdgeWeightFormatKey, NodeCoordTypeKey, DisplayDataTypeKey, NodeCoordPart, DisplayDataPart, DemandPart, DepotPart, FixedEdgesPart, EdgeWeightPart, TourPart, NodePotentialPart, RowPotentialPart, ColumnPotentialPart, FixedEdgePotentialPart, FamilyPart, MemoryPart, SubsetRowPart, BranchPart, SubsetRow, WeightFormat, Listed, Layout, FullMatrix, UpperRow, LowerRow, UpperDiagRow, LowerDiagRow, UpperCol, LowerCol, UpperDiagCol, LowerDiagCol}
use Rattle.tsp_format.proofs.Places.{placed, line_at}
use Rattle.tsp_file.proofs.FieldLengths.{all_fit}
use Rattle.tsp_file.proofs.Relaid.{cost_of_cell, turned, line_more, lines_all, cost_within, all_within, of_file}
use Rattle.tsp_file.proofs.ValidFields.{in_range, nodes_fit, no_field_missing, format_and_count, has_kind, has_instance, has_routing, has_tours, has_potentials, has_branches}
use Rattle.tsp_file.specs.Cost.{listed_cost, cost, ListsWeights, HoldsItsType, AreMultipliersIn, AreSomeSets, AreSomeLists, AreSomeRows}
use Rattle.tsp_file.specs.Fields.{Fields, spatial, nodes_of}
use Rattle.tsp_file.specs.Relayout.{with_weights, HoldsPairs, CanGo, costs_in}
use Rattle.tsp_file.specs.Rules.{standing_of, is_there, asked_in_order, is_count, has_wrong_format, has_wrong_count, end_fault, format_or_count, fault_of, is_routing, is_tour_file, is_potentials_file, is_branches_file}
use Rattle.tsp_file.specs.Valid.{IsWithin, AreWeights, IsTripleOf, AreTriples, IsSetOf, AreSets, AreFamilyLists, AreMemoryLists, IsRowOf, AreSubsetRows}
use Rattle.tsp_file.specs.Validity.{is_within, with_dimension, fit_matrix, fits, first_failing, bad_field}
use Rattle.tsp_file.specs.declared.rules.DraftFault.TheVariants.{BadField, Rule}
use Rattle.tsp_file.specs.declared.rules.EndFault.{EndFault}
use Rattle.tsp_file.specs.declared.rules.EndFault.TheVariants.{Missing, WrongFormat, WrongCount}
use Rattle.tsp_file.specs.states.Drafts.{line_start_of}

-- ---- no more cells than pairs

half_square : (n : ℕ) → n * (n + 1) / 2 ≤ n * n
half_square zero = omega arith
half_square (suc n) = omega arith

half_less : (n : ℕ) → n * (n - 1) / 2 ≤ n * n
half_less zero = omega arith
half_less (suc n) =
    let less : suc n - 1 ≡ n = omega arith in
    subst (λ (m : ℕ). suc n * m / 2 ≤ suc n * suc n) (sym less) (omega arith)

pub few_cells : (layout : Layout) (n : ℕ) → cell_count_of layout n ≤ n * n
few_cells FullMatrix n = omega arith
few_cells UpperRow n = half_less n
few_cells LowerRow n = half_less n
few_cells UpperDiagRow n = half_square n
few_cells LowerDiagRow n = half_square n
few_cells UpperCol n = half_less n
few_cells LowerCol n = half_less n
few_cells UpperDiagCol n = half_square n
few_cells LowerDiagCol n = half_square n

-- ---- weights that fit

is_small : (z : ℤ) → IsWithin most_weight z → is_within most_weight z ≡ true
is_small z within =
    and_from (int_le (neg_ℤ (pos most_weight)) z) (int_le z (pos most_weight)) (grind (arith, ints, within.0))
    (grind (arith, ints, within.1))

weights_fit : (layout : Layout) (n : ℕ) (weights : List ℤ) → n ≤ most_matrix_nodes → length weights ≡ length (cells layout n)
    → All (IsWithin most_weight) weights → fit_matrix n weights ≡ true
weights_fit layout n weights few filled sizes =
    and_from (nat_le n most_matrix_nodes && nat_le (length weights) (n * n)) (list_all (is_within most_weight) weights)
    (and_from (nat_le n most_matrix_nodes) (nat_le (length weights) (n * n)) (le-leb n most_matrix_nodes few)
    (le-leb (length weights) (n * n) (omega (arith, filled, cells_counted layout n, few_cells layout n))))
    (list_all-from_AllPass (is_within most_weight) weights (λ k d lt. is_small _ (sizes k d lt)))

-- ---- no fault

pub none_fails : (test : Field → Bool) (fields : List Field) → ((field : Field) → test field ≡ true)
    → first_failing test fields ≡ None
none_fails test [] all = refl
none_fails test (field ∷ fields) all =
    ap (λ b. cond (not b) (Some field) (first_failing test fields)) (all field) ∙ none_fails test fields all

-- a statement on the fields of a file is one on these fields with its format and its weights put in again
as_given : (P : Fields → Type 0) (f : Fields) (layout : Layout) (weights : List ℤ) → f.weight_format ≡ Some (Listed layout)
    → f.weights ≡ Some weights → P f → P (with_weights f layout weights)
as_given P f layout weights format stand holds =
    subst (λ (o : Option (List ℤ)). P (record f { weight_format = Some (Listed layout); weights = o })) stand
    (subst (λ (o : Option WeightFormat). P (record f { weight_format = o })) format holds)

-- plan: by the field: the weights and their format are new, all others are as in the valid file (`each_fits`)
each_fits_with : (f : Fields) (to : Layout) (weights : List ℤ) → fault_of f ≡ None
    → with_dimension fit_matrix f.dimension weights ≡ true → (field : Field)
    → fits (with_weights f to weights) field ≡ true
each_fits_with f to weights valid fit NameKey = all_fit f valid NameKey
each_fits_with f to weights valid fit TypeKey = all_fit f valid TypeKey
each_fits_with f to weights valid fit CommentKey = all_fit f valid CommentKey
each_fits_with f to weights valid fit OtherKey = all_fit f valid OtherKey
each_fits_with f to weights valid fit DimensionKey = all_fit f valid DimensionKey
each_fits_with f to weights valid fit CapacityKey = all_fit f valid CapacityKey
each_fits_with f to weights valid fit ScaleKey = all_fit f valid ScaleKey
each_fits_with f to weights valid fit LoadUnitKey = all_fit f valid LoadUnitKey
each_fits_with f to weights valid fit EdgeWeightTypeKey = all_fit f valid EdgeWeightTypeKey
each_fits_with f to weights valid fit EdgeWeightFormatKey = all_fit f valid EdgeWeightFormatKey
each_fits_with f to weights valid fit NodeCoordTypeKey = all_fit f valid NodeCoordTypeKey
each_fits_with f to weights valid fit DisplayDataTypeKey = all_fit f valid DisplayDataTypeKey
each_fits_with f to weights valid fit NodeCoordPart =
    nodes_fit (with_weights f to weights) (spatial f) ∙ sym (nodes_fit f (spatial f)) ∙ all_fit f valid NodeCoordPart
each_fits_with f to weights valid fit DisplayDataPart = all_fit f valid DisplayDataPart
each_fits_with f to weights valid fit DemandPart = all_fit f valid DemandPart
each_fits_with f to weights valid fit DepotPart = all_fit f valid DepotPart
each_fits_with f to weights valid fit FixedEdgesPart = all_fit f valid FixedEdgesPart
each_fits_with f to weights valid fit EdgeWeightPart = fit
each_fits_with f to weights valid fit TourPart = all_fit f valid TourPart
each_fits_with f to weights valid fit NodePotentialPart = all_fit f valid NodePotentialPart
each_fits_with f to weights valid fit RowPotentialPart = all_fit f valid RowPotentialPart
each_fits_with f to weights valid fit ColumnPotentialPart = all_fit f valid ColumnPotentialPart
each_fits_with f to weights valid fit FixedEdgePotentialPart = all_fit f valid FixedEdgePotentialPart
each_fits_with f to weights valid fit FamilyPart = all_fit f valid FamilyPart
each_fits_with f to weights valid fit MemoryPart = all_fit f valid MemoryPart
each_fits_with f to weights valid fit SubsetRowPart = all_fit f valid SubsetRowPart
each_fits_with f to weights valid fit BranchPart = all_fit f valid BranchPart

count_right : (dimension : Option ℕ) (n : ℕ) (layout : Layout) (count : ℕ) → dimension ≡ Some n → count ≡ length (cells layout n)
    → not (is_count dimension (Some (Listed layout)) count) ≡ false
count_right dimension n layout count is_n filled =
    ap (λ o. not (is_count o (Some (Listed layout)) count)) is_n ∙ ap not (eq-eqb count (length (cells layout n)) filled)

-- the file with other weights in a layout, as many as its cells
still_valid : (f : Fields) (to : Layout) (old weights : List ℤ) → fault_of f ≡ None → f.weights ≡ Some old
    → (held : AreWeights f old)
    → length weights ≡ length (cells to held.n) → All (IsWithin most_weight) weights
    → fault_of (with_weights f to weights) ≡ None
still_valid f to old weights valid stand held filled sizes =
    let new = with_weights f to weights in
    let fit : with_dimension fit_matrix f.dimension weights ≡ true = ap (λ o. with_dimension fit_matrix o weights) held.dimension
    ∙ weights_fit to held.n weights held.few_nodes filled sizes in
    let fields : bad_field new ≡ None = none_fails (fits new) fields_in_order (each_fits_with f to weights valid fit) in
    let there : first_failing (is_there (standing_of new)) asked_in_order ≡ None =
    as_given (λ g. first_failing (is_there (standing_of g)) asked_in_order ≡ None) f held.layout old held.format stand
    (no_field_missing f valid) in
    let format : has_wrong_format (standing_of new) ≡ false =
    as_given (λ g. has_wrong_format (standing_of g) ≡ false) f held.layout old held.format stand (format_and_count f valid).0 in
    let count : has_wrong_count (standing_of new) ≡ false =
    count_right f.dimension held.n to (length weights) held.dimension filled in
    let rest : format_or_count (standing_of new) ≡ None =
    ap (λ b. cond b (Some WrongFormat) (cond (has_wrong_count (standing_of new)) (Some WrongCount) None))
    format ∙ ap (λ b. cond b (Some WrongCount) None) count in
    let end : end_fault (standing_of new) None ≡ None =
    ap (λ (o : Option Field). option_or (option_map (λ field. Missing field) o) (format_or_count (standing_of new))) there
    ∙ rest in
    ap (λ (o : Option Field). option_or (option_map (λ field. BadField field) o)
    (option_map (λ fault. Rule fault) (end_fault (standing_of new) None))) fields
    ∙ ap (λ (o : Option EndFault). option_map (λ fault. Rule fault) o) end

pub some_is : {A : Type 0} (o : Option A) → IsSome o → (x : A) × (o ≡ Some x)
some_is None there = absurd (false≢true there)
some_is (Some x) there = (x, refl)

pub stays_valid : (f : Fields) (to : Layout) (weights : List ℤ) → fault_of f ≡ None → IsSome f.weights
    → length weights ≡ length (cells to (nodes_of f)) → All (IsWithin most_weight) weights
    → fault_of (with_weights f to weights) ≡ None
stays_valid f to weights valid there filled sizes =
    let old = some_is f.weights there in
    let held = (in_range f valid).weights old.0 old.1 in
    let nodes : nodes_of f ≡ held.n = ap (λ o. unwrap_or o 0) held.dimension in
    still_valid f to old.0 weights valid old.1 held (filled ∙ ap (λ n. length (cells to n)) nodes) sizes

-- ---- half of a full matrix in another layout, its lines copied one after the other

-- ---- the place of a line in the full matrix

module _ (n : ℕ) (full : List ℤ) where
  abbrev pub between : ℕ × ℕ → ℤ
  between cell = listed_cost FullMatrix n full cell.0 cell.1

  -- by its place
  at_place : (i j place : ℕ) → IsNode n i → IsNode n j → (i - 1) * n + (j - 1) ≡ place
      → between (i, j) ≡ get_or full place (pos 0)
  at_place i j place row column same =
      cost_of_cell FullMatrix n full i j place (placed FullMatrix n i j row column refl ∙ ap (λ k. Some k) same)

  -- or by that across the diagonal
  across : (i j place : ℕ) → IsSymmetric (listed_cost FullMatrix n full) → IsNode n i → IsNode n j → (j - 1) * n + (i - 1) ≡ place
      → between (i, j) ≡ get_or full place (pos 0)
  across i j place even row column same = turned (listed_cost FullMatrix n full) even j i ∙ at_place j i place column row same

  even_held : (to : Layout) → to ≢ FullMatrix → HoldsPairs to (listed_cost FullMatrix n full)
      → IsSymmetric (listed_cost FullMatrix n full)
  even_held to half holds = ⊎_elim (λ same. absurd (half same)) (λ even. even) holds

  -- a cell of a line
  pub line_read : (to : Layout) (line at : ℕ) → IsNode n line → at < line_len_of to n line
      → HoldsPairs to (listed_cost FullMatrix n full)
      → between (get_or (cells_of_line to n line) at (0, 0)) ≡ get_or full (line_start_of to n line + at) (pos 0)
  line_read FullMatrix line at node lt holds = ap between (line_at FullMatrix n line at (0, 0) node.0 node.1 lt)
      ∙ at_place line (1 + at) (line_start_of FullMatrix n line + at) node (omega (arith, node.0), omega (arith, node.1, lt))
      (omega (arith, node.0))
  line_read UpperRow line at node lt holds = ap between (line_at UpperRow n line at (0, 0) node.0 node.1 lt)
      ∙ at_place line (line + 1 + at) (line_start_of UpperRow n line + at) node (omega (arith, node.0), omega (arith, node.1, lt))
      (omega (arith, node.0))
  line_read LowerRow line at node lt holds = ap between (line_at LowerRow n line at (0, 0) node.0 node.1 lt)
      ∙ at_place line (1 + at) (line_start_of LowerRow n line + at) node (omega (arith, node.0), omega (arith, node.1, lt))
      (omega (arith, node.0))
  line_read UpperDiagRow line at node lt holds = ap between (line_at UpperDiagRow n line at (0, 0) node.0 node.1 lt)
      ∙ at_place line (line + at) (line_start_of UpperDiagRow n line + at) node (omega (arith, node.0), omega (arith, node.1, lt))
      (omega (arith, node.0))
  line_read LowerDiagRow line at node lt holds = ap between (line_at LowerDiagRow n line at (0, 0) node.0 node.1 lt)
      ∙ at_place line (1 + at) (line_start_of LowerDiagRow n line + at) node (omega (arith, node.0), omega (arith, node.1, lt))
      (omega (arith, node.0))
  line_read UpperCol line at node lt holds = ap between (line_at UpperCol n line at (0, 0) node.0 node.1 lt)
      ∙ across (1 + at) line (line_start_of UpperCol n line + at) (even_held UpperCol (λ e. absurd cc) holds)
      (omega (arith, node.0), omega (arith, node.1, lt)) node (omega (arith, node.0))
  line_read LowerCol line at node lt holds = ap between (line_at LowerCol n line at (0, 0) node.0 node.1 lt)
      ∙ across (line + 1 + at) line (line_start_of LowerCol n line + at) (even_held LowerCol (λ e. absurd cc) holds)
      (omega (arith, node.0), omega (arith, node.1, lt)) node (omega (arith, node.0))
  line_read UpperDiagCol line at node lt holds = ap between (line_at UpperDiagCol n line at (0, 0) node.0 node.1 lt)
      ∙ across (1 + at) line (line_start_of UpperDiagCol n line + at) (even_held UpperDiagCol (λ e. absurd cc) holds)
      (omega (arith, node.0), omega (arith, node.1, lt)) node (omega (arith, node.0))
  line_read LowerDiagCol line at node lt holds = ap between (line_at LowerDiagCol n line at (0, 0) node.0 node.1 lt)
      ∙ across (line + at) line (line_start_of LowerDiagCol n line + at) (even_held LowerDiagCol (λ e. absurd cc) holds)
      (omega (arith, node.0), omega (arith, node.1, lt)) node (omega (arith, node.0))

-- ---- the loop over the lines

row_past : (line n : ℕ) → 1 ≤ line → (line - 1) * n + n ≡ line * n
row_past zero n low = absurd (omega (arith, low))
row_past (suc k) n low =
    let same : suc k - 1 ≡ k = omega arith in
    ap (λ m. m * n + n) same ∙ omega arith

-- the costs of the lines before this one are at the beginning, and behind them the full matrix is as it was
pub record HasKept (to : Layout) (n line kept : ℕ) (full items : List ℤ) : Type 0 where
  pub size : length items ≡ length full
  pub few : kept ≤ (line - 1) * n
  pub front : take kept items ≡ map (λ cell. listed_cost FullMatrix n full cell.0 cell.1)
      (flat_map (cells_of_line to n) (take (line - 1) (nodes_to n)))
  pub rest : SameFrom full items kept

-- one line more
-- plan: entry by entry (`ext_get_or`): before the line as it was, in the line as it was copied (`line_more`)
pub line_kept : (to : Layout) (n line kept start end : ℕ) (full items new : List ℤ) → IsNode n line
    → HoldsPairs to (listed_cost FullMatrix n full) → HasKept to n line kept full items
    → start ≡ line_start_of to n line → end ≡ start + line_len_of to n line → end ≤ line * n → line * n ≤ length full
    → length new ≡ length items → CopiedTo items new start kept (end - start) → SameBelow items new kept
    → SameFrom items new (kept + (end - start))
    → HasKept to n (line + 1) (kept + (end - start)) full new
line_kept to n line kept start end full items new node holds so_far starts ends within room size moved below behind =
    let f = λ (cell : ℕ × ℕ). listed_cost FullMatrix n full cell.0 cell.1 in
    let cells = cells_of_line to n line in
    let len = line_len_of to n line in
    let row = row_past line n node.0 in
    let next : line * n ≡ (line + 1 - 1) * n = ap (λ m. m * n) {x = line} {y = line + 1 - 1} (omega arith) in
    let is_len : end - start ≡ len = omega (arith, ends) in
    let counted : length (map f cells) ≡ len = length-map cells f ∙ line_counted to n line node.0 node.1 in
    let low : kept ≤ start = omega (arith, so_far.few, starts) in
    let old_front : length (take kept items) ≡ kept = length-take-le kept items (omega (arith, so_far.size)) in
    let new_front : length (take (kept + (end - start)) new) ≡ kept + (end - start) =
    length-take-le (kept + (end - start)) new (omega (arith, size, so_far.size)) in
    let both : length (take kept items ++ map f cells) ≡ kept + (end - start) = length-append (take kept items) (map f cells)
    ∙ omega arith in
    let laid : take (kept + (end - start)) new ≡ take kept items ++ map f cells =
    ext_get_or (pos 0) (take (kept + (end - start)) new) (take kept items ++ map f cells) (new_front ∙ sym both)
    (λ k lt. get_or-take (kept + (end - start)) new k (pos 0) (omega (arith, lt, new_front))
    ∙ ⊎_elim
    (λ here. below k (pos 0) here
    ∙ sym (get_or_append_left (take kept items) (map f cells) (pos 0) k (omega (arith, here, old_front))
    ∙ get_or-take kept items k (pos 0) here))
    (λ past.
    let inside : k - kept < len = omega (arith, lt, new_front, is_len, past) in
    moved k (pos 0) past (omega (arith, lt, new_front))
    ∙ so_far.rest (start + (k - kept)) (pos 0) (omega (arith, low))
    ∙ ap (λ p. get_or full (p + (k - kept)) (pos 0)) starts
    ∙ sym (get_or-append_right (take kept items) (map f cells) kept k (pos 0) old_front past
    ∙ get_or-map f cells (k - kept) (0, 0) (pos 0) (omega (arith, inside, line_counted to n line node.0 node.1))
    ∙ line_read n full to line (k - kept) node inside holds))
    (cases_lt k kept)) in
    record {
      size = size ∙ so_far.size;
      few = omega (arith, so_far.few, within, next, starts, ends);
      front = line_more f (cells_of_line to n) n line (take kept items) (take (kept + (end - start)) new) node.0 node.1
          so_far.front laid;
      rest = λ k d past. behind k d past ∙ so_far.rest k d (omega (arith, past));
    }

-- all lines are at the beginning: these are the weights of the layout
pub all_kept : (to : Layout) (n line kept : ℕ) (full items : List ℤ) → n ≤ line - 1 → HasKept to n line kept full items
    → take kept items ≡ costs_in to n (listed_cost FullMatrix n full)
all_kept to n line kept full items past so_far =
    lines_all (λ cell. listed_cost FullMatrix n full cell.0 cell.1) to n line (take kept items) past so_far.front

-- a line of a full matrix is within it
pub row_within : (n line : ℕ) (full : List ℤ) → line ≤ n → length full ≡ length (cells FullMatrix n) → line * n ≤ length full
row_within n line full high filled =
    let all : line * n ≤ n * n = mul-le line n n n high (omega arith) in
    omega (arith, filled, cells_counted FullMatrix n)

-- ---- the file

-- a file whose weights were put into another layout
pub laid_of : (f : Fields) (from to : Layout) (n : ℕ) (old new : List ℤ) → fault_of f ≡ None → CanGo f to
    → ListsWeights f from n old → new ≡ costs_in to n (listed_cost from n old)
    → (fault_of (with_weights f to new) ≡ None) × (new ≡ costs_in to (nodes_of f) (cost f))
laid_of f from to n old new valid can held value =
    let f_value : new ≡ costs_in to (nodes_of f) (cost f) =
    of_file (λ k c. new ≡ costs_in to k c) f from n old can.listed.0 held value in
    let sizes : All (IsWithin most_weight) new =
    subst (All (IsWithin most_weight)) (sym value)
    (all_within to n (listed_cost from n old) (cost_within from n old held.sizes)) in
    let count : length new ≡ length (cells to (nodes_of f)) = ap length f_value
    ∙ length-map (cells to (nodes_of f)) (λ cell. cost f cell.0 cell.1) in
    (stays_valid f to new valid can.listed.1 count sizes, f_value)

-- ---- the fields that the TYPE of a valid file requires are present, each in its range

pub families_hold : (f : Fields) (families : List (List (List ℕ))) → AreFamilyLists f families → AreSomeSets (nodes_of f) families
families_hold f families held =
    let same : held.n ≡ nodes_of f = sym (ap (λ (d : Option ℕ). unwrap_or d 0) held.dimension) in
    record { few = held.few; sets = subst (λ (n : ℕ). All (AreSets n) families) same held.sets; few_nodes = held.few_nodes }

pub memories_hold : (f : Fields) (lists : List (List ℕ)) → AreMemoryLists f lists → AreSomeLists (nodes_of f) lists
memories_hold f lists held =
    let same : held.n ≡ nodes_of f = sym (ap (λ (d : Option ℕ). unwrap_or d 0) held.dimension) in
    record { each = subst (λ (n : ℕ). All (IsSetOf n) lists) same held.each; few_nodes = held.few_nodes }

pub rows_hold : (f : Fields) (rows : List SubsetRow) → AreSubsetRows f rows → AreSomeRows (nodes_of f) rows
rows_hold f rows held =
    let same : held.n ≡ nodes_of f = sym (ap (λ (d : Option ℕ). unwrap_or d 0) held.dimension) in
    record { few = held.few; each = subst (λ (n : ℕ). All (IsRowOf n) rows) same held.each; few_nodes = held.few_nodes }

pub multipliers_hold : (f : Fields) (triples : List (ℕ × ℕ × ℤ)) → AreTriples f triples → AreMultipliersIn f triples
multipliers_hold f triples held =
    let same : held.n ≡ nodes_of f = sym (ap (λ (d : Option ℕ). unwrap_or d 0) held.dimension) in
    record { few = held.few; each = subst (λ (n : ℕ). All (IsTripleOf n) triples) same held.triples_of_nodes }

pub holds_its_type : (f : Fields) → fault_of f ≡ None → HoldsItsType f
holds_its_type f valid = record {
  range = in_range f valid;
  kind = has_kind f valid;
  instance = has_instance f valid;
  routing = λ kind. has_routing f valid (subst (λ k. IsTrue (is_routing k)) (sym kind) refl);
  tours = λ kind. has_tours f valid (subst (λ k. IsTrue (is_tour_file k)) (sym kind) refl);
  potentials = λ kind. has_potentials f valid (subst (λ k. IsTrue (is_potentials_file k)) (sym kind) refl);
  branches = λ kind. has_branches f valid (subst (λ k. IsTrue (is_branches_file k)) (sym kind) refl);
}
