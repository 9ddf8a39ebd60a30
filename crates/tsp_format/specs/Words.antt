-- Circle 2 of docs/trust.md.
-- The words of TSPLIB 95 as values: which bytes are blanks and letters, the spelling of each field, layout, TYPE and
-- weight type, and which costs are symmetric. src/word.rt, src/keyword.rt and src/kinds.rt promise them. A word that
-- isn't here is not read. Crates above import it, too.
use Rattle.std.specs.List.{find}
use Rattle.std.specs.Option.{option_map_or}
use Rattle.std.specs.Prelude.{ℕ, Bool, not, ◌&&◌, ◌||◌, ◌==◌, nat_le, List, codes, true, false, Option, ◌≡◌, ◌≢◌, ◌<◌, ◌⊎◌, None, Some, ℤ, [], ◌∷◌, refl}
use Rattle.std.specs.Str.{bytes_eq}
use Rattle.tsp_format.specs.Nodes.{IsNode}
use Rattle.tsp_format.specs.declared.keyword.Field.{Field}
use Rattle.tsp_format.specs.declared.keyword.Field.TheVariants as field
use Rattle.tsp_format.specs.declared.kinds.CoordKind.{CoordKind}
use Rattle.tsp_format.specs.declared.kinds.CoordKind.TheVariants.{ThreeD}
use Rattle.tsp_format.specs.declared.kinds.CoordKind.TheVariants as coord_kind
use Rattle.tsp_format.specs.declared.kinds.DisplayKind.{DisplayKind}
use Rattle.tsp_format.specs.declared.kinds.DisplayKind.TheVariants as display_kind
use Rattle.tsp_format.specs.declared.kinds.Kind.{Kind}
use Rattle.tsp_format.specs.declared.kinds.Kind.TheVariants as kind
use Rattle.tsp_format.specs.declared.kinds.WeightFormat.{WeightFormat}
use Rattle.tsp_format.specs.declared.kinds.WeightFormat.TheVariants as format
use Rattle.tsp_format.specs.declared.kinds.WeightKind.{WeightKind}
use Rattle.tsp_format.specs.declared.kinds.WeightKind.TheVariants.{Euc3d, Man3d, Max3d}
use Rattle.tsp_format.specs.declared.kinds.WeightKind.TheVariants as weight_kind
use Rattle.tsp_format.specs.declared.layout.Layout.{Layout}
use Rattle.tsp_format.specs.declared.layout.Layout.TheVariants.{FullMatrix, UpperRow, LowerRow, UpperDiagRow, LowerDiagRow, UpperCol, LowerCol, UpperDiagCol, LowerDiagCol}
use Rattle.tsp_format.specs.declared.layout.Layout.TheVariants as layout

-- the blanks: bytes 9, 11, 12, 13 and 32
abbrev pub is_blank : ℕ → Bool
is_blank b = (b == 9) || (b == 11) || (b == 12) || (b == 13) || (b == 32)

-- the bytes of the letters A to Z and a to z
abbrev pub is_letter : ℕ → Bool
is_letter b = (nat_le 65 b && nat_le b 90) || (nat_le 97 b && nat_le b 122)

-- a byte that a keyword can have: no blank, no byte 10 and no colon
abbrev pub is_keyword_byte : ℕ → Bool
is_keyword_byte b = not (is_blank b || (b == 10) || (b == 58))

-- ---- the word of each layout of a matrix of weights

-- the word of a layout, as bytes
abbrev pub layout_word : Layout → List ℕ
layout_word FullMatrix = codes "FULL_MATRIX"
layout_word UpperRow = codes "UPPER_ROW"
layout_word LowerRow = codes "LOWER_ROW"
layout_word UpperDiagRow = codes "UPPER_DIAG_ROW"
layout_word LowerDiagRow = codes "LOWER_DIAG_ROW"
layout_word UpperCol = codes "UPPER_COL"
layout_word LowerCol = codes "LOWER_COL"
layout_word UpperDiagCol = codes "UPPER_DIAG_COL"
layout_word LowerDiagCol = codes "LOWER_DIAG_COL"

-- ---- when a file is spatial, which is that its nodes have three coordinates

-- the weight type is a distance in space
abbrev pub weighs_three : WeightKind → Bool
weighs_three Euc3d = true
weighs_three Man3d = true
weighs_three Max3d = true
weighs_three other = false

-- NODE_COORD_TYPE says three coordinates
abbrev pub has_three : CoordKind → Bool
has_three ThreeD = true
has_three other = false

-- a file is spatial by NODE_COORD_TYPE or by its weight type
abbrev pub is_spatial : Option CoordKind → Option WeightKind → Bool
is_spatial coords weights = option_map_or has_three coords false || option_map_or weighs_three weights false

-- ---- symmetric costs between nodes, and the first pair of nodes whose costs differ

-- the costs between two different nodes are the same in both directions
abbrev pub IsSymmetric : (ℕ → ℕ → ℤ) → Type 0
IsSymmetric cost = (i j : ℕ) → i ≢ j → cost i j ≡ cost j i

-- the pair (a, b) comes before (i, j), by rows
abbrev pub IsBefore : ℕ × ℕ → ℕ × ℕ → Type 0
IsBefore (a, b) (i, j) = (a < i) ⊎ ((a ≡ i) × (b < j))

-- the first pair of nodes of 1..n, the smaller one first, by rows, whose two costs differ
pub record IsFirstAsymmetric (n : ℕ) (cost : ℕ → ℕ → ℤ) (pair : ℕ × ℕ) : Type 0 where
  pub row : IsNode n pair.0
  pub column : IsNode n pair.1
  pub upper : pair.0 < pair.1
  pub differ : cost pair.0 pair.1 ≢ cost pair.1 pair.0
  pub first : (a b : ℕ) → IsNode n a → IsNode n b → a < b → IsBefore (a, b) pair → cost a b ≡ cost b a

-- the first pair whose costs differ, or none if costs are symmetric
abbrev pub FindsAsymmetric : ℕ → (ℕ → ℕ → ℤ) → Option (ℕ × ℕ) → Type 0
FindsAsymmetric n cost None = IsSymmetric cost
FindsAsymmetric n cost (Some pair) = IsFirstAsymmetric n cost pair

-- ---- the words of TSPLIB 95 (G

-- ---- words

-- TYPE
abbrev pub kind_word : Kind → List ℕ
kind_word kind.Tsp = codes "TSP"
kind_word kind.Atsp = codes "ATSP"
kind_word kind.Cvrp = codes "CVRP"
kind_word kind.Tour = codes "TOUR"
kind_word kind.Potentials = codes "POTENTIALS"
kind_word kind.Branches = codes "BRANCHES"

-- EDGE_WEIGHT_TYPE
abbrev pub weight_kind_word : WeightKind → List ℕ
weight_kind_word weight_kind.Explicit = codes "EXPLICIT"
weight_kind_word weight_kind.Euc2d = codes "EUC_2D"
weight_kind_word weight_kind.Ceil2d = codes "CEIL_2D"
weight_kind_word weight_kind.Man2d = codes "MAN_2D"
weight_kind_word weight_kind.Max2d = codes "MAX_2D"
weight_kind_word weight_kind.Att = codes "ATT"
weight_kind_word weight_kind.Euc3d = codes "EUC_3D"
weight_kind_word weight_kind.Man3d = codes "MAN_3D"
weight_kind_word weight_kind.Max3d = codes "MAX_3D"

-- EDGE_WEIGHT_FORMAT
abbrev pub weight_format_word : WeightFormat → List ℕ
weight_format_word format.ByFunction = codes "FUNCTION"
weight_format_word (format.Listed layout) = layout_word layout

-- NODE_COORD_TYPE
abbrev pub coord_kind_word : CoordKind → List ℕ
coord_kind_word coord_kind.TwoD = codes "TWOD_COORDS"
coord_kind_word coord_kind.ThreeD = codes "THREED_COORDS"
coord_kind_word coord_kind.NoCoords = codes "NO_COORDS"

-- DISPLAY_DATA_TYPE
abbrev pub display_kind_word : DisplayKind → List ℕ
display_kind_word display_kind.Coord = codes "COORD_DISPLAY"
display_kind_word display_kind.TwoD = codes "TWOD_DISPLAY"
display_kind_word display_kind.NoDisplay = codes "NO_DISPLAY"

-- the keyword of a field; `others` is the name of the field of unknown keywords, and is no keyword itself
abbrev pub field_word : Field → List ℕ
field_word field.NameKey = codes "NAME"
field_word field.TypeKey = codes "TYPE"
field_word field.CommentKey = codes "COMMENT"
field_word field.OtherKey = codes "others"
field_word field.DimensionKey = codes "DIMENSION"
field_word field.CapacityKey = codes "CAPACITY"
field_word field.ScaleKey = codes "SCALE"
field_word field.LoadUnitKey = codes "LOAD_UNIT"
field_word field.EdgeWeightTypeKey = codes "EDGE_WEIGHT_TYPE"
field_word field.EdgeWeightFormatKey = codes "EDGE_WEIGHT_FORMAT"
field_word field.NodeCoordTypeKey = codes "NODE_COORD_TYPE"
field_word field.DisplayDataTypeKey = codes "DISPLAY_DATA_TYPE"
field_word field.NodeCoordPart = codes "NODE_COORD_SECTION"
field_word field.DisplayDataPart = codes "DISPLAY_DATA_SECTION"
field_word field.DemandPart = codes "DEMAND_SECTION"
field_word field.DepotPart = codes "DEPOT_SECTION"
field_word field.FixedEdgesPart = codes "FIXED_EDGES_SECTION"
field_word field.EdgeWeightPart = codes "EDGE_WEIGHT_SECTION"
field_word field.TourPart = codes "TOUR_SECTION"
field_word field.NodePotentialPart = codes "NODE_POTENTIAL_SECTION"
field_word field.RowPotentialPart = codes "ROW_POTENTIAL_SECTION"
field_word field.ColumnPotentialPart = codes "COLUMN_POTENTIAL_SECTION"
field_word field.FixedEdgePotentialPart = codes "FIXED_EDGE_POTENTIAL_SECTION"
field_word field.FamilyPart = codes "COMB_SECTION"
field_word field.MemoryPart = codes "MEMORY_SECTION"
field_word field.SubsetRowPart = codes "SUBSET_ROW_SECTION"
field_word field.BranchPart = codes "BRANCH_SECTION"

-- ---- all values; each lemma `.._found` says that a value is the first with its word

-- the value is the first of the list with its word
abbrev pub IsFirstWithWord : {V : Type 0} → (V → List ℕ) → List V → V → Type 0
IsFirstWithWord text values value = find (λ other. bytes_eq (text value) (text other)) values ≡ Some value

-- the values of TYPE
abbrev pub kinds : List Kind
kinds = kind.Tsp ∷ kind.Atsp ∷ kind.Cvrp ∷ kind.Tour ∷ kind.Potentials ∷ kind.Branches ∷ []

pub kind_found : (value : Kind) → IsFirstWithWord kind_word kinds value
kind_found kind.Tsp = refl
kind_found kind.Atsp = refl
kind_found kind.Cvrp = refl
kind_found kind.Tour = refl
kind_found kind.Potentials = refl
kind_found kind.Branches = refl

-- the values of EDGE_WEIGHT_TYPE
abbrev pub weight_kinds : List WeightKind
weight_kinds = weight_kind.Explicit ∷ weight_kind.Euc2d ∷ weight_kind.Ceil2d ∷ weight_kind.Man2d ∷ weight_kind.Max2d
    ∷ weight_kind.Att ∷ weight_kind.Euc3d ∷ weight_kind.Man3d ∷ weight_kind.Max3d ∷ []

pub weight_kind_found : (value : WeightKind) → IsFirstWithWord weight_kind_word weight_kinds value
weight_kind_found weight_kind.Explicit = refl
weight_kind_found weight_kind.Euc2d = refl
weight_kind_found weight_kind.Ceil2d = refl
weight_kind_found weight_kind.Man2d = refl
weight_kind_found weight_kind.Max2d = refl
weight_kind_found weight_kind.Att = refl
weight_kind_found weight_kind.Euc3d = refl
weight_kind_found weight_kind.Man3d = refl
weight_kind_found weight_kind.Max3d = refl

-- the layouts
abbrev pub layouts : List Layout
layouts = layout.FullMatrix ∷ layout.UpperRow ∷ layout.LowerRow ∷ layout.UpperDiagRow ∷ layout.LowerDiagRow ∷ layout.UpperCol
    ∷ layout.LowerCol ∷ layout.UpperDiagCol ∷ layout.LowerDiagCol ∷ []

pub layout_found : (value : Layout) → IsFirstWithWord layout_word layouts value
layout_found layout.FullMatrix = refl
layout_found layout.UpperRow = refl
layout_found layout.LowerRow = refl
layout_found layout.UpperDiagRow = refl
layout_found layout.LowerDiagRow = refl
layout_found layout.UpperCol = refl
layout_found layout.LowerCol = refl
layout_found layout.UpperDiagCol = refl
layout_found layout.LowerDiagCol = refl

-- the values of EDGE_WEIGHT_FORMAT
abbrev pub weight_formats : List WeightFormat
weight_formats = format.ByFunction ∷ (format.Listed layout.FullMatrix) ∷ (format.Listed layout.UpperRow)
    ∷ (format.Listed layout.LowerRow) ∷ (format.Listed layout.UpperDiagRow) ∷ (format.Listed layout.LowerDiagRow)
    ∷ (format.Listed layout.UpperCol) ∷ (format.Listed layout.LowerCol) ∷ (format.Listed layout.UpperDiagCol)
    ∷ (format.Listed layout.LowerDiagCol) ∷ []

pub weight_format_found : (value : WeightFormat) → IsFirstWithWord weight_format_word weight_formats value
weight_format_found format.ByFunction = refl
weight_format_found (format.Listed layout.FullMatrix) = refl
weight_format_found (format.Listed layout.UpperRow) = refl
weight_format_found (format.Listed layout.LowerRow) = refl
weight_format_found (format.Listed layout.UpperDiagRow) = refl
weight_format_found (format.Listed layout.LowerDiagRow) = refl
weight_format_found (format.Listed layout.UpperCol) = refl
weight_format_found (format.Listed layout.LowerCol) = refl
weight_format_found (format.Listed layout.UpperDiagCol) = refl
weight_format_found (format.Listed layout.LowerDiagCol) = refl

-- the values of NODE_COORD_TYPE
abbrev pub coord_kinds : List CoordKind
coord_kinds = coord_kind.TwoD ∷ coord_kind.ThreeD ∷ coord_kind.NoCoords ∷ []

pub coord_kind_found : (value : CoordKind) → IsFirstWithWord coord_kind_word coord_kinds value
coord_kind_found coord_kind.TwoD = refl
coord_kind_found coord_kind.ThreeD = refl
coord_kind_found coord_kind.NoCoords = refl

-- the values of DISPLAY_DATA_TYPE
abbrev pub display_kinds : List DisplayKind
display_kinds = display_kind.Coord ∷ display_kind.TwoD ∷ display_kind.NoDisplay ∷ []

pub display_kind_found : (value : DisplayKind) → IsFirstWithWord display_kind_word display_kinds value
display_kind_found display_kind.Coord = refl
display_kind_found display_kind.TwoD = refl
display_kind_found display_kind.NoDisplay = refl

-- the fields in canonical order
abbrev pub fields_in_order : List Field
fields_in_order = field.NameKey ∷ field.TypeKey ∷ field.CommentKey ∷ field.OtherKey ∷ field.DimensionKey ∷ field.CapacityKey
    ∷ field.ScaleKey ∷ field.LoadUnitKey ∷ field.EdgeWeightTypeKey ∷ field.EdgeWeightFormatKey ∷ field.NodeCoordTypeKey
    ∷ field.DisplayDataTypeKey
    ∷ field.NodeCoordPart ∷ field.DisplayDataPart ∷ field.DemandPart ∷ field.DepotPart ∷ field.FixedEdgesPart
    ∷ field.EdgeWeightPart ∷ field.TourPart ∷ field.NodePotentialPart ∷ field.RowPotentialPart ∷ field.ColumnPotentialPart
    ∷ field.FixedEdgePotentialPart ∷ field.FamilyPart ∷ field.MemoryPart ∷ field.SubsetRowPart ∷ field.BranchPart ∷ []

pub field_found : (value : Field) → IsFirstWithWord field_word fields_in_order value
field_found field.NameKey = refl
field_found field.TypeKey = refl
field_found field.CommentKey = refl
field_found field.OtherKey = refl
field_found field.DimensionKey = refl
field_found field.CapacityKey = refl
field_found field.ScaleKey = refl
field_found field.LoadUnitKey = refl
field_found field.EdgeWeightTypeKey = refl
field_found field.EdgeWeightFormatKey = refl
field_found field.NodeCoordTypeKey = refl
field_found field.DisplayDataTypeKey = refl
field_found field.NodeCoordPart = refl
field_found field.DisplayDataPart = refl
field_found field.DemandPart = refl
field_found field.DepotPart = refl
field_found field.FixedEdgesPart = refl
field_found field.EdgeWeightPart = refl
field_found field.TourPart = refl
field_found field.NodePotentialPart = refl
field_found field.RowPotentialPart = refl
field_found field.ColumnPotentialPart = refl
field_found field.FixedEdgePotentialPart = refl
field_found field.FamilyPart = refl
field_found field.MemoryPart = refl
field_found field.SubsetRowPart = refl
field_found field.BranchPart = refl
