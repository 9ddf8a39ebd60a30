-- Circles 1 and 2 of docs/trust.md.
-- `Fields`: all that a file says, as lists and numbers. A text means the record to which it parses, and every
-- definition of a verdict is about such records. In the code, this is a `Draft` (src/draft.rt). Crates above import it,
-- too.
use Rattle.tsp_file.specs.Prelude.{ℕ, Bool, true, List, [], Option, None, Some, unwrap_or, ℤ, pos, nat_abs, is_some, option_map, Point, Field, NameKey, TypeKey, CommentKey, OtherKey, DimensionKey, CapacityKey, ScaleKey, LoadUnitKey, EdgeWeightTypeKey, EdgeWeightFormatKey, NodeCoordTypeKey, DisplayDataTypeKey, NodeCoordPart, DisplayDataPart, DemandPart, DepotPart, FixedEdgesPart, EdgeWeightPart, TourPart, NodePotentialPart, RowPotentialPart, ColumnPotentialPart, FixedEdgePotentialPart, FamilyPart, MemoryPart, SubsetRowPart, BranchPart, is_spatial, WeightKind, WeightFormat, Step, SubsetRow}
use Rattle.tsp_format.specs.declared.kinds.Kind.{Kind}
use Rattle.tsp_format.specs.declared.kinds.CoordKind.{CoordKind}
use Rattle.tsp_format.specs.declared.kinds.DisplayKind.{DisplayKind}

-- the fields in canonical order
pub record Fields : Type 0 where
  pub name : Option (List ℕ)
  pub kind : Option Kind
  pub comments : List (List ℕ)
  pub others : List (List ℕ × List ℕ)
  pub dimension : Option ℕ
  pub capacity : Option ℤ
  pub scale : Option ℤ
  pub load_unit : Option ℤ
  pub weight_kind : Option WeightKind
  pub weight_format : Option WeightFormat
  pub coord_kind : Option CoordKind
  pub display_kind : Option DisplayKind
  pub coords : Option (List Point)
  pub display : Option (List Point)
  pub demands : Option (List ℤ)
  pub depots : Option (List ℕ)
  pub fixed : Option (List (ℕ × ℕ))
  pub weights : Option (List ℤ)
  pub tours : Option (List (List ℕ))
  pub node_potentials : Option (List ℤ)
  pub row_potentials : Option (List ℤ)
  pub column_potentials : Option (List ℤ)
  pub fixed_potentials : Option (List (ℕ × ℕ × ℤ))
  pub families : Option (List (List (List ℕ)))
  pub memories : Option (List (List ℕ))
  pub subset_rows : Option (List SubsetRow)
  pub branches : Option (List Step)

-- no field is set
abbrev pub blank_fields : Fields
blank_fields = record {
  name = None;
  kind = None;
  comments = [];
  others = [];
  dimension = None;
  capacity = None;
  scale = None;
  load_unit = None;
  weight_kind = None;
  weight_format = None;
  coord_kind = None;
  display_kind = None;
  coords = None;
  display = None;
  demands = None;
  depots = None;
  fixed = None;
  weights = None;
  tours = None;
  node_potentials = None;
  row_potentials = None;
  column_potentials = None;
  fixed_potentials = None;
  families = None;
  memories = None;
  subset_rows = None;
  branches = None;
}

-- The number of nodes. Only a file of TYPE TOUR may lack it, and then no reason and no bound is about its number.
abbrev pub nodes_of : Fields → ℕ
nodes_of f = unwrap_or f.dimension 0

-- its nodes have three coordinates each
abbrev pub spatial : Fields → Bool
spatial f = is_spatial f.coord_kind f.weight_kind

-- whether a field is present; comments and unknown keywords may be none
abbrev pub stands_in : Fields → Field → Bool
stands_in f NameKey = is_some f.name
stands_in f TypeKey = is_some f.kind
stands_in f CommentKey = true
stands_in f OtherKey = true
stands_in f DimensionKey = is_some f.dimension
stands_in f CapacityKey = is_some f.capacity
stands_in f ScaleKey = is_some f.scale
stands_in f LoadUnitKey = is_some f.load_unit
stands_in f EdgeWeightTypeKey = is_some f.weight_kind
stands_in f EdgeWeightFormatKey = is_some f.weight_format
stands_in f NodeCoordTypeKey = is_some f.coord_kind
stands_in f DisplayDataTypeKey = is_some f.display_kind
stands_in f NodeCoordPart = is_some f.coords
stands_in f DisplayDataPart = is_some f.display
stands_in f DemandPart = is_some f.demands
stands_in f DepotPart = is_some f.depots
stands_in f FixedEdgesPart = is_some f.fixed
stands_in f EdgeWeightPart = is_some f.weights
stands_in f TourPart = is_some f.tours
stands_in f NodePotentialPart = is_some f.node_potentials
stands_in f RowPotentialPart = is_some f.row_potentials
stands_in f ColumnPotentialPart = is_some f.column_potentials
stands_in f FixedEdgePotentialPart = is_some f.fixed_potentials
stands_in f FamilyPart = is_some f.families
stands_in f MemoryPart = is_some f.memories
stands_in f SubsetRowPart = is_some f.subset_rows
stands_in f BranchPart = is_some f.branches

-- ---- keywords with a number, by their field

-- the value of such a keyword, if the file has it
abbrev pub one_number_in : Fields → Field → Option ℤ
one_number_in f DimensionKey = option_map pos f.dimension
one_number_in f CapacityKey = f.capacity
one_number_in f ScaleKey = f.scale
one_number_in f LoadUnitKey = f.load_unit
one_number_in f field = None

-- the fields with another value of such a keyword
abbrev pub with_one_number : Field → ℤ → Fields → Fields
with_one_number DimensionKey number f = record f { dimension = Some (nat_abs number) }
with_one_number CapacityKey number f = record f { capacity = Some number }
with_one_number ScaleKey number f = record f { scale = Some number }
with_one_number LoadUnitKey number f = record f { load_unit = Some number }
with_one_number field number f = f

-- ---- sections by node, by their field

-- the numbers of a section that has one for each node
abbrev pub numbers_in : Fields → Field → Option (List ℤ)
numbers_in f DemandPart = f.demands
numbers_in f NodePotentialPart = f.node_potentials
numbers_in f RowPotentialPart = f.row_potentials
numbers_in f ColumnPotentialPart = f.column_potentials
numbers_in f field = None

-- the fields with other numbers of such a section
abbrev pub with_numbers : Field → List ℤ → Fields → Fields
with_numbers DemandPart numbers f = record f { demands = Some numbers }
with_numbers NodePotentialPart numbers f = record f { node_potentials = Some numbers }
with_numbers RowPotentialPart numbers f = record f { row_potentials = Some numbers }
with_numbers ColumnPotentialPart numbers f = record f { column_potentials = Some numbers }
with_numbers field numbers f = f

-- the points of a section that has one for each node
abbrev pub points_in : Fields → Field → Option (List Point)
points_in f NodeCoordPart = f.coords
points_in f DisplayDataPart = f.display
points_in f field = None

-- the fields with other points of such a section
abbrev pub with_points : Field → List Point → Fields → Fields
with_points NodeCoordPart points f = record f { coords = Some points }
with_points DisplayDataPart points f = record f { display = Some points }
with_points field points f = f
