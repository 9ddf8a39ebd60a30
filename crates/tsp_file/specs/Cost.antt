-- Circles 2 and 3 of docs/trust.md.
-- The cost from one node of an instance to another, and the values of fields that a file may lack, such as scale 1.
-- Also what a valid file of each TYPE is sure to hold, with its ranges, for the methods of src/typed.rt. Crates above
-- import it, too.
use Rattle.tsp_file.specs.Prelude.{All, sum_by, option_map, option_or, pos, ℕ, false, List, length, Some, None, ℤ, [], Option, unwrap_or, IsSome, IsTrue, slice_index_or, on_plane, euc_2d_of, ceil_2d_of, man_2d_of, max_2d_of, att_of, euc_3d_of, man_3d_of, max_3d_of, Point, most_matrix_nodes, most_weight, most_capacity, most_scale, most_load_unit, most_potential, most_triples, most_families, most_family_nodes, most_rows, is_listed, cells, Step, SubsetRow, row_size, IsFromTo, WeightFormat, Listed, ByFunction, WeightKind, Explicit, Euc2d, Ceil2d, Man2d, Max2d, Att, Euc3d, Man3d, Max3d, Layout, FullMatrix}
use Rattle.std.specs.Prelude.{◌≡◌, ◌≤◌, ◌-◌}
use Rattle.tsp_format.specs.Place.{place_of}
use Rattle.tsp_format.specs.declared.kinds.Kind.TheVariants as kinds
use Rattle.tsp_file.specs.Fields.{Fields, nodes_of}
use Rattle.tsp_file.specs.Rules.{is_instance}
use Rattle.tsp_file.specs.Valid.{IsWithin, IsInRange, HasInstance, HasRouting, HasPotentials, HasBranches, IsByNode, IsDemand, IsTripleOf, AreDepots, IsSetOf, AreSets, IsRowOf, AreTreeSteps}

-- the point whose coordinates are 0
abbrev pub origin : Point
origin = on_plane (pos 0) (pos 0)

-- ---- that a file lists weights in a layout

-- the file lists these weights over n nodes in this layout
pub record ListsWeights (f : Fields) (layout : Layout) (n : ℕ) (weights : List ℤ) : Type 0 where
  pub format : f.weight_format ≡ Some (Listed layout)
  pub dimension : f.dimension ≡ Some n
  pub weights_are : f.weights ≡ Some weights
  pub some : 1 ≤ n
  pub most : n ≤ most_matrix_nodes
  pub filled : length weights ≡ length (cells layout n)
  pub sizes : All (IsWithin most_weight) weights

-- pairs that the layout doesn't list have no place among its cells
abbrev pub UnlistedHaveNoPlace : Layout → ℕ → Type 0
UnlistedHaveNoPlace layout n = (i j : ℕ) → is_listed layout (i, j) ≡ false → place_of layout n (i, j) ≡ None

-- ---- the value of a field that a file lacks

-- SCALE, or 1 if it is missing
abbrev pub meant_scale : Option ℤ → ℤ
meant_scale scale = unwrap_or scale (pos 1)

-- the scale of a file
abbrev pub scale_in : Fields → ℤ
scale_in f = meant_scale f.scale

-- LOAD_UNIT, or 1 if it is missing
abbrev pub load_unit_in : Fields → ℤ
load_unit_in f = unwrap_or f.load_unit (pos 1)

-- the fixed pairs; there are none if no section lists them
abbrev pub fixed_of : Fields → List (ℕ × ℕ)
fixed_of f = unwrap_or f.fixed []

-- the multipliers of fixed pairs; none without their section
abbrev pub multipliers_in : Fields → List (ℕ × ℕ × ℤ)
multipliers_in f = unwrap_or f.fixed_potentials []

-- the families of a tree of cases, each as its sets, the handle first; none without their section
abbrev pub families_listed : Fields → List (List (List ℕ))
families_listed f = unwrap_or f.families []

-- the lists of what customers remember, the customer first; none without their section
abbrev pub memories_listed : Fields → List (List ℕ)
memories_listed f = unwrap_or f.memories []

-- the subset rows; none without their section
abbrev pub rows_listed : Fields → List SubsetRow
rows_listed f = unwrap_or f.subset_rows []

-- ---- the fields that a file of each TYPE always has, with their ranges

-- a valid file has the fields that its TYPE asks for, each in its range
pub record HoldsItsType (f : Fields) : Type 0 where
  pub range : IsInRange f
  pub kind : IsSome f.kind
  pub instance : IsTrue (is_instance f.kind) → HasInstance f
  pub routing : f.kind ≡ Some kinds.Cvrp → HasRouting f
  pub tours : f.kind ≡ Some kinds.Tour → IsSome f.tours
  pub potentials : f.kind ≡ Some kinds.Potentials → HasPotentials f
  pub branches : f.kind ≡ Some kinds.Branches → HasBranches f

-- the fields of a routing problem, without its costs
pub record HoldsRouting (f : Fields) (capacity : ℤ) (demands : List ℤ) (depots : List ℕ) : Type 0 where
  pub kind : f.kind ≡ Some kinds.Cvrp
  pub capacity_is : f.capacity ≡ Some capacity
  pub demands_are : f.demands ≡ Some demands
  pub depots_are : f.depots ≡ Some depots
  pub loadable : IsFromTo (pos 1) (pos most_capacity) capacity
  pub each_demand : IsByNode IsDemand f demands
  pub each_depot : AreDepots f depots

-- multipliers, each of two different nodes of the file
pub record AreMultipliersIn (f : Fields) (multipliers : List (ℕ × ℕ × ℤ)) : Type 0 where
  pub few : length multipliers ≤ most_triples
  pub each : All (IsTripleOf (nodes_of f)) multipliers

-- the fields of potentials of nodes, with the scale and the multipliers, or their defaults
pub record HoldsNodeNumbers (f : Fields) (scale : ℤ) (numbers : List ℤ) (multipliers : List (ℕ × ℕ × ℤ)) : Type 0 where
  pub kind : f.kind ≡ Some kinds.Potentials
  pub scale_is : scale ≡ scale_in f
  pub numbers_are : f.node_potentials ≡ Some numbers
  pub multipliers_are : multipliers ≡ multipliers_in f
  pub scaled : IsFromTo (pos 1) (pos most_scale) scale
  pub each_number : IsByNode (IsWithin most_potential) f numbers
  pub each_multiplier : AreMultipliersIn f multipliers

-- the fields of potentials of rows and of columns, with the scale or its default
pub record HoldsDuals (f : Fields) (scale : ℤ) (rows columns : List ℤ) : Type 0 where
  pub kind : f.kind ≡ Some kinds.Potentials
  pub scale_is : scale ≡ scale_in f
  pub rows_are : f.row_potentials ≡ Some rows
  pub columns_are : f.column_potentials ≡ Some columns
  pub scaled : IsFromTo (pos 1) (pos most_scale) scale
  pub each_row : IsByNode (IsWithin most_potential) f rows
  pub each_column : IsByNode (IsWithin most_potential) f columns

-- families as a file has them: as many as the limits allow, each of sets of nodes that aren't empty
pub record AreSomeSets (n : ℕ) (families : List (List (List ℕ))) : Type 0 where
  pub few : length families ≤ most_families
  pub sets : All (AreSets n) families
  pub few_nodes : sum_by (sum_by length) families ≤ most_family_nodes

-- lists as a file has them: with as many nodes as the limit allows, none of them empty
pub record AreSomeLists (n : ℕ) (lists : List (List ℕ)) : Type 0 where
  pub each : All (IsSetOf n) lists
  pub few_nodes : sum_by length lists ≤ most_family_nodes

-- subset rows as a file has them: as many as the limits allow, each of nodes, and its set isn't empty
pub record AreSomeRows (n : ℕ) (rows : List SubsetRow) : Type 0 where
  pub few : length rows ≤ most_rows
  pub each : All (IsRowOf n) rows
  pub few_nodes : sum_by row_size rows ≤ most_family_nodes

-- the memories and the subset rows of a file, or none of them
pub record HoldsMemory (f : Fields) (lists : List (List ℕ)) (rows : List SubsetRow) : Type 0 where
  pub lists_kept : lists ≡ memories_listed f
  pub rows_kept : rows ≡ rows_listed f
  pub each_list : AreSomeLists (nodes_of f) lists
  pub each_row : AreSomeRows (nodes_of f) rows

-- the fields of a tree of cases, with the scale, the load unit and the families, or their defaults
pub record HoldsCases (f : Fields) (scale load_unit : ℤ) (families : List (List (List ℕ))) (steps : List Step) : Type 0 where
  pub kind : f.kind ≡ Some kinds.Branches
  pub scale_is : scale ≡ scale_in f
  pub load_unit_is : load_unit ≡ load_unit_in f
  pub families_kept : families ≡ families_listed f
  pub steps_are : f.branches ≡ Some steps
  pub scaled : IsFromTo (pos 1) (pos most_scale) scale
  pub united : IsFromTo (pos 1) (pos most_load_unit) load_unit
  pub each_family : AreSomeSets (nodes_of f) families
  pub each_step : AreTreeSteps f steps

-- ---- the cost from one node of an instance to another, as a function of its fields

-- ---- weights that are listed

-- the weights of the file; none if it lists none
abbrev pub listed_weights : Fields → List ℤ
listed_weights f = unwrap_or f.weights []

-- their layout; that of a full matrix if there is none
abbrev pub layout_of : Option WeightFormat → Layout
layout_of (Some (Listed layout)) = layout
layout_of (Some ByFunction) = FullMatrix
layout_of None = FullMatrix

-- the weight of a pair, by its place among the cells of the layout, if it is a cell
abbrev pub weight_at : Layout → ℕ → List ℤ → ℕ × ℕ → Option ℤ
weight_at layout n weights pair = option_map (λ place. slice_index_or weights place (pos 0)) (place_of layout n pair)

-- The weight of (i, j) if it is a cell; otherwise that of (j, i), as in the other half of a triangle; otherwise 0, as
-- on a diagonal that isn't listed.
unfoldable pub listed_cost : Layout → ℕ → List ℤ → ℕ → ℕ → ℤ
listed_cost layout n weights i j =
    unwrap_or (option_or (weight_at layout n weights (i, j)) (weight_at layout n weights (j, i))) (pos 0)

-- ---- distances

-- the points of the file; none if it has none
abbrev pub coords_in : Fields → List Point
coords_in f = unwrap_or f.coords []

-- the point of a node; (0, 0) if there is none
abbrev pub point_of : List Point → ℕ → Point
point_of points node = slice_index_or points (node - 1) origin

-- the distance by the weight type; 0 for EXPLICIT
unfoldable pub distance : WeightKind → Point → Point → ℤ
distance Euc2d a b = pos (euc_2d_of a b)
distance Ceil2d a b = pos (ceil_2d_of a b)
distance Man2d a b = pos (man_2d_of a b)
distance Max2d a b = pos (max_2d_of a b)
distance Att a b = pos (att_of a b)
distance Euc3d a b = pos (euc_3d_of a b)
distance Man3d a b = pos (man_3d_of a b)
distance Max3d a b = pos (max_3d_of a b)
distance Explicit a b = pos 0

-- ---- costs

-- the cost by the weight type, from the listed weights or from the points of the two nodes
abbrev pub cost_by : Option WeightKind → Fields → ℕ → ℕ → ℤ
cost_by (Some Explicit) f i j = listed_cost (layout_of f.weight_format) (nodes_of f) (listed_weights f) i j
cost_by (Some kind) f i j = distance kind (point_of (coords_in f) i) (point_of (coords_in f) j)
cost_by None f i j = pos 0

-- the cost from i to j
unfoldable pub cost : Fields → ℕ → ℕ → ℤ
cost f i j = cost_by f.weight_kind f i j
