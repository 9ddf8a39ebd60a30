-- What always holds for a valid file, as statements: its fields are in their ranges, and it has those that its TYPE
-- requires. src/laws.rt proves them from the tests in Validity.antt and Rules.antt, and proofs in crates above rely on
-- them. In no circle of docs/trust.md, because no `yes` is defined by them.
use Rattle.tsp_file.specs.Prelude.{ℕ, Bool, true, false, List, length, None, Some, IsSome, ℤ, pos, neg_ℤ, All, sum_by, Point, Layout, Listed, IsFromTo, Step, SubsetRow, row_size, Branch, Leaf, are_whole, branch_count, change_count, IsNode, cells, most_nodes, most_matrix_nodes, most_coordinate, most_weight, most_demand, most_capacity, most_scale, most_load_unit, most_potential, most_depots, most_fixed, most_triples, most_multiplier, most_tour_nodes, most_families, most_family_nodes, most_rows, most_branches, most_changes, most_difference}
use Rattle.std.specs.Prelude.{◌≡◌, ◌≢◌, ◌+◌, ◌≤◌, ◌⊎◌}
use Rattle.tsp_file.specs.Fields.{Fields, spatial}
use Rattle.tsp_file.specs.Rules.{is_explicit}

-- an integer of at most this size
abbrev pub IsWithin : ℕ → ℤ → Type 0
IsWithin most z = IsFromTo (neg_ℤ (pos most)) (pos most) z

-- one entry for each node, and P holds for each of them
abbrev pub IsByNode : {A : Type 0} → (A → Type 0) → Fields → List A → Type 0
IsByNode P f entries = (f.dimension ≡ Some (length entries)) × All P entries

-- the third coordinate of a point: 0 in a file that isn't spatial
abbrev pub IsThird : Bool → ℤ → Type 0
IsThird true z = IsWithin most_coordinate z
IsThird false z = z ≡ pos 0

-- a point of a spatial file, or of another
abbrev pub IsPoint : Bool → Point → Type 0
IsPoint in_space point = IsWithin most_coordinate point.x × IsWithin most_coordinate point.y × IsThird in_space point.z

-- a demand from 0 to the limit
abbrev pub IsDemand : ℤ → Type 0
IsDemand demand = IsFromTo (pos 0) (pos most_demand) demand

-- two different nodes of 1..n
abbrev pub IsPairOf : ℕ → ℕ × ℕ → Type 0
IsPairOf n pair = IsNode n pair.0 × IsNode n pair.1 × (pair.0 ≢ pair.1)

-- two different nodes of 1..n, and a number that a multiplier may have
abbrev pub IsTripleOf : ℕ → ℕ × ℕ × ℤ → Type 0
IsTripleOf n triple = IsPairOf n (triple.0, triple.1) × IsFromTo (pos 0) (pos most_multiplier) triple.2

-- a tour or route: not empty, and of nodes that some file can have
abbrev pub IsNodeList : List ℕ → Type 0
IsNodeList tour = (1 ≤ length tour) × All (IsNode most_nodes) tour

-- depots that are nodes, and as many as the limit allows
pub record AreDepots (f : Fields) (depots : List ℕ) : Type 0 where
  pub n : ℕ
  pub dimension : f.dimension ≡ Some n
  pub few : length depots ≤ most_depots
  pub nodes : All (IsNode n) depots

-- fixed pairs of nodes, as many as the limit allows
pub record AreFixed (f : Fields) (pairs : List (ℕ × ℕ)) : Type 0 where
  pub n : ℕ
  pub dimension : f.dimension ≡ Some n
  pub few : length pairs ≤ most_fixed
  pub pairs_of_nodes : All (IsPairOf n) pairs

-- multipliers of fixed pairs of nodes, as many as the limit allows
pub record AreTriples (f : Fields) (triples : List (ℕ × ℕ × ℤ)) : Type 0 where
  pub n : ℕ
  pub dimension : f.dimension ≡ Some n
  pub few : length triples ≤ most_triples
  pub triples_of_nodes : All (IsTripleOf n) triples

-- weights are listed in a layout, and as many as its cells
pub record AreWeights (f : Fields) (weights : List ℤ) : Type 0 where
  pub n : ℕ
  pub layout : Layout
  pub dimension : f.dimension ≡ Some n
  pub format : f.weight_format ≡ Some (Listed layout)
  pub few_nodes : n ≤ most_matrix_nodes
  pub count : length weights ≡ length (cells layout n)
  pub sizes : All (IsWithin most_weight) weights

-- tours that have as many nodes in all as the limit allows
abbrev pub AreTours : List (List ℕ) → Type 0
AreTours tours = All IsNodeList tours × (sum_by length tours ≤ most_tour_nodes)

-- a set of nodes, not empty
abbrev pub IsSetOf : ℕ → List ℕ → Type 0
IsSetOf n set = (1 ≤ length set) × All (IsNode n) set

-- the sets of a family, one at least
abbrev pub AreSets : ℕ → List (List ℕ) → Type 0
AreSets n family = (1 ≤ length family) × All (IsSetOf n) family

-- families of sets of nodes, as many as the limits allow
pub record AreFamilyLists (f : Fields) (families : List (List (List ℕ))) : Type 0 where
  pub n : ℕ
  pub dimension : f.dimension ≡ Some n
  pub few : length families ≤ most_families
  pub sets : All (AreSets n) families
  pub few_nodes : sum_by (sum_by length) families ≤ most_family_nodes

-- lists of nodes, none of them empty, with as many nodes as the limit allows
pub record AreMemoryLists (f : Fields) (lists : List (List ℕ)) : Type 0 where
  pub n : ℕ
  pub dimension : f.dimension ≡ Some n
  pub each : All (IsSetOf n) lists
  pub few_nodes : sum_by length lists ≤ most_family_nodes

-- a subset row: a set of nodes, not empty, and further nodes
abbrev pub IsRowOf : ℕ → SubsetRow → Type 0
IsRowOf n row = IsSetOf n row.set × All (IsNode n) row.further

-- subset rows, as many as the limits allow
pub record AreSubsetRows (f : Fields) (rows : List SubsetRow) : Type 0 where
  pub n : ℕ
  pub dimension : f.dimension ≡ Some n
  pub few : length rows ≤ most_rows
  pub each : All (IsRowOf n) rows
  pub few_nodes : sum_by row_size rows ≤ most_family_nodes

-- an index of a node, of some family or of some row, and a difference within its limit
abbrev pub IsChange : ℕ → ℕ × ℤ → Type 0
IsChange n change = IsNode (n + most_families + most_rows) change.0 × IsWithin most_difference change.1

-- a branch on two different nodes, or on some family and a number of 1..n
abbrev pub IsBranchOf : ℕ → ℕ × ℕ → Type 0
IsBranchOf n branch = IsNode (n + most_families) branch.0 × IsNode n branch.1 × (branch.0 ≢ branch.1)

-- a branch or a leaf whose numbers are in their ranges
abbrev pub IsStep : ℕ → Step → Type 0
IsStep n (Branch first second) = IsBranchOf n (first, second)
IsStep n (Leaf changes) = All (IsChange n) changes

-- the steps of one whole tree, as many as the limits allow
pub record AreTreeSteps (f : Fields) (steps : List Step) : Type 0 where
  pub n : ℕ
  pub dimension : f.dimension ≡ Some n
  pub each : All (IsStep n) steps
  pub few : branch_count steps ≤ most_branches
  pub few_changes : change_count steps ≤ most_changes
  pub whole : are_whole 1 steps ≡ true

-- each field that the file has is in its range
pub record IsInRange (f : Fields) : Type 0 where
  pub dimension : (n : ℕ) → f.dimension ≡ Some n → IsNode most_nodes n
  pub capacity : (capacity : ℤ) → f.capacity ≡ Some capacity → IsFromTo (pos 1) (pos most_capacity) capacity
  pub scale : (scale : ℤ) → f.scale ≡ Some scale → IsFromTo (pos 1) (pos most_scale) scale
  pub load_unit : (unit : ℤ) → f.load_unit ≡ Some unit → IsFromTo (pos 1) (pos most_load_unit) unit
  pub coords : (points : List Point) → f.coords ≡ Some points → IsByNode (IsPoint (spatial f)) f points
  pub display : (points : List Point) → f.display ≡ Some points → IsByNode (IsPoint false) f points
  pub demands : (demands : List ℤ) → f.demands ≡ Some demands → IsByNode IsDemand f demands
  pub depots : (depots : List ℕ) → f.depots ≡ Some depots → AreDepots f depots
  pub fixed : (pairs : List (ℕ × ℕ)) → f.fixed ≡ Some pairs → AreFixed f pairs
  pub weights : (weights : List ℤ) → f.weights ≡ Some weights → AreWeights f weights
  pub tours : (tours : List (List ℕ)) → f.tours ≡ Some tours → AreTours tours
  pub node_potentials : (potentials : List ℤ) → f.node_potentials ≡ Some potentials
      → IsByNode (IsWithin most_potential) f potentials
  pub row_potentials : (potentials : List ℤ) → f.row_potentials ≡ Some potentials
      → IsByNode (IsWithin most_potential) f potentials
  pub column_potentials : (potentials : List ℤ) → f.column_potentials ≡ Some potentials
      → IsByNode (IsWithin most_potential) f potentials
  pub fixed_potentials : (triples : List (ℕ × ℕ × ℤ)) → f.fixed_potentials ≡ Some triples → AreTriples f triples
  pub families : (families : List (List (List ℕ))) → f.families ≡ Some families → AreFamilyLists f families
  pub memories : (lists : List (List ℕ)) → f.memories ≡ Some lists → AreMemoryLists f lists
  pub subset_rows : (rows : List SubsetRow) → f.subset_rows ≡ Some rows → AreSubsetRows f rows
  pub branches : (steps : List Step) → f.branches ≡ Some steps → AreTreeSteps f steps

-- an instance has its nodes and its weight type, and weights or coordinates, as the weight type asks
pub record HasInstance (f : Fields) : Type 0 where
  pub dimension : IsSome f.dimension
  pub weight_kind : IsSome f.weight_kind
  pub weights : is_explicit f.weight_kind ≡ true → IsSome f.weights
  pub coords : is_explicit f.weight_kind ≡ false → IsSome f.coords

-- a routing problem also has a capacity, demands and depots
pub record HasRouting (f : Fields) : Type 0 where
  pub capacity : IsSome f.capacity
  pub demands : IsSome f.demands
  pub depots : IsSome f.depots

-- a file of potentials has them for nodes; or for rows and columns, and then no multipliers
pub record HasPotentials (f : Fields) : Type 0 where
  pub dimension : IsSome f.dimension
  pub sort : (IsSome f.node_potentials × (f.row_potentials ≡ None) × (f.column_potentials ≡ None))
      ⊎ ((f.node_potentials ≡ None) × (f.fixed_potentials ≡ None) × IsSome f.row_potentials × IsSome f.column_potentials)

-- a file of branches has its nodes and its steps
pub record HasBranches (f : Fields) : Type 0 where
  pub dimension : IsSome f.dimension
  pub branches : IsSome f.branches
