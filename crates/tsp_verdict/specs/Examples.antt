-- Small instances, solutions and certificates, for the examples here and in tsp_judge. No other contract uses them.
use Rattle.tsp_verdict.specs.Prelude.{codes, ℕ, List, [], Option, None, Some, ℤ, pos, Kind, Step, Branch, Leaf, Fields, blank_fields, Reason, rank_of}
use Rattle.std.specs.Prelude.{◌<◌, ◌∷◌}
use Rattle.tsp_format.specs.Steps.{SubsetRow}
use Rattle.tsp_format.specs.declared.kinds.Kind.TheVariants as kinds
use Rattle.tsp_format.specs.declared.kinds.WeightFormat.{WeightFormat}
use Rattle.tsp_format.specs.declared.kinds.WeightKind.{WeightKind}

-- an instance with this many nodes and these fixed pairs
abbrev pub instance_with : Kind → ℕ → List (ℕ × ℕ) → Fields
instance_with kind n fixed = record blank_fields { kind = Some kind; dimension = Some n; fixed = Some fixed }

-- an instance with a line of an unknown keyword
abbrev pub with_unknown : Kind → ℕ → Fields
with_unknown kind n = record (instance_with kind n []) { others = (codes "VEHICLES", codes "5") ∷ [] }

-- an instance with a capacity
abbrev pub with_capacity : Kind → Fields
with_capacity kind = record (instance_with kind 4 []) { capacity = Some (pos 8) }

-- a TSP with weights of this type, in this format
abbrev pub weighing : WeightKind → Option WeightFormat → Fields
weighing weights format = record (instance_with kinds.Tsp 4 []) { weight_kind = Some weights; weight_format = format }

-- a CVRP with these depots, this demand of node 1 and of each of the nodes 2, 3 and 4, and a capacity
abbrev pub vehicles : List ℕ → ℤ → ℤ → ℤ → Fields
vehicles depots first demand capacity = record blank_fields {
  kind = Some kinds.Cvrp;
  dimension = Some 4;
  capacity = Some capacity;
  demands = Some (first ∷ demand ∷ demand ∷ demand ∷ []);
  depots = Some depots;
}

-- one whose depot is node 1, with demands of 4 elsewhere
abbrev pub carrying : ℤ → Fields
carrying capacity = vehicles (1 ∷ []) (pos 0) (pos 4) capacity

-- a solution
abbrev pub solution : List (List ℕ) → Fields
solution tours = record blank_fields { kind = Some kinds.Tour; tours = Some tours }

-- a solution that states its number of nodes
abbrev pub sized : ℕ → List (List ℕ) → Fields
sized n tours = record (solution tours) { dimension = Some n }

-- potentials for this many nodes: numbers of nodes, of rows and of columns
abbrev pub potentials_file : ℕ → Option (List ℤ) → Option (List ℤ) → Option (List ℤ) → Fields
potentials_file n numbers rows columns = record blank_fields {
  kind = Some kinds.Potentials;
  dimension = Some n;
  node_potentials = numbers;
  row_potentials = rows;
  column_potentials = columns;
}

-- potentials of nodes, without numbers
abbrev pub of_nodes : ℕ → Fields
of_nodes n = potentials_file n (Some []) None None

-- potentials of rows alone
abbrev pub of_rows : ℕ → Fields
of_rows n = potentials_file n None (Some []) None

-- potentials of rows and of columns
abbrev pub of_both : ℕ → Fields
of_both n = potentials_file n None (Some []) (Some [])

-- potentials of four nodes, with these multipliers of fixed pairs
abbrev pub multiplying : List (ℕ × ℕ × ℤ) → Fields
multiplying triples = record (of_nodes 4) { fixed_potentials = Some triples }

-- branches for this many nodes, with these families and steps
abbrev pub branching : ℕ → List (List (List ℕ)) → List Step → Fields
branching n families steps = record blank_fields {
  kind = Some kinds.Branches;
  dimension = Some n;
  families = Some families;
  branches = Some steps;
}

-- two leaves that change no number
abbrev pub two_leaves : List Step
two_leaves = Leaf [] ∷ Leaf [] ∷ []

-- three such leaves
abbrev pub three_leaves : List Step
three_leaves = Leaf [] ∷ two_leaves

-- a tree of two leaves over four nodes, both with the potential of a fifth node
abbrev pub bad_leaves : List Step
bad_leaves = Branch 1 2 ∷ Leaf ((5, pos 1) ∷ []) ∷ Leaf ((5, pos 1) ∷ []) ∷ []

-- potentials of nodes and a multiplier, at a scale of 2
abbrev pub halves_of_nodes : Fields
halves_of_nodes = record (potentials_file 3 (Some (pos 1 ∷ pos 0 ∷ pos 3 ∷ [])) None None) {
  scale = Some (pos 2);
  fixed_potentials = Some ((1, 2, pos 5) ∷ []);
}

-- potentials of rows and columns, at a scale of 2
abbrev pub halves_of_rows : Fields
halves_of_rows =
    record (potentials_file 3 None (Some (pos 1 ∷ pos 2 ∷ pos 4 ∷ [])) (Some (pos 0 ∷ pos 1 ∷ pos 1 ∷ [])))
    { scale = Some (pos 2) }

-- branches with a single leaf, at a scale of 2
abbrev pub halves_of_leaf : Fields
halves_of_leaf = record (branching 3 [] (Leaf [] ∷ [])) { scale = Some (pos 2) }

-- branches with a single leaf, whose loads are counted by five
abbrev pub by_fives : Fields
by_fives = record (branching 4 [] (Leaf [] ∷ [])) { load_unit = Some (pos 5) }

-- branches with a single leaf, with these lists of memories and these subset rows
abbrev pub remembering : List (List ℕ) → List SubsetRow → Fields
remembering lists rows = record (branching 4 [] (Leaf [] ∷ [])) { memories = Some lists; subset_rows = Some rows }

-- a subset row of nodes 2 and 3
abbrev pub pair_row : SubsetRow
pair_row = record { set = 2 ∷ 3 ∷ []; further = [] }

-- a family of two sets, the first of which has a node twice
abbrev pub node_twice : List (List ℕ)
node_twice = (1 ∷ 2 ∷ 1 ∷ []) ∷ (1 ∷ 3 ∷ []) ∷ []

-- a solution of one tour
abbrev pub lone : List ℕ → Fields
lone tour = solution (tour ∷ [])

-- a solution of two routes
abbrev pub both : List ℕ → List ℕ → Fields
both first second = solution (first ∷ second ∷ [])

-- the first reason is judged before the second one
abbrev pub IsJudgedBefore : Reason → Reason → Type 0
IsJudgedBefore first second = rank_of first < rank_of second
