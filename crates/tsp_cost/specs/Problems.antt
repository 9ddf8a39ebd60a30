-- Circles 1 and 3 of docs/trust.md.
-- Which problem a valid instance is: a travelling salesman problem for TYPE TSP or ATSP, a routing problem for TYPE
-- CVRP. This file joins the fields of a file to the mathematics of tsp_theory, for Accepted.antt in tsp_judge and all
-- definitions of a verdict. Each valid instance is exactly one problem, as src/laws.rt proves. tsp_verdict imports it,
-- too.
use Rattle.tsp_cost.specs.Prelude.{ℕ, false, [], map, Some, unwrap_or, ℤ, pos, Bool, true, List, Option, None, slice_index, length, Point, IsNode, nodes_to, is_listed, cells, cost, fixed_of, Fields, nodes_of, RoutingProblem, Problem, demand_of, IsPlan, IsTour}
use Rattle.std.specs.Prelude.{◌≡◌, ◌≢◌, ◌⊎◌, if◌then◌else◌, ◌∷◌}
use Rattle.tsp_format.specs.declared.kinds.Kind.{Kind}
use Rattle.tsp_format.specs.declared.kinds.Kind.TheVariants.{Tsp, Atsp, Cvrp, Tour, Potentials, Branches}
use Rattle.tsp_format.specs.declared.kinds.Kind.TheVariants as kinds
use Rattle.tsp_format.specs.declared.kinds.WeightFormat.TheVariants.{Listed}
use Rattle.tsp_format.specs.declared.kinds.WeightKind.{WeightKind}
use Rattle.tsp_format.specs.declared.kinds.WeightKind.TheVariants.{Explicit}
use Rattle.tsp_format.specs.declared.layout.Layout.{Layout}
use Rattle.tsp_format.specs.declared.layout.Layout.TheVariants.{FullMatrix}
use Rattle.tsp_file.specs.ByInequalities.{IsDistanceBy}

-- The costs are weights that the instance lists, each that of its cell in the layout. Half a matrix has the same costs
-- in both directions, and a diagonal that isn't listed has 0. Only the costs between nodes are looked at.
pub record CostsAreListed (instance : Fields) (nodes : ℕ) (cost : ℕ → ℕ → ℤ) : Type 0 where
  pub weight_type : instance.weight_kind ≡ Some Explicit
  pub layout : Layout
  pub format : instance.weight_format ≡ Some (Listed layout)
  pub weights : instance.weights ≡ Some (map (λ cell. cost cell.0 cell.1) (cells layout nodes))
  pub half : (i j : ℕ) → IsNode nodes i → IsNode nodes j → layout ≢ FullMatrix → i ≢ j → cost i j ≡ cost j i
  pub diagonal : (i : ℕ) → IsNode nodes i → is_listed layout (i, i) ≡ false → cost i i ≡ pos 0

-- the costs are distances of the nodes' points, by the inequalities of the weight type
pub record CostsAreDistances (instance : Fields) (nodes : ℕ) (cost : ℕ → ℕ → ℤ) : Type 0 where
  pub kind : WeightKind
  pub weight_type : instance.weight_kind ≡ Some kind
  pub point : ℕ → Point
  pub points : instance.coords ≡ Some (map point (nodes_to nodes))
  pub costs : (i j : ℕ) → IsNode nodes i → IsNode nodes j → (k : ℕ) × (cost i j ≡ pos k) × IsDistanceBy kind (point i) (point j) k

-- the travelling salesman problem of an instance; without FIXED_EDGES_SECTION no pair is fixed
pub record IsProblemOf (instance : Fields) (problem : Problem) : Type 0 where
  pub type : instance.kind ≡ Some (if problem.directed then kinds.Atsp else kinds.Tsp)
  pub nodes : instance.dimension ≡ Some problem.nodes
  pub costs : CostsAreListed instance problem.nodes problem.cost ⊎ CostsAreDistances instance problem.nodes problem.cost
  pub fixed : unwrap_or instance.fixed [] ≡ problem.fixed

-- the routing problem of an instance, which lists one depot
pub record IsRoutingOf (instance : Fields) (problem : RoutingProblem) : Type 0 where
  pub type : instance.kind ≡ Some kinds.Cvrp
  pub nodes : instance.dimension ≡ Some problem.nodes
  pub costs : CostsAreListed instance problem.nodes problem.cost ⊎ CostsAreDistances instance problem.nodes problem.cost
  pub depot : instance.depots ≡ Some (problem.depot ∷ [])
  pub demands : instance.demands ≡ Some (map problem.demand (nodes_to problem.nodes))
  pub capacity : instance.capacity ≡ Some problem.capacity

-- ---- the problem of an instance as a function of its fields, which can be evaluated

-- whether pairs have a direction
abbrev pub is_directed : Option Kind → Bool
is_directed (Some Atsp) = true
is_directed (Some Tsp) = false
is_directed (Some Cvrp) = false
is_directed (Some Tour) = false
is_directed (Some Potentials) = false
is_directed (Some Branches) = false
is_directed None = false

-- the travelling salesman problem of an instance
abbrev pub problem_of : Fields → Problem
problem_of f = record { nodes = nodes_of f; directed = is_directed f.kind; cost = cost f; fixed = fixed_of f }

-- a tour of an instance
abbrev pub IsTourOf : Fields → List ℕ → Type 0
IsTourOf f nodes = IsTour (problem_of f) nodes

-- the depots of a routing problem; none for any other file
abbrev pub depots_of : Fields → List ℕ
depots_of f = unwrap_or f.depots []

-- its demands, node by node; none for any other file
abbrev pub demands_of : Fields → List ℤ
demands_of f = unwrap_or f.demands []

-- its capacity; 0 for any other file
abbrev pub capacity_of : Fields → ℤ
capacity_of f = unwrap_or f.capacity (pos 0)

-- the depot of an instance that lists one
abbrev pub depot_of : Fields → ℕ
depot_of f = slice_index (depots_of f) 0

-- the routing problem of an instance
abbrev pub routing_of : Fields → RoutingProblem
routing_of f = record {
  nodes = nodes_of f;
  cost = cost f;
  depot = depot_of f;
  demand = demand_of (demands_of f);
  capacity = capacity_of f;
}

-- routes that are a plan of an instance
abbrev pub IsPlanOf : Fields → List (List ℕ) → Type 0
IsPlanOf f routes = IsPlan (routing_of f) routes

-- ---- that each valid instance is one problem

-- the functions give the problem of a valid instance; for a CVRP, if it lists one depot
pub record IsProblem (instance : Fields) : Type 0 where
  pub of_tours : (instance.kind ≡ Some kinds.Tsp) ⊎ (instance.kind ≡ Some kinds.Atsp) → IsProblemOf instance (problem_of instance)
  pub of_routes : instance.kind ≡ Some kinds.Cvrp → length (depots_of instance) ≡ 1 → IsRoutingOf instance (routing_of instance)

-- the costs between nodes are equal
abbrev pub HaveSameCosts : ℕ → (ℕ → ℕ → ℤ) → (ℕ → ℕ → ℤ) → Type 0
HaveSameCosts n a b = (i j : ℕ) → IsNode n i → IsNode n j → a i j ≡ b i j

-- two travelling salesman problems are equal, except for costs that aren't between nodes
pub record AreSame (a b : Problem) : Type 0 where
  pub nodes : a.nodes ≡ b.nodes
  pub directed : a.directed ≡ b.directed
  pub costs : HaveSameCosts a.nodes a.cost b.cost
  pub fixed : a.fixed ≡ b.fixed

-- two routing problems are equal, except for costs and demands that don't belong to nodes
pub record AreSameRouting (a b : RoutingProblem) : Type 0 where
  pub nodes : a.nodes ≡ b.nodes
  pub costs : HaveSameCosts a.nodes a.cost b.cost
  pub depot : a.depot ≡ b.depot
  pub demands : (i : ℕ) → IsNode a.nodes i → a.demand i ≡ b.demand i
  pub capacity : a.capacity ≡ b.capacity
