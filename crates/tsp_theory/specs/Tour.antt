-- Circles 1 and 3 of docs/trust.md.
-- What a tour of a travelling salesman problem is, and what a plan of a routing problem is: cycles, their lengths, and
-- which nodes and customers they serve. Accepted.antt in tsp_judge defines `yes` by them. Crates above import it, too.
use Rattle.std.specs.List.{All, AllPairs, Contains, concat}
use Rattle.std.specs.Prelude.{◌≡◌, ◌≢◌, ℕ, Bool, true, false, List, [], ◌∷◌, length, ◌⊎◌, ℤ, pos, ◌+ℤ◌, ◌≤ℤ◌, ◌-◌, ◌≤◌, slice_index_or, ◌*ℤ◌}
use Rattle.tsp_format.specs.Nodes.{IsNode}

-- ---- hamiltonian cycles, their links, and which pairs they use

-- A cycle of n nodes is a list of n nodes, all in 1..n, none twice.
pub record IsCycle (n : ℕ) (nodes : List ℕ) : Type 0 where
  pub count : length nodes ≡ n
  pub range : All (IsNode n) nodes
  pub once : AllPairs (λ a b. a ≢ b) nodes

-- the links from a node through others to an end
abbrev pub links_to : ℕ → ℕ → List ℕ → List (ℕ × ℕ)
links_to end node [] = (node, end) ∷ []
links_to end node (next ∷ nodes) = (node, next) ∷ links_to end next nodes

-- the links of a cycle: each node with the one that comes next, the last one with the first
abbrev pub links : List ℕ → List (ℕ × ℕ)
links [] = []
links (first ∷ nodes) = links_to first first nodes

-- a list of nodes uses a pair: from the first to the second, or in either direction
abbrev pub Uses : Bool → List ℕ → ℕ × ℕ → Type 0
Uses true nodes (a, b) = Contains (links nodes) (a, b)
Uses false nodes (a, b) = Contains (links nodes) (a, b) ⊎ Contains (links nodes) (b, a)

-- the second node comes next after the first
abbrev pub Follows : List ℕ → ℕ × ℕ → Type 0
Follows nodes pair = Uses true nodes pair

-- one of the two nodes comes next after the other
abbrev pub AreNeighbours : List ℕ → ℕ × ℕ → Type 0
AreNeighbours nodes pair = Uses false nodes pair

-- ---- the length of a list of nodes as a cycle

-- the sum of an integer of each element of a list
abbrev pub sum_int_by : {X : Type 0} → (X → ℤ) → List X → ℤ
sum_int_by f [] = pos 0
sum_int_by f (x ∷ xs) = f x +ℤ sum_int_by f xs

-- the sum of the costs from each node of a list to the one that comes next, cyclically
abbrev pub length_of : (ℕ → ℕ → ℤ) → List ℕ → ℤ
length_of cost nodes = sum_int_by (λ link. cost link.0 link.1) (links nodes)

-- ---- travelling salesman problems, their tours, and bounds on the lengths of these

-- The nodes are 1 to `nodes`, `cost i j` is the cost from i to j, and every tour uses the fixed pairs. These have a
-- direction if the problem is directed.
pub record Problem : Type 0 where
  pub nodes : ℕ
  pub directed : Bool
  pub cost : ℕ → ℕ → ℤ
  pub fixed : List (ℕ × ℕ)

-- a tour of a problem is a cycle of its nodes that uses every fixed pair
pub record IsTour (problem : Problem) (tour : List ℕ) : Type 0 where
  pub cycle : IsCycle problem.nodes tour
  pub fixed_used : All (Uses problem.directed tour) problem.fixed

-- no tour is shorter than the bound
abbrev pub BoundsTours : Problem → ℤ → Type 0
BoundsTours problem bound = (tour : List ℕ) → IsTour problem tour → bound ≤ℤ length_of problem.cost tour

-- the problem has no tour
abbrev pub HasNoTour : Problem → Type 0
HasNoTour problem = (tour : List ℕ) → IsTour problem tour → ⊥

-- ---- routing problems and their plans of routes

-- The nodes are 1 to `nodes`, one of them the depot, `cost i j` is the cost from i to j. Each node has a demand, each
-- route carries at most the capacity.
pub record RoutingProblem : Type 0 where
  pub nodes : ℕ
  pub cost : ℕ → ℕ → ℤ
  pub depot : ℕ
  pub demand : ℕ → ℤ
  pub capacity : ℤ

-- a node of 1..n other than the depot
abbrev pub IsCustomer : ℕ → ℕ → ℕ → Type 0
IsCustomer n depot node = IsNode n node × (node ≢ depot)

-- Routes that have each customer exactly once and no other node, each with demands that sum to at most the capacity.
pub record IsPlan (problem : RoutingProblem) (routes : List (List ℕ)) : Type 0 where
  pub customers : All (IsCustomer problem.nodes problem.depot) (concat routes)
  pub once : AllPairs (λ a b. a ≢ b) (concat routes)
  pub served : (node : ℕ) → IsCustomer problem.nodes problem.depot node → Contains (concat routes) node
  pub within : All (λ route. sum_int_by problem.demand route ≤ℤ problem.capacity) routes

-- the length of routes: each goes from the depot through its nodes and back
abbrev pub plan_length : (ℕ → ℕ → ℤ) → ℕ → List (List ℕ) → ℤ
plan_length cost depot routes = sum_int_by (λ route. length_of cost (depot ∷ route)) routes

-- the least number of routes that carry this much
pub record IsLeastRoutes (total capacity : ℤ) (least : ℕ) : Type 0 where
  pub enough : total ≤ℤ (pos least *ℤ capacity)
  pub none_less : (count : ℕ) → total ≤ℤ (pos count *ℤ capacity) → least ≤ count

-- ---- demands as a list

-- the demand of a node
abbrev pub demand_of : List ℤ → ℕ → ℤ
demand_of demands node = slice_index_or demands (node - 1) (pos 0)

-- the sum of the demands of a list of nodes
abbrev pub load_of : List ℤ → List ℕ → ℤ
load_of demands nodes = sum_int_by (demand_of demands) nodes
