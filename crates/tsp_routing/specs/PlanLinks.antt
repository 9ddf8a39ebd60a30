-- Circles 1 and 3 of docs/trust.md.
-- The links of a plan, the sets of customers that routes cross, what a set demands, and how often a plan crosses it, at
-- least and at most. Accepted.antt in tsp_judge uses `IsFilledPlan`, a plan without empty routes, and its bounds.
-- tsp_verdict imports it, too.
use Rattle.tsp_routing.specs.Prelude.{All, ℕ, List, [], length, ℤ, pos, nat_abs, max, min, Bool, true, false, not, zero, suc, most_nodes, IsNode, nodes_to, links, sum_int_by, RoutingProblem, IsCustomer, IsPlan, plan_length, IsLeastRoutes, family_crossings, Family, Decision}
use Rattle.std.specs.Prelude.{◌≡◌, ◌≢◌, ◌∷◌, ◌++◌, ◌≤◌, ◌-◌, ◌+ℤ◌, ◌-ℤ◌, ◌*ℤ◌, ◌≤ℤ◌, ◌+◌, ◌*◌, ◌/◌, ◌==◌, if◌then◌else◌, ◌&&◌, ◌⊎◌}
use Rattle.tsp_theory.specs.Tree.{weight_of, crossing}
use Rattle.tsp_cases.specs.Cases.{SolutionKind, LeavesAreKept}

-- the links of a plan: each route goes from the depot through its nodes and back
abbrev pub plan_links : ℕ → List (List ℕ) → List (ℕ × ℕ)
plan_links depot [] = []
plan_links depot (route ∷ routes) = links (depot ∷ route) ++ plan_links depot routes

-- A plan each of whose routes has a customer. `IsPlan` doesn't forbid a route without one: that has one link, from the
-- depot to itself, and if this costs less than 0 there are plans shorter than any bound. No file lists such a route.
pub record IsFilledPlan (problem : RoutingProblem) (routes : List (List ℕ)) : Type 0 where
  pub plan : IsPlan problem routes
  pub each : All (λ route. route ≢ []) routes

-- no filled plan is shorter than the bound
abbrev pub BoundsPlans : RoutingProblem → ℤ → Type 0
BoundsPlans problem bound = (routes : List (List ℕ)) → IsFilledPlan problem routes
    → bound ≤ℤ plan_length problem.cost problem.depot routes

-- the problem has no filled plan
abbrev pub HasNoPlan : RoutingProblem → Type 0
HasNoPlan problem = (routes : List (List ℕ)) → IsFilledPlan problem routes → ⊥

-- a problem whose depot is a node, with a customer, and in which no customer's demand is below 0
pub record IsRoutable (problem : RoutingProblem) : Type 0 where
  pub depot_in : IsNode problem.nodes problem.depot
  pub some : 2 ≤ problem.nodes
  pub demands : (node : ℕ) → IsCustomer problem.nodes problem.depot node → pos 0 ≤ℤ problem.demand node

-- the sum of a number over all nodes but the depot
abbrev pub sum_of_customers : ℕ → ℕ → (ℕ → ℤ) → ℤ
sum_of_customers n depot f = sum_int_by f (nodes_to n) -ℤ f depot

-- ---- the theorems

-- The length of a plan is the weight of its links.
abbrev pub LengthsAreWeights : Type 0
LengthsAreWeights = (cost : ℕ → ℕ → ℤ) (depot : ℕ) (routes : List (List ℕ))
    → plan_length cost depot routes ≡ weight_of cost (plan_links depot routes)

-- Each customer begins one link of a plan and ends one, and the depot begins and ends as many as there are routes.
abbrev pub PlanSums : Type 0
PlanSums = (problem : RoutingProblem) (routes : List (List ℕ)) (f : ℕ → ℤ)
    → IsRoutable problem → IsPlan problem routes
    → (plan_length (λ i j. f i) problem.depot routes
    ≡ sum_of_customers problem.nodes problem.depot f +ℤ (pos (length routes) *ℤ f problem.depot))
    × (plan_length (λ i j. f j) problem.depot routes
    ≡ sum_of_customers problem.nodes problem.depot f +ℤ (pos (length routes) *ℤ f problem.depot))

-- A filled plan has one route at least, and no more routes than customers.
abbrev pub PlansHaveFewRoutes : Type 0
PlansHaveFewRoutes = (problem : RoutingProblem) (routes : List (List ℕ)) → IsRoutable problem → IsFilledPlan problem routes
    → (1 ≤ length routes) × (length routes ≤ (problem.nodes - 1))

-- ---- loads in units: demands divided by a unit and rounded down

-- the whole units of a demand
abbrev pub units_of : RoutingProblem → ℕ → ℕ → ℕ
units_of problem unit node = nat_abs (problem.demand node) / unit

-- 1 for a node whose demand is less than a unit, else 0
abbrev pub is_light : RoutingProblem → ℕ → ℕ → ℤ
is_light problem unit node = if units_of problem unit node == 0 then pos 1 else pos 0

-- a unit, and how many customers demand less than one
pub record AreUnits (problem : RoutingProblem) (unit light : ℕ) : Type 0 where
  pub some : 1 ≤ unit
  pub light_is : pos light ≡ sum_of_customers problem.nodes problem.depot (is_light problem unit)

-- the load of a node, in parts of a unit: if `light` customers demand less than a unit, it has `light + 1` parts
abbrev pub load_in : RoutingProblem → ℕ → ℕ → ℕ → ℕ
load_in problem unit light node =
    if units_of problem unit node == 0 then 1 else (units_of problem unit node * (light + 1))

-- the capacity of a route in the same parts, and one part for each such customer
abbrev pub capacity_in_parts : RoutingProblem → ℕ → ℕ → ℕ
capacity_in_parts problem unit light = nat_abs problem.capacity / unit * (light + 1) + light

-- ---- the theorems

-- Each route of a plan loads no more than that capacity.
abbrev pub RoutesFitCapacity : Type 0
RoutesFitCapacity = (problem : RoutingProblem) (unit light : ℕ) (routes : List (List ℕ))
    → IsRoutable problem → AreUnits problem unit light → IsPlan problem routes
    → All (λ route. sum_int_by (λ node. pos (load_in problem unit light node)) route ≤ℤ pos (capacity_in_parts problem unit light)) routes

-- Each node's load is at least 1.
abbrev pub LoadsAreSome : Type 0
LoadsAreSome = (problem : RoutingProblem) (unit light node : ℕ) → 1 ≤ load_in problem unit light node

-- ---- capacity cuts: sets of customers, and how often a plan leaves and enters one at least

-- 1 for a link from a node of the set to one outside, else 0
abbrev pub leaving : (ℕ → Bool) → ℕ → ℕ → ℤ
leaving part i j = if part i && not (part j) then pos 1 else pos 0

-- 1 for a link from a node outside to one of the set, else 0
abbrev pub entering : (ℕ → Bool) → ℕ → ℕ → ℤ
entering part i j = leaving part j i

-- the sum of the demands of the nodes in the set
abbrev pub demand_in : RoutingProblem → (ℕ → Bool) → ℤ
demand_in problem part = sum_int_by (λ node. if part node then problem.demand node else pos 0) (nodes_to problem.nodes)

-- A set with a customer and without the depot, and how many routes it needs: as many as carry its demand, and one at
-- least. No plan has more routes than nodes, so at most as many are counted as a file may have nodes.
pub record IsCapacityCut (problem : RoutingProblem) (part : ℕ → Bool) (need : ℕ) : Type 0 where
  pub inside : ℕ
  pub customer : IsCustomer problem.nodes problem.depot inside
  pub has_inside : part inside ≡ true
  pub lacks_depot : part problem.depot ≡ false
  pub least : ℕ
  pub least_is : IsLeastRoutes (demand_in problem part) problem.capacity least
  pub need_is : need ≡ max (min least most_nodes) 1

-- a cut as a family of one set: each route that it needs crosses it twice; two nodes cross one set at most, which
-- nothing uses
pub record IsCutFamily (problem : RoutingProblem) (family : Family) : Type 0 where
  pub alone : family.sets.teeth ≡ []
  pub need : ℕ
  pub cut : IsCapacityCut problem family.sets.handle need
  pub least_is : family.numbers.least ≡ 2 * need
  pub most_is : family.numbers.most ≡ 1

-- how many routes a plan has at least: as many as carry what all customers demand, and one at least, counted in the
-- same way
pub record IsFewest (problem : RoutingProblem) (fewest : ℕ) : Type 0 where
  pub least : ℕ
  pub least_is : IsLeastRoutes (sum_of_customers problem.nodes problem.depot problem.demand) problem.capacity least
  pub fewest_is : fewest ≡ max (min least most_nodes) 1

-- ---- the theorems

-- A plan leaves a cut at least as often as the cut needs routes, and enters it as often.
abbrev pub PlansLeaveCuts : Type 0
PlansLeaveCuts = (problem : RoutingProblem) (part : ℕ → Bool) (need : ℕ) (routes : List (List ℕ))
    → IsRoutable problem → IsCapacityCut problem part need → IsPlan problem routes
    → (pos need ≤ℤ plan_length (leaving part) problem.depot routes)
    × (pos need ≤ℤ plan_length (entering part) problem.depot routes)

-- So it crosses the cut's family at least as often as the family's number says.
abbrev pub PlansCrossCuts : Type 0
PlansCrossCuts = (problem : RoutingProblem) (family : Family) (routes : List (List ℕ))
    → IsRoutable problem → IsCutFamily problem family → IsPlan problem routes
    → pos family.numbers.least ≤ℤ plan_length (family_crossings family.sets) problem.depot routes

-- ---- cases of plans by limits on sets of nodes

-- how often routes cross a set of nodes, in and out
abbrev pub part_crossed : (ℕ → Bool) → ℕ → List (List ℕ) → ℤ
part_crossed part depot routes = plan_length (crossing part) depot routes

-- the set of the family at a place, counted from 0; after the last one a set without nodes
abbrev pub set_at : List Family → ℕ → ℕ → Bool
set_at [] place node = false
set_at (family ∷ families) zero node = family.sets.handle node
set_at (family ∷ families) (suc place) node = set_at families place node

-- A limit is a decision on a set: a pair of n + k for the k-th set, counted from 1, and a number t. If it is taken,
-- routes cross the set at most 2t times, else at least 2t + 2 times.
abbrev pub IsWithinLimit : ℤ → Bool → ℕ → Type 0
IsWithinLimit crossed true half = crossed ≤ℤ pos (2 * half)
IsWithinLimit crossed false half = pos (2 * half + 2) ≤ℤ crossed

-- routes keep one limit
abbrev pub KeepsLimit : ℕ → List Family → ℕ → List (List ℕ) → Decision → Type 0
KeepsLimit n families depot routes limit =
    IsWithinLimit (part_crossed (set_at families (limit.pair.0 - (n + 1))) depot routes) limit.taken limit.pair.1

-- routes keep all limits of a case
abbrev pub KeepsEachLimit : ℕ → List Family → ℕ → List (List ℕ) → List Decision → Type 0
KeepsEachLimit n families depot routes case = All (KeepsLimit n families depot routes) case

-- filled plans as a kind of solution, whose decisions are such limits
abbrev pub plans : RoutingProblem → List Family → SolutionKind (List (List ℕ))
plans problem families = record {
  IsSolution = IsFilledPlan problem;
  length_is = plan_length problem.cost problem.depot;
  Keeps = KeepsLimit problem.nodes families problem.depot;
}

-- ---- the theorems

-- Routes cross any set an even number of times.
abbrev pub PlansCrossEvenly : Type 0
PlansCrossEvenly = (part : ℕ → Bool) (depot : ℕ) (routes : List (List ℕ))
    → (half : ℕ) × (part_crossed part depot routes ≡ pos (2 * half))

-- So they keep one of the two limits with any number t.
abbrev pub PlansKeepEitherLimit : Type 0
PlansKeepEitherLimit = (part : ℕ → Bool) (depot : ℕ) (routes : List (List ℕ)) (half : ℕ)
    → IsWithinLimit (part_crossed part depot routes) true half ⊎ IsWithinLimit (part_crossed part depot routes) false half

-- So if they keep the limits of a case, they keep those of a leaf of the tree that begins with it.
abbrev pub PlansKeepLeaves : Type 0
PlansKeepLeaves = (problem : RoutingProblem) (families : List Family) → LeavesAreKept (plans problem families)
