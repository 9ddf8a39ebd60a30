-- Circle 3 of docs/trust.md.
-- What makes a certificate for routes good (its sets, branches and leaves), and its bound by q-routes.
-- src/plan_verdict.rt judges by it. RunVerdicts.antt has the whole verdict. tsp_verdict imports it, too.
use Rattle.tsp_routing.specs.Prelude.{All, ℕ, List, unsigned_abs, length, ℤ, pos, [], slice_index_or, Option, Step, ArePotentials, sum_int_by, RoutingProblem, IsCustomer, demand_of, LeafNumbers, families_with, HasEachOnce, BeginsWithin, branch_pairs, IsFirstBadBranch, AreGoodLeavesBy, IsFirstBadLeafBy, listed_steps}
use Rattle.std.specs.Prelude.{◌+◌, ◌-◌, ◌≡◌, ◌≤ℤ◌, ◌≢◌, ◌≤◌, ◌<◌, ◌∷◌, ◌*◌}
use Rattle.tsp_theory.specs.First.{IsFirstBad}
use Rattle.tsp_cases.specs.declared.family.Crossings.{Crossings}
use Rattle.tsp_routing.specs.PlanBounds.{IsPlanTreeBound}
use Rattle.tsp_routing.specs.PlanLinks.{IsCutFamily, AreUnits, capacity_in_parts}

-- each branch begins with the number of a family
abbrev pub AreGoodBranches : ℕ → ℕ → List Step → Type 0
AreGoodBranches n families steps = All (BeginsWithin (n + 1) (n + families)) (branch_pairs steps)

-- the first branch that doesn't, counted from 1
abbrev pub IsFirstBadPlanBranch : ℕ → ℕ → List Step → ℕ → Type 0
IsFirstBadPlanBranch n families steps first = IsFirstBadBranch (n + 1) (n + families) steps first

-- ---- whether the leaves of a certificate for routes are good

-- the largest sum of the sizes of multipliers
abbrev pub most_of_multipliers : ℕ
most_of_multipliers = 300000000000000000

-- the sum of the sizes of multipliers
abbrev pub sizes_total : List ℤ → ℤ
sizes_total multipliers = sum_int_by (λ multiplier. pos (unsigned_abs multiplier)) multipliers

-- a potential for each node, none too large; a multiplier for each family, the sum of whose sizes isn't too large
pub record ArePlanNumbers (n families : ℕ) (numbers : LeafNumbers) : Type 0 where
  pub each_node : length numbers.potentials ≡ n
  pub each_family : length numbers.multipliers ≡ families
  pub potentials_are : ArePotentials numbers.potentials
  pub sum : sizes_total numbers.multipliers ≤ℤ pos most_of_multipliers

-- each index is that of a node or of a family, and the numbers of each leaf are good
abbrev pub AreGoodPlanLeaves : ℕ → ℕ → List Step → Type 0
AreGoodPlanLeaves n families steps = AreGoodLeavesBy (ArePlanNumbers n families) n families steps

-- the first leaf that isn't good, counted from 1
abbrev pub IsFirstBadPlanLeaf : ℕ → ℕ → List Step → ℕ → Type 0
IsFirstBadPlanLeaf n families steps leaf = IsFirstBadLeafBy (ArePlanNumbers n families) n families steps leaf

-- ---- whether the families of a certificate for routes are good: each is one set of customers

-- the family is one set, which isn't empty, has customers alone, and none twice
pub record IsGoodSet (n depot : ℕ) (sets : List (List ℕ)) : Type 0 where
  pub customers : List ℕ
  pub alone : sets ≡ customers ∷ []
  pub some : customers ≢ []
  pub inside : All (IsCustomer n depot) customers
  pub once : HasEachOnce customers

-- the first family that isn't such a set, counted from 1
abbrev pub IsFirstBadSet : ℕ → ℕ → List (List (List ℕ)) → ℕ → Type 0
IsFirstBadSet n depot families first =
    IsFirstBad (λ place. IsGoodSet n depot (slice_index_or families (place - 1) [])) families first

-- all families are such sets, and `crossed` says how often a plan crosses each at least
pub record AreCapacityCuts (problem : RoutingProblem) (families : List (List (List ℕ))) (crossed : List Crossings) : Type 0 where
  pub many : length crossed ≡ length families
  pub good : (place : ℕ) → place < length families → IsGoodSet problem.nodes problem.depot (slice_index_or families place [])
  pub are : All (IsCutFamily problem) (families_with crossed families)

-- ---- the bound of a certificate for routes by q-routes

-- the routing problem with these nodes, costs, depot, demands and capacity
abbrev pub routing_with : ℕ → (ℕ → ℕ → ℤ) → ℕ → List ℤ → ℤ → RoutingProblem
routing_with n cost depot demands capacity = record {
  nodes = n;
  cost = cost;
  depot = depot;
  demand = demand_of demands;
  capacity = capacity;
}

-- how many entries a table by node and load may have
abbrev pub most_entries : ℕ
most_entries = 10000000

-- a table of all loads up to the capacity of a route has more entries
pub record HasTooManyLoads (problem : RoutingProblem) (unit : ℕ) : Type 0 where
  pub light : ℕ
  pub units : AreUnits problem unit light
  pub many : most_entries < problem.nodes * (capacity_in_parts problem unit light + 1)

-- the families and the branches are good
abbrev pub HasGoodTree : RoutingProblem → List (List (List ℕ)) → List Step → Type 0
HasGoodTree problem families steps = ((crossed : List Crossings) × AreCapacityCuts problem families crossed)
    × AreGoodBranches problem.nodes (length families) steps

-- the bound by q-routes of a certificate that is good, and whose table isn't too large
pub record IsBoundFound (problem : RoutingProblem) (scale : ℤ) (unit : ℕ) (families : List (List (List ℕ))) (steps : List Step)
    (found : Option ℤ) : Type 0 where
  pub crossed : List Crossings
  pub cuts : AreCapacityCuts problem families crossed
  pub branches : AreGoodBranches problem.nodes (length families) steps
  pub leaves : AreGoodPlanLeaves problem.nodes (length families) steps
  pub light : ℕ
  pub units : AreUnits problem unit light
  pub few : problem.nodes * (capacity_in_parts problem unit light + 1) ≤ most_entries
  pub bound : IsPlanTreeBound problem scale unit light (families_with crossed families)
      (listed_steps problem.nodes (length families) steps) found
