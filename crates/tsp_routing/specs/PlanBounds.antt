-- Circle 3 of docs/trust.md.
-- The bound of a certificate for routes, as a theorem: a leaf is bounded by its least q-route, and the tree by its
-- leaves. src/plan_leaf.rt computes it. Also how large the numbers are, on which proofs against overflow rest.
use Rattle.tsp_routing.specs.Prelude.{All, ℕ, negsuc, int_lt, max, min, not, List, [], length, ℤ, pos, true, Option, Some, None, IsScale, entry, IsLeastBound, weight_between, RoutingProblem, plan_length, length_of, LeafNumbers, CaseStep, are_case_trees, leaves_of, Family, Decision}
use Rattle.std.specs.Prelude.{◌+◌, ◌^◌, ◌*◌, ◌-◌, ◌==◌, ◌&&◌, if◌then◌else◌, ◌∷◌, ◌+ℤ◌, ◌-ℤ◌, ◌*ℤ◌, ◌≤ℤ◌, ◌≡◌}
use Rattle.tsp_cases.specs.CaseTrees.{multiplied, combed, IsLeastFound}
use Rattle.tsp_routing.specs.PlanLinks.{IsRoutable, IsFilledPlan, sum_of_customers, IsCutFamily, IsFewest, KeepsEachLimit, BoundsPlans, HasNoPlan, AreUnits, load_in, capacity_in_parts}
use Rattle.tsp_routing.specs.QRoutes.{IsQRoute, IsLeastAmong}

-- the weight of a link: two potentials of 10^15, a cost of 10^12 times a scale of 10^6, and multipliers of 3 * 10^17
abbrev pub most_link : ℕ
most_link = 1302000000000000000

-- the capacity of a route, in parts of units, if a table of two nodes or more has 10,000,000 entries
abbrev pub most_capacity_in_parts : ℕ
most_capacity_in_parts = 5000000

-- what a route adds to the bound: the weight of a walk, and twice the potential of the depot
abbrev pub most_surplus : ℕ
most_surplus = 2 ^ 83 + 2000000000000000

-- ---- the bound of a leaf for routes, from the least weight of a walk, under limits on sets

-- what each route adds to the bound: the least weight of a walk, less the depot's potential twice
abbrev pub surplus : RoutingProblem → List ℤ → ℤ → ℤ
surplus problem potentials each = each -ℤ (pos 2 *ℤ entry potentials problem.depot)

-- the lower one of two products: a number times `fewest`, and times `most`
abbrev pub least_product : ℕ → ℕ → ℤ → ℤ
least_product fewest most z = if int_lt (pos most *ℤ z) (pos fewest *ℤ z) then (pos most *ℤ z) else (pos fewest *ℤ z)

-- a number of at least 0 times `low`, one below 0 times `high`
abbrev pub least_times : ℕ → ℕ → ℤ → ℤ
least_times low high (pos m) = pos low *ℤ pos m
least_times low high (negsuc m) = pos high *ℤ negsuc m

-- how often a plan of the case crosses the set with the number `place` at least: by its limits, and by `own`, which
-- holds of all plans
abbrev pub low_of : ℕ → List Decision → ℕ → ℕ
low_of place [] own = own
low_of place (limit ∷ case) own =
    if not limit.taken && (limit.pair.0 == place) then max (2 * limit.pair.1 + 2) (low_of place case own)
    else low_of place case own

-- how often it crosses that set at most, in the same way
abbrev pub high_of : ℕ → List Decision → ℕ → ℕ
high_of place [] own = own
high_of place (limit ∷ case) own =
    if limit.taken && (limit.pair.0 == place) then min (2 * limit.pair.1) (high_of place case own) else high_of place case own

-- The sum that the multipliers of the sets give back: a multiplier of at least 0 times the least number of crossings,
-- one below 0 times the most. `place` is the number of the first set, and `own` holds of a set without a limit: twice
-- the number of customers.
abbrev pub limits_total : List Decision → ℕ → ℕ → List Family → List ℤ → ℤ
limits_total case own place [] multipliers = pos 0
limits_total case own place (family ∷ families) [] = pos 0
limits_total case own place (family ∷ families) (multiplier ∷ multipliers) =
    least_times (low_of place case family.numbers.least) (high_of place case own) multiplier
    +ℤ limits_total case own (place + 1) families multipliers

-- the weight between two nodes: the cost times the scale and both potentials, less the multipliers of the sets that
-- have one of them
abbrev pub q_route_weight : ℤ → List ℤ → List Family → List ℤ → (ℕ → ℕ → ℤ) → ℕ → ℕ → ℤ
q_route_weight scale potentials families multipliers cost =
    combed (multiplied families multipliers) (weight_between scale potentials cost)

-- the bound of a leaf if each route weighs `each` at least: there are `fewest` routes or more, and at most as many
-- as customers
pub record IsPlanBound (problem : RoutingProblem) (scale : ℤ) (potentials : List ℤ) (families : List Family) (multipliers : List ℤ)
    (case : List Decision) (each bound : ℤ) : Type 0 where
  pub fewest : ℕ
  pub fewest_is : IsFewest problem fewest
  pub bound_is : IsLeastBound scale ((limits_total case (2 * (problem.nodes - 1)) (problem.nodes + 1) families multipliers
      -ℤ (pos 2 *ℤ sum_of_customers problem.nodes problem.depot (entry potentials)))
      +ℤ least_product fewest (problem.nodes - 1) (surplus problem potentials each)) bound

-- ---- the theorem

-- A filled plan of the case whose routes weigh at least that is no shorter than the bound.
abbrev pub PlanBoundsBoundPlans : Type 0
PlanBoundsBoundPlans = (problem : RoutingProblem) (scale : ℤ) (potentials : List ℤ) (families : List Family) (multipliers : List ℤ)
    (case : List Decision) (each bound : ℤ) (routes : List (List ℕ))
    → IsRoutable problem → IsScale scale → All (IsCutFamily problem) families
    → IsPlanBound problem scale potentials families multipliers case each bound
    → IsFilledPlan problem routes → KeepsEachLimit problem.nodes families problem.depot routes case
    → (pos (length routes) *ℤ each)
    ≤ℤ plan_length (q_route_weight scale potentials families multipliers problem.cost) problem.depot routes
    → bound ≤ℤ plan_length problem.cost problem.depot routes

-- ---- the bound of a certificate for routes

-- the least weight of a walk under the numbers of a leaf; None if there is no walk
abbrev pub IsLeastQRoute : RoutingProblem → ℤ → ℕ → ℕ → List Family → LeafNumbers → Option ℤ → Type 0
IsLeastQRoute problem scale unit light families numbers least =
    IsLeastAmong (IsQRoute problem.nodes problem.depot (load_in problem unit light) (capacity_in_parts problem unit light))
    (λ nodes. length_of (q_route_weight scale numbers.potentials families numbers.multipliers problem.cost) (problem.depot ∷ nodes)) least

-- the bound of a leaf: each route weighs at least as much as the least walk
pub record IsQRouteBound (problem : RoutingProblem) (scale : ℤ) (unit light : ℕ) (families : List Family) (case : List Decision)
    (numbers : LeafNumbers) (bound : ℤ) : Type 0 where
  pub each : ℤ
  pub least : IsLeastQRoute problem scale unit light families numbers (Some each)
  pub bound_is : IsPlanBound problem scale numbers.potentials families numbers.multipliers case each bound

-- what is found for a leaf: its bound, or none if there is no walk
abbrev pub IsFoundByQRoutes : RoutingProblem → ℤ → ℕ → ℕ → List Family → List Decision × LeafNumbers → Option ℤ → Type 0
IsFoundByQRoutes problem scale unit light families (case, numbers) (Some bound) =
    IsQRouteBound problem scale unit light families case numbers bound
IsFoundByQRoutes problem scale unit light families (case, numbers) None =
    IsLeastQRoute problem scale unit light families numbers None

-- the bound of a tree: the least bound of a leaf; None if no leaf has one
abbrev pub IsPlanTreeBound : RoutingProblem → ℤ → ℕ → ℕ → List Family → List CaseStep → Option ℤ → Type 0
IsPlanTreeBound problem scale unit light families steps found =
    IsLeastFound (IsFoundByQRoutes problem scale unit light families) (leaves_of ([] ∷ []) steps) found

-- A bound is at most the length of every filled plan. If there is no bound, there is no filled plan.
abbrev pub BoundsPlansIfAny : RoutingProblem → Option ℤ → Type 0
BoundsPlansIfAny problem (Some bound) = BoundsPlans problem bound
BoundsPlansIfAny problem None = HasNoPlan problem

-- ---- the theorems

-- So is the bound of a whole tree, or that it has none.
abbrev pub PlanTreesBoundPlans : Type 0
PlanTreesBoundPlans = (problem : RoutingProblem) (scale : ℤ) (unit light : ℕ) (families : List Family) (steps : List CaseStep)
    (found : Option ℤ)
    → IsRoutable problem → IsScale scale → AreUnits problem unit light → All (IsCutFamily problem) families
    → are_case_trees 1 steps ≡ true → IsPlanTreeBound problem scale unit light families steps found
    → BoundsPlansIfAny problem found

-- A tree has one bound, or none.
abbrev pub PlanTreeBoundsAreUnique : Type 0
PlanTreeBoundsAreUnique = (problem : RoutingProblem) (scale : ℤ) (unit light : ℕ) (families : List Family) (steps : List CaseStep)
    (a b : Option ℤ) → IsPlanTreeBound problem scale unit light families steps a
    → IsPlanTreeBound problem scale unit light families steps b → a ≡ b
