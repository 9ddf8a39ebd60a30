-- Circle 3 of docs/trust.md.
-- The bound of a leaf for routes by the least weight of a run: by walks with memory. src/run_bound.rt computes it, and
-- a law in src/laws.rt says that no plan is shorter.
use Rattle.tsp_routing.specs.Prelude.{ℕ, List, ℤ, pos, All, RoutingProblem, plan_length, IsScale, entry, IsLeastBound, Family, Decision, LeafNumbers}
use Rattle.std.specs.Prelude.{◌≡◌, ◌⊎◌, ◌+◌, ◌*◌, ◌-◌, ◌+ℤ◌, ◌-ℤ◌, ◌*ℤ◌, ◌≤ℤ◌}
use Rattle.tsp_routing.specs.PlanLinks.{IsRoutable, IsFilledPlan, sum_of_customers, IsCutFamily, KeepsEachLimit, AreUnits, load_in, capacity_in_parts}
use Rattle.tsp_routing.specs.PlanBounds.{surplus, limits_total, q_route_weight}
use Rattle.tsp_routing.specs.Runs.{RunRules, IsRunUnder, run_weight, halves_total, AreCharges}
use Rattle.tsp_format.specs.Steps.{SubsetRow}

-- the lesser of a limit and of the least weight of a run
pub record IsLeastRun (rules : RunRules) (limit each : ℤ) : Type 0 where
  pub within : each ≤ℤ limit
  pub below : (nodes : List ℕ) → IsRunUnder rules nodes → each ≤ℤ run_weight rules nodes
  pub met : (each ≡ limit) ⊎ ((nodes : List ℕ) × IsRunUnder rules nodes × (each ≡ run_weight rules nodes))

-- the rules of a leaf: loads in units, the weights of walks, and the memory and the rows that all leaves have
abbrev pub leaf_rules : RoutingProblem → ℤ → ℕ → ℕ → List Family → LeafNumbers → (ℕ → List ℕ) → List (SubsetRow × ℤ) → RunRules
leaf_rules problem scale unit light families numbers near rows = record {
  nodes = problem.nodes;
  depot = problem.depot;
  load = load_in problem unit light;
  room = capacity_in_parts problem unit light;
  weight = q_route_weight scale numbers.potentials families numbers.multipliers problem.cost;
  near = near;
  rows = rows;
}

-- The bound of a leaf: each route weighs at least `each`, which is no more than twice the depot's potential. So the
-- surplus isn't above 0, and it counts as often as there are customers; half of each row's set is given back.
pub record IsRunBound (problem : RoutingProblem) (scale : ℤ) (unit light : ℕ) (families : List Family) (case : List Decision)
    (numbers : LeafNumbers) (near : ℕ → List ℕ) (rows : List (SubsetRow × ℤ)) (bound : ℤ) : Type 0 where
  pub each : ℤ
  pub least : IsLeastRun (leaf_rules problem scale unit light families numbers near rows)
      (pos 2 *ℤ entry numbers.potentials problem.depot) each
  pub bound_is : IsLeastBound scale
      (((limits_total case (2 * (problem.nodes - 1)) (problem.nodes + 1) families numbers.multipliers
      -ℤ (pos 2 *ℤ sum_of_customers problem.nodes problem.depot (entry numbers.potentials)))
      -ℤ halves_total rows)
      +ℤ (pos (problem.nodes - 1) *ℤ surplus problem numbers.potentials each)) bound

-- ---- the theorems

-- A filled plan that keeps the decisions of a leaf is no shorter than the bound of the leaf.
abbrev pub RunBoundsBoundPlans : Type 0
RunBoundsBoundPlans = (problem : RoutingProblem) (scale : ℤ) (unit light : ℕ) (families : List Family) (case : List Decision)
    (numbers : LeafNumbers) (near : ℕ → List ℕ) (rows : List (SubsetRow × ℤ)) (bound : ℤ) (routes : List (List ℕ))
    → IsRoutable problem → IsScale scale → AreUnits problem unit light → All (IsCutFamily problem) families → AreCharges rows
    → IsRunBound problem scale unit light families case numbers near rows bound
    → IsFilledPlan problem routes → KeepsEachLimit problem.nodes families problem.depot routes case
    → bound ≤ℤ plan_length problem.cost problem.depot routes

-- A leaf has one such bound.
abbrev pub RunBoundsAreUnique : Type 0
RunBoundsAreUnique = (problem : RoutingProblem) (scale : ℤ) (unit light : ℕ) (families : List Family) (case : List Decision)
    (numbers : LeafNumbers) (near : ℕ → List ℕ) (rows : List (SubsetRow × ℤ)) (a b : ℤ)
    → IsRunBound problem scale unit light families case numbers near rows a
    → IsRunBound problem scale unit light families case numbers near rows b → a ≡ b
