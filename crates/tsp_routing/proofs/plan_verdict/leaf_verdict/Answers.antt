-- The goals of `leaf_verdict` in src/plan_verdict.rt, which judges the leaves: what it ensures.
use Rattle.tsp_routing.proofs.Prelude.{◌≡◌, ◌∙◌, ◌+◌, ◌*◌, ◌<◌, ◌≤◌, ℕ, [], ◌∷◌, length, true, ap, subst, nat_le, le-leb, leaves_of, families_with, listed_steps, lent_in}
use Rattle.tsp_format.specs.states.TreeSteps.{steps_of}
use Rattle.tsp_cases.specs.JudgedLeaves.{AreJudgedBy}
use Rattle.tsp_routing.specs.PlanVerdicts.{ArePlanNumbers, most_entries}
use Rattle.tsp_routing.specs.PlanBounds.{IsFoundByQRoutes}
use Rattle.tsp_routing.specs.states.Demands.{loads_problem}
use Rattle.tsp_routing.specs.states.Judged.{IsFoundOfFew}
use Rattle.tsp_routing.proofs.PlanJudging.{least_if}
use Rattle.tsp_routing.proofs.plan_verdict.leaf_verdict.Goals as goal

-- plan: the entries of the table are counted, and if they are few each leaf has a bound by walks (`least_if`)
pub returns-then-few-clause-verdict : goal.returns-then-few-clause-verdict
returns-then-few-clause-verdict g c =
    let s = c.args.context.now in
    let n : ℕ = s.demands.nodes in
    let families : ℕ = length s.crossed.now in
    let cost = g.C.Costs.at s.costs.now in
    let steps = steps_of c.args.steps.now in
    let entries : ℕ = c.entries-few.result in
    let found = IsFoundByQRoutes (loads_problem s.demands cost) s.scale s.unit s.units.now.light (families_with s.crossed.now (lent_in s.families.now)) in
    let is = subst (AreJudgedBy (IsFoundOfFew (nat_le entries 10000000) (loads_problem s.demands cost) s.scale s.unit s.units.now.light
    (families_with s.crossed.now (lent_in s.families.now))) (ArePlanNumbers n families) n families [] steps)
    c.in-Bound.is c.in_ok-judged.ensures.judged in (
      is.2,
      subst (λ (k : ℕ). k ≤ most_entries) (c.entries-few.ensures ∙ ap (λ (room : ℕ). n * (room + 1)) (s.loads.room_is cost)) c.if-few.true,
      least_if (nat_le entries 10000000 ≡ true) found (le-leb entries 10000000 c.if-few.true)
          (leaves_of ([] ∷ []) (listed_steps n families steps)) c.in-Bound.found is.1,
    )

pub returns-else-few-clause-verdict : goal.returns-else-few-clause-verdict
returns-else-few-clause-verdict g c =
    let s = c.args.context.now in
    let n : ℕ = s.demands.nodes in
    let families : ℕ = length s.crossed.now in
    let cost = g.C.Costs.at s.costs.now in
    let steps = steps_of c.args.steps.now in
    let is = subst (AreJudgedBy (IsFoundOfFew (nat_le c.entries-few.result 10000000) (loads_problem s.demands cost) s.scale s.unit s.units.now.light
    (families_with s.crossed.now (lent_in s.families.now))) (ArePlanNumbers n families) n families [] steps)
    c.in-Bound.is c.in_ok-judged.ensures.judged in (
      is.2,
      subst (λ (k : ℕ). most_entries < k) (c.entries-few.ensures ∙ ap (λ (room : ℕ). n * (room + 1)) (s.loads.room_is cost)) c.if-few.false,
    )
