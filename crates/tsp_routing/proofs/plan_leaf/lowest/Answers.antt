-- The goals of `lowest` in src/plan_leaf.rt, which counts how often plans of a case cross a set at least: its loop and
-- what it ensures.
use Rattle.tsp_routing.proofs.Prelude.{◌∙◌, ℕ, List, [], ◌∷◌, take, get_or, false, sym, ap, arith, take_more, Decision, stack_of}
use Rattle.tsp_cases.proofs.OpenCases.{stack_more}
use Rattle.tsp_routing.specs.PlanBounds.{low_of}
use Rattle.tsp_routing.proofs.RouteProducts.{taken_all}
use Rattle.tsp_routing.proofs.plan_leaf.lowest.Goals as goal

-- plan: the number is raised by the limits so far, as the definition raises it, from the last one on
abbrev zero_limit : Decision
zero_limit = record { pair = (0, 0); taken = false }

pub limits-preserved : goal.limits-preserved
limits-preserved c =
    let all : List Decision = c.args.decisions.now in
    let index : ℕ = c.limits.limit-index in
    record {
      value = c.raised-low.ensures.value ∙ ap (λ z. low_of c.args.place (get_or all index zero_limit ∷ []) z) c.limits.invariant.value
          ∙ ap (λ (xs : List Decision). low_of c.args.place xs c.args.own)
          (sym (ap stack_of (take_more all index zero_limit c.limits-test.true)
          ∙ stack_more (take index all) (get_or all index zero_limit)));
      most = c.raised-low.ensures.most;
    }

pub returns-clause-value : goal.returns-clause-value
returns-clause-value c =
    c.limits.invariant.value ∙ ap (λ (xs : List Decision). low_of c.args.place (stack_of xs) c.args.own) (taken_all c.args.decisions.now c.limits.limit-index (omega (arith, c.limits-test.false)))
