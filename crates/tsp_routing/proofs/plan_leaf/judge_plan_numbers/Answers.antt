-- The goals of `judge_plan_numbers` in src/plan_leaf.rt, which says whether the numbers of a leaf are good, and copies
-- them: what it ensures.
use Rattle.tsp_routing.proofs.Prelude.{false, refl, length, drop, pos, neg_ℤ, both_ways, All-from_recursion, IsFromTo}
use Rattle.tsp_routing.specs.PlanVerdicts.{most_of_multipliers}
use Rattle.tsp_routing.proofs.RouteProducts.{each_small}
use Rattle.tsp_routing.proofs.plan_leaf.judge_plan_numbers.Goals as goal

-- plan: by the potentials in their range, the multipliers in theirs, and the sum of the sizes of these within its limit
pub returns-then-not-copy_within-2-clause-good : goal.returns-then-not-copy_within-2-clause-good
returns-then-not-copy_within-2-clause-good c = (
  λ none. absurd (both_ways false refl none),
  λ good. c.if-not-copy_within-2.ensures.inside.1
      (rw c.split_at.ensures.back (All-from_recursion (IsFromTo (neg_ℤ (pos most_of_multipliers)) (pos most_of_multipliers))
      (drop (length c.args.potentials.now) c.args.numbers.now)
      (each_small most_of_multipliers (drop (length c.args.potentials.now) c.args.numbers.now) good.sum))),
)
