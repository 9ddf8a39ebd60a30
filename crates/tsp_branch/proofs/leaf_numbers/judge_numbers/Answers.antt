-- The goals of `judge_numbers` in src/leaf_numbers.rt, which says whether the numbers of a leaf are good, and copies
-- them: what it ensures.
use Rattle.tsp_branch.proofs.Prelude.{false, refl, length, take, drop, ℤ, List, both_ways}
use Rattle.tsp_cases.proofs.SetSums.{small_multipliers}
use Rattle.tsp_branch.proofs.leaf_numbers.judge_numbers.Goals as goal

-- plan: potentials and multipliers are within their limits, and the multipliers of a family times its most crossings
-- sum to at most the limit. So the multipliers are small (`small_multipliers`)
pub returns-then-not-copy_within-2-clause-good : goal.returns-then-not-copy_within-2-clause-good
returns-then-not-copy_within-2-clause-good c =
    let n = length c.args.potentials.now in
    let families = c.args.families.now in
    let numbers : List ℤ = c.args.numbers.now in (
      λ none. absurd (both_ways false refl none),
      λ good. c.if-not-copy_within-2.ensures.inside.1
          (rw c.split_at.ensures.back (small_multipliers n families.crossed.items (take n numbers) (drop n numbers) families.some good)),
    )
