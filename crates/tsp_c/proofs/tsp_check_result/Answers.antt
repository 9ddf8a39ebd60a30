-- The goals of `tsp_check_result` in src/lib.rt, which does what `tsp_check` does, and returns numbers too: what it
-- ensures.
use Rattle.tsp_c.proofs.Prelude.{subst, FitsSigned, w64, ℤ, to_z-of_z}
use Rattle.tsp_c.specs.Texts.{ChecksBy}
use Rattle.tsp_c.specs.CallResult.{TellsBy}
use Rattle.tsp_c.proofs.tsp_check_result.Goals as goal

-- plan: the text and the numbers of the verdict are placed, and its status is returned
pub returns : goal.returns
returns c =
    let made = c.check_by-answer.result in
    let fits : FitsSigned w64 c.args.claimed = c.ranges.claimed in (
      made.0.0,
      made.0.1,
      (
        subst (λ (z : ℤ). ChecksBy c.args.by c.args.flags z c.args.instance.now c.args.solution.now c.args.certificate.now made.0.0 made.0.1)
            (to_z-of_z w64 c.args.claimed fits) c.check_by-answer.ensures.texts,
        subst (λ (z : ℤ). TellsBy c.args.by c.args.flags z c.args.instance.now c.args.solution.now c.args.certificate.now made.0.0 made.1)
            (to_z-of_z w64 c.args.claimed fits) c.check_by-answer.ensures.numbers,
      ),
      c.place-status.ensures,
    )
