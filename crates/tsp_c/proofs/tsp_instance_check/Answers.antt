-- The goals of `tsp_instance_check` in src/lib.rt, which judges a solution of a handle's instance: what it ensures.
use Rattle.tsp_c.proofs.Prelude.{subst, FitsSigned, w64, ℤ, to_z-of_z}
use Rattle.tsp_c.specs.Opened.{ChecksHeld}
use Rattle.tsp_c.proofs.tsp_instance_check.Goals as goal

-- plan: the text of the verdict on the open instance is placed, and its status is returned
pub returns-clause-places : goal.returns-clause-places
returns-clause-places c =
    let made = c.check_held-answer.result in
    let fits : FitsSigned w64 c.args.claimed = c.ranges.claimed in (
      made.0.0,
      made.0.1,
      subst (λ (z : ℤ). ChecksHeld c.args.handle.now.loose.value c.args.flags z c.args.solution.now made.0.0 made.0.1 made.1)
          (to_z-of_z w64 c.args.claimed fits) c.check_held-answer.ensures.checks,
      c.place-status.ensures,
    )
