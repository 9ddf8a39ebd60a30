-- The goals of `Opened::judge` in src/opened.rt, which judges a solution by an open instance: what its calls require
-- and what it ensures.
use Rattle.tsp_judge.proofs.Prelude.{◌≡◌, Err, subst, propagated}
use Rattle.tsp_judge.specs.Open.{Open, IsHeldVerdict}
use Rattle.tsp_judge.proofs.Bounding.{not_judged}
use Rattle.tsp_judge.proofs.opened.Opened.judge.Goals as goal

pub judge_next-requires : goal.judge_next-requires
judge_next-requires c = (c.self.inside.certificate, c.self.invariant.1)

pub returns-in_err-solution : goal.returns-in_err-solution
returns-in_err-solution c =
    let same : c.from_residual.result ≡ Err c.in_err-solution.field-0.0 = propagated _ _ c.from_residual.ensures.1 in
    rw same (not_judged c.args.text.now c.args.self.now _ c.in_err-solution.ensures)

-- plan: by how it ends: no file, no memory for the verdict (`not_judged`), or the verdict
pub returns-in-Ok : goal.returns-in-Ok
returns-in-Ok c =
    subst (λ (o : Open). IsHeldVerdict c.args.text.now c.args.claimed o c.in-Ok.verdict) c.self.view_is (record {
      solution = c.in_ok-solution.solution;
      spelled = c.in_ok-solution.ensures;
      of_type = c.self.invariant.1.0;
      judged = c.in-Ok.ensures.1 c.self.inside.certificate c.self.invariant.1;
      problem = c.self.invariant.0;
    })
