-- The goals of `instance_of` in src/text_instance.rt, which reads the instance of a text: what it ensures.
use Rattle.std.proofs.Common.{◌≡◌, Err}
use Rattle.tsp_read.proofs.BegunSteps.{propagated}
use Rattle.tsp_judge.proofs.Bounding.{unopened}
use Rattle.tsp_c.proofs.text_instance.instance_of.Goals as goal

-- plan: an early return passes the fault of the run unchanged (`propagated`), and it is why the text is no instance
-- (`no_instance`)
pub returns-in_err-file : goal.returns-in_err-file
returns-in_err-file c =
    let same : c.from_residual.result ≡ Err c.in_err-file.field-0.0 = propagated _ _ c.from_residual.ensures.1 in
    rw same (unopened c.args.text.now _ c.in_err-file.ensures)
