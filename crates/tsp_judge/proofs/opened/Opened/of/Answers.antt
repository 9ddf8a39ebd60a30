-- The goals of `Opened::of` in src/opened.rt, which opens the instance of a text: what it ensures.
use Rattle.tsp_judge.proofs.Prelude.{◌≡◌, Err, refl, propagated}
use Rattle.tsp_judge.proofs.Bounding.{unopened}
use Rattle.tsp_judge.proofs.opened.Opened.of.Goals as goal

-- plan: the error is the fault of the text (`propagated`), which is no file (`unopened`)
pub returns-in_err-file : goal.returns-in_err-file
returns-in_err-file c =
    let same : c.from_residual.result ≡ Err c.in_err-file.field-0.0 = propagated _ _ c.from_residual.ensures.1 in
    rw same (unopened c.args.text.now _ c.in_err-file.ensures)
