-- The goals of `run_convert` in src/api.rt: what it ensures.
use Rattle.tsp_judge.proofs.Prelude.{◌≡◌, Err, propagated}
use Rattle.tsp_judge.proofs.api.run_convert.Goals as goal

-- plan: a fault is that of the run
pub returns-in_err-convert_file-clause-answer : goal.returns-in_err-convert_file-clause-answer
returns-in_err-convert_file-clause-answer g c =
    let same : c.from_residual.result ≡ Err c.in_err-convert_file.field-0.0 = propagated _ _ c.from_residual.ensures.1 in
    rw same c.in_err-convert_file.ensures.answer
