-- The goals of `read_certificate` in src/check_run.rt, which reads the certificate's file, if one is named: what it
-- ensures.
use Rattle.tsp_judge.proofs.Prelude.{◌≡◌, Err, refl, propagated}
use Rattle.tsp_judge.proofs.check_run.read_certificate.Goals as goal

-- plan: by whether a certificate is named; then its file is read or is none
pub returns-in_default-clause-answer : goal.returns-in_default-clause-answer
returns-in_default-clause-answer g c = rw c.in_default.is tt

pub returns-in_err-file-clause-answer : goal.returns-in_err-file-clause-answer
returns-in_err-file-clause-answer g c =
    let same : c.from_residual.result ≡ Err c.in_err-file.field-0.0 = propagated _ _ c.from_residual.ensures.1 in
    rw (same, c.in-Some.is) c.in_err-file.ensures.answer

pub returns-clause-answer : goal.returns-clause-answer
returns-clause-answer g c = let three = c.in_ok-file.ensures.answer in rw c.in-Some.is (three.0, three.1, (refl, three.2))

pub returns-in_default-clause-asked : goal.returns-in_default-clause-asked
returns-in_default-clause-asked g c = rw c.in_default.is tt

pub returns-in_err-file-clause-asked : goal.returns-in_err-file-clause-asked
returns-in_err-file-clause-asked g c = rw c.in-Some.is c.in_err-file.ensures.asked

pub returns-clause-asked : goal.returns-clause-asked
returns-clause-asked g c = rw c.in-Some.is c.in_ok-file.ensures.asked
