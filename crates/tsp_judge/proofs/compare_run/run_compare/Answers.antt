-- The goals of `run_compare` in src/compare_run.rt, which compares solutions, with a certificate if one is named: what
-- it ensures.
use Rattle.tsp_judge.proofs.Prelude.{◌≡◌, Err, arith, refl, Keeps-refl, read_trace_of, propagated}
use Rattle.tsp_judge.proofs.NamedReaders.{named_by, named_unread, named_unasked}
use Rattle.tsp_judge.proofs.Comparing.{compare_first_stops, compare_second_stops}
use Rattle.tsp_judge.proofs.compare_run.run_compare.Goals as goal

-- plan: by the first file that isn't valid (`compare_first_stops`, `compare_second_stops`); else both are files
pub returns-in_err-instance-clause-text : goal.returns-in_err-instance-clause-text
returns-in_err-instance-clause-text g c =
    let same : c.from_residual.result ≡ Err c.in_err-instance.field-0.0 = propagated _ _ c.from_residual.ensures.1 in
    let one = c.in_err-instance.ensures.answer in
    rw same (
      one.0,
      one.1,
      named_unread g.C.Read.remaining c.args.certificate.now _ (λ given unread.
          compare_first_stops c.args.strict _ _ given (read_trace_of g.I.Read.remaining c.args.inst.now c.read_file.new.reader one.0) _ _ one.2
          unread (Keeps-refl _, refl)),
    )

pub returns-in_err-certificate-clause-text : goal.returns-in_err-certificate-clause-text
returns-in_err-certificate-clause-text g c =
    let same : c.from_residual-in_err-certificate.result ≡ Err c.in_err-certificate.field-0.0 = propagated _ _ c.from_residual-in_err-certificate.ensures.1 in
    let one = c.in_ok-instance.ensures.answer in
    rw same (
      one.0,
      one.1,
      named_by g.C.Read.remaining c.args.certificate.now c.read_certificate.new.named _ _ (λ given two.
          compare_second_stops c.args.strict _ _ given _ c.in_ok-instance.instance _ _ one.2 two (Keeps-refl _, refl))
          c.in_err-certificate.ensures.answer,
    )

pub returns-clause-text : goal.returns-clause-text
returns-clause-text g c =
    let one = c.in_ok-instance.ensures.answer in (
      one.0,
      one.1,
      named_by g.C.Read.remaining c.args.certificate.now c.read_certificate.new.named _ _
          (λ given two. c.compare_read.ensures.text given _ one.2 two) c.in_ok-certificate.ensures.answer,
    )

pub returns-in_err-instance-clause-reported : goal.returns-in_err-instance-clause-reported
returns-in_err-instance-clause-reported g c =
    let same : c.from_residual.result ≡ Err c.in_err-instance.field-0.0 = propagated _ _ c.from_residual.ensures.1 in
    rw same (0, omega arith, refl)

pub returns-in_err-certificate-clause-reported : goal.returns-in_err-certificate-clause-reported
returns-in_err-certificate-clause-reported g c =
    let same : c.from_residual-in_err-certificate.result ≡ Err c.in_err-certificate.field-0.0 = propagated _ _ c.from_residual-in_err-certificate.ensures.1 in
    rw same (0, omega arith, refl)

pub returns-in_err-instance-clause-asked : goal.returns-in_err-instance-clause-asked
returns-in_err-instance-clause-asked g c = (c.in_err-instance.ensures.asked, named_unasked g.C.Gives.gives c.args.certificate.now)

pub returns-in_err-certificate-clause-asked : goal.returns-in_err-certificate-clause-asked
returns-in_err-certificate-clause-asked g c = (c.in_ok-instance.ensures.asked, c.in_err-certificate.ensures.asked)

pub returns-clause-asked : goal.returns-clause-asked
returns-clause-asked g c = (c.in_ok-instance.ensures.asked, c.in_ok-certificate.ensures.asked)
