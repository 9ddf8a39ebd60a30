-- The goals of `check_solution` in src/check_run.rt, which checks a solution, with a certificate if one is named: what
-- it ensures.
use Rattle.tsp_judge.proofs.Prelude.{◌≡◌, Err, [], refl, Keeps-refl, read_trace_of, read_none, propagated}
use Rattle.tsp_judge.proofs.Yeses.{none_taken, first_stops, second_stops, third_stops, fault_of_run}
use Rattle.tsp_judge.proofs.NamedReaders.{named_by, named_unread, named_unasked}
use Rattle.tsp_judge.proofs.check_run.check_solution.Goals as goal

-- plan: by the first file that isn't valid (`first_stops`, `second_stops`, `third_stops`); else all are files
pub returns-in_err-instance-clause-answer : goal.returns-in_err-instance-clause-answer
returns-in_err-instance-clause-answer g c =
    let same : c.from_residual.result ≡ Err c.in_err-instance.field-0.0 = propagated _ _ c.from_residual.ensures.1 in
    let one = c.in_err-instance.ensures.answer in
    rw same (
      one.0,
      one.1,
      (
        [],
        none_taken,
        named_unread g.C.Read.remaining c.args.certificate.now _ (λ given unread. fault_of_run c.args.strict given _ _ _ _ _
            (first_stops c.args.strict given _ (read_trace_of g.I.Read.remaining c.args.inst.now c.read_file.new.reader one.0) _ _ _ one.2 (Keeps-refl _, refl)
            unread (Keeps-refl _, refl))),
      ),
    )

pub returns-in_err-solution-clause-answer : goal.returns-in_err-solution-clause-answer
returns-in_err-solution-clause-answer g c =
    let same : c.from_residual-in_err-solution.result ≡ Err c.in_err-solution.field-0.0 = propagated _ _ c.from_residual-in_err-solution.ensures.1 in
    let one = c.in_ok-instance.ensures.answer in
    let two = c.in_err-solution.ensures.answer in
    rw same (
      one.0,
      one.1,
      (
        two.0,
        two.1,
        named_unread g.C.Read.remaining c.args.certificate.now _ (λ given unread. fault_of_run c.args.strict given _ _ _ _ _
            (second_stops c.args.strict given _ _ (read_trace_of g.S.Read.remaining c.args.sol.now c.read_file-2.new.reader two.0) c.in_ok-instance.instance _ _ one.2 two.2
            unread (Keeps-refl _, refl))),
      ),
    )

pub returns-in_err-certificate-clause-answer : goal.returns-in_err-certificate-clause-answer
returns-in_err-certificate-clause-answer g c =
    let same : c.from_residual-in_err-certificate.result ≡ Err c.in_err-certificate.field-0.0 = propagated _ _ c.from_residual-in_err-certificate.ensures.1 in
    let one = c.in_ok-instance.ensures.answer in
    let two = c.in_ok-solution.ensures.answer in
    rw same (
      one.0,
      one.1,
      (
        two.0,
        two.1,
        named_by g.C.Read.remaining c.args.certificate.now c.read_certificate.new.named _ _ (λ given three. fault_of_run c.args.strict given _ _ _ _ _
            (third_stops c.args.strict given _ _ _ c.in_ok-instance.instance c.in_ok-solution.solution _ _ one.2 two.2 three (Keeps-refl _, refl)))
            c.in_err-certificate.ensures.answer,
      ),
    )

pub returns-clause-answer : goal.returns-clause-answer
returns-clause-answer g c =
    let one = c.in_ok-instance.ensures.answer in
    let two = c.in_ok-solution.ensures.answer in (
      one.0,
      one.1,
      (
        two.0,
        two.1,
        named_by g.C.Read.remaining c.args.certificate.now c.read_certificate.new.named _ _
            (λ given three. c.judge_read.ensures given _ _ one.2 two.2 three) c.in_ok-certificate.ensures.answer,
      ),
    )

pub returns-in_err-instance-clause-asked : goal.returns-in_err-instance-clause-asked
returns-in_err-instance-clause-asked g c = (c.in_err-instance.ensures.asked, read_none g.S.Gives.gives c.args.sol.now, named_unasked g.C.Gives.gives c.args.certificate.now)

pub returns-in_err-solution-clause-asked : goal.returns-in_err-solution-clause-asked
returns-in_err-solution-clause-asked g c = (c.in_ok-instance.ensures.asked, c.in_err-solution.ensures.asked, named_unasked g.C.Gives.gives c.args.certificate.now)

pub returns-in_err-certificate-clause-asked : goal.returns-in_err-certificate-clause-asked
returns-in_err-certificate-clause-asked g c = (c.in_ok-instance.ensures.asked, c.in_ok-solution.ensures.asked, c.in_err-certificate.ensures.asked)

pub returns-clause-asked : goal.returns-clause-asked
returns-clause-asked g c = (c.in_ok-instance.ensures.asked, c.in_ok-solution.ensures.asked, c.in_ok-certificate.ensures.asked)
