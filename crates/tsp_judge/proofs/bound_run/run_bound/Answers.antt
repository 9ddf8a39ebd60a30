-- The goals of `run_bound` in src/bound_run.rt, which bounds the tours of an instance by a certificate: what it
-- ensures.
use Rattle.tsp_judge.proofs.Prelude.{◌≡◌, Err, [], refl, Keeps-refl, read_trace_of, read_none, propagated}
use Rattle.tsp_judge.proofs.Yeses.{none_taken}
use Rattle.tsp_judge.proofs.Bounding.{bound_first_stops, bound_second_stops, bound_fault_of}
use Rattle.tsp_judge.proofs.bound_run.run_bound.Goals as goal

-- plan: by the first file that isn't valid (`bound_first_stops`, `bound_second_stops`); else both are files
pub returns-in_err-instance-clause-answer : goal.returns-in_err-instance-clause-answer
returns-in_err-instance-clause-answer g c =
    let same : c.from_residual.result ≡ Err c.in_err-instance.field-0.0 = propagated _ _ c.from_residual.ensures.1 in
    let one = c.in_err-instance.ensures.answer in
    rw same (
      one.0,
      one.1,
      (
        [],
        none_taken,
        bound_fault_of c.args.strict _ _ _ _ _
            (bound_first_stops c.args.strict _ (read_trace_of g.I.Read.remaining c.args.inst.now c.read_file.new.reader one.0) _ _ _ one.2 (Keeps-refl _, refl) (Keeps-refl _, refl)),
      ),
    )

pub returns-in_err-certificate-clause-answer : goal.returns-in_err-certificate-clause-answer
returns-in_err-certificate-clause-answer g c =
    let same : c.from_residual-in_err-certificate.result ≡ Err c.in_err-certificate.field-0.0 = propagated _ _ c.from_residual-in_err-certificate.ensures.1 in
    let one = c.in_ok-instance.ensures.answer in
    let two = c.in_err-certificate.ensures.answer in
    rw same (
      one.0,
      one.1,
      (
        two.0,
        two.1,
        bound_fault_of c.args.strict _ _ _ _ _
            (bound_second_stops c.args.strict _ _ (read_trace_of g.C.Read.remaining c.args.cert.now c.read_file-2.new.reader two.0) c.in_ok-instance.instance _ _ one.2 two.2 (Keeps-refl _, refl)),
      ),
    )

pub returns-clause-answer : goal.returns-clause-answer
returns-clause-answer g c =
    let one = c.in_ok-instance.ensures.answer in
    let two = c.in_ok-certificate.ensures.answer in
    (one.0, one.1, (two.0, two.1, c.bound_read.ensures _ _ one.2 two.2))

pub returns-in_err-instance-clause-asked : goal.returns-in_err-instance-clause-asked
returns-in_err-instance-clause-asked g c = (c.in_err-instance.ensures.asked, read_none g.C.Gives.gives c.args.cert.now)

pub returns-in_err-certificate-clause-asked : goal.returns-in_err-certificate-clause-asked
returns-in_err-certificate-clause-asked g c = (c.in_ok-instance.ensures.asked, c.in_err-certificate.ensures.asked)

pub returns-clause-asked : goal.returns-clause-asked
returns-clause-asked g c = (c.in_ok-instance.ensures.asked, c.in_ok-certificate.ensures.asked)
