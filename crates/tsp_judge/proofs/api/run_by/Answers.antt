-- The goals of `run_by` in src/api.rt, which checks a solution with a certificate: what it ensures.
use Rattle.tsp_judge.proofs.Prelude.{◌≡◌, Err, [], None, Some, false, refl, Keeps-refl, read_trace_of, read_none, propagated}
use Rattle.tsp_judge.proofs.Yeses.{none_taken, first_stops, second_stops, third_stops, fault_of_run}
use Rattle.tsp_judge.proofs.api.run_by.Goals as goal

-- plan: by the first file that isn't valid (`first_stops`, `second_stops`, `third_stops`); else all are files
pub returns-in_err-instance-clause-answer : goal.returns-in_err-instance-clause-answer
returns-in_err-instance-clause-answer g c =
    let same : c.from_residual.result ≡ Err c.in_err-instance.field-0.0 = propagated _ _ c.from_residual.ensures.1 in
    let one = c.in_err-instance.ensures.answer in
    rw same (
      one.0,
      one.1,
      (
        [],
        none_taken,
        (
          [],
          none_taken,
          fault_of_run false (Some (c.args.by, read_trace_of g.C.Read.remaining c.args.cert.now c.args.cert.now [])) None _ _ _ _
              (first_stops false (Some (c.args.by, read_trace_of g.C.Read.remaining c.args.cert.now c.args.cert.now [])) None (read_trace_of g.I.Read.remaining c.args.inst.now c.read_file.new.reader one.0) _ _ _ one.2 (Keeps-refl _, refl)
              (Keeps-refl _, refl) (Keeps-refl _, refl)),
        ),
      ),
    )

pub returns-in_err-solution-clause-answer : goal.returns-in_err-solution-clause-answer
returns-in_err-solution-clause-answer g c =
    let same : c.from_residual-in_err-solution.result ≡ Err c.in_err-solution.field-0.0 = propagated _ _ c.from_residual-in_err-solution.ensures.1 in
    let one = c.in_ok-instance.ensures.answer in
    let two = c.in_err-solution.ensures.answer in
    rw same (
      one.0,
      one.1,
      (
        two.0,
        two.1,
        (
          [],
          none_taken,
          fault_of_run false (Some (c.args.by, read_trace_of g.C.Read.remaining c.args.cert.now c.args.cert.now [])) None _ _ _ _
              (second_stops false (Some (c.args.by, read_trace_of g.C.Read.remaining c.args.cert.now c.args.cert.now [])) None _ (read_trace_of g.S.Read.remaining c.args.sol.now c.read_file-2.new.reader two.0) c.in_ok-instance.instance _ _ one.2 two.2
              (Keeps-refl _, refl) (Keeps-refl _, refl)),
        ),
      ),
    )

pub returns-in_err-read_file-clause-answer : goal.returns-in_err-read_file-clause-answer
returns-in_err-read_file-clause-answer g c =
    let same : c.from_residual-in_err-read_file.result ≡ Err c.in_err-read_file.field-0.0 = propagated _ _ c.from_residual-in_err-read_file.ensures.1 in
    let one = c.in_ok-instance.ensures.answer in
    let two = c.in_ok-solution.ensures.answer in
    let three = c.in_err-read_file.ensures.answer in
    rw same (
      one.0,
      one.1,
      (
        two.0,
        two.1,
        (
          three.0,
          three.1,
          fault_of_run false (Some (c.args.by, read_trace_of g.C.Read.remaining c.args.cert.now c.read_file-3.new.reader three.0)) None _ _ _ _
              (third_stops false (Some (c.args.by, read_trace_of g.C.Read.remaining c.args.cert.now c.read_file-3.new.reader three.0)) None _ _ c.in_ok-instance.instance c.in_ok-solution.solution _ _ one.2 two.2 three.2 (Keeps-refl _, refl)),
        ),
      ),
    )

pub returns-clause-answer : goal.returns-clause-answer
returns-clause-answer g c =
    let one = c.in_ok-instance.ensures.answer in
    let two = c.in_ok-solution.ensures.answer in
    let three = c.in_ok-read_file.ensures.answer in
    (one.0, one.1, (two.0, two.1, (three.0, three.1, c.judge_read.ensures (Some (c.args.by, read_trace_of g.C.Read.remaining c.args.cert.now c.read_file-3.new.reader three.0)) _ _ one.2 two.2 (refl, three.2))))

pub returns-in_err-instance-clause-asked : goal.returns-in_err-instance-clause-asked
returns-in_err-instance-clause-asked g c = (c.in_err-instance.ensures.asked, read_none g.S.Gives.gives c.args.sol.now, read_none g.C.Gives.gives c.args.cert.now)

pub returns-in_err-solution-clause-asked : goal.returns-in_err-solution-clause-asked
returns-in_err-solution-clause-asked g c = (c.in_ok-instance.ensures.asked, c.in_err-solution.ensures.asked, read_none g.C.Gives.gives c.args.cert.now)

pub returns-in_err-read_file-clause-asked : goal.returns-in_err-read_file-clause-asked
returns-in_err-read_file-clause-asked g c = (c.in_ok-instance.ensures.asked, c.in_ok-solution.ensures.asked, c.in_err-read_file.ensures.asked)

pub returns-clause-asked : goal.returns-clause-asked
returns-clause-asked g c = (c.in_ok-instance.ensures.asked, c.in_ok-solution.ensures.asked, c.in_ok-read_file.ensures.asked)
