-- The goals of `convert_file` in src/convert_run.rt: what it ensures.
use Rattle.tsp_judge.proofs.Prelude.{◌≡◌, Err, refl, Keeps-refl, read_trace_of, sink_of, propagated}
use Rattle.tsp_judge.proofs.Bounding.{converted, convert_stopped, convert_stops}
use Rattle.tsp_judge.proofs.convert_run.convert_file.Goals as goal

pub returns-in_err-file-clause-answer : goal.returns-in_err-file-clause-answer
returns-in_err-file-clause-answer g c =
    let same : c.from_residual.result ≡ Err c.in_err-file.field-0.0 = propagated _ _ c.from_residual.ensures.1 in
    let read = c.in_err-file.ensures.answer in rw same (read.0, read.1, convert_stops c.args.to (read_trace_of g.R.Read.remaining c.args.r.now c.read_file.new.reader read.0) _ _ read.2 (Keeps-refl _, refl))

pub returns-in-Err-clause-answer : goal.returns-in-Err-clause-answer
returns-in-Err-clause-answer g c = let read = c.in_ok-file.ensures.answer in
    rw c.not_relaid.ensures (read.0, read.1, (c.in_ok-file.file, read.2, c.in-Err.ensures, (Keeps-refl _, refl)))

-- plan: by how it ends: no file, a layout that can't be, a failed write, or the text (`converted`)
pub returns-in-Err-written-clause-answer : goal.returns-in-Err-written-clause-answer
returns-in-Err-written-clause-answer g c = let read = c.in_ok-file.ensures.answer in
    let read_trace = read_trace_of g.R.Read.remaining c.args.r.now c.read_file.new.reader read.0 in rw c.unwritten.ensures (
      read.0,
      read.1,
      convert_stopped c.args.to read_trace (sink_of g.W.Takes.contents c.args.out.now c.write_file-written.new.out) c.in-Ok.converted c.in-Err-written.fault
          (converted c.args.to read_trace c.in_ok-file.file c.in-Ok.converted read.2 c.in-Ok.ensures c.write_file-written.ensures.valid)
          c.in-Err-written.ensures.written,
    )
