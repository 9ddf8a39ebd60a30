-- The goals of `show_file` in src/convert_run.rt: what it ensures.
use Rattle.tsp_judge.proofs.Prelude.{◌≡◌, Err, refl, Keeps-refl, read_trace_of, sink_of, propagated}
use Rattle.tsp_judge.proofs.Bounding.{show_stopped, show_stops}
use Rattle.tsp_judge.proofs.convert_run.show_file.Goals as goal

pub returns-in_err-file-clause-answer : goal.returns-in_err-file-clause-answer
returns-in_err-file-clause-answer g c =
    let same : c.from_residual.result ≡ Err c.in_err-file.field-0.0 = propagated _ _ c.from_residual.ensures.1 in
    let read = c.in_err-file.ensures.answer in rw same (read.0, read.1, show_stops (read_trace_of g.R.Read.remaining c.args.r.now c.read_file.new.reader read.0) _ _ read.2 (Keeps-refl _, refl))

-- plan: by how it ends: no file (`show_stops`), a failed write (`show_stopped`), or the text
pub returns-in-Err-clause-answer : goal.returns-in-Err-clause-answer
returns-in-Err-clause-answer g c = let read = c.in_ok-file.ensures.answer in rw c.unwritten.ensures (
  read.0,
  read.1,
  show_stopped (read_trace_of g.R.Read.remaining c.args.r.now c.read_file.new.reader read.0) (sink_of g.W.Takes.contents c.args.out.now c.write_shown.new.out)
      c.in_ok-file.file c.in-Err.fault read.2 c.in-Err.ensures,
)

pub returns-in-Ok-clause-answer : goal.returns-in-Ok-clause-answer
returns-in-Ok-clause-answer g c = let read = c.in_ok-file.ensures.answer in (read.0, read.1, (c.in_ok-file.file, read.2, c.in-Ok.ensures))
