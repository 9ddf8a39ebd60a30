-- The goals of `compare_one` in src/compare_run.rt, which opens, reads and judges a solution and writes its line: what
-- its call requires and what it ensures.
use Rattle.tsp_judge.proofs.Prelude.{◌≡◌, List, [], refl, sym, subst, subst₂, Keeps-refl, IfOk, Result, Err, slice_index_or, sink_of, read_trace_of, HasWritten, Writes, solution_line, IsSized, propagated}
use Rattle.tsp_judge.proofs.Comparing.{found_sized, one_refused, one_stopped, read_trace_at}
use Rattle.tsp_judge.specs.CompareRun.{IsReadTraceAt, result_of}
use Rattle.tsp_judge.proofs.compare_run.compare_one.Goals as goal

-- plan: by the solution: memory is refused (`one_refused`), the writer fails (`one_stopped`), or its line is written
pub write_line-requires : goal.write_line-requires
write_line-requires g c =
    let found = c.in_ok-found.ensures.found in
    subst (λ r. IfOk r IsSized) (sym c.result.ensures) (found_sized c.args.common.now (read_trace_of g.R.Read.remaining c.new-reader.result c.find.new.reader found.0) _ found.2)

pub returns-in-Ok-write_line : goal.returns-in-Ok-write_line
returns-in-Ok-write_line g c =
    let found = c.in_ok-found.ensures.found in
    let read_trace = read_trace_of g.R.Read.remaining c.new-reader.result c.find.new.reader found.0 in
    let opened = read_trace_at g.R.Read.remaining g.R.Gives.gives (g.S.Solutions.opens c.args.solutions.now) c.args.index c.in-Ok.reader c.new-reader.result c.find.new.reader found.0
    c.in-Ok.ensures c.new-reader.ensures.inner c.new-reader.ensures.sound c.in_ok-found.ensures.asked found.1 in (
      read_trace,
      opened,
      found.2,
      subst₂ (λ r (path : List _). HasWritten (sink_of g.W.Takes.contents c.args.out.now c.write_line.new.out) (solution_line r path)) c.result.ensures c.name.ensures c.in-Ok-write_line.ensures,
    )

pub returns : goal.returns
returns g c =
    let found = c.in_ok-found.ensures.found in
    let read_trace = read_trace_of g.R.Read.remaining c.new-reader.result c.find.new.reader found.0 in
    let opened = read_trace_at g.R.Read.remaining g.R.Gives.gives (g.S.Solutions.opens c.args.solutions.now) c.args.index c.in-Ok.reader c.new-reader.result c.find.new.reader found.0
    c.in-Ok.ensures c.new-reader.ensures.inner c.new-reader.ensures.sound c.in_ok-found.ensures.asked found.1 in
    rw c.unwritten.ensures
    (one_stopped (IsReadTraceAt g.R.Read.remaining g.R.Gives.gives (g.S.Solutions.opens c.args.solutions.now)) (g.S.Solutions.names c.args.solutions.now) c.args.common.now c.args.index
    (sink_of g.W.Takes.contents c.args.out.now c.write_line.new.out) read_trace _ c.in-Err-write_line.fault opened found.2
    (subst₂ (λ r (path : List _). Writes (sink_of g.W.Takes.contents c.args.out.now c.write_line.new.out) (solution_line r path) (Err c.in-Err-write_line.fault)) c.result.ensures c.name.ensures
    c.in-Err-write_line.ensures))

pub returns-in_err-found : goal.returns-in_err-found
returns-in_err-found g c =
    let same : c.from_residual.result ≡ Err c.in_err-found.field-0.0 = propagated _ _ c.from_residual.ensures.1 in
    let found = c.in_err-found.ensures.found in
    let read_trace = read_trace_of g.R.Read.remaining c.new-reader.result c.find.new.reader found.0 in
    let opened = read_trace_at g.R.Read.remaining g.R.Gives.gives (g.S.Solutions.opens c.args.solutions.now) c.args.index c.in-Ok.reader c.new-reader.result c.find.new.reader found.0
    c.in-Ok.ensures c.new-reader.ensures.inner c.new-reader.ensures.sound c.in_err-found.ensures.asked found.1 in
    rw same (one_refused (IsReadTraceAt g.R.Read.remaining g.R.Gives.gives (g.S.Solutions.opens c.args.solutions.now)) (g.S.Solutions.names c.args.solutions.now) c.args.common.now
    c.args.index (sink_of g.W.Takes.contents c.args.out.now c.args.out.now) read_trace _ opened found.2 (Keeps-refl _, refl))
