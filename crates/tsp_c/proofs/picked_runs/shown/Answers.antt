-- The goals of `shown` in src/picked_runs.rt, which returns what `show` prints of a text: what it ensures.
use Rattle.tsp_c.proofs.Prelude.{◌∙◌, ap, refl, Some, ReadTrace, Sink, read_trace_of, sink_of}
use Rattle.tsp_c.proofs.PickedRuns.{shows}
use Rattle.tsp_c.proofs.picked_runs.shown.Goals as goal

-- plan: a reader over the text delivers its bytes, so the lines written show the file of the text (`shows`)
pub returns : goal.returns
returns c =
    let run = c.show_file.ensures.answer in
    let read_trace : ReadTrace = read_trace_of (λ s. Some s.now) c.new-reader.result c.show_file.new.r run.0 in
    let sink : Sink = sink_of (λ v. Some v.items) c.new-report.result c.show_file.new.out in
    shows read_trace sink c.show_file.result _ _ _ _ run.2 (ap (λ s. Some s.now) c.new-reader.ensures.inner)
    (record { held = ap (λ v. Some v.items) c.new-report.ensures.inner ∙ ap Some c.new.ensures.items; holds = refl })
    (rw c.done-answer.ensures at c.ended.ensures)
