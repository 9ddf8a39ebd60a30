-- The goals of `bounded` in src/picked_runs.rt, which bounds the tours of a text's instance by the certificate of
-- another: what its calls require and what it ensures.
use Rattle.tsp_c.proofs.Prelude.{◌∙◌, ap, refl, Some, Sink, ReadTrace, sink_of, read_trace_of}
use Rattle.tsp_c.proofs.InNumbers.{sized_bound_run, tells_bound}
use Rattle.tsp_c.proofs.PickedRuns.{bounds_texts}
use Rattle.tsp_c.proofs.picked_runs.bounded.Goals as goal

-- plan: the bound fits (`sized_bound_run`). The readers deliver the texts, so the end of the run is of these, in words
-- (`bounds_texts`) and in numbers (`tells_bound`)
pub of_bound_run-numbers-requires : goal.of_bound_run-numbers-requires
of_bound_run-numbers-requires c = let first = c.run_bound-found.ensures.answer in let second = first.2 in
    let one : ReadTrace = read_trace_of (λ s. Some s.now) c.new-first.result c.run_bound-found.new.inst first.0 in
    let two : ReadTrace = read_trace_of (λ s. Some s.now) c.new-second.result c.run_bound-found.new.cert second.0 in
    let sink : Sink = sink_of (λ v. Some v.items) c.new-report.result c.run_bound-found.new.out in
    sized_bound_run c.args.by c.args.strict one two sink c.run_bound-found.result second.2.0

pub returns-clause-texts : goal.returns-clause-texts
returns-clause-texts c = let first = c.run_bound-found.ensures.answer in let second = first.2 in
    bounds_texts c.args.by c.args.strict _ _ _ c.run_bound-found.result _ _ _ _ _
    (record {
      first_is = ap (λ s. Some s.now) c.new-first.ensures.inner;
      second_is = ap (λ s. Some s.now) c.new-second.ensures.inner;
    })
    (record { held = ap (λ v. Some v.items) c.new-report.ensures.inner ∙ ap Some c.new.ensures.items; holds = refl })
    second.2 (rw c.bound_answer.ensures at c.ended-answer.ensures)

pub returns-clause-numbers : goal.returns-clause-numbers
returns-clause-numbers c = let first = c.run_bound-found.ensures.answer in let second = first.2 in
    let one : ReadTrace = read_trace_of (λ s. Some s.now) c.new-first.result c.run_bound-found.new.inst first.0 in
    let two : ReadTrace = read_trace_of (λ s. Some s.now) c.new-second.result c.run_bound-found.new.cert second.0 in
    let sink : Sink = sink_of (λ v. Some v.items) c.new-report.result c.run_bound-found.new.out in
    tells_bound c.args.by c.args.strict one two sink c.run_bound-found.result _ _ _ _ _ _ _
    (record {
      first_is = ap (λ s. Some s.now) c.new-first.ensures.inner;
      second_is = ap (λ s. Some s.now) c.new-second.ensures.inner;
    })
    second.2.0 c.of_bound_run-numbers.ensures c.numbers-call_result.ensures.kept c.numbers-call_result.ensures.none (rw c.bound_answer.ensures at c.ended-answer.ensures)
