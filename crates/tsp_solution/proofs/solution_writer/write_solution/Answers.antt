-- The goals of `write_solution` in src/solution_writer.rt, which reads a solution and writes it anew: what it ensures.
use Rattle.std.proofs.Common.{◌≡◌, ◌∙◌, ℕ, List, Ok, Err, refl, inl, inr, subst}
use Rattle.std.proofs.KnownBytes.{Keeps-refl}
use Rattle.tsp_io.specs.Streams.{ReadTrace, Sink}
use Rattle.tsp_io.specs.states.Output.{sink_of}
use Rattle.tsp_io.specs.states.Watched.{read_trace_of}
use Rattle.tsp_solution.specs.SolutionRun.{GivesHints, IsSolutionRun, WritesRead}
use Rattle.tsp_solution.specs.declared.solution_writer.SolutionRunFault.TheVariants.{File}
use Rattle.tsp_solution.proofs.Instances.{takes_also, run_of}
use Rattle.tsp_solution.proofs.solution_writer.write_solution.Goals as goal

-- plan: the text of the solution was read; then the instance has a fault, or gives the hints by which the text is written
-- (`run_of`)
pub returns-in-Err-hints_for-clause-answer : goal.returns-in-Err-hints_for-clause-answer
returns-in-Err-hints_for-clause-answer g c =
    let read = c.in-Ok.ensures.answer in
    let first : ReadTrace = read_trace_of g.R.Read.remaining c.args.solution.now c.read_text.new.reader read.0 in
    let sink : Sink = sink_of g.W.Takes.contents c.args.out.now c.args.out.now in
    let fault = c.in-Err-hints_for.fault in (
      read.0,
      read.1,
      takes_also g.I.Read.remaining c.args.instance.now c.hints_for.new.instance (λ second. GivesHints c.args.hints second (Err fault))
          (λ second. IsSolutionRun c.args.hints first second sink (Err (File 2 fault)))
          (λ second given. ((Keeps-refl _, refl), inr (inl (refl, read.2.0, given)))) c.in-Err-hints_for.ensures.answer,
    )

pub returns-clause-answer : goal.returns-clause-answer
returns-clause-answer g c =
    let read = c.in-Ok.ensures.answer in
    let first : ReadTrace = read_trace_of g.R.Read.remaining c.args.solution.now c.read_text.new.reader read.0 in
    let sink : Sink = sink_of g.W.Takes.contents c.args.out.now c.write_read-written.new.out in
    let known = c.in-Ok-hints_for.known in
    let written = subst (λ (xs : List ℕ). WritesRead known xs sink c.write_read-written.result) (c.deref.ensures.value ∙ read.2.1) c.write_read-written.ensures in (
      read.0,
      read.1,
      takes_also g.I.Read.remaining c.args.instance.now c.hints_for.new.instance (λ second. GivesHints c.args.hints second (Ok known))
          (λ second. IsSolutionRun c.args.hints first second sink c.write_read-written.result)
          (λ second given. run_of c.args.hints known first second sink c.write_read-written.result read.2.0 given written)
          c.in-Ok-hints_for.ensures.answer,
    )
