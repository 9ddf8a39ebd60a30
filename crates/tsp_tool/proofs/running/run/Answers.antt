-- The goals of `run` in src/running.rt, which does what a command line asks for: what it ensures.
use Rattle.tsp_tool.proofs.Prelude.{◌≡◌, ◌||◌, ℕ, Bool, false, List, Option, Result, refl, sym, ◌∙◌, ap, subst, map, drop, Ok, Err, OnOk, Keeps-refl, Text, string_bytes}
use Rattle.std.specs.declared.io.Error.{Error}
use Rattle.clap.specs.declared.error.Error.{Error as Refusal}
use Rattle.tsp_io.specs.Streams.{Sink}
use Rattle.tsp_tool.specs.Grammar.{GivesJob}
use Rattle.tsp_tool.specs.declared.job.InputPath.{InputPath}
use Rattle.tsp_tool.specs.declared.job.Job.{Job}
use Rattle.tsp_tool.specs.declared.job.JobFault.TheVariants.{OutOfMemory, Refused}
use Rattle.tsp_tool.specs.declared.ends.RunEnd.{RunEnd}
use Rattle.tsp_tool.specs.declared.ends.RunEnd.TheVariants.{NoJob, Printed, NoTask, Ended, Compared, Solved}
use Rattle.tsp_io.specs.states.Output.{sink_of}
use Rattle.tsp_tool.specs.RunEnd.{Tells, TellsAll}
use Rattle.tsp_tool.specs.ProgramRun.{EndsProgram, EndsRefused, EndsWith}
use Rattle.tsp_tool.proofs.running.run.Goals as goal

pub returns-in_default-clause-ends : goal.returns-in_default-clause-ends
returns-in_default-clause-ends g c =
    (false, NoJob OutOfMemory, (tt, (λ asks. asks), (λ asks. asks), (Keeps-refl _, refl), refl), (c.end.ensures.status, c.end.ensures.reported))

pub returns-in-Err-OutOfMemory-clause-ends : goal.returns-in-Err-OutOfMemory-clause-ends
returns-in-Err-OutOfMemory-clause-ends g c = (
  false,
  NoJob OutOfMemory,
  (tt, (λ asks. asks), (λ asks. asks), (Keeps-refl _, refl), refl),
  (c.end-in-Err-OutOfMemory.ensures.status, c.end-in-Err-OutOfMemory.ensures.reported),
)

-- a run ends as refused words do
ends_refused : {F : Type 0} (remaining : F → Option (List ℕ)) (reads : F → List ℕ → Result ℕ Error → List ℕ → F → Type 0) (opens : InputPath → F → Type 0) (on_terminal : Bool) (build : Text)
    (words : List Text) (sink : Sink) (refusal : Refusal) → GivesJob (drop 1 words) (Err (Refused refusal)) → (run_end : RunEnd)
    → EndsRefused build (drop 1 words) sink refusal run_end → EndsProgram remaining reads opens on_terminal build words sink false run_end
ends_refused remaining reads opens on_terminal build words sink refusal gives (NoJob fault) ends = rw ends.0 (gives, ends.1, ends.2, ends.3, refl)
ends_refused remaining reads opens on_terminal build words sink refusal gives (Printed printed) ends = (Refused refusal, gives, ends, refl)
ends_refused remaining reads opens on_terminal build words sink refusal gives (NoTask fault) ends = absurd ends
ends_refused remaining reads opens on_terminal build words sink refusal gives (Ended answer) ends = absurd ends
ends_refused remaining reads opens on_terminal build words sink refusal gives (Compared answer) ends = absurd ends
ends_refused remaining reads opens on_terminal build words sink refusal gives (Solved answer) ends = absurd ends

-- and no more than its line is reported
tells_refused : (build : Text) (words : List Text) (sink : Sink) (refusal : Refusal) (run_end : RunEnd) → EndsRefused build words sink refusal run_end
    → (old new : Option (List ℕ)) → Tells run_end old new → TellsAll false run_end old new
tells_refused build words sink refusal (NoJob fault) ends old new reported = reported
tells_refused build words sink refusal (Printed printed) ends old new reported = reported
tells_refused build words sink refusal (NoTask fault) ends old new reported = absurd ends
tells_refused build words sink refusal (Ended answer) ends old new reported = absurd ends
tells_refused build words sink refusal (Compared answer) ends old new reported = absurd ends
tells_refused build words sink refusal (Solved answer) ends old new reported = absurd ends

on_ok : {A B : Type 0} (r : Result A B) (P Q : Type 0) → (P → Q) → OnOk r P → OnOk r Q
on_ok (Ok a) P Q f reported = f reported
on_ok (Err b) P Q f reported = reported

-- plan: by the words: refused (`ends_refused`), or a job, whose end is the run's (`ends_as_its_job`)
pub returns-in-Err-Refused-clause-ends : goal.returns-in-Err-Refused-clause-ends
returns-in-Err-Refused-clause-ends g c =
    let words : List Text = map string_bytes c.args.line.now in
    let refusal : Refusal = c.in-Err-Refused.refusal in
    let sink : Sink = sink_of g.W.Takes.contents c.args.out.now c.end_of_refusal-run_end.new.out in
    let run_end : RunEnd = c.end_of_refusal-run_end.result in
    let old = g.E.Write.contents c.args.errors.now in
    let new = g.E.Write.contents c.end_refused.new.errors in
    let gives = subst (λ fault. GivesJob (map (λ word. word.now) c.deref.result.now) (Err fault)) c.in-Err-Refused.field-0-is c.in-Err-Refused.ensures in
    let given = subst (λ words. GivesJob words (Err (Refused refusal))) (ap (map (λ word. word.now)) c.deref.ensures.value ∙ c.in-Ok.ensures) gives in
    let ended = subst (λ words. EndsRefused c.args.host_context.build.now words sink refusal run_end) (ap (map (λ word. word.now)) c.deref-in-Err-Refused.ensures.value ∙ c.in-Ok.ensures) c.end_of_refusal-run_end.ensures in
    let ends = ends_refused g.F.Read.remaining g.F.Gives.gives (g.O.Open.opens c.args.files.now) c.args.host_context.on_terminal c.args.host_context.build.now words sink refusal given run_end ended in (
      false,
      run_end,
      ends,
      (
        c.end_refused.ensures.status,
        on_ok c.end_refused.result.1 _ _ (tells_refused c.args.host_context.build.now (drop 1 words) sink refusal run_end ended old new) c.end_refused.ensures.reported,
      ),
    )

-- a run ends as its job does
ends_as_its_job : {F : Type 0} (remaining : F → Option (List ℕ)) (reads : F → List ℕ → Result ℕ Error → List ℕ → F → Type 0) (opens : InputPath → F → Type 0) (on_terminal : Bool) (build : Text)
    (words : List Text) (sink : Sink) (job : Job) → GivesJob (drop 1 words) (Ok job) → (run_end : RunEnd)
    → EndsWith remaining reads opens job sink run_end → EndsProgram remaining reads opens on_terminal build words sink (job.explain || on_terminal) run_end
ends_as_its_job remaining reads opens on_terminal build words sink job gives (NoJob fault) ends = absurd ends
ends_as_its_job remaining reads opens on_terminal build words sink job gives (Printed printed) ends = absurd ends
ends_as_its_job remaining reads opens on_terminal build words sink job gives (NoTask fault) ends = (job, gives, ends, refl)
ends_as_its_job remaining reads opens on_terminal build words sink job gives (Ended answer) ends = (job, gives, ends, refl)
ends_as_its_job remaining reads opens on_terminal build words sink job gives (Compared answer) ends = (job, gives, ends, refl)
ends_as_its_job remaining reads opens on_terminal build words sink job gives (Solved answer) ends = (job, gives, ends, refl)

pub returns-clause-ends : goal.returns-clause-ends
returns-clause-ends g c =
    let job = c.in-Ok-job_of.job in
    let ran = c.run_job-answer.ensures in
    let gives = subst (λ words. GivesJob words (Ok job)) (ap (map (λ word. word.now)) c.deref.ensures.value ∙ c.in-Ok.ensures) c.in-Ok-job_of.ensures in
    let ends = ends_as_its_job g.F.Read.remaining g.F.Gives.gives (g.O.Open.opens c.args.files.now) c.args.host_context.on_terminal c.args.host_context.build.now
    (map string_bytes c.args.line.now) (sink_of g.W.Takes.contents c.args.out.now c.run_job-answer.new.out) job gives ran.0 ran.1 in
    (job.explain || c.args.host_context.on_terminal, ran.0, ends, ran.2)
