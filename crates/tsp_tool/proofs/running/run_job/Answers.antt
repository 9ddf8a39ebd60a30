-- The goals of `run_job` in src/running.rt, which does a job and returns how it ended: what it ensures.
use Rattle.std.proofs.Common.{inl, inr}
use Rattle.std.specs.Prelude.{◌≢◌}
use Rattle.tsp_tool.proofs.Prelude.{◌≡◌, ◌∙◌, refl, sym, subst, List, ℕ, true, false, is_some, Option, None, Some, Result, Ok, Keeps-refl}
use Rattle.std.specs.declared.io.Error.{Error}
use Rattle.tsp_io.specs.Streams.{Sink}
use Rattle.tsp_report.specs.declared.task.Comparison.{Comparison}
use Rattle.tsp_report.specs.declared.task.Task.TheVariants as tasks
use Rattle.tsp_solution.specs.declared.form.Form.{Form}
use Rattle.tsp_tool.specs.FormCheck.{GivesFormCheck}
use Rattle.tsp_tool.specs.FormComparison.{GivesFormComparison}
use Rattle.tsp_tool.specs.ProgramRun.{EndsFormCheck, EndsFormComparison, EndsWith}
use Rattle.tsp_tool.specs.SolutionJobs.{GivesForm}
use Rattle.tsp_tool.specs.JobTasks.{GivesTask}
use Rattle.tsp_tool.specs.declared.ends.RunEnd.{RunEnd}
use Rattle.tsp_tool.specs.declared.ends.RunEnd.TheVariants.{NoJob, Printed, NoTask, Ended, Compared, Solved}
use Rattle.tsp_tool.specs.declared.form_check.FormCheck.{FormCheck}
use Rattle.tsp_tool.specs.declared.job.InputPath.{InputPath}
use Rattle.tsp_tool.specs.declared.job.Job.{Job}
use Rattle.tsp_tool.proofs.running.run_job.Goals as goal

-- a check of a solution in some form ends as its job does
form_ends : {F : Type 0} (remaining : F → Option (List ℕ)) (gives : F → List ℕ → Result ℕ Error → List ℕ → F → Type 0)
    (opens : InputPath → F → Type 0) (job : Job) (check : FormCheck) (sink : Sink) → GivesFormCheck job check → (run_end : RunEnd)
    → EndsFormCheck remaining gives opens check sink run_end → EndsWith remaining gives opens job sink run_end
form_ends remaining gives opens job check sink asked (Ended answer) ends = inr (check, asked, ends)
form_ends remaining gives opens job check sink asked (Solved answer) ends = inr (inl (check, asked, ends.0, ends.1))
form_ends remaining gives opens job check sink asked (NoJob fault) ends = absurd ends
form_ends remaining gives opens job check sink asked (Printed printed) ends = absurd ends
form_ends remaining gives opens job check sink asked (NoTask fault) ends = absurd ends
form_ends remaining gives opens job check sink asked (Compared answer) ends = absurd ends

-- plan: by the job: a solution, no task, no form, a check of a solution in some form (`form_ends`), another task, or a
-- comparison, of solutions in some form (`compared_ends`) or not
pub returns-then-asks_solution : goal.returns-then-asks_solution
returns-then-asks_solution g c =
    let ran = c.run_solution.ensures in
    (ran.0, ran.1, rw (← c.is_explained-explain.ensures) ran.2)

pub returns-in-Err : goal.returns-in-Err
returns-in-Err g c =
    let none = inl (c.asks_solution.ensures.no c.if-asks_solution.false, c.in-Err.ensures) in
    (NoTask c.in-Err.fault, (none, (Keeps-refl _, refl)), (c.status_of_run_end.ensures, rw (← c.is_explained-explain.ensures) c.tell_fault_of_job-reported.ensures))

pub returns-in-Err-form_of : goal.returns-in-Err-form_of
returns-in-Err-form_of g c =
    let none = inr (inl (c.asks_solution.ensures.no c.if-asks_solution.false, (c.in-Ok.task, c.in-Ok.ensures), c.in-Err-form_of.ensures)) in
    (NoTask c.in-Err-form_of.fault, (none, (Keeps-refl _, refl)), (c.status_of_run_end-in-Err-form_of.ensures, rw (← c.is_explained-explain.ensures) c.tell_fault_of_job-reported-in-Err-form_of.ensures))

pub returns-in-Some : goal.returns-in-Some
returns-in-Some g c =
    let ran = c.run_form_check.ensures in
    let gives = subst (λ task. GivesTask c.args.job.now (Ok task)) c.in-Files.is c.in-Ok.ensures in
    let is = c.in-Some.ensures in
    let asked : GivesFormCheck c.args.job.now c.in-Some.check = (
      is.0,
      subst (λ form. GivesForm c.args.job.now.form (Ok form)) (sym is.1) c.in-Ok-form_of.ensures,
      subst (λ task. GivesTask c.args.job.now (Ok (tasks.Files task))) is.2 gives,
    ) in
    (ran.0, form_ends g.F.Read.remaining g.F.Gives.gives (g.O.Open.opens c.args.files.now) c.args.job.now c.in-Some.check _ asked ran.0 ran.1, rw (← c.is_explained-explain.ensures) ran.2)

pub returns-in-None : goal.returns-in-None
returns-in-None g c =
    let ran = c.run_file_task.ensures in
    let gives = subst (λ task. GivesTask c.args.job.now (Ok task)) c.in-Files.is c.in-Ok.ensures in
    (Ended ran.0, inl (c.in-Files.files, gives, c.in-None.ensures, ran.1), rw (← c.is_explained-explain.ensures) ran.2)

-- solutions that are compared in some form end as their job does
compared_ends : {F : Type 0} (remaining : F → Option (List ℕ)) (gives : F → List ℕ → Result ℕ Error → List ℕ → F → Type 0)
    (opens : InputPath → F → Type 0) (job : Job) (form : Option Form) (comparison : Comparison InputPath) (sink : Sink)
    → GivesFormComparison job form comparison → (run_end : RunEnd) → EndsFormComparison remaining gives opens form comparison sink run_end
    → EndsWith remaining gives opens job sink run_end
compared_ends remaining gives opens job form comparison sink asked (Compared answer) ends = inr (form, comparison, asked, ends)
compared_ends remaining gives opens job form comparison sink asked (Solved answer) ends = inr (inr (form, comparison, asked, ends))
compared_ends remaining gives opens job form comparison sink asked (NoJob fault) ends = absurd ends
compared_ends remaining gives opens job form comparison sink asked (Printed printed) ends = absurd ends
compared_ends remaining gives opens job form comparison sink asked (NoTask fault) ends = absurd ends
compared_ends remaining gives opens job form comparison sink asked (Ended answer) ends = absurd ends

-- whether there is a word
none_of : {A : Type 0} (word : Option A) → is_some word ≡ false → word ≡ None
none_of None unnamed = refl
none_of (Some word) unnamed = cc

some_of : {A : Type 0} (word : Option A) → is_some word ≡ true → word ≢ None
some_of None named = cc
some_of (Some word) named = λ none. cc

pub returns-then-is_some : goal.returns-then-is_some
returns-then-is_some g c =
    let ran = c.run_form_comparison.ensures in
    let gives = subst (λ task. GivesTask c.args.job.now (Ok task)) c.in-Compare.is c.in-Ok.ensures in
    let asked : GivesFormComparison c.args.job.now c.in-Ok-form_of.form c.in-Compare.comparison =
    (some_of c.args.job.now.form (sym c.is_some.ensures ∙ c.if-is_some.true), c.in-Ok-form_of.ensures, gives) in (
      ran.0,
      compared_ends g.F.Read.remaining g.F.Gives.gives (g.O.Open.opens c.args.files.now) c.args.job.now c.in-Ok-form_of.form c.in-Compare.comparison _ asked ran.0 ran.1,
      rw (← c.is_explained-explain.ensures) ran.2,
    )

pub returns-else-is_some : goal.returns-else-is_some
returns-else-is_some g c =
    let ran = c.run_comparison.ensures in
    let gives = subst (λ task. GivesTask c.args.job.now (Ok task)) c.in-Compare.is c.in-Ok.ensures in
    let unnamed = none_of c.args.job.now.form (sym c.is_some.ensures ∙ c.if-is_some.false) in
    (Compared ran.0, inl (c.in-Compare.comparison, gives, unnamed, ran.1), rw (← c.is_explained-explain.ensures) ran.2)
