-- The goals of `run_solution` in src/solution_run.rt, which writes a solution anew or lists the forms: what it ensures.
use Rattle.std.proofs.Common.{inl, inr}
use Rattle.tsp_tool.proofs.Prelude.{refl, Keeps-refl}
use Rattle.tsp_tool.specs.declared.ends.RunEnd.TheVariants.{NoTask, Solved}
use Rattle.tsp_tool.proofs.solution_run.run_solution.Goals as goal

-- plan: by the job: the forms, a solution, or none
pub returns-then-job : goal.returns-then-job
returns-then-job g c =
    (Solved c.list_forms.result, inl (c.requires, inl (c.if-job.true, c.list_forms.ensures)), (c.tell_solved.ensures.status, c.tell_solved.ensures.told))

pub returns-in-Ok : goal.returns-in-Ok
returns-in-Ok g c =
    (Solved c.solve-solved.result, inl (c.requires, inr (c.in-Ok.task, c.in-Ok.ensures, c.solve-solved.ensures)), (c.tell_solved-in-Ok.ensures.status, c.tell_solved-in-Ok.ensures.told))

pub returns-in-Err : goal.returns-in-Err
returns-in-Err g c =
    (NoTask c.in-Err.fault, (inr (inr (c.requires, c.in-Err.ensures)), (Keeps-refl _, refl)), (c.status_of_run_end.ensures, c.tell_fault_of_job-reported.ensures))
