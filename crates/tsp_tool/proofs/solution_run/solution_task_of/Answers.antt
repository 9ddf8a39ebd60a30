-- The goals of `solution_task_of` in src/solution_run.rt, which reads a job's solution: what it ensures.
use Rattle.std.proofs.Common.{rules, refl, None, Some, ◌≡◌}
use Rattle.clap.specs.Words.{Text}
use Rattle.tsp_tool.specs.Grammar.{text_in}
use Rattle.tsp_tool.specs.SolutionJobs.{AreBothInput}
use Rattle.tsp_tool.specs.JobTasks.{IsInputPathAt}
use Rattle.tsp_tool.specs.declared.solution_run.SolutionTask.{SolutionTask}
use Rattle.tsp_tool.proofs.solution_run.solution_task_of.Goals as goal

-- plan: the task that the words give, whose two files are standard input
pub returns-then-are_both_input : goal.returns-then-are_both_input
returns-then-are_both_input c =
    let task : SolutionTask = record {
      solution = c.in_ok-solution.solution;
      instance = c.instance_of-instance.result;
      hints = record { form = c.in_ok-form.form; numbering = c.in_ok-numbering.numbering; depot = c.in_ok-depot.depot; shape = None };
    } in
    let path : (text : Text) × (text_in c.args.job.now.solution ≡ Some text) × IsInputPathAt text c.in_ok-solution.solution =
    let same = c.as_ref.ensures in let met = c.in_ok-solution.ensures in search rules in
    let both : AreBothInput task = let is = c.are_both_input.ensures in let yes = c.if-are_both_input.true in search rules in (
      task,
      (
        path,
        c.instance_of-instance.ensures,
        c.in_ok-form.ensures,
        c.in_ok-numbering.ensures,
        c.in_ok-depot.ensures,
        refl,
      ),
      both,
    )
