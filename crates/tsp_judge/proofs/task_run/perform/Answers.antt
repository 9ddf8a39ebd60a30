-- The goals of `perform` in src/task_run.rt, which does a task and returns its outcome: what it ensures.
use Rattle.tsp_judge.proofs.Prelude.{sym, subst, sink_of}
use Rattle.tsp_judge.specs.TaskRun.{AreReadOn, IsDone}
use Rattle.tsp_report.specs.declared.task.FileTask.TheVariants.{Check, Bound}
use Rattle.tsp_judge.proofs.NamedReaders.{named_by}
use Rattle.tsp_judge.proofs.task_run.perform.Goals as goal

-- plan: by the task: what the call of its verb gives is what the task comes to (`named_by`)
pub returns-in-Check-clause-done : goal.returns-in-Check-clause-done
returns-in-Check-clause-done g c = let one = c.check_solution-ended.ensures.answer in let two = one.2 in let left = c.check_solution-ended.new in
    subst (λ task. IsDone g.R.Read.remaining task (Check left.inst left.sol left.certificate c.in-Check.claimed c.in-Check.strict)
    (sink_of g.W.Takes.contents c.args.out.now left.out) c.judged.result) (sym c.in-Check.is)
    (one.0, one.1, (two.0, two.1, named_by g.R.Read.remaining c.in-Check.certificate left.certificate _ _ (λ given ran. (c.check_solution-ended.result, c.judged.ensures, ran)) two.2))

pub returns-in-Bound-clause-done : goal.returns-in-Bound-clause-done
returns-in-Bound-clause-done g c = let one = c.run_bound.ensures.answer in let two = one.2 in
    subst (λ task. IsDone g.R.Read.remaining task (Bound c.run_bound.new.inst (c.in-Bound.by, c.run_bound.new.cert) c.in-Bound.strict)
    (sink_of g.W.Takes.contents c.args.out.now c.run_bound.new.out) c.bounded.result) (sym c.in-Bound.is)
    (one.0, one.1, (two.0, two.1, (c.run_bound.result, c.bounded.ensures, two.2)))

pub returns-in-Check-clause-asked : goal.returns-in-Check-clause-asked
returns-in-Check-clause-asked g c = let left = c.check_solution-ended.new in
    subst (λ task. AreReadOn g.R.Gives.gives task (Check left.inst left.sol left.certificate c.in-Check.claimed c.in-Check.strict)) (sym c.in-Check.is) c.check_solution-ended.ensures.asked

pub returns-in-Bound-clause-asked : goal.returns-in-Bound-clause-asked
returns-in-Bound-clause-asked g c =
    subst (λ task. AreReadOn g.R.Gives.gives task (Bound c.run_bound.new.inst (c.in-Bound.by, c.run_bound.new.cert) c.in-Bound.strict)) (sym c.in-Bound.is) c.run_bound.ensures.asked
