-- The goals of `run_file_task` in src/running.rt, which runs a task on files and returns how it ended: what it ensures.
use Rattle.tsp_tool.proofs.running.run_file_task.Goals as goal

pub returns : goal.returns
returns g c = (
  c.perform.result,
  (c.opened-readers.result, c.perform.new.task, c.opened-readers.ensures, c.perform.ensures.done, c.perform.ensures.asked),
  (c.status_of_run_end.ensures, c.tell_end-reported.ensures),
)
