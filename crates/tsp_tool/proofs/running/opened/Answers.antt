-- The goals of `opened` in src/running.rt, which opens the files of a task: what it ensures.
use Rattle.std.proofs.Common.{rules}
use Rattle.tsp_tool.specs.ProgramRun.{IsFresh}
use Rattle.tsp_tool.proofs.Openings.{task_by}
use Rattle.tsp_tool.proofs.running.opened.Goals as goal

-- plan: each file is opened in its place by a reader that hasn't failed, and so are all files of the task (`task_by`)
pub returns : goal.returns
returns g c =
    let opens = g.O.Open.opens c.args.files.now in
    task_by _ (IsFresh opens) (λ place reader given. let shows = given.shows in let met = given.says.met in search rules) c.args.task.now c.map.result c.map.ensures
