-- The goals of `applied` in src/task.rt, which applies a function to a file of a task: what it ensures.
use Rattle.std.proofs.Common.{refl}
use Rattle.std.proofs.lemmas.Fn.{says_at}
use Rattle.tsp_report.proofs.task.applied.Goals as goal

pub returns : goal.returns
returns g c = says_at g.M.Fn c.map.ensures refl
