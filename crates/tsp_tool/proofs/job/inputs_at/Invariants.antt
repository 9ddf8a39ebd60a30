-- The loop of `inputs_at` in src/job.rt.
use Rattle.std.proofs.Common.{◌≡◌, ◌≤◌, take}
use Rattle.tsp_tool.specs.JobTasks.{inputs_at}
use Rattle.tsp_tool.proofs.job.inputs_at.Given as goal

-- `count` is how many of the paths before this one are standard input
abbrev pub invariant-paths : goal.invariant-paths
invariant-paths l = (l.count ≡ inputs_at (take l.path-index l.paths)) × (l.count ≤ l.path-index)
