-- The loop of `any_line_end` in src/job.rt.
use Rattle.std.proofs.Common.{◌≡◌, take}
use Rattle.tsp_tool.specs.JobTasks.{any_line_end}
use Rattle.tsp_tool.proofs.job.any_line_end.Given as goal

-- `found` says whether a path before this one contains the end of a line
abbrev pub invariant-paths : goal.invariant-paths
invariant-paths l = l.found ≡ any_line_end (take l.path-index l.paths)
