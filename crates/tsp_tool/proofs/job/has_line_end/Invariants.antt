-- The loop of `has_line_end` in src/job.rt.
use Rattle.std.proofs.Common.{◌≡◌, take}
use Rattle.tsp_tool.specs.JobTasks.{has_line_end}
use Rattle.tsp_tool.proofs.job.has_line_end.Given as goal

-- `found` says whether a byte before this one is the end of a line
abbrev pub invariant-bytes : goal.invariant-bytes
invariant-bytes l = l.found ≡ has_line_end (take l.byte-index l.path)
