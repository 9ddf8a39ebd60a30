-- The measure of the loop of `look_for` in src/look.rt, which looks for a line of a file.
use Rattle.std.proofs.Common.{◌+◌, ◌-◌}
use Rattle.tsp_explain.proofs.look.look_for.Given as goal

-- each round reads at least one byte more of the text, up to its limit
abbrev pub decreases-pieces : goal.decreases-pieces
decreases-pieces g l = 1073741824 + 1 - l.taken
