-- The measure by which `arrange` in src/points.rt, which calls itself, ends.
use Rattle.std.proofs.Common.{◌-◌, ◌*◌, length}
use Rattle.tsp_cost.proofs.points.+arrange.Given as goal

-- a half of a box has a higher number than the box, and the last leaf has the highest
abbrev pub decreases-arrange : goal.decreases-arrange
decreases-arrange l = 2 * length l.order.now - l.v
