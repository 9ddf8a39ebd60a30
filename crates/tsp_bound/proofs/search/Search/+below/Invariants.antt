-- The measure by which `Search::below` in src/search.rt, which calls itself, ends.
use Rattle.std.proofs.Common.{◌-◌, ◌*◌, length}
use Rattle.tsp_bound.proofs.search.Search.+below.Given as goal

-- a half of a box has a higher number than the box, and the last leaf has the highest
abbrev pub decreases-below : goal.decreases-below
decreases-below g l = 2 * length l.self.now.order.now - l.v
