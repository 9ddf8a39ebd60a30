-- The loop of `nearest_from` in src/search.rt, which finds the nearest place of another component by boxes.
use Rattle.std.proofs.Common.{◌≤◌, ◌<◌, ◌*◌, length}
use Rattle.tsp_bound.specs.states.Boxes.{IsSearched, no_best}
use Rattle.tsp_bound.proofs.search.nearest_from.Given as goal

-- no node outside below the box `v` is better than `best`
abbrev pub invariant-climb : goal.invariant-climb
invariant-climb g l = record {
  low : 1 ≤ l.v;
  high : l.v < 2 * length l.search.order.now;
  searched : IsSearched (g.W.BoxedWeights.unlowered l.search.w.now) l.search.order.now
      (g.S.Seen.outside_of l.search.seen.now) l.search.from.site.node l.v no_best l.best;
}

-- `v` is halved, and the box 1 is the last
abbrev pub decreases-climb : goal.decreases-climb
decreases-climb g l = l.v
