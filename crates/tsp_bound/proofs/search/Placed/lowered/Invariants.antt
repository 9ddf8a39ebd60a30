-- The loop of `Placed::lowered` in src/search.rt, which finds the nearest node once multipliers lower weights.
use Rattle.tsp_bound.proofs.Lowest.{IsLowest}
use Rattle.tsp_bound.proofs.search.Placed.lowered.Given as goal

-- `best` is no worse than the best of before, nor than a node outside among the listed ones before this
abbrev pub invariant-lowered : goal.invariant-lowered
invariant-lowered g l =
    let s = l.self in
    IsLowest (g.W.Weights.nodes s.w.now) (g.W.Weights.at s.w.now) (g.W.BoxedWeights.lowered_of s.w.now l.node)
    s.order.now s.places.now (g.S.Seen.outside_of l.seen) l.node l.index l.fn.unlowered l.best
