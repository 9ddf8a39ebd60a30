-- The loop of `Listed::least_of_all` in src/all_pairs.rt, which finds the least link out of a component by all pairs of
-- a place.
use Rattle.std.proofs.Common.{◌≢◌, ◌<◌, ℕ, length, IfSome}
use Rattle.tsp_bound.specs.states.Components.{label_at, weight_over}
use Rattle.tsp_bound.proofs.RoundJoins.{IsReached}
use Rattle.tsp_bound.proofs.AllPairs.{IsEnding}
use Rattle.tsp_bound.proofs.all_pairs.Listed.least_of_all.Given as goal

-- if a place before this one is in another component, `best` leads to another one, and weighs no more
abbrev pub invariant-places : goal.invariant-places
invariant-places g l =
    let s = l.self in
    let w = weight_over (g.W.Weights.at s.placed.w.now) s.placed.order.now in
    let label = label_at s.labels.items in
    record {
      ending : IfSome l.best (IsEnding (length s.placed.order.now) w label l.from);
      least : (x : ℕ) → x < l.place → label x ≢ label l.from → IsReached l.best (w l.from x);
    }
