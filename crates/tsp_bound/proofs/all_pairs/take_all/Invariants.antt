-- The loop of `take_all` in src/all_pairs.rt, which offers the links of all pairs to the lists of both places.
use Rattle.std.proofs.Common.{◌≤◌, ◌-◌, length}
use Rattle.tsp_bound.specs.states.Components.{weight_over, AreOffered}
use Rattle.tsp_bound.proofs.all_pairs.take_all.Given as goal

-- all pairs whose later place is before `first` are taken
abbrev pub invariant-columns : goal.invariant-columns
invariant-columns g l = record {
  few : l.first ≤ length l.placed.order.now;
  listed : AreOffered (length l.placed.order.now) (weight_over (g.W.Weights.at l.placed.w.now) l.placed.order.now) l.first 0 0 0 l.links l.bounds;
}

-- fewer places are left from `first` on
abbrev pub decreases-columns : goal.decreases-columns
decreases-columns g l = length l.placed.order.now - l.first
