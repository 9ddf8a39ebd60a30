-- The loop of `weigh` in src/weights.rt, which writes the weights from a node to some others.
use Rattle.tsp_bound.proofs.Prelude.{◌≡◌, ◌<◌, ℕ, length, slice_index, pos, neg_ℤ, most_between, IsFromTo, least_at}
use Rattle.tsp_bound.specs.states.Potentials.{weight_under}
use Rattle.tsp_bound.proofs.weights.weigh.Given as goal

-- the row has the weight to each node before this place, at most `most_between` in size
abbrev pub invariant-places : goal.invariant-places
invariant-places g l = (k : ℕ) → k < length l.to → k < l.place
    → (least_at l.row (slice_index l.to k) ≡ weight_under l.w.p.now (g.C.Costs.at l.w.c.now) l.from (slice_index l.to k))
    × IsFromTo (neg_ℤ (pos most_between)) (pos most_between) (least_at l.row (slice_index l.to k))
