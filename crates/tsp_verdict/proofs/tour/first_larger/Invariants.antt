-- The loop of `first_larger` in src/tour.rt.
use Rattle.tsp_verdict.proofs.Prelude.{◌≡◌, ◌≤◌, ◌<◌, ℕ, slice_index_or}
use Rattle.tsp_verdict.proofs.tour.first_larger.Given as goal

-- no node before this one is larger than n, and `place` is how many these are
abbrev pub invariant-nodes : goal.invariant-nodes
invariant-nodes l = (l.place ≡ l.node-index) × ((k d : ℕ) → k < l.node-index → slice_index_or l.nodes k d ≤ l.n)
