-- The loop of `first_of` in src/tour.rt.
use Rattle.tsp_verdict.proofs.Prelude.{◌≡◌, ◌≢◌, ◌<◌, ℕ, slice_index_or}
use Rattle.tsp_verdict.proofs.tour.first_of.Given as goal

-- no node before this one is the one sought, and `place` is how many these are
abbrev pub invariant-nodes : goal.invariant-nodes
invariant-nodes l = (l.place ≡ l.node-index) × ((k d : ℕ) → k < l.node-index → slice_index_or l.nodes k d ≢ l.sought)
