-- The loop of `first_unused` in src/tour.rt.
use Rattle.tsp_verdict.proofs.Prelude.{◌≡◌, ◌<◌, ℕ, List, slice_index_or, Uses}
use Rattle.tsp_verdict.specs.states.Marks.{AreNext}
use Rattle.tsp_verdict.proofs.tour.first_unused.Given as goal

-- the cycle uses each pair before this one, and `index` is how many these are
abbrev pub invariant-pairs : goal.invariant-pairs
invariant-pairs l = record {
  counted : l.index ≡ l.pair-index;
  used : (cycle : List ℕ) → AreNext cycle l.next → (k : ℕ) (d : ℕ × ℕ) → k < l.pair-index
      → Uses l.directed cycle (slice_index_or l.fixed k d);
}
