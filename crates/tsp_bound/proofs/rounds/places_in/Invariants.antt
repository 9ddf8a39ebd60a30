-- The loop of `places_in` in src/rounds.rt, which finds the place of each node in an order.
use Rattle.tsp_bound.proofs.Prelude.{◌≡◌, ◌≤◌, ◌<◌, ◌+◌, ℕ, length, slice_index_or, IsInner}
use Rattle.tsp_bound.proofs.rounds.places_in.Given as goal

-- each node of the order before this place is one of 2 to the last
abbrev pub invariant-write : goal.invariant-write
invariant-write l = record {
  len : length l.places.items ≡ l.last + 1;
  nodes : (j : ℕ) → j < l.i → IsInner l.last (slice_index_or l.order j 0);
}

-- each place before this one is the one that is written for its node
abbrev pub invariant-back : goal.invariant-back
invariant-back l = (j : ℕ) → j < l.i → slice_index_or l.places.items (slice_index_or l.order j 0) 0 ≡ j

-- each node from 2 up to the one before this is in the order, at the place that is written for it
abbrev pub invariant-there : goal.invariant-there
invariant-there l = record {
  from : 2 ≤ l.node;
  places : (x : ℕ) → 2 ≤ x → x < l.node → slice_index_or l.places.items x 0 < length l.order;
  there : (x : ℕ) → 2 ≤ x → x < l.node → slice_index_or l.order (slice_index_or l.places.items x 0) 0 ≡ x;
}
