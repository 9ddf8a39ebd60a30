-- The loop of `fill_moved` in src/sets.rt, which writes each potential less the multipliers of the node's sets.
use Rattle.tsp_cases.proofs.Prelude.{◌≡◌, ◌≤◌, ◌+◌, ℕ, length, w64, int_wrap, ◌+ℤ◌, entry, least_at}
use Rattle.tsp_cases.proofs.sets.fill_moved.Given as goal

-- each node up to `index` has the sum of its potential and its other number, in 64 bits
abbrev pub invariant-nodes : goal.invariant-nodes
invariant-nodes l = record {
  room : length l.row ≡ length l.potentials + 1;
  placed : (x : ℕ) → 1 ≤ x → x ≤ l.index → least_at l.row x ≡ int_wrap w64 (entry l.potentials x +ℤ least_at l.ends x);
}
