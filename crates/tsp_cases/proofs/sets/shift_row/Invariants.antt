-- The loop of `shift_row` in src/sets.rt, which adds the numbers of both nodes to a row.
use Rattle.tsp_cases.proofs.Prelude.{◌≡◌, ◌≤◌, ◌<◌, ℕ, w64, int_wrap, ◌+ℤ◌, least_at}
use Rattle.tsp_cases.proofs.sets.shift_row.Given as goal

-- each number before this place has its sum, in 64 bits, and the others are as they were
abbrev pub invariant-places : goal.invariant-places
invariant-places l = record {
  done : (x : ℕ) → x < l.place → least_at l.row x ≡ int_wrap w64 (least_at l.fn.row x +ℤ int_wrap w64 (l.number +ℤ least_at l.moved x));
  rest : (x : ℕ) → l.place ≤ x → least_at l.row x ≡ least_at l.fn.row x;
}
