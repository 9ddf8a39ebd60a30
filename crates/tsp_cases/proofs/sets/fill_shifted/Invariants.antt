-- The loop of `fill_shifted` in src/sets.rt, which writes a row plus the numbers of both nodes.
use Rattle.tsp_cases.proofs.Prelude.{◌≡◌, ◌<◌, ℕ, w64, int_wrap, ◌+ℤ◌, least_at}
use Rattle.tsp_cases.proofs.sets.fill_shifted.Given as goal

-- each place before this one has its sum, in 64 bits
abbrev pub invariant-places : goal.invariant-places
invariant-places l = (x : ℕ) → x < l.place → least_at l.row x ≡ int_wrap w64 (least_at l.kept x +ℤ int_wrap w64 (l.number +ℤ least_at l.moved x))
