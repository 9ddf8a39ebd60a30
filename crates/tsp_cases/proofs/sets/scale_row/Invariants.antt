-- The loop of `scale_row` in src/sets.rt, which multiplies a row of costs by the scale.
use Rattle.tsp_cases.proofs.Prelude.{◌≡◌, ◌≤◌, ◌<◌, ℕ, ◌*ℤ◌, least_at}
use Rattle.tsp_cases.proofs.sets.scale_row.Given as goal

-- the costs from place 1 to the one before this are scaled, and the others are as they were
abbrev pub invariant-places : goal.invariant-places
invariant-places l = record {
  done : (x : ℕ) → 1 ≤ x → x < l.place → least_at l.row x ≡ l.scale *ℤ least_at l.fn.row x;
  rest : (x : ℕ) → l.place ≤ x → least_at l.row x ≡ least_at l.fn.row x;
}
