-- The loop of `are_charges` in src/run_verdict.rt, which looks for a number below 0.
use Rattle.tsp_routing.proofs.Prelude.{ℕ, ℤ, ◌<◌, get_or, pos, ◌≤ℤ◌}
use Rattle.tsp_routing.proofs.run_verdict.are_charges.Given as goal

-- the numbers before this one aren't below 0
abbrev pub invariant-numbers : goal.invariant-numbers
invariant-numbers l = (k : ℕ) (default : ℤ) → k < l.number-index → pos 0 ≤ℤ get_or l.numbers k default
