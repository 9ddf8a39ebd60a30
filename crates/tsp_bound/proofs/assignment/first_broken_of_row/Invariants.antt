-- The loop of `first_broken_of_row` in src/assignment.rt, which finds the first column that doesn't fit a row's dual.
use Rattle.tsp_bound.proofs.Prelude.{◌≢◌, ℕ, ◌<◌, ◌≤◌, ◌≤ℤ◌}
use Rattle.tsp_bound.specs.states.Duals.{dual_of, scaled}
use Rattle.tsp_bound.proofs.assignment.first_broken_of_row.Given as goal

-- row i sums to at most the cost with each column before this one, but perhaps with its own
abbrev pub invariant-columns : goal.invariant-columns
invariant-columns g l = (b : ℕ) → 1 ≤ b → b < l.j → l.i ≢ b → dual_of l.d l.i b ≤ℤ scaled l.d (g.C.Costs.at l.c) l.i b
