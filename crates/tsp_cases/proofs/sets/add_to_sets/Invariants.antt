-- The loop of `add_to_sets` in src/sets.rt, which adds a number at each node of some sets.
use Rattle.tsp_cases.proofs.Prelude.{ℕ, ℤ, drop, sum_int_by, least_at, IsMoved}
use Rattle.tsp_cases.specs.Crossings.{lists_of}
use Rattle.tsp_cases.specs.states.Sets.{added}
use Rattle.tsp_cases.proofs.sets.add_to_sets.Given as goal

-- adding the number for the sets left to the row now gives the same as adding it for all to the row at the call
abbrev pub invariant-sets : goal.invariant-sets
invariant-sets l = (x : ℕ) (last : ℤ) → IsMoved (sum_int_by (λ set. added l.number set x) (lists_of (drop l.set-index l.sets))) (least_at l.row x) last
    → IsMoved (sum_int_by (λ set. added l.number set x) (lists_of l.sets)) (least_at l.fn.row x) last
