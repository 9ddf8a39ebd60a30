-- The loop of `take_multipliers` in src/sets.rt, which takes multipliers off the nodes of their sets.
use Rattle.tsp_cases.proofs.Prelude.{ℕ, ℤ, drop, neg_ℤ, least_at, IsMoved}
use Rattle.tsp_cases.specs.Crossings.{families_in}
use Rattle.tsp_cases.specs.states.Sets.{added, lent_in, summed_from, multipliers_at}
use Rattle.tsp_cases.proofs.sets.take_multipliers.Given as goal

-- taking the multipliers of the families left off the row now gives the same as taking all off the row at the call
abbrev pub invariant-multipliers : goal.invariant-multipliers
invariant-multipliers l = (x : ℕ) (last : ℤ)
    → IsMoved (neg_ℤ (summed_from l.number (λ multiplier set. added multiplier set x) l.multiplied.numbers.now (families_in (drop l.number l.multiplied.families.now.lent.now))))
    (least_at l.row x) last
    → IsMoved (neg_ℤ (multipliers_at l.multiplied.numbers.now (lent_in l.multiplied.families.now) x)) (least_at l.fn.row x) last
