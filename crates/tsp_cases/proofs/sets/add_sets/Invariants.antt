-- The loop of `add_sets` in src/sets.rt, which adds the multipliers of a node's sets to its row.
use Rattle.tsp_cases.proofs.Prelude.{ℕ, ℤ, drop, least_at, IsMoved}
use Rattle.tsp_cases.specs.states.Sets.{lent_in, inside_both}
use Rattle.tsp_cases.proofs.sets.add_sets.Given as goal

-- adding the sets at the places left to the row now gives the same as adding all to the row at the call
abbrev pub invariant-places : goal.invariant-places
invariant-places l = (x : ℕ) (last : ℤ) → IsMoved (inside_both l.multiplied.numbers.now (lent_in l.multiplied.families.now) (drop l.place-index l.places) x) (least_at l.row x) last
    → IsMoved (inside_both l.multiplied.numbers.now (lent_in l.multiplied.families.now) l.places x) (least_at l.fn.row x) last
