-- The loop of `are_few` in src/boxed.rt, which tests whether multipliers are few enough for boxes.
use Rattle.tsp_branch.proofs.Prelude.{◌≡◌, drop, pos, ◌+ℤ◌, IsFromTo}
use Rattle.tsp_branch.specs.states.LeafRows.{sum_at_places}
use Rattle.tsp_branch.proofs.boxed.are_few.Given as goal

-- the sum so far plus the multipliers left is the whole sum; so far it is at most 3 * 10^18
abbrev pub invariant-places : goal.invariant-places
invariant-places l = record {
  sum : l.sum +ℤ sum_at_places l.multipliers.numbers.now (drop l.place-index l.places) ≡ sum_at_places l.multipliers.numbers.now l.places;
  size : IsFromTo (pos 0) (pos 3000000000000000000) l.sum;
}
