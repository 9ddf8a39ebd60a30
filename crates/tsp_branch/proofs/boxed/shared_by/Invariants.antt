-- The loop of `shared_by` in src/boxed.rt, which sums the multipliers of the sets that have both nodes.
use Rattle.tsp_branch.proofs.Prelude.{◌≡◌, drop, ◌+ℤ◌, w64, int_wrap}
use Rattle.tsp_branch.specs.states.LeafRows.{shared_by}
use Rattle.tsp_branch.proofs.boxed.shared_by.Given as goal

-- the sum so far plus the multipliers at the places left is the whole sum, in 64 bits
abbrev pub invariant-places : goal.invariant-places
invariant-places l = int_wrap w64 (l.sum +ℤ shared_by l.multipliers.numbers.now l.others (drop l.place-index l.places)) ≡ int_wrap w64 (shared_by l.multipliers.numbers.now l.others l.places)
