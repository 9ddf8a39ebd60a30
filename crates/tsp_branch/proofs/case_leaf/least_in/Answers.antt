-- The goals of `least_in` in src/case_leaf.rt, which finds the least number of a row: what it ensures.
use Rattle.std.proofs.Common.{arith, inl, inr}
use Rattle.tsp_branch.proofs.case_leaf.least_in.Goals as goal

-- plan: the least number of the row, if any is below that of no link, is at a place from 1 on
pub returns-clause-reached : goal.returns-clause-reached
returns-clause-reached c = elim c.places.invariant.reached [
  | inl none ↦ inl none
  | inr found ↦ inr (found.0, found.1, omega (arith, found.1, found.2, c.requires, c.places.auto.place-end), found.3)
]
