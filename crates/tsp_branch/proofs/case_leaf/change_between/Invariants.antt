-- The loop of `change_between` in src/case_leaf.rt, which sums what decisions add to a weight.
use Rattle.tsp_branch.proofs.Prelude.{◌≡◌, drop, ◌+ℤ◌, w64, int_wrap, changes}
use Rattle.tsp_branch.proofs.case_leaf.change_between.Given as goal

-- the sum so far plus the numbers of the decisions left is the whole sum, in 64 bits
abbrev pub invariant-decisions : goal.invariant-decisions
invariant-decisions l = int_wrap w64 (l.sum +ℤ changes (drop l.decision-index l.decisions) l.from l.to) ≡ int_wrap w64 (changes l.decisions l.from l.to)
