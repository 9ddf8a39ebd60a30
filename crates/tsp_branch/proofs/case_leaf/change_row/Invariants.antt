-- The loop of `change_row` in src/case_leaf.rt, which changes a row of weights by decisions.
use Rattle.tsp_branch.proofs.Prelude.{ℕ, ℤ, drop, least_at, IsMoved, changes}
use Rattle.tsp_branch.proofs.case_leaf.change_row.Given as goal

-- changing the row now by the decisions left gives what all decisions give of the row at the call
abbrev pub invariant-decisions : goal.invariant-decisions
invariant-decisions l = (x : ℕ) (last : ℤ) → IsMoved (changes (drop l.decision-index l.decisions) l.from x) (least_at l.row x) last
    → IsMoved (changes l.decisions l.from x) (least_at l.fn.row x) last
