-- The loop of `close_all` in src/case_leaf.rt, which closes the links of a row that decisions don't allow.
use Rattle.tsp_branch.proofs.Prelude.{◌<◌, ℕ, length, least_at, Allows}
use Rattle.tsp_branch.specs.states.LeafRows.{IsShut}
use Rattle.tsp_branch.proofs.CaseLeaves.{AllBelow}
use Rattle.tsp_branch.proofs.case_leaf.close_all.Given as goal

-- a link that a decision before this one doesn't allow is closed, and each other one is as it was
abbrev pub invariant-decisions : goal.invariant-decisions
invariant-decisions l = (x : ℕ) → x < length l.fn.row
    → IsShut (AllBelow (Allows l.from x) l.decisions l.decision-index) (least_at l.fn.row x) (least_at l.row x)
