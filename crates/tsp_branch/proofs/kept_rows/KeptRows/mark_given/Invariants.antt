-- The loop of `KeptRows::mark_given` in src/kept_rows.rt, which marks the given decisions in the kept rows.
use Rattle.tsp_branch.proofs.Prelude.{◌≤◌, ℕ, List, [], drop, length, ℤ, All}
use Rattle.tsp_cases.specs.states.OpenCases.{IsDecision, marks_in}
use Rattle.tsp_branch.specs.states.KeptRows.{HoldsRows}
use Rattle.tsp_branch.proofs.kept_rows.KeptRows.mark_given.Given as goal

-- the rows have the marks of the given decisions from `left` on
abbrev pub invariant-given : goal.invariant-given
invariant-given l = record {
  most : l.left ≤ length l.cases.given.now;
  kept : (n family_count : ℕ) (scale : ℤ) (families : List (List (List ℕ))) (cost : ℕ → ℕ → ℤ)
      → HoldsRows n family_count scale families cost (marks_in l.cases.directed []) l.fn.self → All (IsDecision n) l.cases.given.now
      → HoldsRows n family_count scale families cost (marks_in l.cases.directed (drop l.left l.cases.given.now)) l.self;
}

-- `left` gets smaller by one
abbrev pub decreases-given : goal.decreases-given
decreases-given l = l.left
