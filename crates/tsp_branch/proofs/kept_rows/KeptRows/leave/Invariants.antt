-- The loop of `KeptRows::leave` in src/kept_rows.rt, which moves the marks of decisions to the next case.
use Rattle.tsp_branch.proofs.Prelude.{◌≡◌, ◌≤◌, ◌++◌, ℕ, List, false, take, length, ℤ, All}
use Rattle.tsp_cases.specs.declared.decision.Decision.{Decision}
use Rattle.tsp_cases.specs.Cases.{next_stack}
use Rattle.tsp_cases.specs.states.OpenCases.{IsDecision, marks_in, stack_of}
use Rattle.tsp_branch.specs.states.KeptRows.{HoldsRows}
use Rattle.tsp_branch.proofs.kept_rows.KeptRows.leave.Given as goal

-- the rows have the marks of the first `left` decisions alone, and the next open case is the one that follows those
abbrev pub invariant-leave : goal.invariant-leave
invariant-leave l = record {
  most : l.left ≤ length l.stack;
  same : next_stack (stack_of l.stack) ≡ next_stack (stack_of (take l.left l.stack));
  pairs : (n : ℕ) (given : List Decision) → All (IsDecision n) (stack_of l.stack ++ given) → All (IsDecision n) (stack_of (take l.left l.stack) ++ given);
  kept : (n family_count : ℕ) (scale : ℤ) (families : List (List (List ℕ))) (cost : ℕ → ℕ → ℤ) (given : List Decision)
      → HoldsRows n family_count scale families cost (marks_in false (stack_of l.stack ++ given)) l.fn.self → All (IsDecision n) (stack_of l.stack ++ given)
      → HoldsRows n family_count scale families cost (marks_in false (stack_of (take l.left l.stack) ++ given)) l.self;
}

-- `left` gets smaller by one
abbrev pub decreases-leave : goal.decreases-leave
decreases-leave l = l.left
