-- The loop of `add_differences` in src/case_tree.rt, which adds the differences of a leaf to its numbers.
use Rattle.tsp_cases.proofs.Prelude.{◌≡◌, ◌<◌, ℕ, ℤ, drop, length, get_or, IsNode}
use Rattle.tsp_cases.specs.ListedCases.{all_grown}
use Rattle.tsp_cases.proofs.TreeBranches.{AreSized}
use Rattle.tsp_cases.proofs.case_tree.add_differences.Given as goal

-- each difference before this one is for a number that exists. Adding those left to the numbers now gives the same as
-- adding all to the numbers at the call
abbrev pub invariant-changes : goal.invariant-changes
invariant-changes l = record {
  long : length l.numbers ≡ length l.fn.numbers;
  sized : AreSized l.change-index l.numbers;
  inside : (k : ℕ) (default : ℕ × ℤ) → k < l.change-index → IsNode (length l.fn.numbers) (get_or l.changes k default).0;
  so_far : all_grown (drop l.change-index l.changes) l.numbers ≡ all_grown l.changes l.fn.numbers;
}
