-- The loop of `first_bad_branch` in src/case_tree.rt, which finds the first branch whose first number is out of its
-- limits.
use Rattle.tsp_cases.proofs.Prelude.{◌≤◌, drop, steps_of}
use Rattle.tsp_cases.proofs.TreeBranches.{AreWithinSoFar}
use Rattle.tsp_cases.proofs.case_tree.first_bad_branch.Given as goal

-- each branch so far begins with a number from `least` to `most`, and there are `count` of them
abbrev pub invariant-branches : goal.invariant-branches
invariant-branches l = record {
  so_far : AreWithinSoFar l.least l.most (steps_of l.steps) l.count (steps_of (drop l.step-index l.steps));
  few : l.count ≤ l.step-index;
}
