-- The loop of `first_twice` in src/case_tree.rt, which finds the first branch on a pair that is decided already.
use Rattle.tsp_cases.proofs.Prelude.{◌≡◌, ◌≤◌, drop, steps_of}
use Rattle.tsp_cases.specs.states.OpenCases.{stack_of, IsOpenCase}
use Rattle.tsp_cases.proofs.TreeBranches.{IsOnceSoFar}
use Rattle.tsp_cases.proofs.case_tree.first_twice.Given as goal

-- the open cases decide each pair once. The first branch on a decided pair among the steps left is the first of all
abbrev pub invariant-steps : goal.invariant-steps
invariant-steps g l = record {
  so_far : IsOnceSoFar l.tree.directed l.tree.given.now (steps_of l.tree.steps.now) (stack_of l.case.stack.items) l.count
      (steps_of (drop l.step-index l.tree.steps.now));
  case : IsOpenCase (g.C.Costs.nodes l.tree.costs.now) l.case;
  given : l.case.given.now ≡ l.tree.given.now;
  direction : l.case.by_node.directed ≡ l.tree.directed;
  few : l.count ≤ l.step-index;
}
