-- The goals of `first_bad_branch` in src/case_tree.rt, which finds the first branch whose first number is out of its
-- limits: its loop and what it ensures.
use Rattle.tsp_cases.proofs.Prelude.{◌+◌, List, drop, arith, TreeStep, steps_of}
use Rattle.tsp_format.specs.declared.steps.TreeStep.TheVariants as code
use Rattle.tsp_format.specs.Steps as listed
use Rattle.tsp_cases.proofs.TreeBranches.{within_next, within_at_branch, within_at_leaf, within_at_end}
use Rattle.tsp_cases.proofs.case_tree.first_bad_branch.Goals as goal
use Rattle.tsp_cases.proofs.case_tree.first_bad_branch.Goals.{in-Branch+else-first-least+else-most-first, in_default}

-- plan: by the step that is next: a branch whose first number is within the limits (`within_at_branch`), or a leaf
-- (`within_at_leaf`). At the end no branch is bad
pub branches-preserved : goal.branches-preserved
branches-preserved c =
    let all : List TreeStep = c.args.steps.now in
    let st = c.branches in
    let rest : List listed.Step = steps_of (drop (st.step-index + 1) all) in
    elim c.match-step.branch [
      | in-Branch+else-first-least+else-most-first w ↦
          let at = within_next c.args.least c.args.most all st.count st.step-index c.step-item.result (code.Branch w.in-Branch.first w.in-Branch.field-1)
          c.branches-test.true c.step-item.is w.in-Branch.is st.invariant.so_far in
          rw w.count-is (record {
            so_far = within_at_branch c.args.least c.args.most (steps_of all) st.count w.in-Branch.first w.in-Branch.field-1 rest at
                (w.if-first-least.false, w.if-most-first.false);
            few = omega (arith, st.invariant.few);
          })
      | in_default w ↦
          let at = within_next c.args.least c.args.most all st.count st.step-index c.step-item.result (code.Leaf w.in_default.field-0)
          c.branches-test.true c.step-item.is w.in_default.is st.invariant.so_far in
          rw w.count-is (record {
            so_far = within_at_leaf c.args.least c.args.most (steps_of all) st.count w.in_default.field-0.items rest at;
            few = omega (arith, st.invariant.few);
          })
    ]

pub returns : goal.returns
returns c = within_at_end c.args.least c.args.most c.args.steps.now c.branches.count c.branches.step-index c.branches-test.false c.branches.invariant.so_far
