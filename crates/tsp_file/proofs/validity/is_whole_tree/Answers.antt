-- The goals of `is_whole_tree` in src/validity.rt, which tests whether steps are one whole tree of cases: its loop.
use Rattle.std.proofs.Common.{◌≡◌, ◌+◌, ◌-◌, ℕ, sym, ◌∙◌, arith}
use Rattle.tsp_file.proofs.ValidFields.{after_branch, after_leaf}
use Rattle.tsp_file.proofs.validity.is_whole_tree.Goals as goal
use Rattle.tsp_file.proofs.validity.is_whole_tree.Goals.{in-Branch, in-Leaf}

-- plan: by the step: a branch makes one tree more still to come (`after_branch`), and a leaf one less (`after_leaf`)
pub steps-preserved : goal.steps-preserved
steps-preserved c =
    let steps = c.args.steps.now in
    let index : ℕ = c.steps.step-index in
    let step = c.step-item.result in
    let one : (c.steps.left - 1) + 1 ≡ c.steps.left = omega (arith, c.if-left-eq0.false) in
    elim c.match-step.branch [
      | in-Branch w ↦
          let is = sym c.step-item.is ∙ w.in-Branch.is in
          rw w.left-is (
            after_branch steps index step c.steps.left w.in-Branch.field-0 w.in-Branch.field-1 c.steps-test.true is c.if-left-eq0.false
                ∙ c.steps.invariant.0,
            omega (arith, c.steps.invariant.1),
          )
      | in-Leaf w ↦
          let is = sym c.step-item.is ∙ w.in-Leaf.is in
          rw w.left-is (
            after_leaf steps index step c.steps.left (c.steps.left - 1) w.in-Leaf.field-0 c.steps-test.true is one
                ∙ c.steps.invariant.0,
            omega (arith, c.steps.invariant.1),
          )
    ]
