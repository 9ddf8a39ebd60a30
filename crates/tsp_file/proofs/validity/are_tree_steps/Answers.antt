-- The goals of `are_tree_steps` in src/validity.rt, which says whether steps are one whole tree: what it ensures.
use Rattle.tsp_file.proofs.Prelude.{refl, sym, ◌∙◌, nat_le, ◌&&◌, most_branches, most_changes, steps_of, are_whole, branch_count, change_count}
use Rattle.tsp_file.proofs.ValidFields.{judged_steps}
use Rattle.tsp_file.proofs.validity.are_tree_steps.Goals as goal
use Rattle.tsp_file.proofs.validity.are_tree_steps.Goals.{then-is_each_step, else-is_each_step}

pub returns-then-are_few : goal.returns-then-are_few
returns-then-are_few c = elim c.if-is_each_step.branch [
  | then-is_each_step w ↦
      judged_steps c.args.n c.args.steps.now c.is_each_step.result w.are_few.result c.is_whole_tree.result c.is_whole_tree.result
      c.is_each_step.ensures w.are_few.ensures c.is_whole_tree.ensures
      (rw (w.if-is_each_step.true, sym w.value-is ∙ c.if-are_few.true) refl)
  | else-is_each_step w ↦ absurd cc
]

-- plan: by whether each step is valid and the steps are few; then the whole tree is judged (`judged_steps`)
pub returns-else-are_few : goal.returns-else-are_few
returns-else-are_few c = elim c.if-is_each_step.branch [
  | then-is_each_step w ↦
      let whole = are_whole 1 (steps_of c.args.steps.now) in
      judged_steps c.args.n c.args.steps.now c.is_each_step.result w.are_few.result whole c.if-is_each_step.value
      c.is_each_step.ensures w.are_few.ensures refl
      (rw (w.if-is_each_step.true, sym w.value-is, c.if-are_few.false) refl)
  | else-is_each_step w ↦
      let few = nat_le (branch_count (steps_of c.args.steps.now)) most_branches && nat_le (change_count (steps_of c.args.steps.now)) most_changes in
      judged_steps c.args.n c.args.steps.now c.is_each_step.result few (are_whole 1 (steps_of c.args.steps.now)) c.if-is_each_step.value
      c.is_each_step.ensures refl refl
      (rw (w.if-is_each_step.false, c.if-are_few.false) refl)
]
