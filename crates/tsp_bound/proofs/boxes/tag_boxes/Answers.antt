-- The goals of `tag_boxes` in src/boxes.rt, which tags each box whose nodes have one label: its loop and what it
-- ensures.
use Rattle.tsp_bound.proofs.Prelude.{◌≡◌, ◌-◌, ◌+◌, ℕ, true, get_or, length, arith, subst, ◌∙◌, length-set}
use Rattle.tsp_bound.specs.states.Boxes.{AreHeldFrom, box_at}
use Rattle.tsp_bound.specs.states.Components.{IsTagOf}
use Rattle.tsp_bound.proofs.Searches.{leaf_more, held_leaves, refit_more}
use Rattle.tsp_bound.proofs.boxes.tag_boxes.Goals as goal

-- plan: each leaf has the tag of its place (`leaf_more`), then each box that of both halves (`refit_more`)
pub leaves-preserved : goal.leaves-preserved
leaves-preserved c = record {
  len = length-set c.leaves.tags.items (length c.args.labels.now + c.leaves.place) _ ∙ c.leaves.invariant.len;
  done = leaf_more 0 IsTagOf c.args.labels.now c.leaves.tags.items c.leaves.place (get_or c.args.labels.now c.leaves.place 0) c.leaves.invariant.len c.leaves-test.true
      (λ other. omega arith) c.leaves.invariant.done;
}

pub halves-init : goal.halves-init
halves-init c =
    let all : c.leaves.place ≡ length c.args.labels.now = omega arith in
    record {
      len = c.leaves.invariant.len;
      high = omega arith;
      held = held_leaves 0 IsTagOf c.args.labels.now (λ _. true) c.leaves.tags.items (λ j h. c.leaves.invariant.done j (omega (arith, h, all)));
    }

pub halves-preserved : goal.halves-preserved
halves-preserved c =
    let v = c.halves.v - 1 in
    let next : c.halves.v ≡ v + 1 = omega arith in
    record {
      len = c.retag.ensures.len;
      high = omega arith;
      held = refit_more 0 IsTagOf c.args.labels.now (λ _. true) c.halves.tags.items c.retag.new.tags.items v c.halves.invariant.len (omega arith) (omega arith)
          c.retag.ensures.refit
          (subst (λ (k : ℕ). AreHeldFrom IsTagOf k c.args.labels.now (λ _. true) (box_at 0 c.halves.tags.items)) next c.halves.invariant.held);
    }

pub returns-clause-tags : goal.returns-clause-tags
returns-clause-tags c = λ j h j_in out low. c.halves.invariant.held j h j_in out (omega (arith, low, c.halves-test.false))
