-- The loop of `tag_boxes` in src/boxes.rt, which tags each box whose nodes have one label.
use Rattle.std.proofs.Common.{◌≡◌, ◌≤◌, ◌<◌, ◌*◌, ◌+◌, ℕ, true, length}
use Rattle.tsp_bound.specs.states.Boxes.{AreHeldFrom, box_at}
use Rattle.tsp_bound.specs.states.Components.{IsTagOf, label_at}
use Rattle.tsp_bound.proofs.boxes.tag_boxes.Given as goal

-- the tag of each leaf before this one is the label of its node
abbrev pub invariant-leaves : goal.invariant-leaves
invariant-leaves l = record {
  len : length l.tags.items ≡ 2 * length l.labels;
  done : (j : ℕ) → j < l.place → IsTagOf (box_at 0 l.tags.items (length l.labels + j)) (label_at l.labels j);
}

-- the tag of each box from `v` on is the label of all nodes below it, or says that labels differ
abbrev pub invariant-halves : goal.invariant-halves
invariant-halves l = record {
  len : length l.tags.items ≡ 2 * length l.labels;
  high : l.v ≤ length l.labels;
  held : AreHeldFrom IsTagOf l.v l.labels (λ _. true) (box_at 0 l.tags.items);
}

-- `v` gets smaller by one
abbrev pub decreases-halves : goal.decreases-halves
decreases-halves l = l.v
