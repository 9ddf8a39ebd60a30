-- The loop of `own_labels` in src/boxes.rt, which makes each node a component.
use Rattle.std.proofs.Common.{◌≡◌, ◌<◌, ℕ, length}
use Rattle.tsp_bound.specs.states.Components.{label_at}
use Rattle.tsp_bound.proofs.boxes.own_labels.Given as goal

-- each label so far is its own place
abbrev pub invariant-labels : goal.invariant-labels
invariant-labels l = record {
  len : length l.labels.items ≡ l.label;
  own : (x : ℕ) → x < l.label → label_at l.labels.items x ≡ x;
}
