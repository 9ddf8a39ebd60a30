-- The loop of `rename` in src/boxes.rt, which gives joined components one label.
use Rattle.std.proofs.Common.{◌≡◌, ◌≤◌, ◌<◌, ℕ, length}
use Rattle.tsp_bound.specs.states.Components.{label_at}
use Rattle.tsp_bound.proofs.boxes.rename.Given as goal

-- the labels before this one are renamed, and the others are as they were
abbrev pub invariant-labels : goal.invariant-labels
invariant-labels l = record {
  len : length l.labels ≡ length l.fn.labels;
  done : (x : ℕ) → x < l.i → label_at l.labels x ≡ label_at l.list (label_at l.fn.labels x);
  rest : (x : ℕ) → l.i ≤ x → label_at l.labels x ≡ label_at l.fn.labels x;
}
