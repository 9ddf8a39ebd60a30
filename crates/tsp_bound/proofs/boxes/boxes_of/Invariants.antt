-- The loop of `boxes_of` in src/boxes.rt, which makes the tree of boxes over nodes in an order.
use Rattle.std.proofs.Common.{◌≡◌, ◌≤◌, ◌<◌, ◌+◌, ◌*◌, ℕ, Bool, length}
use Rattle.tsp_bound.specs.states.Boxes.{HoldsNode, AreHeldFrom, area_at, node_of}
use Rattle.tsp_bound.proofs.boxes.boxes_of.Given as goal

-- each leaf before this one has a box that holds its own node
abbrev pub invariant-leaves : goal.invariant-leaves
invariant-leaves g l = record {
  len : length l.areas.items ≡ 2 * length l.placed.order.now;
  done : (j : ℕ) → j < l.place → HoldsNode (g.W.BoxedWeights.place_of l.placed.w.now)
      (g.W.BoxedWeights.number_of l.placed.w.now) (area_at l.areas.items (length l.placed.order.now + j))
      (node_of l.placed.order.now j);
}

-- each box from `v` on holds all nodes below it, whichever are outside
abbrev pub invariant-halves : goal.invariant-halves
invariant-halves g l = record {
  len : length l.areas.items ≡ 2 * length l.placed.order.now;
  high : l.v ≤ length l.placed.order.now;
  held : (outside : ℕ → Bool) → AreHeldFrom (HoldsNode (g.W.BoxedWeights.place_of l.placed.w.now) (g.W.BoxedWeights.number_of l.placed.w.now)) l.v l.placed.order.now outside (area_at l.areas.items);
}

-- `v` gets smaller by one
abbrev pub decreases-halves : goal.decreases-halves
decreases-halves g l = l.v
