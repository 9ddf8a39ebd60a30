-- The loop of `lowered_by` in src/multipliers_by_node.rt, which finds the multiplier of a pair in the list of a node.
use Rattle.tsp_bound.proofs.Prelude.{◌≢◌, ◌<◌, ℕ, get_or, ℤ}
use Rattle.tsp_bound.proofs.multipliers_by_node.lowered_by.Given as goal

-- none of the entries before this one is for the node
abbrev pub invariant-lowerings : goal.invariant-lowerings
invariant-lowerings l = (k : ℕ) (d : ℕ × ℤ) → k < l.lowering-index → (get_or l.lowerings k d).0 ≢ l.node
