-- The loop of `take_lowerings` in src/weights.rt, which takes multipliers off a row of weights.
use Rattle.tsp_bound.proofs.Prelude.{ℕ, ℤ, drop, neg_ℤ, least_at, IsMoved}
use Rattle.tsp_bound.specs.states.ByNode.{lowered_by}
use Rattle.tsp_bound.proofs.weights.take_lowerings.Given as goal

-- lowering the row now by the multipliers left gives the same as lowering the row at the call by all
abbrev pub invariant-lowerings : goal.invariant-lowerings
invariant-lowerings l = (x : ℕ) (last : ℤ) → IsMoved (neg_ℤ (lowered_by (drop l.lowering-index l.lowerings) x)) (least_at l.row x) last
    → IsMoved (neg_ℤ (lowered_by l.lowerings x)) (least_at l.fn.row x) last
