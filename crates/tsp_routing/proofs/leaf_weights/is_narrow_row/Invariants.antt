-- The loop of `is_narrow_row` in src/leaf_weights.rt.
use Rattle.tsp_routing.proofs.Prelude.{◌≤◌, ◌<◌, ◌^◌, ℕ, pos, neg_ℤ, IsFromTo, least_at}
use Rattle.tsp_routing.proofs.leaf_weights.is_narrow_row.Given as goal

-- each number from place 1 to the one before this is at most 2^38 in size
abbrev pub invariant-places : goal.invariant-places
invariant-places l = (x : ℕ) → 1 ≤ x → x < l.place → IsFromTo (neg_ℤ (pos (2 ^ 38))) (pos (2 ^ 38)) (least_at l.row x)
