-- The loop of `total` in src/case_leaf.rt, which sums the potentials of a leaf.
use Rattle.tsp_branch.proofs.Prelude.{◌≡◌, ◌*◌, ◌^◌, drop, pos, neg_ℤ, ◌+ℤ◌, IsFromTo, total}
use Rattle.tsp_branch.proofs.case_leaf.total.Given as goal

-- the sum so far plus the potentials left is the whole sum, with at most 2^63 for each number so far
abbrev pub invariant-numbers : goal.invariant-numbers
invariant-numbers g l = record {
  size : IsFromTo (neg_ℤ (pos (l.number-index * 2 ^ 63))) (pos (l.number-index * 2 ^ 63)) l.sum;
  so_far : (l.sum +ℤ total (drop l.number-index l.leaf.potentials.now)) ≡ total l.leaf.potentials.now;
}
