-- The loop of `total` in src/potentials.rt, which sums the potentials of a certificate.
use Rattle.tsp_bound.proofs.Prelude.{◌≡◌, ◌*◌, drop, pos, neg_ℤ, ◌+ℤ◌, most_potential, IsFromTo, total}
use Rattle.tsp_bound.proofs.potentials.total.Given as goal

-- the sum so far plus the numbers left is the whole sum; it is no larger than as many potentials can sum to
abbrev pub invariant-numbers : goal.invariant-numbers
invariant-numbers l = record {
  size : IsFromTo (neg_ℤ (pos (l.number-index * most_potential))) (pos (l.number-index * most_potential)) l.sum;
  so_far : (l.sum +ℤ total (drop l.number-index l.numbers)) ≡ total l.numbers;
}
