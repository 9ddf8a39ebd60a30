-- The loop of `total_of` in src/potentials.rt, which sums the multipliers of a certificate.
use Rattle.tsp_bound.proofs.Prelude.{◌≡◌, ◌*◌, drop, pos, ◌+ℤ◌, most_multiplier, IsFromTo, triples_total}
use Rattle.tsp_bound.proofs.potentials.total_of.Given as goal

-- the sum so far plus the numbers of the triples left is the whole sum; it is no larger than as many multipliers can
-- sum to
abbrev pub invariant-triples : goal.invariant-triples
invariant-triples l = record {
  size : IsFromTo (pos 0) (pos (l.triple-index * most_multiplier)) l.sum;
  so_far : (l.sum +ℤ triples_total (drop l.triple-index l.triples)) ≡ triples_total l.triples;
}
