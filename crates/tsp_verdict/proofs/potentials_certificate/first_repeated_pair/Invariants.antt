-- The loop of `first_repeated_pair` in src/potentials_certificate.rt.
use Rattle.tsp_verdict.proofs.Prelude.{◌≡◌, ◌<◌, ℕ, false, take, slice_index_or, pos, pair_of, is_same_pair}
use Rattle.tsp_verdict.specs.states.PairSets.{HasPairs}
use Rattle.tsp_verdict.proofs.potentials_certificate.first_repeated_pair.Given as goal

-- no two triples before this one have the same pair, in either direction, and `seen` has their pairs
abbrev pub invariant-triples : goal.invariant-triples
invariant-triples l = record {
  counted : l.index ≡ l.triple-index;
  has : HasPairs pair_of l.seen (take l.triple-index l.triples);
  apart : (i j : ℕ) → i < j → j < l.triple-index
      → is_same_pair (pair_of (slice_index_or l.triples i (0, 0, pos 0))) (pair_of (slice_index_or l.triples j (0, 0, pos 0)))
      ≡ false;
}
