-- The loop of `first_outside` in src/potentials_certificate.rt.
use Rattle.tsp_verdict.proofs.Prelude.{◌≡◌, ◌<◌, ℕ, true, slice_index_or, ℤ, contains, pair_of}
use Rattle.tsp_verdict.specs.states.PairSets.{undirected, pair_cmp}
use Rattle.tsp_verdict.proofs.potentials_certificate.first_outside.Given as goal

-- the pair of each triple before this one is in the set, and `index` is how many these are
abbrev pub invariant-triples : goal.invariant-triples
invariant-triples l = record {
  counted : l.index ≡ l.triple-index;
  inside : (k : ℕ) (d : ℕ × ℕ × ℤ) → k < l.triple-index
      → contains pair_cmp l.set (undirected (pair_of (slice_index_or l.triples k d))) ≡ true;
}
