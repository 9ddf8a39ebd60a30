-- The goals of `first_outside` in src/potentials_certificate.rt, which finds the first triple whose pair isn't in a
-- set: its loop and what it ensures.
use Rattle.tsp_verdict.proofs.Prelude.{◌≡◌, ◌+◌, false, true, sym, subst, ◌∙◌, arith, contains, pos, slice_index_or, pair_of}
use Rattle.tsp_verdict.specs.Certificates.{IsUnlisted}
use Rattle.tsp_verdict.specs.states.PairSets.{undirected, pair_cmp}
use Rattle.tsp_theory.specs.First.{IsFirstPlace}
use Rattle.tsp_verdict.proofs.GivenPairs.{has_listed, inside_more, outside_here}
use Rattle.tsp_verdict.proofs.potentials_certificate.first_outside.Goals as goal

-- plan: triple by triple: the first that isn't in the set (`outside_here`), or all are (`inside_more`)
pub returns-then-not-contains : goal.returns-then-not-contains
returns-then-not-contains c = λ pairs has.
    let lacks : contains pair_cmp c.args.set.now
    (undirected (pair_of (slice_index_or c.args.triples.now c.triples.triple-index (0, 0, pos 0)))) ≡ false =
    subst (λ p. contains pair_cmp c.args.set.now p ≡ false) c.key_of-pair.ensures
    (sym c.contains.ensures ∙ c.if-not-contains.true) in
    subst (λ k. IsFirstPlace (IsUnlisted pairs c.args.triples.now) c.args.triples.now (k + 1)) (sym c.triples.invariant.counted)
    (outside_here pairs c.args.set.now c.args.triples.now c.triples.triple-index has c.triples-test.true
    c.triples.invariant.inside lacks)

pub triples-preserved : goal.triples-preserved
triples-preserved c =
    let there : contains pair_cmp c.args.set.now
    (undirected (pair_of (slice_index_or c.args.triples.now c.triples.triple-index (0, 0, pos 0)))) ≡ true =
    subst (λ p. contains pair_cmp c.args.set.now p ≡ true) c.key_of-pair.ensures
    (sym c.contains.ensures ∙ c.if-not-contains.false) in
    record {
      counted = omega (arith, c.triples.invariant.counted);
      inside = inside_more c.args.set.now c.args.triples.now c.triples.triple-index c.triples-test.true c.triples.invariant.inside
          there;
    }

pub returns : goal.returns
returns c = λ pairs has k d lt. has_listed pairs c.args.set.now _ has
    (c.triples.invariant.inside k d (omega (arith, lt, c.triples-test.false)))
