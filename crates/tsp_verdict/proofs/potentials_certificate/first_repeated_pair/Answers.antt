-- The goals of `first_repeated_pair` in src/potentials_certificate.rt, which finds the first triple whose pair an
-- earlier one has: its loop and what it ensures.
use Rattle.tsp_verdict.proofs.Prelude.{◌≡◌, ◌+◌, false, true, sym, subst, ◌∙◌, arith, contains, Updates, pos, slice_index_or, not-false, not-true, pair_of}
use Rattle.tsp_verdict.specs.Certificates.{IsPairRepeated}
use Rattle.tsp_verdict.specs.states.PairSets.{undirected, pair_cmp}
use Rattle.tsp_theory.specs.First.{IsFirstPlace}
use Rattle.tsp_verdict.proofs.GivenPairs.{has_more, repeated_pair, apart_more, apart_all}
use Rattle.tsp_verdict.proofs.potentials_certificate.first_repeated_pair.Goals as goal

pub returns-then-not-is_new : goal.returns-then-not-is_new
returns-then-not-is_new c =
    let there : contains pair_cmp c.triples.seen
    (undirected (pair_of (slice_index_or c.args.triples.now c.triples.triple-index (0, 0, pos 0)))) ≡ true =
    subst (λ p. contains pair_cmp c.triples.seen p ≡ true) c.key_of.ensures
    (not-false _ (sym c.in_ok-is_new.ensures.added ∙ c.if-not-is_new.true)) in
    subst (λ k. IsFirstPlace (IsPairRepeated c.args.triples.now) c.args.triples.now (k + 1)) (sym c.triples.invariant.counted)
    (repeated_pair c.args.triples.now c.triples.seen c.triples.triple-index c.triples-test.true c.triples.invariant.has
    c.triples.invariant.apart there)

-- plan: triple by triple: the set has its pair (`repeated_pair`), or it is one more (`apart_more`)
pub triples-preserved : goal.triples-preserved
triples-preserved c =
    let lacks : contains pair_cmp c.triples.seen
    (undirected (pair_of (slice_index_or c.args.triples.now c.triples.triple-index (0, 0, pos 0)))) ≡ false =
    subst (λ p. contains pair_cmp c.triples.seen p ≡ false) c.key_of.ensures
    (not-true _ (sym c.in_ok-is_new.ensures.added ∙ c.if-not-is_new.false)) in
    record {
      counted = omega (arith, c.triples.invariant.counted);
      has = has_more pair_of c.triples.seen c.insert.new.set c.args.triples.now c.triples.triple-index (0, 0, pos 0)
          c.triples-test.true
          (subst (λ p. Updates pair_cmp c.triples.seen c.insert.new.set p true) c.key_of.ensures c.in_ok-is_new.ensures.updates)
          c.triples.invariant.has;
      apart = apart_more c.args.triples.now c.triples.seen c.triples.triple-index c.triples-test.true c.triples.invariant.has
          c.triples.invariant.apart lacks;
    }

pub returns : goal.returns
returns c =
    apart_all c.args.triples.now
    (λ i j before inside. c.triples.invariant.apart i j before
    (omega (arith, inside, c.triples-test.false, c.triples.auto.triple-index-end)))
