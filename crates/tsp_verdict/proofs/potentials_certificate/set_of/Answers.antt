-- The goals of `set_of` in src/potentials_certificate.rt, which makes the set of pairs, the smaller node first: its
-- loop and what it ensures.
use Rattle.tsp_verdict.proofs.Prelude.{true, subst, arith, Updates, take_all}
use Rattle.tsp_verdict.specs.states.PairSets.{pair_cmp, HasPairs}
use Rattle.tsp_verdict.proofs.GivenPairs.{has_more}
use Rattle.tsp_verdict.proofs.potentials_certificate.set_of.Goals as goal

-- plan: one pair more is in the set (`has_more`)
pub pairs-preserved : goal.pairs-preserved
pairs-preserved c =
    has_more (λ pair. pair) c.pairs.set c.insert.new.set c.args.pairs.now c.pairs.pair-index (0, 0) c.pairs-test.true
    (subst (λ p. Updates pair_cmp c.pairs.set c.insert.new.set p true) c.key_of.ensures c.in_ok-insert.ensures.updates)
    c.pairs.invariant

pub returns : goal.returns
returns c =
    subst (λ ps. HasPairs (λ pair. pair) c.pairs.set ps)
    (take_all c.pairs.pair-index c.args.pairs.now (omega (arith, c.pairs-test.false))) c.pairs.invariant
