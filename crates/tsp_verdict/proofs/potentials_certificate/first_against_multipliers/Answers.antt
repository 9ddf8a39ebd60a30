-- The goals of `first_against_multipliers` in src/potentials_certificate.rt, which finds the first reason against
-- multipliers: what it ensures.
use Rattle.tsp_verdict.proofs.Prelude.{◌≡◌, false, subst, MatchOption, AllPairs, pair_of, is_same_pair}
use Rattle.tsp_verdict.specs.Certificates.{AreListed, IsUnlisted, IsPairRepeated}
use Rattle.tsp_theory.specs.First.{IsFirstPlace}
use Rattle.tsp_verdict.proofs.FirstReasons.{not_fixed, repeats, multiplied}
use Rattle.tsp_verdict.proofs.potentials_certificate.first_against_multipliers.Goals as goal

-- plan: by the triples: one not on a fixed pair (`not_fixed`), one repeated (`repeats`), or neither (`multiplied`)
pub returns-in-Some : goal.returns-in-Some
returns-in-Some c =
    let fixed = c.fixed.result.now in
    let triples = c.args.triples.now in
    let first = subst (λ found. MatchOption found (AreListed fixed triples)
    (λ index. IsFirstPlace (IsUnlisted fixed triples) triples index)) c.in-Some.is c.in_ok-index.ensures in
    not_fixed c.args.inst.now c.args.pot.now fixed triples c.in-Some.index c.fixed.ensures.value c.requires.value c.requires.kind
    c.requires.sort c.requires.count c.requires.wanted first

pub returns-in-Some-2 : goal.returns-in-Some-2
returns-in-Some-2 c =
    let fixed = c.fixed.result.now in
    let triples = c.args.triples.now in
    let listed = subst (λ found. MatchOption found (AreListed fixed triples)
    (λ index. IsFirstPlace (IsUnlisted fixed triples) triples index)) c.in_default.is c.in_ok-index.ensures in
    let first = subst (λ found. MatchOption found (AllPairs (λ s t. is_same_pair (pair_of s) (pair_of t) ≡ false) triples)
    (λ index. IsFirstPlace (IsPairRepeated triples) triples index)) c.in-Some-2.is c.in_ok-index-2.ensures in
    repeats c.args.inst.now c.args.pot.now fixed triples c.in-Some-2.index c.fixed.ensures.value c.requires.value c.requires.kind
    c.requires.sort c.requires.count c.requires.wanted listed first

pub returns : goal.returns
returns c =
    let fixed = c.fixed.result.now in
    let triples = c.args.triples.now in
    let listed = subst (λ found. MatchOption found (AreListed fixed triples)
    (λ index. IsFirstPlace (IsUnlisted fixed triples) triples index)) c.in_default.is c.in_ok-index.ensures in
    let apart = subst (λ found. MatchOption found (AllPairs (λ s t. is_same_pair (pair_of s) (pair_of t) ≡ false) triples)
    (λ index. IsFirstPlace (IsPairRepeated triples) triples index)) c.in_default-2.is c.in_ok-index-2.ensures in
    multiplied c.args.inst.now c.args.pot.now fixed triples c.fixed.ensures.value c.requires.value c.requires.count
    c.requires.nodes listed apart
