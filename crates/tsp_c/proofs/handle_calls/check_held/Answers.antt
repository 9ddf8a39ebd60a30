-- The goals of `check_held` in src/handle_calls.rt, which checks the solution of a text by a handle's instance and
-- certificate: what it ensures.
use Rattle.tsp_c.proofs.Prelude.{◌≡◌, ◌∙◌, Bool, ap, subst, arith, rules, FitsSigned, w64, Option, Some, ℤ, to_z-of_z, Open}
use Rattle.tsp_c.specs.Opened.{Held, ChecksOpen, ChecksHeld}
use Rattle.tsp_c.specs.Texts.{claim_of, strict_of}
use Rattle.tsp_c.proofs.handle_calls.check_held.Goals as goal

-- plan: the handle has an open instance, and the verdict is that of the call on it; the claimed length fits 64 bits
pub returns-in-Some-clause-checks : goal.returns-in-Some-clause-checks
returns-in-Some-clause-checks c =
    let two = c.args.solution.now in
    let made = c.check_opened-answer.result in
    let few = c.if-flags-gt3.false in
    let held : Open = c.in-Some.opened.value in
    let claim : Option ℤ = claim_of c.args.flags c.args.claimed in
    let fits : FitsSigned w64 c.args.claimed = c.ranges.claimed in
    let claim_is : c.claim_of-claim.result ≡ claim =
    c.claim_of-claim.ensures ∙ ap (λ (z : ℤ). claim_of c.args.flags z) (to_z-of_z w64 c.args.claimed fits) in
    let strict : Bool = strict_of c.args.flags in
    let strict_is : c.strict_of.result ≡ strict = c.strict_of.ensures in
    let checked : ChecksOpen c.deref.result.now c.claim_of-claim.result c.strict_of.result two made.0.0 made.0.1 made.1 =
    (c.check_opened-answer.ensures.texts, c.check_opened-answer.ensures.numbers) in
    let old : Some held ≡ c.args.handle.now.loose.value = search rules in
    subst (λ (h : Held). ChecksHeld h c.args.flags c.args.claimed two made.0.0 made.0.1 made.1) old (
      λ low. subst (λ (b : Bool). ChecksOpen held claim b two made.0.0 made.0.1 made.1) strict_is
          (subst (λ (k : Option ℤ). ChecksOpen held k c.strict_of.result two made.0.0 made.0.1 made.1) claim_is
          (subst (λ (o : Open). ChecksOpen o c.claim_of-claim.result c.strict_of.result two made.0.0 made.0.1 made.1)
          c.deref.ensures checked)),
      λ many. absurd (omega (arith, few, many)),
    )
