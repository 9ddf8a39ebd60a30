-- The goals of `check_by` in src/picked_runs.rt, which checks by the number of the certificate's kind: what it ensures.
use Rattle.tsp_c.proofs.Prelude.{◌≡◌, ◌∙◌, ap, subst, subst₂, Bool, arith, rules, FitsSigned, w64, Option, ℤ, to_z-of_z, CertificateKind}
use Rattle.tsp_c.specs.Texts.{ChecksTexts, claim_of, strict_of, with_certificate}
use Rattle.tsp_c.specs.CallResult.{TellsTexts}
use Rattle.tsp_c.proofs.picked_runs.check_by.Goals as goal

-- plan: by the numbers that C passes: they name a certificate and a claim, as the code has tested, so the verdict is
-- that of the call
pub returns-clause-texts : goal.returns-clause-texts
returns-clause-texts c =
    let one = c.args.instance.now in
    let two = c.args.solution.now in
    let three = c.args.certificate.now in
    let made = c.checked.result in
    let low = c.if-by-gt2.false in
    let few = c.if-claim-gt3.false in
    let by = c.certificate_of-by in
    let claim = c.claim_of-claim in
    let fits : FitsSigned w64 c.args.claim.claimed = search rules in
    let claim_is : claim.result ≡ claim_of c.args.claim.flags c.args.claim.claimed =
    claim.ensures ∙ ap (λ (z : ℤ). claim_of c.args.claim.flags z) (to_z-of_z w64 c.args.claim.claimed fits) in (
      λ known claims. subst (λ (b : Option CertificateKind). ChecksTexts (with_certificate b three) (claim_of c.args.claim.flags c.args.claim.claimed) (strict_of c.args.claim.flags) one two made.0.0 made.0.1)
          by.ensures
          (subst₂ (λ (k : Option ℤ) (s : Bool). ChecksTexts (with_certificate by.result three) k s one two made.0.0 made.0.1) claim_is c.strict_of-strict.ensures c.checked.ensures.texts),
      λ many. absurd (omega (arith, low, many)),
      λ many. absurd (omega (arith, few, many)),
    )

pub returns-clause-numbers : goal.returns-clause-numbers
returns-clause-numbers c =
    let one = c.args.instance.now in
    let two = c.args.solution.now in
    let three = c.args.certificate.now in
    let made = c.checked.result in
    let low = c.if-by-gt2.false in
    let few = c.if-claim-gt3.false in
    let by = c.certificate_of-by in
    let claim = c.claim_of-claim in
    let fits : FitsSigned w64 c.args.claim.claimed = search rules in
    let claim_is : claim.result ≡ claim_of c.args.claim.flags c.args.claim.claimed =
    claim.ensures ∙ ap (λ (z : ℤ). claim_of c.args.claim.flags z) (to_z-of_z w64 c.args.claim.claimed fits) in (
      λ known claims. subst (λ (b : Option CertificateKind). TellsTexts (with_certificate b three) (claim_of c.args.claim.flags c.args.claim.claimed) (strict_of c.args.claim.flags) one two made.0.0 made.1)
          by.ensures
          (subst₂ (λ (k : Option ℤ) (s : Bool). TellsTexts (with_certificate by.result three) k s one two made.0.0 made.1) claim_is c.strict_of-strict.ensures c.checked.ensures.numbers),
      λ many. absurd (omega (arith, low, many)),
      λ many. absurd (omega (arith, few, many)),
    )
