-- The goals of `split_word` in src/scan.rt, which divides a number word into its parts: what it ensures.
use Rattle.tsp_number.proofs.Prelude.{rules, arith, ◌≡◌, Some, FitsSigned, w64, ap, ◌∙◌, refl, sym, List, ℕ, ℤ, to_z-of_z, option_map, digits_value, digits_value_after}
use Rattle.std.proofs.lemmas.Grind.{common_steps}
use Rattle.tsp_number.specs.NumberWord.{front_digits, whole_in, fraction_in, past_point, past_mantissa, exponent_in}
use Rattle.tsp_number.specs.states.Digits.{clamped, saturated}
use Rattle.tsp_number.proofs.Scaling.{holds}
use Rattle.tsp_number.proofs.scan.split_word.Goals as goal

-- plan: the parts that the calls found are those of the definition, one after the other
pub returns : goal.returns
returns c =
    let whole : c.split_digits-whole.result.digits.now ≡ whole_in c.args.word.now = cc in
    let past : c.skip_point.result.now ≡ past_point c.args.word.now = cc in
    let fraction : c.split_digits-fraction.result.digits.now ≡ fraction_in c.args.word.now = cc in
    let rest : c.split_digits-fraction.result.rest.now ≡ past_mantissa c.args.word.now = cc in
    let fits : FitsSigned w64 c.in_ok-exponent.exponent = search rules in
    let first : c.split_digits-whole.result.value ≡ saturated (digits_value 10 (whole_in c.args.word.now)) =
    c.split_digits-whole.ensures.value 0 refl ∙ ap (λ (bytes : List ℕ). saturated (digits_value 10 (front_digits bytes))) c.split_sign-negative.ensures.rest in
    holds _ _ c.requires c.split_sign-negative.ensures.negative whole fraction
    (grind (arith, common_steps, whole, fraction))
    (c.split_digits-fraction.ensures.value (digits_value 10 (whole_in c.args.word.now)) first
    ∙ ap (λ (bytes : List ℕ). saturated (digits_value_after 10 (digits_value 10 (whole_in c.args.word.now)) (front_digits bytes))) past)
    (ap (λ (bytes : List ℕ). option_map clamped (exponent_in bytes)) (sym rest) ∙ sym c.exponent_of.ensures ∙ c.in_ok-exponent.was
    ∙ ap (λ (e : ℤ). Some e) (sym (to_z-of_z w64 c.in_ok-exponent.exponent fits)))
