-- The goals of `front_whole` in src/number_word.rt, which reads a short whole number at the beginning of bytes: what
-- its call requires and what it ensures.
use Rattle.tsp_number.proofs.Prelude.{◌≡◌, ◌*◌, pos, ◌*ℤ◌, ℤ, arith, rules, ap, ◌∙◌, FitsSigned, w64, to_z, of_z, to_z-of_z, take_rest}
use Rattle.tsp_number.specs.Decimal.{unit}
use Rattle.tsp_number.specs.NumberWord.{with_sign}
use Rattle.tsp_number.proofs.FrontNumbers.{HasWhole, whole_front, small_whole}
use Rattle.tsp_number.proofs.NumberGrammar.{signed-mul}
use Rattle.tsp_number.proofs.number_word.front_whole.Goals as goal

pub signed_front-requires : goal.signed_front-requires
signed_front-requires c = small_whole _ _ c.front_digits-size.ensures.size c.front_digits-size.ensures.few

-- plan: the digits and the sign are the number (`whole_front`), which fits 64 bits (`small_whole`)
pub returns-clause-number : goal.returns-clause-number
returns-clause-number c =
    let has : HasWhole c.args.bytes.now c.front_sign-negative.result.1 c.front_digits-size.result.1 c.front_digits-size.result.0 c.front_sign-negative.result.0 =
    record {
      sign_within = c.front_sign-negative.ensures.within;
      sign_short = c.front_sign-negative.ensures.short;
      is_sign = c.front_sign-negative.ensures.sign;
      within = rw take_rest at c.front_digits-size.ensures.within;
      digits = rw take_rest at c.front_digits-size.ensures.digits;
      value_is = rw take_rest at c.front_digits-size.ensures.value;
    } in
    let fits : FitsSigned w64 c.signed_front.result = search rules in
    let value : to_z w64 (of_z w64 c.signed_front.result) *ℤ pos unit ≡ with_sign c.front_sign-negative.result.0 (c.front_digits-size.result.0 * unit) =
    ap (λ (z : ℤ). z *ℤ pos unit) (to_z-of_z w64 c.signed_front.result fits ∙ c.signed_front.ensures) ∙ signed-mul c.front_sign-negative.result.0 c.front_digits-size.result.0 unit in
    rw value (whole_front _ _ _ _ _ has (omega arith) c.front_digits-size.ensures.few)
