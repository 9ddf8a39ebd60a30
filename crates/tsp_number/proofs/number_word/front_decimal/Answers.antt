-- The goals of `front_decimal` in src/number_word.rt, which reads a short decimal at the beginning of bytes: that no
-- sum overflows, what its calls require and what it ensures.
use Rattle.tsp_number.proofs.Prelude.{◌≢◌, ◌∙◌, ◌+◌, ◌<◌, ◌≤◌, ◌⊎◌, ap, sym, inl, inr, length, get_or, arith, rules, FitsSigned, w64, to_z-of_z, take_rest}
use Rattle.tsp_number.specs.states.Digits.{end_of_digits}
use Rattle.tsp_number.proofs.FrontNumbers.{HasWhole, whole_front, decimal_front, small_unit, small_decimal, decimal_ends, ends_past_point, no_end_at_point, ends_without_point, some_end}
use Rattle.tsp_number.proofs.NumberGrammar.{unsigned_abs-signed}
use Rattle.tsp_number.proofs.number_word.front_decimal.Goals as goal
use Rattle.tsp_number.proofs.number_word.front_decimal.Goals.{else-point-bytes-via-then-point-bytes+else-bytes-point-eq46, else-point-bytes-via-else-point-bytes, else-count-eq0-via-then-count-eq0+else-places-eq0, else-count-eq0-via-else-count-eq0}

-- plan: by the byte at the end: with a point `decimal_front` reads both parts, without one `whole_front`; the word ends
-- there
pub overflow_add-size : goal.overflow_add-size
overflow_add-size c =
    let small = small_decimal _ _ _ _ _ c.front_digits-whole.ensures.size c.front_digits-whole.ensures.few c.front_digits-part.ensures.size c.front_digits-part.ensures.few c.power_of_ten.ensures in
    search rules

pub signed_front-requires : goal.signed_front-requires
signed_front-requires c =
    small_decimal _ _ _ _ _ c.front_digits-whole.ensures.size c.front_digits-whole.ensures.few c.front_digits-part.ensures.size c.front_digits-part.ensures.few c.power_of_ten.ensures

pub of_nanos-decimal-requires : goal.of_nanos-decimal-requires
of_nanos-decimal-requires c =
    let fits : FitsSigned w64 c.signed_front.result = record { sfits = c.signed_front.type_inv } in
    let small = small_decimal _ _ _ _ _ c.front_digits-whole.ensures.size c.front_digits-whole.ensures.few c.front_digits-part.ensures.size c.front_digits-part.ensures.few c.power_of_ten.ensures in
    rw (to_z-of_z w64 c.signed_front.result fits, c.signed_front.ensures, unsigned_abs-signed) small

pub returns-then-bytes-point-eq46-clause-number : goal.returns-then-bytes-point-eq46-clause-number
returns-then-bytes-point-eq46-clause-number c =
    let has : HasWhole c.args.bytes.now c.front_sign-negative.result.1 c.front_digits-whole.result.1 c.front_digits-whole.result.0 c.front_sign-negative.result.0 =
    record {
      sign_within = c.front_sign-negative.ensures.within;
      sign_short = c.front_sign-negative.ensures.short;
      is_sign = c.front_sign-negative.ensures.sign;
      within = rw take_rest at c.front_digits-whole.ensures.within;
      digits = rw take_rest at c.front_digits-whole.ensures.digits;
      value_is = rw take_rest at c.front_digits-whole.ensures.value;
    } in
    let some : 0 < c.front_digits-whole.result.1 + c.front_digits-part.result.1 = elim c.else-count-eq0.branch [
      | else-count-eq0-via-then-count-eq0+else-places-eq0 w ↦ omega (arith, w.if-places-eq0.false)
      | else-count-eq0-via-else-count-eq0 w ↦ omega (arith, w.if-count-eq0.false)
    ] in
    let fits : FitsSigned w64 c.signed_front.result = record { sfits = c.signed_front.type_inv } in
    rw (c.of_nanos-decimal.ensures, to_z-of_z w64 c.signed_front.result fits, c.signed_front.ensures, c.power_of_ten.ensures)
    (decimal_front _ _ _ _ _ _ _ has c.front_digits-whole.ensures.few c.if-point-bytes.true c.if-bytes-point-eq46.true
    (rw take_rest at c.front_digits-part.ensures.within) c.front_digits-part.ensures.few
    (rw take_rest at c.front_digits-part.ensures.digits) (rw take_rest at c.front_digits-part.ensures.value) some)

pub returns-then-bytes-point-eq46-clause-size : goal.returns-then-bytes-point-eq46-clause-size
returns-then-bytes-point-eq46-clause-size c =
    let fits : FitsSigned w64 c.signed_front.result = record { sfits = c.signed_front.type_inv } in
    let small = small_decimal _ _ _ _ _ c.front_digits-whole.ensures.size c.front_digits-whole.ensures.few c.front_digits-part.ensures.size c.front_digits-part.ensures.few c.power_of_ten.ensures in
    rw (c.of_nanos-decimal.ensures, to_z-of_z w64 c.signed_front.result fits, c.signed_front.ensures, unsigned_abs-signed) small

pub returns-clause-number : goal.returns-clause-number
returns-clause-number c =
    let has : HasWhole c.args.bytes.now c.front_sign-negative.result.1 c.front_digits-whole.result.1 c.front_digits-whole.result.0 c.front_sign-negative.result.0 =
    record {
      sign_within = c.front_sign-negative.ensures.within;
      sign_short = c.front_sign-negative.ensures.short;
      is_sign = c.front_sign-negative.ensures.sign;
      within = rw take_rest at c.front_digits-whole.ensures.within;
      digits = rw take_rest at c.front_digits-whole.ensures.digits;
      value_is = rw take_rest at c.front_digits-whole.ensures.value;
    } in
    let fits : FitsSigned w64 c.signed_front-2.result = record { sfits = c.signed_front-2.type_inv } in
    let few : c.front_digits-whole.result.1 ≤ 18 = omega (arith, c.front_digits-whole.ensures.few) in
    rw (c.of_nanos-decimal-2.ensures, to_z-of_z w64 c.signed_front-2.result fits, c.signed_front-2.ensures)
    (whole_front _ _ _ _ _ has (omega arith) few)

pub overflow_mul-size : goal.overflow_mul-size
overflow_mul-size c =
    let small = small_unit c.front_digits-whole.result.1 c.front_digits-whole.result.0 c.front_digits-whole.ensures.size c.front_digits-whole.ensures.few in
    record { fits = omega (arith, small) }

pub of_nanos-decimal-requires-2 : goal.of_nanos-decimal-requires-2
of_nanos-decimal-requires-2 c =
    let fits : FitsSigned w64 c.signed_front-2.result = record { sfits = c.signed_front-2.type_inv } in
    let small = small_unit c.front_digits-whole.result.1 c.front_digits-whole.result.0 c.front_digits-whole.ensures.size c.front_digits-whole.ensures.few in
    rw (to_z-of_z w64 c.signed_front-2.result fits, c.signed_front-2.ensures, unsigned_abs-signed) small

pub returns-clause-size : goal.returns-clause-size
returns-clause-size c =
    let fits : FitsSigned w64 c.signed_front-2.result = record { sfits = c.signed_front-2.type_inv } in
    let small = small_unit c.front_digits-whole.result.1 c.front_digits-whole.result.0 c.front_digits-whole.ensures.size c.front_digits-whole.ensures.few in
    rw (c.of_nanos-decimal-2.ensures, to_z-of_z w64 c.signed_front-2.result fits, c.signed_front-2.ensures, unsigned_abs-signed) small

pub returns-then-places-eq0-clause-end : goal.returns-then-places-eq0-clause-end
returns-then-places-eq0-clause-end c =
    no_end_at_point c.args.bytes.now c.front_sign-negative.result.1 c.front_digits-whole.result.1 c.front_digits-part.result.1
    c.if-point-bytes.true c.if-bytes-point-eq46.true (rw take_rest at c.front_digits-part.ensures.count)
    c.if-count-eq0.true c.if-places-eq0.true
    ∙ decimal_ends c.args.bytes.now c.front_sign-negative.result.1 c.front_digits-whole.result.1 c.front_sign-negative.ensures.count (rw take_rest at c.front_digits-whole.ensures.count)

pub returns-then-bytes-point-eq46-clause-end : goal.returns-then-bytes-point-eq46-clause-end
returns-then-bytes-point-eq46-clause-end c =
    let some : 0 < c.front_digits-whole.result.1 + c.front_digits-part.result.1 = elim c.else-count-eq0.branch [
      | else-count-eq0-via-then-count-eq0+else-places-eq0 w ↦ omega (arith, w.if-places-eq0.false)
      | else-count-eq0-via-else-count-eq0 w ↦ omega (arith, w.if-count-eq0.false)
    ] in
    ends_past_point c.args.bytes.now c.front_sign-negative.result.1 c.front_digits-whole.result.1 c.front_digits-part.result.1
    c.if-point-bytes.true c.if-bytes-point-eq46.true (rw take_rest at c.front_digits-part.ensures.count) some
    ∙ decimal_ends c.args.bytes.now c.front_sign-negative.result.1 c.front_digits-whole.result.1 c.front_sign-negative.ensures.count (rw take_rest at c.front_digits-whole.ensures.count)

pub returns-then-count-eq0-2-clause-end : goal.returns-then-count-eq0-2-clause-end
returns-then-count-eq0-2-clause-end c =
    let sign = c.front_sign-negative.result.1 in
    let whole = c.front_digits-whole.result.1 in
    let no_point : (length c.args.bytes.now ≤ sign + whole) ⊎ (get_or c.args.bytes.now (sign + whole) 0 ≢ 46) = elim c.else-point-bytes.branch [
      | else-point-bytes-via-then-point-bytes+else-bytes-point-eq46 w ↦ inr w.if-bytes-point-eq46.false
      | else-point-bytes-via-else-point-bytes w ↦ inl w.if-point-bytes.false
    ] in
    sym (ap (end_of_digits sign) c.if-count-eq0-2.true) ∙ ends_without_point c.args.bytes.now sign whole no_point
    ∙ decimal_ends c.args.bytes.now c.front_sign-negative.result.1 c.front_digits-whole.result.1 c.front_sign-negative.ensures.count (rw take_rest at c.front_digits-whole.ensures.count)

pub returns-clause-end : goal.returns-clause-end
returns-clause-end c =
    let sign = c.front_sign-negative.result.1 in
    let whole = c.front_digits-whole.result.1 in
    let no_point : (length c.args.bytes.now ≤ sign + whole) ⊎ (get_or c.args.bytes.now (sign + whole) 0 ≢ 46) = elim c.else-point-bytes.branch [
      | else-point-bytes-via-then-point-bytes+else-bytes-point-eq46 w ↦ inr w.if-bytes-point-eq46.false
      | else-point-bytes-via-else-point-bytes w ↦ inl w.if-point-bytes.false
    ] in
    some_end sign whole c.if-count-eq0-2.false ∙ ends_without_point c.args.bytes.now sign whole no_point
    ∙ decimal_ends c.args.bytes.now c.front_sign-negative.result.1 c.front_digits-whole.result.1 c.front_sign-negative.ensures.count (rw take_rest at c.front_digits-whole.ensures.count)
