-- The goals of `shifted` in src/shift.rt, which returns the size of a number word's number in a unit: what it ensures.
use Rattle.tsp_number.proofs.Prelude.{◌≡◌, ℕ, ◌<◌, ℤ, pos, ◌+ℤ◌, ◌-ℤ◌, ◌++◌, length, arith, ap, sym, subst, refl, ◌∙◌, ints, digits_value}
use Rattle.tsp_number.specs.NumberWord.{digits_of}
use Rattle.tsp_number.specs.states.Digits.{clamped, DropsZeros}
use Rattle.tsp_number.proofs.Scaling.{near_places, few_in_fraction, digits_of-lt, shifts_up, shifts_down}
use Rattle.tsp_number.proofs.shift.shifted.Goals as goal

-- plan: by the sign of the places: zeros are added (`shifts_up`) or dropped (`shifts_down`)
pub returns-then-places-ge0 : goal.returns-then-places-ge0
returns-then-places-ge0 c = λ n keeps.
    let near = near_places c.args.scale (length n.fraction) n.exponent c.requires.scale (few_in_fraction c.args.written.now n keeps) in
    let at : c.places-places.result ≡ pos c.unsigned_abs-count.result = grind (arith, ints) in
    let place : pos c.args.scale +ℤ clamped n.exponent -ℤ pos (length n.fraction) ≡ pos c.unsigned_abs-count.result = rw (← c.places-places.ensures n keeps) at in
    rw c.add_zeros.ensures
    (shifts_up (digits_of n) c.args.written.now.size c.unsigned_abs-count.result _ _ near place keeps.size)

pub returns-then-written-lt18446744073709551615 : goal.returns-then-written-lt18446744073709551615
returns-then-written-lt18446744073709551615 c = λ n keeps.
    let near = near_places c.args.scale (length n.fraction) n.exponent c.requires.scale (few_in_fraction c.args.written.now n keeps) in
    let at : c.places-places.result +ℤ pos c.unsigned_abs-count.result ≡ pos 0 = grind (arith, ints) in
    let place : pos c.args.scale +ℤ clamped n.exponent -ℤ pos (length n.fraction) +ℤ pos c.unsigned_abs-count.result ≡ pos 0 =
    ap (λ (z : ℤ). z +ℤ pos c.unsigned_abs-count.result) (sym (c.places-places.ensures n keeps)) ∙ at in
    let some : 0 < c.unsigned_abs-count.result = grind (arith, ints) in
    let exact : c.args.written.now.size ≡ digits_of n = omega (arith, keeps.size) in
    let P : ℕ → Type 0 = λ m. DropsZeros m c.unsigned_abs-count.result c.drop_zeros.result in
    shifts_down (digits_of n) c.unsigned_abs-count.result _ _ c.drop_zeros.result near place some
    (digits_of-lt c.args.written.now n keeps)
    (subst P exact c.drop_zeros.ensures)

pub returns : goal.returns
returns c = λ n keeps.
    let near = near_places c.args.scale (length n.fraction) n.exponent c.requires.scale (few_in_fraction c.args.written.now n keeps) in
    let at : c.places-places.result +ℤ pos c.unsigned_abs-count.result ≡ pos 0 = grind (arith, ints) in
    let place : pos c.args.scale +ℤ clamped n.exponent -ℤ pos (length n.fraction) +ℤ pos c.unsigned_abs-count.result ≡ pos 0 =
    ap (λ (z : ℤ). z +ℤ pos c.unsigned_abs-count.result) (sym (c.places-places.ensures n keeps)) ∙ at in
    let some : 0 < c.unsigned_abs-count.result = grind (arith, ints) in
    let same : digits_value 10 (c.args.written.now.whole.now ++ c.args.written.now.fraction.now) ≡ digits_of n =
    rw (keeps.whole, keeps.fraction) refl in
    let P : ℕ → Type 0 = λ m. DropsZeros m c.unsigned_abs-count.result c.drop_long_zeros.result in
    shifts_down (digits_of n) c.unsigned_abs-count.result _ _ c.drop_long_zeros.result near place some
    (digits_of-lt c.args.written.now n keeps)
    (subst P same c.drop_long_zeros.ensures)
