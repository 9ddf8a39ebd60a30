-- The goals of `drop_long_zeros` in src/shift.rt, which drops zeros at the end of a number beyond 64 bits: what it
-- ensures.
use Rattle.std.proofs.Common.{◌≡◌, Bool, true, false, ◌&&◌, ◌++◌, ◌+◌, ◌-◌, length, arith, refl, sym, ◌∙◌, ◌⊎◌, inl, inr, length-append}
use Rattle.tsp_number.proofs.Scaling.{CutsWhole, CutsFraction, all_dropped, whole_cut_zeros, whole_cut_rest, fraction_cut_zeros, fraction_cut_rest}
use Rattle.tsp_number.proofs.shift.drop_long_zeros.Goals as goal
use Rattle.tsp_number.proofs.shift.drop_long_zeros.Goals.{else-are_zeros-via-then-are_zeros+else-are_zeros-2, else-are_zeros-via-else-are_zeros}

-- plan: by where the digits are cut, before the point or after it: all that is dropped is 0, or something isn't
-- (`not_both`)
pub returns-then-count-digits : goal.returns-then-count-digits
returns-then-count-digits c =
    all_dropped (c.args.whole.now ++ c.args.fraction.now) c.args.count c.requires.all_digits
    (rw (length-append c.args.whole.now c.args.fraction.now) c.if-count-digits.true)
    c.requires.above_zero

pub returns-then-are_zeros-2 : goal.returns-then-are_zeros-2
returns-then-are_zeros-2 c =
    let cut : CutsWhole c.args.whole.now c.args.fraction.now c.split_at.result.0.now c.split_at.result.1.now c.args.count (length c.args.whole.now + length c.args.fraction.now - c.args.count) =
    record { front_is = c.split_at.ensures.front; back_is = c.split_at.ensures.back; places = omega arith; within = c.if-kept-whole.true } in
    whole_cut_zeros _ _ _ _ _ _ _ cut c.requires.all_digits
    (sym c.are_zeros.ensures ∙ c.if-are_zeros.true)
    (sym c.are_zeros-then-are_zeros.ensures ∙ c.if-are_zeros-2.true)
    (c.split_digits.ensures.value 0 refl)

-- not all digits that are dropped are zeros
not_both : (a b : Bool) → (a ≡ true) × (b ≡ false) ⊎ (a ≡ false) → (a && b) ≡ false
not_both a b (inl both) = rw (both.0, both.1) refl
not_both a b (inr first) = rw first refl

pub returns-then-kept-whole : goal.returns-then-kept-whole
returns-then-kept-whole c =
    let cut : CutsWhole c.args.whole.now c.args.fraction.now c.split_at.result.0.now c.split_at.result.1.now c.args.count (length c.args.whole.now + length c.args.fraction.now - c.args.count) =
    record { front_is = c.split_at.ensures.front; back_is = c.split_at.ensures.back; places = omega arith; within = c.if-kept-whole.true } in
    whole_cut_rest _ _ _ _ _ _ cut c.requires.all_digits
    (elim c.else-are_zeros.branch [
      | else-are_zeros-via-then-are_zeros+else-are_zeros-2 w ↦
          not_both _ _ (inl (sym c.are_zeros.ensures ∙ w.if-are_zeros.true, sym w.are_zeros-then-are_zeros.ensures ∙ w.if-are_zeros-2.false))
      | else-are_zeros-via-else-are_zeros w ↦ not_both _ _ (inr (sym c.are_zeros.ensures ∙ w.if-are_zeros.false))
    ])

pub returns-then-are_zeros-3 : goal.returns-then-are_zeros-3
returns-then-are_zeros-3 c =
    let cut : CutsFraction c.args.whole.now c.args.fraction.now c.split_at-2.result.0.now c.split_at-2.result.1.now c.args.count
    (length c.args.whole.now + length c.args.fraction.now - c.args.count - length c.args.whole.now) =
    record { front_is = c.split_at-2.ensures.front; back_is = c.split_at-2.ensures.back; places = omega arith } in
    fraction_cut_zeros _ _ _ _ _ _ _ cut c.requires.all_digits
    (sym c.are_zeros-2.ensures ∙ c.if-are_zeros-3.true)
    (c.split_digits-then-are_zeros-3.ensures.value _ (c.split_digits-before.ensures.value 0 refl))

pub returns : goal.returns
returns c =
    let cut : CutsFraction c.args.whole.now c.args.fraction.now c.split_at-2.result.0.now c.split_at-2.result.1.now c.args.count
    (length c.args.whole.now + length c.args.fraction.now - c.args.count - length c.args.whole.now) =
    record { front_is = c.split_at-2.ensures.front; back_is = c.split_at-2.ensures.back; places = omega arith } in
    fraction_cut_rest _ _ _ _ _ _ cut c.requires.all_digits (sym c.are_zeros-2.ensures ∙ c.if-are_zeros-3.false)
