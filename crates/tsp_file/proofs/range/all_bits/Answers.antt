-- The goals of `all_bits` in src/range.rt, which unites the bits of all numbers: its loop and what it ensures.
use Rattle.tsp_file.proofs.Prelude.{◌≡◌, ◌≤◌, ℕ, ℤ, pos, ◌≤ℤ◌, take, bit_or, slice_index_or, of_z, FitsSigned, w64, arith, ap, ◌∙◌, subst, rules, ints, to_z-of_z, le_or_l, le_or_r, take_all, All}
use Rattle.std.proofs.lemmas.List.Elements.{All-more, All-weaker}
use Rattle.tsp_file.proofs.ValidFields.{own_bits}
use Rattle.tsp_file.proofs.range.all_bits.Goals as goal

-- plan: one number more has only these bits, and a number without the highest bit is its bits (`own_bits`)
pub numbers-preserved : goal.numbers-preserved
numbers-preserved c = λ small.
    let number : ℤ = slice_index_or c.args.numbers.now c.numbers.number-index (pos 0) in
    let bits : ℕ = c.cast_unsigned-bits.result in
    let before : c.numbers.bits ≤ bit_or c.numbers.bits bits = le_or_l c.numbers.bits bits in
    let own : bits ≤ bit_or c.numbers.bits bits = le_or_r c.numbers.bits bits in
    let fits : FitsSigned w64 number = (search rules) in
    let is_own : bits ≡ of_z w64 number = c.cast_unsigned-bits.ensures ∙ ap (of_z w64) (to_z-of_z w64 number fits) in
    let in_range : (pos 0 ≤ℤ number) × (number ≤ℤ pos (of_z w64 number)) = own_bits number fits (omega (arith, small, own, is_own)) in
    All-more (λ z. (pos 0 ≤ℤ z) × (z ≤ℤ pos (bit_or c.numbers.bits bits))) c.args.numbers.now c.numbers.number-index (pos 0) (omega (arith, c.numbers-test.true))
    (All-weaker (λ z. (pos 0 ≤ℤ z) × (z ≤ℤ pos c.numbers.bits)) (λ z. (pos 0 ≤ℤ z) × (z ≤ℤ pos (bit_or c.numbers.bits bits)))
    (λ z h. (h.0, omega (arith, ints, h.1, before))) (take c.numbers.number-index c.args.numbers.now) (c.numbers.invariant (omega (arith, small, before))))
    (in_range.0, omega (arith, ints, in_range.1, own, is_own))

pub returns : goal.returns
returns c = λ small. subst (λ xs. All (λ z. (pos 0 ≤ℤ z) × (z ≤ℤ pos c.numbers.bits)) xs)
    (take_all c.numbers.number-index c.args.numbers.now (omega (arith, c.numbers-test.false))) (c.numbers.invariant small)
