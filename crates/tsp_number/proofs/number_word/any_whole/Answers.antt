-- The goals of `any_whole` in src/number_word.rt, which reads any word of a whole number: what it ensures.
use Rattle.tsp_number.proofs.Prelude.{◌≡◌, ℤ, pos, ◌*ℤ◌, ◌≤ℤ◌, ◌<ℤ◌, ◌⊎◌, inl, inr, arith, rules, subst, ◌∙◌, FitsSigned, w64, w128, ints, to_z-of_z, by_lt_z, Ok, Err}
use Rattle.tsp_number.proofs.NumberGrammar.{bad_number, too_fine, not_whole, whole_stands, whole_within, whole_past}
use Rattle.tsp_number.specs.Decimal.{unit}
use Rattle.tsp_number.specs.NumberWord.{StandsFor, ReadsWhole, with_sign}
use Rattle.tsp_number.specs.declared.number_word.NumberFault.TheVariants.{LongWord, BadNumber, TooFine, OutOfRange, NotWhole}
use Rattle.tsp_number.proofs.WordLaws.{whole_once, whole_of-reads}
use Rattle.tsp_number.proofs.number_word.any_whole.Goals as goal

-- plan: by the first thing that is wrong: each branch gives `ReadsWhole`, and `whole_once` that it is the computed
-- answer
pub returns-then-word-gt-MOST_BYTES : goal.returns-then-word-gt-MOST_BYTES
returns-then-word-gt-MOST_BYTES c =
    let reads : ReadsWhole c.args.word.now c.args.low c.args.high (Err LongWord) = λ short. omega arith in
    record { reads = reads; computed = whole_once _ _ _ _ _ reads (whole_of-reads c.args.word.now c.args.low c.args.high) }

pub returns-in_default : goal.returns-in_default
returns-in_default c =
    let reads : ReadsWhole c.args.word.now c.args.low c.args.high (Err BadNumber) = (omega arith, bad_number c.args.word.now c.in_default.ensures) in
    record { reads = reads; computed = whole_once _ _ _ _ _ reads (whole_of-reads c.args.word.now c.args.low c.args.high) }

pub returns-in-Some-shifted-2 : goal.returns-in-Some-shifted-2
returns-in-Some-shifted-2 c =
    let rest = not_whole c.args.word.now c.in-Some.written c.in-Some-shifted-2.field-0 c.in-Some.ensures c.in-Some-shifted-2.ensures c.in_default-shifted.ensures in
    let reads : ReadsWhole c.args.word.now c.args.low c.args.high (Err NotWhole) = (omega arith, rest) in
    record { reads = reads; computed = whole_once _ _ _ _ _ reads (whole_of-reads c.args.word.now c.args.low c.args.high) }

pub returns-in-None : goal.returns-in-None
returns-in-None c =
    let fine = too_fine c.args.word.now c.in-Some.written c.in-Some.ensures c.in-None.ensures in
    let reads : ReadsWhole c.args.word.now c.args.low c.args.high (Err TooFine) = (omega arith, fine.0, fine.1) in
    record { reads = reads; computed = whole_once _ _ _ _ _ reads (whole_of-reads c.args.word.now c.args.low c.args.high) }

pub returns-in-Some-within : goal.returns-in-Some-within
returns-in-Some-within c =
    let k = whole_stands c.args.word.now c.in-Some.written c.in-Some-shifted.size c.in-Some.ensures c.in-Some-shifted.ensures in
    let fits : FitsSigned w128 c.signed.result = search rules in
    let fits' : FitsSigned w64 c.in-Some-within.whole = search rules in
    let value : c.in-Some-within.whole ≡ c.signed.result = c.in-Some-within.ensures.1 ∙ to_z-of_z w128 c.signed.result fits in
    let exact = whole_within c.in-Some.written.negative c.in-Some-shifted.size k.0 c.in-Some-within.whole k.2 (value ∙ c.signed.ensures) fits' in
    let low : c.args.low ≤ℤ c.in-Some-within.whole = omega (arith, ints, c.in-Some-within.ensures) in
    let high : c.in-Some-within.whole ≤ℤ c.args.high = omega (arith, ints, c.in-Some-within.ensures) in
    let P : ℤ → Type 0 = λ z. StandsFor c.args.word.now (z *ℤ pos unit) in
    let reads : ReadsWhole c.args.word.now c.args.low c.args.high (Ok c.in-Some-within.whole) = (omega arith, subst P exact k.1, low, high) in
    rw (to_z-of_z w64 c.in-Some-within.whole fits')
    (record { reads = reads; computed = whole_once _ _ _ _ _ reads (whole_of-reads c.args.word.now c.args.low c.args.high) })

-- what is not within a range is outside it
outside : (v low high : ℤ) → ¬ ((low ≤ℤ v) × (v ≤ℤ high)) → (v <ℤ low) ⊎ (high <ℤ v)
outside v low high not_within =
    by_lt_z v low (λ below. inl below) (λ from. by_lt_z high v (λ above. inr above) (λ to. absurd (not_within (from, to))))

pub returns-in-None-within : goal.returns-in-None-within
returns-in-None-within c =
    let k = whole_stands c.args.word.now c.in-Some.written c.in-Some-shifted.size c.in-Some.ensures c.in-Some-shifted.ensures in
    let fits : FitsSigned w128 c.signed.result = search rules in
    let not_within : ¬ ((c.args.low ≤ℤ c.signed.result) × (c.signed.result ≤ℤ c.args.high)) =
    rw (to_z-of_z w128 c.signed.result fits, to_z-of_z w64 c.args.low c.ranges.low, to_z-of_z w64 c.args.high c.ranges.high) at c.in-None-within.ensures in
    let past = whole_past c.in-Some.written.negative c.in-Some-shifted.size k.0 c.signed.result c.args.low c.args.high k.2 c.signed.ensures c.ranges.low c.ranges.high
    (outside c.signed.result c.args.low c.args.high not_within) in
    let reads : ReadsWhole c.args.word.now c.args.low c.args.high (Err OutOfRange) = (omega arith, (with_sign c.in-Some.written.negative k.0, k.1, past)) in
    record { reads = reads; computed = whole_once _ _ _ _ _ reads (whole_of-reads c.args.word.now c.args.low c.args.high) }
