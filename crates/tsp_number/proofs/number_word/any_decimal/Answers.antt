-- The goals of `any_decimal` in src/number_word.rt, which reads any decimal word: what it ensures.
use Rattle.tsp_number.proofs.Prelude.{◌≡◌, ℤ, arith, rules, subst, ◌∙◌, FitsSigned, unsigned_abs, ◌≤◌, w128, to_z-of_z, Ok, Err}
use Rattle.tsp_number.proofs.NumberGrammar.{bad_number, too_fine, stands, decimal_within, decimal_past}
use Rattle.tsp_number.specs.Decimal.{most_count}
use Rattle.tsp_number.specs.NumberWord.{StandsFor, ReadsDecimal, with_sign}
use Rattle.tsp_number.specs.declared.number_word.NumberFault.TheVariants.{LongWord, BadNumber, TooFine, OutOfRange}
use Rattle.tsp_number.proofs.WordLaws.{decimal_once, decimal_of-reads}
use Rattle.tsp_number.proofs.number_word.any_decimal.Goals as goal

-- plan: by the first thing that is wrong: each branch gives `ReadsDecimal`, and `decimal_once` that it is the computed
-- answer
pub returns-then-word-gt-MOST_BYTES : goal.returns-then-word-gt-MOST_BYTES
returns-then-word-gt-MOST_BYTES c =
    let reads : ReadsDecimal c.args.word.now (Err LongWord) = λ short. omega arith in
    record { reads = reads; computed = decimal_once _ _ _ reads (decimal_of-reads c.args.word.now) }

pub returns-in_default : goal.returns-in_default
returns-in_default c =
    let reads : ReadsDecimal c.args.word.now (Err BadNumber) = (omega arith, bad_number c.args.word.now c.in_default.ensures) in
    record { reads = reads; computed = decimal_once _ _ _ reads (decimal_of-reads c.args.word.now) }

pub returns-in_default-shifted : goal.returns-in_default-shifted
returns-in_default-shifted c =
    let fine = too_fine c.args.word.now c.in-Some.written c.in-Some.ensures c.in_default-shifted.ensures in
    let reads : ReadsDecimal c.args.word.now (Err TooFine) = (omega arith, fine.0, fine.1) in
    record { reads = reads; computed = decimal_once _ _ _ reads (decimal_of-reads c.args.word.now) }

pub returns-in-Some-of_count : goal.returns-in-Some-of_count
returns-in-Some-of_count c =
    let k = stands c.args.word.now c.in-Some.written c.in-Some-shifted.size c.in-Some.ensures c.in-Some-shifted.ensures in
    let fits : FitsSigned w128 c.signed.result = search rules in
    let is : c.in-Some-of_count.decimal ≡ with_sign c.in-Some.written.negative c.in-Some-shifted.size =
    c.in-Some-of_count.ensures.1 ∙ to_z-of_z w128 c.signed.result fits ∙ c.signed.ensures in
    let within : unsigned_abs c.in-Some-of_count.decimal ≤ most_count = rw c.in-Some-of_count.ensures.1 c.in-Some-of_count.ensures.0 in
    let P : ℤ → Type 0 = λ z. StandsFor c.args.word.now z in
    let reads : ReadsDecimal c.args.word.now (Ok c.in-Some-of_count.decimal) =
    (omega arith, subst P (decimal_within c.in-Some.written.negative c.in-Some-shifted.size k.0 c.in-Some-of_count.decimal k.2 is within) k.1, within) in
    record { reads = reads; computed = decimal_once _ _ _ reads (decimal_of-reads c.args.word.now) }

pub returns-in-None : goal.returns-in-None
returns-in-None c =
    let k = stands c.args.word.now c.in-Some.written c.in-Some-shifted.size c.in-Some.ensures c.in-Some-shifted.ensures in
    let fits : FitsSigned w128 c.signed.result = search rules in
    let past : ¬ (unsigned_abs c.signed.result ≤ most_count) = rw (to_z-of_z w128 c.signed.result fits) at c.in-None.ensures in
    let reads : ReadsDecimal c.args.word.now (Err OutOfRange) = (
      omega arith,
      (
        with_sign c.in-Some.written.negative k.0,
        k.1,
        decimal_past c.in-Some.written.negative c.in-Some-shifted.size k.0 c.signed.result k.2 c.signed.ensures past,
      ),
    ) in
    record { reads = reads; computed = decimal_once _ _ _ reads (decimal_of-reads c.args.word.now) }
