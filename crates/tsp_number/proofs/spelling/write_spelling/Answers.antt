-- The goals of `write_spelling` in src/spelling.rt, which writes the text of a decimal so that it ends at a place: that
-- no difference overflows, what its call requires, where the text begins, and what it is.
use Rattle.tsp_number.proofs.Prelude.{◌≡◌, ◌+◌, ◌-◌, ◌/◌, ◌%◌, ◌≤◌, ◌∷◌, ◌++◌, ℕ, List, false, length, drop, ap, sym, ◌∙◌, append_assoc, unsigned_abs, arith, rules, pos, FitsSigned, w64, to_z-of_z, drop-set}
use Rattle.std.specs.Fmt.{decimal}
use Rattle.tsp_number.specs.Decimal.{unit, most_count}
use Rattle.tsp_number.specs.NumberWord.{minus, fraction_spelling, spelling}
use Rattle.tsp_number.proofs.Spelled.{length_whole, stands_for, spelling_short, negative_text, negative_begins}
use Rattle.tsp_number.proofs.spelling.write_spelling.Goals.{Else-count-ge0}
use Rattle.tsp_number.proofs.spelling.write_spelling.Goals as goal
use lib.Signed.{le_z}

most : (c : Else-count-ge0) → unsigned_abs c.args.d ≤ most_count
most c = rw (← c.nanos-count.ensures.value) c.nanos-count.ensures.size

is_negative : (c : Else-count-ge0) → le_z (pos 0) c.args.d ≡ false
is_negative c =
    let fits : FitsSigned w64 c.nanos-count.result = search rules in
    rw (← c.nanos-count.ensures.value) (simp to_z-of_z at c.if-count-ge0.false)

size_is : (c : Else-count-ge0) → c.unsigned_abs-size.result ≡ unsigned_abs c.args.d
size_is c =
    let fits : FitsSigned w64 c.nanos-count.result = search rules in
    rw (← c.nanos-count.ensures.value) (simp to_z-of_z at c.unsigned_abs-size.ensures.value)

begins : (c : Else-count-ge0) → (1 ≤ c.write_digits-start.result) × (c.write_digits-start.result - 1 + length (spelling c.args.d) ≡ c.args.end)
begins c = negative_begins c.args.d c.unsigned_abs-size.result c.write_digits-start.result c.write_fraction-point.result c.args.end
    (is_negative c) (most c) (size_is c) c.write_digits-start.ensures.start c.write_fraction-point.ensures.start c.requires.room

-- plan: the fraction, the whole part and the sign, each before what the last call left; `spelling_short` for their
-- length
pub write_digits-start-requires : goal.write_digits-start-requires
write_digits-start-requires c =
    let fits : FitsSigned w64 c.nanos-count.result = search rules in
    let size = simp to_z-of_z at c.unsigned_abs-size.ensures.value in
    let whole : c.unsigned_abs-size.result / 1000000000 ≤ 1000000000 = omega (arith, size, c.nanos-count.ensures.size) in
    let digits = length_whole (c.unsigned_abs-size.result / 1000000000) whole in
    (omega (arith, digits, c.write_fraction-point.ensures.short, c.requires.room), search rules)

pub returns-then-count-ge0-clause-short : goal.returns-then-count-ge0-clause-short
returns-then-count-ge0-clause-short c = spelling_short c.args.d (rw (← c.nanos-count.ensures.value) c.nanos-count.ensures.size)

pub returns-then-count-ge0-clause-stands : goal.returns-then-count-ge0-clause-stands
returns-then-count-ge0-clause-stands c = stands_for c.args.d (rw (← c.nanos-count.ensures.value) c.nanos-count.ensures.size)

pub overflow_sub-block : goal.overflow_sub-block
overflow_sub-block c = (begins c).0

pub overflow_sub-result : goal.overflow_sub-result
overflow_sub-result c = (begins c).0

pub returns-clause-start : goal.returns-clause-start
returns-clause-start c = (begins c).1

pub returns-clause-short : goal.returns-clause-short
returns-clause-short c = spelling_short c.args.d (most c)

pub returns-clause-written : goal.returns-clause-written
returns-clause-written c =
    let size : ℕ = c.unsigned_abs-size.result in
    let start : ℕ = c.write_digits-start.result in
    let new : List ℕ = c.write_digits-start.new.buf in
    let after : List ℕ = drop c.args.end c.args.block.now in
    let next : start - 1 + 1 ≡ start = omega (arith, (begins c).0) in
    let within : start ≤ length new = search (rules, c.write_digits-start.ensures.start, c.write_fraction-point.ensures.start) in
    drop-set new (start - 1) 45 (omega (arith, within, (begins c).0)) ∙ ap (λ (k : ℕ). minus ∷ drop k new) next
    ∙ ap (λ (t : List ℕ). minus ∷ t) (c.write_digits-start.ensures.written
    ∙ ap (λ (t : List ℕ). decimal (size / unit) ++ t) c.write_fraction-point.ensures.written
    ∙ sym (append_assoc (decimal (size / unit)) (fraction_spelling (size % unit)) after))
    ∙ ap (λ (t : List ℕ). t ++ after) (sym (negative_text c.args.d size (is_negative c) (size_is c)))

pub returns-clause-stands : goal.returns-clause-stands
returns-clause-stands c = stands_for c.args.d (most c)
