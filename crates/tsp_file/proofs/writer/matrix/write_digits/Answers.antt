-- The goals of `write_digits` in src/writer/matrix.rt, which writes eight digits so that they end at a place: that no
-- difference overflows and what it ensures.
use Rattle.std.proofs.Common.{◌≡◌, ◌+◌, ◌-◌, ◌/◌, ◌%◌, ◌++◌, ℕ, List, drop, ap, ◌∙◌, arith}
use Rattle.tsp_file.proofs.WrittenLines.{pair, at_most_eight, digits_written}
use Rattle.tsp_file.proofs.writer.matrix.write_digits.Goals as goal

pub overflow_sub-result : goal.overflow_sub-result
overflow_sub-result c = omega (arith, c.digit_count.ensures, c.requires.room, at_most_eight c.args.number c.requires.few)

pub returns-clause-start : goal.returns-clause-start
returns-clause-start c = omega (arith, c.digit_count.ensures, c.requires.room, at_most_eight c.args.number c.requires.few)

pub returns-clause-short : goal.returns-clause-short
returns-clause-short c = omega (arith, c.digit_count.ensures, c.requires.room, at_most_eight c.args.number c.requires.few)

-- plan: four pairs of digits are written; without the leading zeros they are the text of the number (`digits_written`)
pub returns-clause-written : goal.returns-clause-written
returns-clause-written c =
    let n : ℕ = c.args.number in
    let end : ℕ = c.args.end in
    let old : List ℕ = c.args.block.now in
    let room = c.requires.room in
    let e2 : end - 2 + 2 ≡ end = omega (arith, room) in
    let e4 : end - 4 + 2 ≡ end - 2 = omega (arith, room) in
    let e6 : end - 6 + 2 ≡ end - 4 = omega (arith, room) in
    let e8 : end - 8 + 2 ≡ end - 6 = omega (arith, room) in
    let two : drop (end - 2) c.write_pair.new.block ≡ pair (n % 10000 % 100) ++ drop end old =
    c.write_pair.ensures ∙ ap (λ (k : ℕ). pair (n % 10000 % 100) ++ drop k old) e2 in
    let four : drop (end - 4) c.write_pair-2.new.block ≡ pair (n % 10000 / 100) ++ (pair (n % 10000 % 100) ++ drop end old) =
    c.write_pair-2.ensures ∙ ap (λ (k : ℕ). pair (n % 10000 / 100) ++ drop k c.write_pair.new.block) e4
    ∙ ap (λ (t : List ℕ). pair (n % 10000 / 100) ++ t) two in
    let six : drop (end - 6) c.write_pair-3.new.block ≡ pair (n / 10000 % 100)
    ++ (pair (n % 10000 / 100) ++ (pair (n % 10000 % 100) ++ drop end old)) =
    c.write_pair-3.ensures ∙ ap (λ (k : ℕ). pair (n / 10000 % 100) ++ drop k c.write_pair-2.new.block) e6
    ∙ ap (λ (t : List ℕ). pair (n / 10000 % 100) ++ t) four in
    let eight : drop (end - 8) c.write_pair-4.new.block ≡ pair (n / 10000 / 100)
    ++ (pair (n / 10000 % 100) ++ (pair (n % 10000 / 100) ++ (pair (n % 10000 % 100) ++ drop end old))) =
    c.write_pair-4.ensures ∙ ap (λ (k : ℕ). pair (n / 10000 / 100) ++ drop k c.write_pair-3.new.block) e8
    ∙ ap (λ (t : List ℕ). pair (n / 10000 / 100) ++ t) six in
    ap (λ (k : ℕ). drop (end - k) c.write_pair-4.new.block) c.digit_count.ensures
    ∙ digits_written n end old c.write_pair-4.new.block c.requires.few room eight
