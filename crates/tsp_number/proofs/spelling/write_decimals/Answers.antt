-- The goals of `write_decimals` in src/spelling.rt, which writes decimals without the zeros at their end: where the
-- decimals begin, and what they are.
use Rattle.std.proofs.Common.{◌≡◌, ◌+◌, ◌-◌, ◌/◌, ◌%◌, ◌++◌, suc, ℕ, List, length, drop, ap, ◌∙◌, arith}
use Rattle.tsp_number.specs.NumberWord.{decimals, three_digits}
use Rattle.tsp_number.proofs.Spelled.{decimals-zeros, two_groups, three_groups, nine_decimals}
use Rattle.tsp_number.proofs.spelling.write_decimals.Goals as goal

-- plan: by which groups of three digits are 0: the last that isn't ends the text (`three_groups`, `two_groups`)
pub returns-then-rest-eq0-clause-start : goal.returns-then-rest-eq0-clause-start
returns-then-rest-eq0-clause-start c =
    rw (decimals-zeros c.args.rest c.requires.part (omega arith)) c.write_last.ensures.start

pub returns-then-rest-eq0-clause-written : goal.returns-then-rest-eq0-clause-written
returns-then-rest-eq0-clause-written c =
    rw (decimals-zeros c.args.rest c.requires.part (omega arith)) c.write_last.ensures.written

pub returns-then-rest-gt0-clause-start : goal.returns-then-rest-gt0-clause-start
returns-then-rest-gt0-clause-start c =
    let long : length (decimals 9 c.args.rest) ≡ 9 = ap length (nine_decimals c.args.rest (omega arith)) in
    omega (arith, long, c.requires.room)

pub returns-then-rest-gt0-clause-written : goal.returns-then-rest-gt0-clause-written
returns-then-rest-gt0-clause-written c = rw (nine_decimals c.args.rest (omega arith)) c.write_nine.ensures

pub returns-then-rest-eq0-2-clause-start : goal.returns-then-rest-eq0-2-clause-start
returns-then-rest-eq0-2-clause-start c =
    let rest : ℕ = c.args.rest in
    let long : length (decimals 9 rest) ≡ suc (suc (suc (length (decimals 3 (rest / 1000 % 1000))))) =
    ap length (two_groups rest (omega arith) (omega arith)) in
    omega (arith, long, c.write_last-start.ensures.start, c.write_last-start.ensures.short, c.requires.room)

pub returns-then-rest-eq0-2-clause-written : goal.returns-then-rest-eq0-2-clause-written
returns-then-rest-eq0-2-clause-written c =
    let rest : ℕ = c.args.rest in
    rw (two_groups rest (omega arith) (omega arith))
    (c.write_group.ensures ∙ ap (λ (t : List ℕ). three_digits (rest / 1000000) ++ t) c.write_last-start.ensures.written)

pub returns-clause-start : goal.returns-clause-start
returns-clause-start c =
    let rest : ℕ = c.args.rest in
    let long : length (decimals 9 rest) ≡ suc (suc (suc (suc (suc (suc (length (decimals 3 (rest % 1000)))))))) =
    ap length (three_groups rest (omega arith)) in
    omega (arith, long, c.write_last-start-2.ensures.start, c.write_last-start-2.ensures.short, c.requires.room)

pub returns-clause-written : goal.returns-clause-written
returns-clause-written c =
    let rest : ℕ = c.args.rest in
    let start : ℕ = c.write_last-start-2.result in
    let place : start - 6 ≡ start - 3 - 3 = omega arith in
    rw (three_groups rest (omega arith))
    (ap (λ (k : ℕ). drop k c.write_group-3.new.block) place ∙ c.write_group-3.ensures
    ∙ ap (λ (t : List ℕ). three_digits (rest / 1000000) ++ t)
    (c.write_group-2.ensures ∙ ap (λ (t : List ℕ). three_digits (rest / 1000 % 1000) ++ t) c.write_last-start-2.ensures.written))
