-- The goals of `write_last` in src/spelling.rt, which writes three decimals without the zeros at their end: where the
-- decimals begin, and what they are.
use Rattle.tsp_number.proofs.Prelude.{◌≡◌, ◌+◌, ◌-◌, ◌/◌, ◌%◌, ◌∷◌, ℕ, List, length, drop, ap, ◌∙◌, arith, drop-set}
use Rattle.tsp_number.specs.NumberWord.{decimals}
use Rattle.tsp_number.proofs.Spelled.{last_three, last_two, last_one}
use Rattle.tsp_number.proofs.spelling.write_last.Goals as goal

-- plan: by which digits of the group are 0: one, two or three of them are written (`last_one`, `last_two`,
-- `last_three`)
pub returns-then-group-gt0-clause-start : goal.returns-then-group-gt0-clause-start
returns-then-group-gt0-clause-start c =
    let long : length (decimals 3 c.args.group) ≡ 3 = ap length (last_three c.args.group (omega arith)) in
    omega (arith, long, c.requires.room)

pub returns-then-group-gt0-clause-written : goal.returns-then-group-gt0-clause-written
returns-then-group-gt0-clause-written c = rw (last_three c.args.group (omega arith)) c.write_group.ensures

pub returns-then-group-gt0-2-clause-start : goal.returns-then-group-gt0-2-clause-start
returns-then-group-gt0-2-clause-start c =
    let long : length (decimals 3 c.args.group) ≡ 2 = ap length (last_two c.args.group (omega arith) (omega arith)) in
    omega (arith, long, c.requires.room)

pub returns-then-group-gt0-2-clause-written : goal.returns-then-group-gt0-2-clause-written
returns-then-group-gt0-2-clause-written c =
    let group : ℕ = c.args.group in
    let old : List ℕ = c.args.block.now in
    let first : group / 10 / 10 ≡ group / 100 = omega arith in
    let end : c.args.end - 2 + 2 ≡ c.args.end = omega (arith, c.requires.room) in
    rw (last_two group (omega arith) (omega arith))
    (c.write_pair.ensures ∙ ap (λ (d : ℕ). (48 + d) ∷ (48 + group / 10 % 10) ∷ drop (c.args.end - 2 + 2) old) first
    ∙ ap (λ (k : ℕ). (48 + group / 100) ∷ (48 + group / 10 % 10) ∷ drop k old) end)

pub returns-clause-start : goal.returns-clause-start
returns-clause-start c =
    let long : length (decimals 3 c.args.group) ≡ 1 = ap length (last_one c.args.group (omega arith) (omega arith)) in
    omega (arith, long, c.requires.room)

pub returns-clause-written : goal.returns-clause-written
returns-clause-written c =
    let group : ℕ = c.args.group in
    let old : List ℕ = c.args.block.now in
    let end : c.args.end - 1 + 1 ≡ c.args.end = omega (arith, c.requires.room) in
    rw (last_one group (omega arith) (omega arith))
    (drop-set old (c.args.end - 1) (48 + group / 100) (omega (arith, c.requires.room, c.requires.within))
    ∙ ap (λ (k : ℕ). (48 + group / 100) ∷ drop k old) end)
