-- The goals of `single_digits` in src/number_word.rt, which reads digits at the beginning of bytes, one after another:
-- that no sum overflows, its loop and what it ensures.
use Rattle.tsp_number.proofs.Prelude.{◌<◌, length, arith, rules, sym, ◌∙◌, is_ascii_digit}
use Rattle.std.proofs.lemmas.List.Sums.{prefix_len-le-length}
use Rattle.tsp_number.proofs.FrontNumbers.{one_more, room_for_one, prefix_one_more, prefix_ends}
use Rattle.tsp_number.proofs.number_word.single_digits.Goals as goal

-- plan: one digit more extends the value (`one_more`), which fits (`room_for_one`); at another byte they end
-- (`prefix_ends`)
pub overflow_mul-value : goal.overflow_mul-value
overflow_mul-value c =
    let room = room_for_one _ _ _ c.loop-count.invariant.1 (omega (arith, c.min-end.ensures)) in
    search rules

pub overflow_add-value : goal.overflow_add-value
overflow_add-value c =
    let room = room_for_one _ _ _ c.loop-count.invariant.1 (omega (arith, c.min-end.ensures)) in
    search rules

pub loop-count-preserved : goal.loop-count-preserved
loop-count-preserved c =
    let within : c.loop-count.count < length c.args.bytes.now = omega (arith, c.min-end.ensures) in
    let digit = sym c.is_ascii_digit.ensures.value ∙ c.if-not-is_ascii_digit.false in
    let more = prefix_one_more is_ascii_digit _ _ _ within c.loop-count.invariant.2 digit in
    (omega arith, rw c.from.ensures (one_more _ _ _ c.loop-count.invariant.1 within digit), omega (arith, more))

pub returns-after-loop-count-clause-count : goal.returns-after-loop-count-clause-count
returns-after-loop-count-clause-count c =
    omega (arith, c.min-end.ensures, c.loop-count.invariant.0, c.loop-count.invariant.2, prefix_len-le-length is_ascii_digit c.args.bytes.now)

pub returns-then-not-is_ascii_digit-clause-count : goal.returns-then-not-is_ascii_digit-clause-count
returns-then-not-is_ascii_digit-clause-count c =
    let within : c.loop-count.count < length c.args.bytes.now = omega (arith, c.min-end.ensures) in
    let ends = prefix_ends is_ascii_digit _ _ _ within c.loop-count.invariant.2 (sym c.is_ascii_digit.ensures.value ∙ c.if-not-is_ascii_digit.true) in
    omega (arith, ends, c.min-end.ensures)
