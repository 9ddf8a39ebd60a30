-- The goals of `front_digits` in src/number_word.rt, which reads digits at the beginning of bytes: that no sum
-- overflows and what it ensures.
use Rattle.tsp_number.proofs.Prelude.{◌≡◌, ◌+◌, ◌*◌, ◌<◌, ◌≤◌, ◌^◌, drop, arith, rules, take_rest}
use Rattle.tsp_number.proofs.FrontNumbers.{ReadsFront, counts_on, eight_more, eight_and_more, few_fit}
use Rattle.tsp_number.proofs.number_word.front_digits.Goals as goal

-- plan: by the digits of the first eight bytes: fewer are all (`eight_more`), or others are counted on
-- (`eight_and_more`)
pub returns-then-count-lt-EIGHT-clause-digits : goal.returns-then-count-lt-EIGHT-clause-digits
returns-then-count-lt-EIGHT-clause-digits c =
    let eight = c.front_of_eight-value.ensures in
    let read = eight_more _ _ _ _ c.in-Some.ensures.cases eight.within eight.digits eight.value in
    read.digits

pub returns-then-count-lt-EIGHT-clause-value : goal.returns-then-count-lt-EIGHT-clause-value
returns-then-count-lt-EIGHT-clause-value c =
    let eight = c.front_of_eight-value.ensures in
    let read = eight_more _ _ _ _ c.in-Some.ensures.cases eight.within eight.digits eight.value in
    read.value_is

pub returns-then-count-lt-EIGHT-clause-size : goal.returns-then-count-lt-EIGHT-clause-size
returns-then-count-lt-EIGHT-clause-size c =
    let eight = c.front_of_eight-value.ensures in
    let read = eight_more _ _ _ _ c.in-Some.ensures.cases eight.within eight.digits eight.value in
    read.size

read_on : (c : goal.After-power_of_ten)
    → ReadsFront c.args.bytes.now (8 + c.single_digits-more.result.1) (c.front_of_eight-value.result.0 * c.power_of_ten.result + c.single_digits-more.result.0)
read_on c =
    let eight = c.front_of_eight-value.ensures in
    let more = c.single_digits-more.ensures in
    let whole : c.front_of_eight-value.result.1 ≡ 8 = omega (arith, eight.within, c.if-count-lt-EIGHT.false) in
    let first = eight_more _ _ _ _ c.in-Some.ensures.cases eight.within eight.digits eight.value in
    let then : ReadsFront (drop 8 c.args.bytes.now) c.single_digits-more.result.1 c.single_digits-more.result.0 =
    record { digits = rw take_rest at more.digits; value_is = rw take_rest at more.value; size = more.size } in
    eight_and_more _ _ _ _ _ (rw whole at first) then (rw take_rest at more.within) c.power_of_ten.ensures

fits : (c : goal.After-power_of_ten)
    → c.front_of_eight-value.result.0 * c.power_of_ten.result + c.single_digits-more.result.0 < 2 ^ 64
fits c =
    let few : 8 + c.single_digits-more.result.1 ≤ 18 = omega (arith, c.single_digits-more.ensures.few, c.requires) in
    few_fit _ _ _ (read_on c) few

pub overflow_mul-result : goal.overflow_mul-result
overflow_mul-result c = let room = fits c in search rules

pub overflow_add-result : goal.overflow_add-result
overflow_add-result c = let room = fits c in search rules

pub returns-clause-digits : goal.returns-clause-digits
returns-clause-digits c = (read_on c).digits

pub returns-clause-value : goal.returns-clause-value
returns-clause-value c = (read_on c).value_is

pub returns-clause-size : goal.returns-clause-size
returns-clause-size c = (read_on c).size

pub returns-clause-count : goal.returns-clause-count
returns-clause-count c =
    let eight = c.front_of_eight-value.ensures in
    counts_on _ _ _ _ _ c.in-Some.ensures.cases eight.count (omega (arith, c.if-count-lt-EIGHT.false)) (rw take_rest at c.single_digits-more.ensures.count)
    (omega (arith, c.if-most-lt-EIGHT.false))
