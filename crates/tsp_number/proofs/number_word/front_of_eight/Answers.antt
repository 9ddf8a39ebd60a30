-- The goals of `front_of_eight` in src/number_word.rt, which reads the digits at the beginning of eight bytes: what its
-- calls require and what it ensures.
use Rattle.tsp_number.proofs.Prelude.{arith, is_ascii_digit}
use Rattle.std.proofs.lemmas.List.Sums.{prefix_len-le-length}
use Rattle.tsp_number.proofs.EightDigits.{front_is_digits}
use Rattle.tsp_number.proofs.number_word.front_of_eight.Goals as goal

-- plan: the bytes that were counted are digits (`front_is_digits`)
pub value_in-requires-clause-within : goal.value_in-requires-clause-within
value_in-requires-clause-within c =
    omega (arith, prefix_len-le-length is_ascii_digit c.args.eight.now, c.count_in-count.ensures, c.told-eight)

pub value_in-requires-clause-digits : goal.value_in-requires-clause-digits
value_in-requires-clause-digits c = rw c.count_in-count.ensures (front_is_digits c.args.eight.now)

pub returns-clause-digits : goal.returns-clause-digits
returns-clause-digits c = rw c.count_in-count.ensures (front_is_digits c.args.eight.now)
