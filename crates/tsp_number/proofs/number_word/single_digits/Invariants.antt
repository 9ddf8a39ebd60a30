-- The loop of `single_digits` in src/number_word.rt.
use Rattle.tsp_number.proofs.Prelude.{◌≤◌, ◌-◌, is_ascii_digit, prefix_len}
use Rattle.tsp_number.proofs.FrontNumbers.{ReadsFront}
use Rattle.tsp_number.proofs.number_word.single_digits.Given as goal

-- the first `count` bytes are digits, and `value` is their number
abbrev pub invariant-loop-count : goal.invariant-loop-count
invariant-loop-count l = (l.count ≤ l.end) × ReadsFront l.bytes l.count l.value × (l.count ≤ prefix_len is_ascii_digit l.bytes)

-- each round reads one more of the bytes before `end`
abbrev pub decreases-loop-count : goal.decreases-loop-count
decreases-loop-count l = l.end - l.count
