-- The loop of `all_bits` in src/range.rt, which unites the bits of all numbers.
use Rattle.tsp_file.proofs.Prelude.{◌<◌, ◌^◌, pos, ◌≤ℤ◌, take, All}
use Rattle.tsp_file.proofs.range.all_bits.Given as goal

-- if `bits` hasn't the highest bit, no number so far is negative or larger than `bits`
abbrev pub invariant-numbers : goal.invariant-numbers
invariant-numbers l = l.bits < 2 ^ 63 → All (λ number. (pos 0 ≤ℤ number) × (number ≤ℤ pos l.bits)) (take l.number-index l.numbers)
