-- The goals of `value_of` in src/number_word.rt, which reads eight digits as a number: what it ensures.
use Rattle.tsp_number.proofs.EightDigits.{eight_read}
use Rattle.tsp_number.proofs.number_word.value_of.Goals as goal

-- plan: each product puts neighbours together: digits to pairs, pairs to fours, and these to eight (`eight_read`)
pub returns : goal.returns
returns c = eight_read c.args.digits c.ranges.digits.fits c.requires
