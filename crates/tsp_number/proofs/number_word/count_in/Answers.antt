-- The goals of `count_in` in src/number_word.rt, which counts the digits at the beginning of eight bytes: what it
-- ensures.
use Rattle.std.proofs.Common.{arith}
use Rattle.tsp_number.proofs.EightDigits.{all_digits, some_digits}
use Rattle.tsp_number.proofs.number_word.count_in.Goals as goal

-- plan: by the lanes that are no digits: there is none (`all_digits`), or the first one ends the digits (`some_digits`)
pub returns-then-others-eq0 : goal.returns-then-others-eq0
returns-then-others-eq0 c = all_digits c.args.eight c.fits-eight.0 c.fits-eight.1 c.if-others-eq0.true

pub returns-else-others-eq0 : goal.returns-else-others-eq0
returns-else-others-eq0 c = some_digits c.args.eight c.fits-eight.0 c.fits-eight.1 (omega (arith, c.if-others-eq0.false))
