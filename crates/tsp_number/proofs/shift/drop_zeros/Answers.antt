-- The goals of `drop_zeros` in src/shift.rt, which drops zeros at the end of a number, if it has that many: that it
-- divides by no 0, and what it ensures.
use Rattle.std.proofs.Common.{arith}
use Rattle.tsp_number.proofs.Scaling.{pow_above_zero, too_few_zeros, rest_left, no_rest}
use Rattle.tsp_number.proofs.shift.drop_zeros.Goals as goal

-- plan: by the power of ten: it is too large (`too_few_zeros`), divides the number (`no_rest`), or doesn't
-- (`rest_left`)
pub returns-then-count-ge20 : goal.returns-then-count-ge20
returns-then-count-ge20 c = too_few_zeros c.args.size c.args.count (omega arith) (omega arith) c.if-count-ge20.true

pub nonzero_rem-size : goal.nonzero_rem-size
nonzero_rem-size c = rw c.power_of_ten-power.ensures (pow_above_zero c.args.count)

pub returns-then-size-power-ne0 : goal.returns-then-size-power-ne0
returns-then-size-power-ne0 c =
    rest_left c.args.size _ c.args.count c.power_of_ten-power.ensures c.if-size-power-ne0.true

pub returns : goal.returns
returns c = no_rest c.args.size _ c.args.count c.power_of_ten-power.ensures (omega arith) c.if-size-power-ne0.false
