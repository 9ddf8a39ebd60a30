-- The goals of `add_zeros` in src/shift.rt, which multiplies a number by a power of ten, up to the largest of 64 bits:
-- what it ensures.
use Rattle.std.proofs.Common.{arith}
use Rattle.tsp_number.proofs.Scaling.{saturated-past}
use Rattle.tsp_number.proofs.shift.add_zeros.Goals as goal

-- plan: with 20 zeros more a number above 0 is past 64 bits (`saturated-past`)
pub returns-then-count-ge20 : goal.returns-then-count-ge20
returns-then-count-ge20 c = saturated-past c.args.size c.args.count (omega arith) c.if-count-ge20.true
