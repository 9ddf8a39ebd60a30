-- The goals of `digit_count` in src/writer/matrix.rt, which counts the digits of a number: what it ensures.
use Rattle.std.proofs.Common.{arith}
use Rattle.tsp_file.proofs.WrittenLines.{counted}
use Rattle.tsp_file.proofs.writer.matrix.digit_count.Goals as goal

-- plan: the number is compared with powers of ten, and it has one digit more than the exponent of the largest that
-- isn't above it (`counted`)
pub returns : goal.returns
returns c =
    let fits = c.ranges.number.fits in
    counted c.args.number c.ilog10.result c.max.result (omega (arith, c.max.ensures, fits)) c.max.ensures
    c.ilog10.ensures.power_le c.ilog10.ensures.next_power_gt
