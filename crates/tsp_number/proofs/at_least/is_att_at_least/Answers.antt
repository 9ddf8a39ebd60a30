-- The goals of `is_att_at_least` in src/at_least.rt: what it ensures.
use Rattle.tsp_number.proofs.Prelude.{w64, to_z-of_z}
use Rattle.tsp_number.proofs.Comparisons.{att_cover}
use Rattle.tsp_number.proofs.at_least.is_att_at_least.Goals as goal

-- plan: the distance is the least number whose square, at the scale of ATT, covers that of the straight distance
-- (`att_cover`), so squares are compared
pub returns : goal.returns
returns c =
    let same = to_z-of_z w64 c.args.least c.ranges.least in
    rw same at c.is_straight_at_least.ensures _ (att_cover c.args.a c.args.b)
