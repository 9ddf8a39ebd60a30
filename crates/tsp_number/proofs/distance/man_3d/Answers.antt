-- The goals of `man_3d` in src/distance.rt: what it ensures.
use Rattle.tsp_number.proofs.Prelude.{arith, rules, ◌≤ℤ◌, pos, to_z, of_z, w64, ints}
use Rattle.tsp_number.proofs.RoundedRoots.{signed_is}
use Rattle.tsp_number.proofs.Comparisons.{man_3d-is}
use Rattle.tsp_number.proofs.distance.man_3d.Goals as goal

-- plan: the sum of the three differences, rounded to the nearest whole number, is the distance; there is one such
-- number (`man_3d-is`)
pub returns-clause-distance : goal.returns-clause-distance
returns-clause-distance c =
    let low : pos 0 ≤ℤ to_z w64 (of_z w64 c.nearest_whole.result) = search (arith, ints) in
    signed_is (to_z w64 (of_z w64 c.nearest_whole.result)) _ low (man_3d-is c.args.a c.args.b _ (search rules))
