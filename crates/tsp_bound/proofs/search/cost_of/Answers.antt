-- The goals of `cost_of` in src/search.rt, which turns a weight into a cost that is enough for it: what it ensures.
use Rattle.tsp_bound.proofs.Prelude.{◌<◌, ◌^◌, ◌≤ℤ◌, pos, ap, arith, rules, w64, of_z, SFits, ints}
use Rattle.tsp_bound.proofs.Searches.{cost_enough}
use Rattle.tsp_bound.proofs.search.cost_of.Goals as goal

-- plan: the inverse of the scale gives a cost that is enough (`cost_enough`)
pub returns : goal.returns
returns c =
    let fits : SFits w64 c.args.weight = search rules in
    let some : pos 1 ≤ℤ c.args.weight = omega (arith, ints, c.if-weight-lt1.false) in
    let few : c.args.inverse < 2 ^ 64 = search rules in
    rw c.from.ensures (cost_enough c.args.weight c.args.scale c.args.inverse fits some c.requires.scale (λ is. c.if-scale-eq1.false (ap (of_z w64) is)) c.requires.inverse few)
