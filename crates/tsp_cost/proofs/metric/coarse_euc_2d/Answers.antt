-- The goals of `coarse_euc_2d` in src/metric.rt, which returns EUC_2D of points whose differences are few whole steps:
-- what it ensures.
use Rattle.tsp_cost.proofs.CoarseRoots.{coarse_is}
use Rattle.tsp_cost.proofs.metric.coarse_euc_2d.Goals as goal

-- plan: both differences are whole numbers of steps, so the sum of their squares has the root that is EUC_2D
-- (`coarse_is`)
pub returns : goal.returns
returns c =
    let wide = rw c.in-Some-Some.is-0 at c.steps_between.ensures in
    let high = rw c.in-Some-Some.is-1 at c.steps_between-2.ensures in
    let square = rw (c.square_of.ensures.value, c.square_of-2.ensures.value) at c.nearest_root.ensures in
    coarse_is c.distance_laws.ensures.euc_2d c.args.a c.args.b c.in-Some-Some.dx c.in-Some-Some.dy c.nearest_root.result wide high square
