-- The goals of `Points::is_beyond_by` in src/points.rt, which says whether a region is known to be far from a node, by
-- the metric: what it ensures.
use Rattle.tsp_cost.proofs.Prelude.{ℤ, ◌≤ℤ◌, subst, w64, to_z-of_z, Point, distance}
use Rattle.tsp_cost.specs.declared.metric.Metric.{Metric}
use Rattle.tsp_cost.specs.states.Metrics.{weight_kind_of}
use Rattle.tsp_cost.specs.states.Views.{points_place}
use Rattle.tsp_cost.proofs.Ways.{distance_grows, at_least_further, known_true}
use Rattle.tsp_cost.proofs.points.Points.is_beyond_by.Goals as goal

-- plan: the nearest place of the region is no farther than any other of it (`distance_grows`), so its distance is a
-- bound for all
pub returns : goal.returns
returns g c = known_true c.is_at_least.result _ (λ true_is to node inside.
    let laws = c.monotone_laws.ensures in
    let kind = weight_kind_of c.args.metric in
    let own : Point = points_place g.P.InSpace.place c.args.self.now c.args.from.now.node in
    let here : Point = c.args.from.now.place in
    let there : Point = points_place g.P.InSpace.place c.args.self.now to in
    let nearest = c.nearest.result in
    let grows : distance kind here nearest ≤ℤ distance kind here there =
    distance_grows laws.euc_2d laws.ceil_2d laws.man_2d laws.max_2d laws.att laws.euc_3d laws.man_3d laws.max_3d kind here nearest
    here there
    (c.nearest.ensures.dx there inside) (c.nearest.ensures.dy there inside) (c.nearest.ensures.dz there inside) in
    subst (λ (metric : Metric). c.args.least ≤ℤ distance (weight_kind_of metric) own there) c.requires.metric
    (subst (λ (p : Point). c.args.least ≤ℤ distance kind p there) c.requires.from.there
    (at_least_further c.args.least (distance kind here nearest) (distance kind here there)
    (subst (λ (z : ℤ). z ≤ℤ distance kind here nearest) (to_z-of_z w64 c.args.least c.ranges.least)
    (c.is_at_least.ensures.0 true_is)) grows)))
