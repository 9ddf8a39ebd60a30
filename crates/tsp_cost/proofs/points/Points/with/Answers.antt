-- The goals of `Points::with` in src/points.rt, which sets the metric of costs: what it ensures.
use Rattle.tsp_cost.proofs.Prelude.{ℕ, List, map, ap, ℤ, Point, distance, point_of}
use Rattle.tsp_cost.specs.declared.metric.Metric.{Metric}
use Rattle.tsp_cost.specs.states.Metrics.{weight_kind_of}
use Rattle.tsp_cost.proofs.points.Points.with.Goals as goal

-- plan: the points don't change, and the metric is the one that the caller passes, so the costs are those of that
-- metric
pub returns-clause-costs : goal.returns-clause-costs
returns-clause-costs g c =
    let places : List Point = map g.P.InSpace.place c.args.self.now.points.now in
    let cost : Metric → ℕ → ℕ → ℤ = λ metric i j. distance (weight_kind_of metric) (point_of places i) (point_of places j) in
    ap cost c.requires
