-- The goals of `Points::of` in src/points.rt, which makes costs of a distance and of the nodes' points: the facts of
-- the value that it makes.
use Rattle.tsp_file.proofs.TextLengths.{DistanceLaws, distance_symmetric}
use Rattle.tsp_cost.specs.states.Metrics.{weight_kind_of}
use Rattle.tsp_cost.proofs.points.Points.of.Goals as goal

-- plan: the distance is symmetric by the laws of tsp_number (`distance_symmetric`)
pub invariant_of-result : goal.invariant_of-result
invariant_of-result g c =
    let known = c.distance_laws.ensures in
    let laws : DistanceLaws = record {
      euc = known.euc_2d;
      ceil = known.ceil_2d;
      man = known.man_2d;
      max = known.max_2d;
      att = known.att;
      euc_in_space = known.euc_3d;
      man_in_space = known.man_3d;
      max_in_space = known.max_3d;
    } in
    record {
      some = c.requires.some;
      most = c.requires.most;
      symmetric = distance_symmetric laws (weight_kind_of c.args.metric);
    }
