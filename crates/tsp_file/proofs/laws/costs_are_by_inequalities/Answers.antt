-- The goals of `costs_are_by_inequalities` in src/laws.rt: what it ensures.
use Rattle.tsp_file.proofs.TextLengths.{DistanceLaws, cost_defined, cost_unique}
use Rattle.tsp_file.proofs.laws.costs_are_by_inequalities.Goals as goal

-- plan: the cost has the inequalities of its distance (`cost_defined`), and no other number does (`cost_unique`)
pub returns : goal.returns
returns c =
    let known = c.distance_laws.ensures in
    let laws : DistanceLaws = record {
      euc = known.euc_2d;
      ceil = known.ceil_2d;
      man = known.man_2d;
      max = known.max_2d;
      att = known.att;
      euc_in_space = known.euc_3d;
      man_in_space = known.man_3d;
      max_in_space = known.max_3d;
    } in
    record { defined = cost_defined laws; unique = cost_unique laws }
