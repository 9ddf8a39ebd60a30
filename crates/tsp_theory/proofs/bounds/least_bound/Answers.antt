-- The goals of `least_bound` in src/bounds.rt, which rounds a sum up to a whole number at a scale: what it ensures.
use Rattle.tsp_theory.proofs.Sums.{least_computed}
use Rattle.tsp_theory.proofs.bounds.least_bound.Goals as goal

-- plan: the quotient is rounded up, which is the least whole number no less than it (`least_computed`)
pub returns : goal.returns
returns c =
    let both = least_computed c.args.scale c.args.sum c.from.result c.div_euclid.result c.requires.scale c.requires.size c.from.ensures c.div_euclid.ensures in
    record { value = both.0; size = both.1 }
