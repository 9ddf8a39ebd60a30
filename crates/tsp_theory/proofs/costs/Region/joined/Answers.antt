-- The goals of `Region::joined` in src/costs.rt, which returns a region around two regions: what it ensures.
use Rattle.tsp_theory.proofs.Prelude.{arith, ints}
use Rattle.tsp_theory.proofs.costs.Region.joined.Goals as goal

-- plan: along each axis the lower end is the lower of both, and the higher end the higher
pub returns-clause-left : goal.returns-clause-left
returns-clause-left c = λ p h. record {
  low_x = omega (arith, ints, c.smaller.ensures.first, h.low_x);
  high_x = omega (arith, ints, c.larger.ensures.first, h.high_x);
  low_y = omega (arith, ints, c.smaller-2.ensures.first, h.low_y);
  high_y = omega (arith, ints, c.larger-2.ensures.first, h.high_y);
  low_z = omega (arith, ints, c.smaller-3.ensures.first, h.low_z);
  high_z = omega (arith, ints, c.larger-3.ensures.first, h.high_z);
}

pub returns-clause-right : goal.returns-clause-right
returns-clause-right c = λ p h. record {
  low_x = omega (arith, ints, c.smaller.ensures.second, h.low_x);
  high_x = omega (arith, ints, c.larger.ensures.second, h.high_x);
  low_y = omega (arith, ints, c.smaller-2.ensures.second, h.low_y);
  high_y = omega (arith, ints, c.larger-2.ensures.second, h.high_y);
  low_z = omega (arith, ints, c.smaller-3.ensures.second, h.low_z);
  high_z = omega (arith, ints, c.larger-3.ensures.second, h.high_z);
}
