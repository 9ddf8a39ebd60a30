-- The goal of `Region::nearest` in src/costs.rt: what it ensures of the region.
use Rattle.tsp_theory.proofs.Prelude.{arith, ints}
use Rattle.tsp_theory.proofs.costs.Region.nearest.Goals as goal

-- plan: along each axis the place is brought between the ends
pub returns-clause-inside : goal.returns-clause-inside
returns-clause-inside c = λ p h.
    let x = c.clamped.ensures.inside (omega (arith, ints, h.low_x, h.high_x)) in
    let y = c.clamped-2.ensures.inside (omega (arith, ints, h.low_y, h.high_y)) in
    let z = c.clamped-3.ensures.inside (omega (arith, ints, h.low_z, h.high_z)) in
    record { low_x = x.0; high_x = x.1; low_y = y.0; high_y = y.1; low_z = z.0; high_z = z.1 }
