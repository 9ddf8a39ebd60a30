-- The goals of `times` in src/plan_leaf.rt, which multiplies a number by a count: that the product does not overflow,
-- and what it ensures.
use Rattle.tsp_routing.proofs.RouteProducts.{product_fits, product_is}
use Rattle.tsp_routing.proofs.plan_leaf.times.Goals as goal

-- plan: the size of a product is the product of the sizes
pub overflow_mul-result : goal.overflow_mul-result
overflow_mul-result c = product_fits c.args.count c.args.number c.from.result c.requires.count c.requires.number c.from.ensures

pub returns : goal.returns
returns c =
    let is = product_is c.args.count c.args.number c.from.result c.requires.count c.requires.number c.from.ensures in
    record { value = is.0; size = rw is.0 is.1 }
