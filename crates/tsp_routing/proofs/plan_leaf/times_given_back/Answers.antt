-- The goals of `times_given_back` in src/plan_leaf.rt, which multiplies a number by a count: that the product fits, and
-- what it ensures.
use Rattle.tsp_routing.proofs.Prelude.{◌∙◌, rules, FitsSigned, w64, to_z-of_z}
use Rattle.tsp_routing.proofs.RouteProducts.{set_product, set_product_fits}
use Rattle.tsp_routing.proofs.plan_leaf.times_given_back.Goals as goal

-- plan: the size of a product is the product of the sizes
pub overflow_mul-result : goal.overflow_mul-result
overflow_mul-result c =
    let fits : FitsSigned w64 c.args.number = search rules in
    set_product_fits c.args.count c.args.number c.from.result c.from-2.result c.requires fits c.from.ensures
    (c.from-2.ensures ∙ to_z-of_z w64 c.args.number fits)

pub returns-clause-value : goal.returns-clause-value
returns-clause-value c =
    let fits : FitsSigned w64 c.args.number = search rules in
    let is = set_product c.args.count c.args.number c.from.result c.from-2.result c.requires fits c.from.ensures
    (c.from-2.ensures ∙ to_z-of_z w64 c.args.number fits) in
    is.0

pub returns-clause-size : goal.returns-clause-size
returns-clause-size c =
    let fits : FitsSigned w64 c.args.number = search rules in
    let is = set_product c.args.count c.args.number c.from.result c.from-2.result c.requires fits c.from.ensures
    (c.from-2.ensures ∙ to_z-of_z w64 c.args.number fits) in
    rw is.0 is.1
