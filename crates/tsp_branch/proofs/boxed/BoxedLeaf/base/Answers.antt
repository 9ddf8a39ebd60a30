-- The goals of `BoxedLeaf::base` in src/boxed.rt, which adds a cost at the scale and the numbers of both nodes:
-- that no sum overflows and what it ensures.
use Rattle.tsp_branch.proofs.Prelude.{◌-◌, ◌*◌, ℤ, ap, subst, arith, pos, neg_ℤ, ◌*ℤ◌, ints, most_scale, most_weight, IsFromTo, entry, between_size, product_fits, product_is, scaled_size}
use Rattle.tsp_branch.proofs.boxed.BoxedLeaf.base.Goals as goal

-- plan: the product of scale and cost fits 64 bits (`product_fits`), and so does the sum with both numbers
-- (`between_size`)
pub overflow_add-both : goal.overflow_add-both
overflow_add-both g c =
    let p = c.args.self.now in
    let first = (p.exact c.args.from c.requires.from).1 in
    let second = (p.exact c.args.to c.requires.to).1 in
    omega (arith, ints, first.0, first.1, second.0, second.1, c.weight_in.ensures, c.weight_in-2.ensures)

pub overflow_mul-result : goal.overflow_mul-result
overflow_mul-result g c = product_fits c.args.self.now.leaf.now.context.now.cases.now.scale c.args.cost c.args.self.now.leaf.now.context.now.cases.now.scaled c.requires.low c.requires.high

pub overflow_add-result : goal.overflow_add-result
overflow_add-result g c =
    let p = c.args.self.now in
    let q = p.leaf.now in
    let product = product_is q.context.now.cases.now.scale c.args.cost q.context.now.cases.now.scaled c.requires.low c.requires.high in
    let size = scaled_size q.context.now.cases.now.scale c.args.cost q.context.now.cases.now.scaled c.requires.low c.requires.high in
    let first = (p.exact c.args.from c.requires.from).1 in
    let second = (p.exact c.args.to c.requires.to).1 in
    omega (arith, ints, product, size.0, size.1, first.0, first.1, second.0, second.1, c.weight_in.ensures, c.weight_in-2.ensures)

pub returns : goal.returns
returns g c =
    let p = c.args.self.now in
    let q = p.leaf.now in
    let product = product_is q.context.now.cases.now.scale c.args.cost q.context.now.cases.now.scaled c.requires.low c.requires.high in
    let size = scaled_size q.context.now.cases.now.scale c.args.cost q.context.now.cases.now.scaled c.requires.low c.requires.high in
    let first = (p.exact c.args.from c.requires.from).1 in
    let second = (p.exact c.args.to c.requires.to).1 in
    let cost_at : ℤ = g.C.Costs.at q.context.now.costs.now c.args.from c.args.to in
    let cost = ap (λ (z : ℤ). q.context.now.cases.now.scale *ℤ z) c.requires.cost in
    record {
      value = omega (arith, ints, product, size.0, size.1, first.0, first.1, second.0, second.1, c.weight_in.ensures, c.weight_in-2.ensures, cost);
      size = between_size (q.context.now.cases.now.scale *ℤ cost_at) (entry q.potentials.now c.args.from) (entry q.potentials.now c.args.to)
          (subst (λ (z : ℤ). IsFromTo (neg_ℤ (pos (most_scale * most_weight))) (pos (most_scale * most_weight)) (q.context.now.cases.now.scale *ℤ z)) c.requires.cost size)
          (q.numbers.potentials_are (c.args.from - 1) (pos 0) (omega (arith, c.requires.from, q.numbers.each_node)))
          (q.numbers.potentials_are (c.args.to - 1) (pos 0) (omega (arith, c.requires.to, q.numbers.each_node)));
    }
