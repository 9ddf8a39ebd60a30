-- The goals of `CaseLeaf::weight_apart` in src/leaf_rows.rt, which returns a weight as if no set had two nodes: that no
-- sum overflows and what it ensures.
use Rattle.tsp_branch.proofs.Prelude.{◌≡◌, ◌-◌, ◌*◌, ℕ, ℤ, arith, rules, subst, inr, ap, ap₂, ◌∙◌, to_z, of_z, FitsSigned, w64, int_wrap, pos, neg_ℤ, ◌+ℤ◌, ◌*ℤ◌, to_z-of_z, most_scale, most_weight, IsFromTo, entry, least_at, between_size, product_fits, product_is, scaled_size, lent_in, multipliers_at, apart_is}
use Rattle.tsp_branch.proofs.case_leaf.CaseLeaf.weight_apart.Goals as goal

pub overflow_mul-self : goal.overflow_mul-self
overflow_mul-self g c = product_fits c.args.self.now.context.now.cases.now.scale c.cost.result c.args.self.now.context.now.cases.now.scaled c.cost.ensures.low c.cost.ensures.high

-- plan: the scaled cost fits 64 bits (`product_is`). Its wrapped sum with both numbers is the weight without sets of
-- two nodes (`apart_is`), which fits (`between_size`)
pub returns : goal.returns
returns g c =
    let p = c.args.self.now in
    let from : ℕ = c.args.from in
    let x : ℕ = c.args.to in
    let cost : ℤ = g.C.Costs.at p.context.now.costs.now from x in
    let own : ℤ = c.args.own in
    let k : ℤ = least_at p.moved.now x in
    let inner : ℤ = int_wrap w64 (to_z w64 (of_z w64 own) +ℤ to_z w64 (of_z w64 c.weight_in.result)) in
    let value : ℤ = to_z w64 (of_z w64 c.sum_left-2.result) in
    let own_in : FitsSigned w64 own = search rules in
    let moved_in : FitsSigned w64 c.weight_in.result = search rules in
    let inner_in : FitsSigned w64 c.sum_left.result = search rules in
    let value_in : FitsSigned w64 c.sum_left-2.result = search rules in
    let product = product_is p.context.now.cases.now.scale c.cost.result p.context.now.cases.now.scaled c.cost.ensures.low
    c.cost.ensures.high ∙ ap (λ z. p.context.now.cases.now.scale *ℤ z) c.cost.ensures.value in
    let inner_is : inner ≡ int_wrap w64 (own +ℤ k) =
    ap₂ (λ (a b : ℤ). int_wrap w64 (a +ℤ b)) (to_z-of_z w64 own own_in) (to_z-of_z w64 c.weight_in.result moved_in ∙ c.weight_in.ensures) in
    let value_is : value ≡ int_wrap w64 ((p.context.now.cases.now.scale *ℤ cost) +ℤ inner) =
    to_z-of_z w64 c.sum_left-2.result value_in ∙ c.sum_left-2.ensures
    ∙ ap₂ (λ (a b : ℤ). int_wrap w64 (a +ℤ b)) product (to_z-of_z w64 c.sum_left.result inner_in ∙ c.sum_left.ensures) in
    record {
      value = inr (apart_is (p.context.now.cases.now.scale *ℤ cost) (entry p.potentials.now from) (entry p.potentials.now x)
          (multipliers_at p.multipliers.now (lent_in p.context.now.families.now) from) (multipliers_at p.multipliers.now (lent_in p.context.now.families.now) x)
          own k inner value (ap (int_wrap w64) c.requires.own ∙ p.are_moved from c.requires.from) (p.are_moved x c.requires.to) inner_is value_is);
      size = between_size (p.context.now.cases.now.scale *ℤ cost) (entry p.potentials.now from) (entry p.potentials.now x)
          (subst (λ (z : ℤ). IsFromTo (neg_ℤ (pos (most_scale * most_weight))) (pos (most_scale * most_weight)) (p.context.now.cases.now.scale *ℤ z)) c.cost.ensures.value
          (scaled_size p.context.now.cases.now.scale c.cost.result p.context.now.cases.now.scaled c.cost.ensures.low c.cost.ensures.high))
          (p.numbers.potentials_are (from - 1) (pos 0) (omega (arith, c.requires.from, p.numbers.each_node)))
          (p.numbers.potentials_are (x - 1) (pos 0) (omega (arith, c.requires.to, p.numbers.each_node)));
    }
