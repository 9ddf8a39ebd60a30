-- The goals of `CaseLeaf::fill_apart` in src/leaf_rows.rt, which writes a row of weights as if no set had two nodes:
-- what it ensures.
use Rattle.tsp_branch.proofs.Prelude.{◌≡◌, ◌-◌, ◌*◌, ℤ, arith, rules, subst, inr, ap, ap₂, ◌∙◌, to_z, of_z, FitsSigned, w64, int_wrap, pos, neg_ℤ, ◌+ℤ◌, ◌*ℤ◌, to_z-of_z, most_scale, most_weight, IsFromTo, entry, least_at, between_size, same_scale, scaled_size, lent_in, multipliers_at, apart_is}
use Rattle.tsp_branch.proofs.case_leaf.CaseLeaf.fill_apart.Goals as goal

-- plan: scaled cost and both numbers, wrapped to 64 bits, are the weight without sets of two nodes (`apart_is`); it
-- fits (`between_size`)
pub returns : goal.returns
returns g c = record {
  values = λ x x_in.
      let p = c.args.self.now in
      let n = g.C.Costs.nodes p.context.now.costs.now in
      let cost : ℤ = g.C.Costs.at p.context.now.costs.now c.args.from x in
      let m : ℤ = c.weight_in.result in
      let k : ℤ = least_at p.moved.now x in
      let own : ℤ = to_z w64 (of_z w64 m) in
      let m_in : FitsSigned w64 m = search rules in
      let entry_is : least_at c.costs_from.new.row x ≡ cost = (c.costs_from.ensures.values x x_in).is in
      let scaled_is = c.scale_row.ensures x x_in.0 (omega (arith, x_in.1, c.requires.room, c.costs_from.auto.row)) ∙ ap₂
      (λ a b. a *ℤ b) (same_scale p.context.now.cases.now.scale p.context.now.cases.now.scaled) entry_is in
      let value_is : least_at c.shift_row.new.row x ≡ int_wrap w64 ((p.context.now.cases.now.scale *ℤ cost) +ℤ int_wrap w64 (own +ℤ k)) =
      c.shift_row.ensures x (omega (arith, x_in.1, c.requires.room, c.costs_from.auto.row, c.scale_row.auto.row)) ∙ ap (λ z. int_wrap w64 (z +ℤ int_wrap w64 (own +ℤ k))) scaled_is in
      inr (apart_is (p.context.now.cases.now.scale *ℤ cost) (entry p.potentials.now c.args.from) (entry p.potentials.now x)
      (multipliers_at p.multipliers.now (lent_in p.context.now.families.now) c.args.from) (multipliers_at p.multipliers.now (lent_in p.context.now.families.now) x)
      m k (int_wrap w64 (own +ℤ k)) (least_at c.shift_row.new.row x) (ap (int_wrap w64) c.weight_in.ensures ∙ p.are_moved c.args.from c.requires.from) (p.are_moved x x_in)
      (ap (λ z. int_wrap w64 (z +ℤ k)) (to_z-of_z w64 m m_in)) value_is);
  sizes = λ x x_in.
      let p = c.args.self.now in
      let cost : ℤ = g.C.Costs.at p.context.now.costs.now c.args.from x in
      let e = c.costs_from.ensures.values x x_in in
      between_size (p.context.now.cases.now.scale *ℤ cost) (entry p.potentials.now c.args.from) (entry p.potentials.now x)
      (subst (λ (z : ℤ). IsFromTo (neg_ℤ (pos (most_scale * most_weight))) (pos (most_scale * most_weight))
      (p.context.now.cases.now.scale *ℤ z)) e.is
      (scaled_size p.context.now.cases.now.scale _ p.context.now.cases.now.scaled e.low e.high))
      (p.numbers.potentials_are (c.args.from - 1) (pos 0) (omega (arith, c.requires.from, p.numbers.each_node))) (p.numbers.potentials_are (x - 1) (pos 0) (omega (arith, x_in, p.numbers.each_node)));
}
