-- The goals of `weight_within` in src/weights.rt, of the trait `BoxedWeights` for `Weights`: that no sum overflows and
-- what it ensures. It returns the weight before it is lowered, if that is less than a number.
use Rattle.tsp_bound.proofs.Prelude.{◌-◌, ◌∙◌, ℤ, arith, rules, ap, ap₂, sym, subst, w64, to_z, of_z, SFits, pos, neg_ℤ, ◌+ℤ◌, ◌*ℤ◌, ◌≤ℤ◌, most_potential, IsFromTo, to_z-of_z, weight_fits, weight_computed, scaled_by}
use Rattle.tsp_bound.proofs.weights.PotentialWeightsBoxedWeights.weight_within.Goals as goal

pub overflow_add-result : goal.overflow_add-result
overflow_add-result g c =
    let s = c.args.self.now in
    let first = c.args.from.now in
    let second = c.args.to.now in
    let first_size : IsFromTo (neg_ℤ (pos most_potential)) (pos most_potential) first.number =
    subst (λ (z : ℤ). IsFromTo (neg_ℤ (pos most_potential)) (pos most_potential) z) (sym c.requires.from.value)
    (s.p.now.are.numbers_are (first.site.node - 1) (pos 0) (omega (arith, c.requires.from.site.node_in, s.count))) in
    let second_size : IsFromTo (neg_ℤ (pos most_potential)) (pos most_potential) second.number =
    subst (λ (z : ℤ). IsFromTo (neg_ℤ (pos most_potential)) (pos most_potential) z) (sym c.requires.to.value)
    (s.p.now.are.numbers_are (second.site.node - 1) (pos 0) (omega (arith, c.requires.to.site.node_in, s.count))) in
    weight_fits c.scaled-cost.result first.number second.number c.scaled-cost.ensures.size first_size second_size

-- plan: the three parts fit 64 bits (`weight_fits`), so the sum is the weight (`weight_computed`)
pub returns : goal.returns
returns g c =
    let s = c.args.self.now in
    let first = c.args.from.now in
    let second = c.args.to.now in
    let first_size : IsFromTo (neg_ℤ (pos most_potential)) (pos most_potential) first.number =
    subst (λ (z : ℤ). IsFromTo (neg_ℤ (pos most_potential)) (pos most_potential) z) (sym c.requires.from.value)
    (s.p.now.are.numbers_are (first.site.node - 1) (pos 0) (omega (arith, c.requires.from.site.node_in, s.count))) in
    let second_size : IsFromTo (neg_ℤ (pos most_potential)) (pos most_potential) second.number =
    subst (λ (z : ℤ). IsFromTo (neg_ℤ (pos most_potential)) (pos most_potential) z) (sym c.requires.to.value)
    (s.p.now.are.numbers_are (second.site.node - 1) (pos 0) (omega (arith, c.requires.to.site.node_in, s.count))) in
    let cost : ℤ = g.C.Costs.at s.c.now first.site.node second.site.node in
    let fits : SFits w64 c.cost_between.result = search rules in
    let computed = weight_computed c.scaled-cost.result first.number second.number c.scaled-cost.ensures.size first_size second_size in
    let numbers = ap₂ (λ (a b : ℤ). (s.p.now.scale *ℤ cost) +ℤ (a +ℤ b)) c.requires.from.value c.requires.to.value in
    let value = computed
    ∙ scaled_by s.p.now.scale cost c.scaled-cost.result (first.number +ℤ second.number) s.p.now.are.scale_is
    (c.scaled-cost.ensures.value ∙ ap (λ (z : ℤ). to_z w64 (of_z w64 s.p.now.scale) *ℤ z) (to_z-of_z w64 c.cost_between.result fits ∙ c.cost_between.ensures.value)) ∙ numbers in
    record {
      less = λ _. value;
      no_less = λ above. subst (λ (z : ℤ). c.args.most ≤ℤ z) value above;
    }
