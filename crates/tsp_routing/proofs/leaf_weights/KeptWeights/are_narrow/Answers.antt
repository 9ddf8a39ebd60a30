-- The goals of `KeptWeights::are_narrow` in src/leaf_weights.rt, which says whether all weights are small enough for
-- sums of 64 bits: its loop.
use Rattle.tsp_routing.proofs.Prelude.{◌+◌, ◌^◌, ℕ, ℤ, subst, sym, arith, inl, inr, pos, neg_ℤ, cases_eq, IsFromTo, lent_in, set_weight}
use Rattle.tsp_routing.specs.PlanBounds.{most_link}
use Rattle.tsp_routing.proofs.leaf_weights.KeptWeights.are_narrow.Goals as goal

-- plan: the weights of all rows so far are within the limit of a link, and within 2^38 if each row so far was
pub nodes-preserved : goal.nodes-preserved
nodes-preserved g c =
    let s = c.args.self.now.weights.now in
    let w = set_weight s.scale s.potentials.now s.multipliers.now (lent_in s.families.now) (g.C.Costs.at s.costs.now) in
    let own = c.fill_kept.ensures in
    let before = c.nodes.invariant in
    let here = c.is_narrow_row-narrow.ensures in
    let wide : ℤ → Type 0 = IsFromTo (neg_ℤ (pos most_link)) (pos most_link) in
    let narrow : ℤ → Type 0 = IsFromTo (neg_ℤ (pos (2 ^ 38))) (pos (2 ^ 38)) in
    record {
      row = own.places;
      wide = λ i j there le other. elim (cases_eq i (c.nodes.index + 1)) [
        | inl same ↦ subst (λ (k : ℕ). wide (w k j)) (sym same) (subst wide (own.values j other) (own.sizes j other))
        | inr differs ↦ before.wide i j there (omega (arith, le, differs)) other
      ];
      narrow = λ on i j there le other. elim (cases_eq i (c.nodes.index + 1)) [
        | inl same ↦ subst (λ (k : ℕ). narrow (w k j)) (sym same)
            (subst narrow (own.values j other) (here.own on j other.0 (omega (arith, other.1, own.places))))
        | inr differs ↦ before.narrow (here.others on) i j there (omega (arith, le, differs)) other
      ];
    }
