-- The goals of `weigh` in src/weights.rt, which writes the weights from a node to some others: its loop.
use Rattle.tsp_bound.proofs.Prelude.{◌≡◌, ◌∙◌, ◌<◌, ℕ, ℤ, List, length, slice_index, inl, inr, ap, sym, subst, arith, rules, FitsSigned, to_z, of_z, w64, pos, neg_ℤ, set, cases_eq, to_z-of_z, get_or-set_same, get_or-set_other, most_between, IsFromTo, least_at}
use Rattle.tsp_bound.specs.states.Potentials.{weight_under}
use Rattle.tsp_bound.proofs.weights.weigh.Goals as goal

-- plan: by whether a node is the one just written (`get_or-set_same`), which has its weight, or another
-- (`get_or-set_other`), which is as it was
pub places-preserved : goal.places-preserved
places-preserved g c = λ k lt below.
    let w = weight_under c.args.w.now.p.now (g.C.Costs.at c.args.w.now.c.now) in
    let to : List ℕ = c.args.to.now in
    let row : List ℤ = c.places.row in
    let node : ℕ = slice_index to c.places.place in
    let value : ℤ = to_z w64 (of_z w64 c.weight_from.result) in
    let fits : FitsSigned w64 c.weight_from.result = search rules in
    let is : value ≡ c.weight_from.result = to_z-of_z w64 c.weight_from.result fits in
    let inside : node < length row = omega (arith, c.places.auto.row, c.requires.room, (c.requires.to c.places.place (omega (arith, c.places-test.true))).1) in
    let Holds : ℕ → Type 0 = λ (y : ℕ). (least_at (set row node value) y ≡ w c.args.from y) × IsFromTo (neg_ℤ (pos most_between)) (pos most_between) (least_at (set row node value) y) in
    elim (cases_eq (slice_index to k) node) [
      | inl same ↦
          let here : least_at (set row node value) node ≡ c.weight_from.result = get_or-set_same row node value (pos 0) inside ∙ is in
          subst Holds (sym same) (here ∙ c.weight_from.ensures.value, subst (λ (z : ℤ). IsFromTo (neg_ℤ (pos most_between)) (pos most_between) z) (sym here) c.weight_from.ensures.size)
      | inr other ↦
          let before : k < c.places.place = elim (cases_eq k c.places.place) [
            | inl here ↦ absurd (other (ap (slice_index to) here))
            | inr apart ↦ omega (arith, below, apart)
          ] in
          let old = c.places.invariant k lt before in
          let there : least_at (set row node value) (slice_index to k) ≡ least_at row (slice_index to k) = get_or-set_other row node (slice_index to k) value (pos 0) other in
          (there ∙ old.0, subst (λ (z : ℤ). IsFromTo (neg_ℤ (pos most_between)) (pos most_between) z) (sym there) old.1)
    ]
