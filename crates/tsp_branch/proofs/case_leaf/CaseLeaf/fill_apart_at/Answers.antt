-- The goals of `CaseLeaf::fill_apart_at` in src/leaf_rows.rt, which writes some weights of a row as if no set had two
-- nodes: its loop.
use Rattle.tsp_branch.proofs.Prelude.{◌≡◌, ◌∙◌, ◌<◌, ℕ, ℤ, List, length, slice_index, inl, inr, ap, sym, subst, arith, rules, FitsSigned, to_z, of_z, w64, pos, cases_eq, to_z-of_z, get_or-set_same, get_or-set_other, least_at, lent_in, IsApart}
use Rattle.std.proofs.Math.ListN.{set}
use Rattle.tsp_branch.proofs.case_leaf.CaseLeaf.fill_apart_at.Goals as goal

-- plan: one place more has its weight without sets
pub places-preserved : goal.places-preserved
places-preserved g c = λ k lt below.
    let p = c.args.self.now in
    let to : List ℕ = c.args.to.now in
    let row : List ℤ = c.places.row in
    let node : ℕ = slice_index to c.places.place in
    let value : ℤ = to_z w64 (of_z w64 c.weight_apart.result) in
    let fits : FitsSigned w64 c.weight_apart.result = search rules in
    let is : value ≡ c.weight_apart.result = to_z-of_z w64 c.weight_apart.result fits in
    let inside : node < length row = omega (arith, c.places.auto.row, c.requires.room, (c.requires.to c.places.place (omega (arith, c.places-test.true))).1) in
    let Holds : ℕ → ℤ → Type 0 = IsApart p.context.now.cases.now.scale p.potentials.now p.multipliers.now (lent_in p.context.now.families.now) (g.C.Costs.at p.context.now.costs.now) c.args.from in
    elim (cases_eq (slice_index to k) node) [
      | inl same ↦
          let here : least_at (set row node value) node ≡ c.weight_apart.result = get_or-set_same row node value (pos 0) inside ∙ is in
          subst (λ (y : ℕ). Holds y (least_at (set row node value) y)) (sym same)
          (subst (λ (z : ℤ). Holds node z) (sym here) (c.weight_apart.ensures.value, c.weight_apart.ensures.size))
      | inr other ↦
          let before : k < c.places.place = elim (cases_eq k c.places.place) [
            | inl here ↦ absurd (other (ap (slice_index to) here))
            | inr apart ↦ omega (arith, below, apart)
          ] in
          let there : least_at (set row node value) (slice_index to k) ≡ least_at row (slice_index to k) = get_or-set_other row node (slice_index to k) value (pos 0) other in
          subst (λ (z : ℤ). Holds (slice_index to k) z) (sym there) (c.places.invariant k lt before)
    ]
