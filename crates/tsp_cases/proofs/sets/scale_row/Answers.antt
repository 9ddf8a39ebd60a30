-- The goals of `scale_row` in src/sets.rt, which multiplies a row of costs by the scale: its loop.
use Rattle.tsp_cases.proofs.Prelude.{◌≡◌, ◌<◌, ◌≤◌, ℕ, ℤ, List, length, inl, inr, sym, ap, ◌∙◌, arith, to_z, of_z, pos, neg_ℤ, ◌*ℤ◌, w64, cases_eq, get_or-set_same, get_or-set_other, set, IsFromTo, least_at, product_is, same_scale}
use Rattle.tsp_format.specs.Limits.{most_weight}
use Rattle.tsp_cases.proofs.sets.scale_row.Goals as goal

-- plan: one entry more is multiplied by the scale, which fits 64 bits (`product_is`)
pub places-preserved : goal.places-preserved
places-preserved c =
    let place : ℕ = c.places.place in
    let row : List ℤ = c.places.row in
    let scale : ℤ = to_z w64 (of_z w64 c.args.scale) in
    let cost : ℤ = least_at c.args.row.now place in
    let some : 1 ≤ place = omega (arith, c.places.auto.place) in
    let inside : place < length row = omega (arith, c.places.auto.row, c.places-test.true) in
    let size : IsFromTo (neg_ℤ (pos most_weight)) (pos most_weight) cost = c.requires.costs place some (omega (arith, c.places-test.true)) in
    let cost_is : least_at row place ≡ cost = c.places.invariant.rest place (omega arith) in
    let value : ℤ = to_z w64 (of_z w64 (scale *ℤ to_z w64 (of_z w64 (least_at row place)))) in
    let here : value ≡ scale *ℤ cost = ap (λ z. to_z w64 (of_z w64 (scale *ℤ to_z w64 (of_z w64 z)))) cost_is
    ∙ product_is c.args.scale cost c.requires.scale size.0 size.1 ∙ ap (λ z. z *ℤ cost) (sym (same_scale c.args.scale c.requires.scale)) in
    record {
      done = λ x first below. elim (cases_eq x place) [
        | inl same ↦ ap (least_at (set row place value)) same ∙ get_or-set_same row place value (pos 0) inside ∙ here ∙ ap (λ (y : ℕ). scale *ℤ least_at c.args.row.now y) (sym same)
        | inr other ↦ get_or-set_other row place x value (pos 0) other ∙ c.places.invariant.done x first (omega (arith, below, other))
      ];
      rest = λ x past. get_or-set_other row place x value (pos 0) (λ e. absurd (omega (arith, past, e))) ∙ c.places.invariant.rest x (omega (arith, past));
    }
