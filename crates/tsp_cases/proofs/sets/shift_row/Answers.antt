-- The goals of `shift_row` in src/sets.rt, which adds the numbers of both nodes to a row: its loop.
use Rattle.tsp_cases.proofs.Prelude.{◌≡◌, ◌<◌, ℕ, ℤ, List, length, inl, inr, sym, subst, ap, ap₂, ◌∙◌, arith, rules, to_z, of_z, FitsSigned, pos, ◌+ℤ◌, w64, int_wrap, cases_eq, to_z-of_z, get_or-set_same, get_or-set_other, set, least_at}
use Rattle.tsp_cases.proofs.sets.shift_row.Goals as goal

-- plan: by whether a place is the one just written (`get_or-set_same`), which has its sum, or another
-- (`get_or-set_other`)
pub places-preserved : goal.places-preserved
places-preserved c =
    let place : ℕ = c.places.place in
    let row : List ℤ = c.places.row in
    let number : ℤ = to_z w64 (of_z w64 c.args.number) in
    let old : ℤ = least_at c.args.row.now place in
    let moved : ℤ = least_at c.args.moved.now place in
    let whole : ℤ = int_wrap w64 (old +ℤ int_wrap w64 (number +ℤ moved)) in
    let value : ℤ = to_z w64 (of_z w64 c.sum_left-in-places.result) in
    let inside : place < length row = omega (arith, c.places.auto.row, c.places-test.true) in
    let moved_in : FitsSigned w64 moved = search rules in
    let row_in : FitsSigned w64 (least_at row place) = search rules in
    let inner_in : FitsSigned w64 c.sum_left.result = search rules in
    let outer_in : FitsSigned w64 c.sum_left-in-places.result = search rules in
    let old_is = to_z-of_z w64 (least_at row place) row_in ∙ c.places.invariant.rest place (omega arith) in
    let sum = to_z-of_z w64 c.sum_left.result inner_in ∙ c.sum_left.ensures ∙ ap (λ z. int_wrap w64 (number +ℤ z)) (to_z-of_z w64 moved moved_in) in
    let here : value ≡ whole = to_z-of_z w64 c.sum_left-in-places.result outer_in ∙ c.sum_left-in-places.ensures ∙ ap₂ (λ a b. int_wrap w64 (a +ℤ b)) old_is sum in
    record {
      done = λ x below. elim (cases_eq x place) [
        | inl same ↦ subst (λ (y : ℕ). least_at (set row place value) y
            ≡ int_wrap w64 (least_at c.args.row.now y +ℤ int_wrap w64 (number +ℤ least_at c.args.moved.now y)))
            (sym same) (get_or-set_same row place value (pos 0) inside ∙ here)
        | inr other ↦ get_or-set_other row place x value (pos 0) other ∙ c.places.invariant.done x (omega (arith, below, other))
      ];
      rest = λ x past. get_or-set_other row place x value (pos 0) (λ e. absurd (omega (arith, past, e))) ∙ c.places.invariant.rest x (omega (arith, past));
    }
