-- The goals of `fill_moved` in src/sets.rt, which writes each potential less the multipliers of the node's sets: its
-- loop.
use Rattle.tsp_cases.proofs.Prelude.{◌≡◌, ◌∙◌, ◌<◌, ◌+◌, ◌-◌, ℕ, ℤ, List, length, inl, inr, ap, ap₂, sym, arith, rules, to_z, of_z, FitsSigned, pos, ◌+ℤ◌, w64, int_wrap, set, length-set, cases_eq, to_z-of_z, get_or-set_same, get_or-set_other, entry, least_at}
use Rattle.tsp_cases.proofs.sets.fill_moved.Goals as goal

-- plan: by whether a node is the one just written (`get_or-set_same`), which has its potential plus its end, or one
-- before (`get_or-set_other`)
pub nodes-preserved : goal.nodes-preserved
nodes-preserved c =
    let index : ℕ = c.nodes.index in
    let place : ℕ = index + 1 in
    let row : List ℤ = c.nodes.row in
    let potentials : List ℤ = c.args.potentials.now in
    let ends : List ℤ = c.args.ends.now in
    let value : ℤ = to_z w64 (of_z w64 c.sum_left.result) in
    let first : ℤ = least_at potentials index in
    let second : ℤ = least_at ends place in
    let first_in : FitsSigned w64 first = search rules in
    let second_in : FitsSigned w64 second = search rules in
    let sum_in : FitsSigned w64 c.sum_left.result = search rules in
    let same_place : index ≡ place - 1 = omega arith in
    let here : value ≡ int_wrap w64 (entry potentials place +ℤ least_at ends place) =
    to_z-of_z w64 c.sum_left.result sum_in ∙ c.sum_left.ensures
    ∙ ap₂ (λ a b. int_wrap w64 (a +ℤ b)) (to_z-of_z w64 first first_in ∙ ap (least_at potentials) same_place) (to_z-of_z w64 second second_in) in
    let inside : place < length row = omega (arith, c.nodes.invariant.room, c.nodes-test.true) in
    record {
      room = length-set row place value ∙ c.nodes.invariant.room;
      placed = λ x first most. elim (cases_eq x place) [
        | inl same ↦ ap (least_at (set row place value)) same ∙ get_or-set_same row place value (pos 0) inside ∙ here
            ∙ ap (λ (y : ℕ). int_wrap w64 (entry potentials y +ℤ least_at ends y)) (sym same)
        | inr other ↦ get_or-set_other row place x value (pos 0) other ∙ c.nodes.invariant.placed x first (omega (arith, most, other))
      ];
    }
