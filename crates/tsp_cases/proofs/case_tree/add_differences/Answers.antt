-- The goals of `add_differences` in src/case_tree.rt, which adds the differences of a leaf to its numbers: its loop.
use Rattle.tsp_cases.proofs.Prelude.{◌∙◌, ◌+◌, ◌-◌, ◌<◌, ◌≤◌, ◌^◌, ℕ, ℤ, List, drop, length, get_or, inl, inr, refl, ap, sym, rules, FitsSigned, arith, pos, w64, set, length-set, cases_eq, to_z-of_z, get_or_default}
use Rattle.tsp_cases.specs.ListedCases.{all_grown}
use Rattle.tsp_cases.proofs.TreeBranches.{grown_left, sum_held, more_sized}
use Rattle.tsp_cases.proofs.case_tree.add_differences.Goals as goal

-- plan: one difference more is added to its number (`grown_left`), which stays small enough for 128 bits (`more_sized`)
pub changes-preserved : goal.changes-preserved
changes-preserved c =
    let changes : List (ℕ × ℤ) = c.args.changes.now in
    let numbers : List ℤ = c.changes.numbers in
    let index : ℕ = c.changes.change-index in
    let change : ℕ × ℤ = get_or changes index (0, pos 0) in
    let place : ℕ = change.0 - 1 in
    let old : ℤ = get_or numbers place (pos 0) in
    let few : index < 2 ^ 32 = omega (arith, c.requires.few, c.changes-test.true) in
    let least : 1 ≤ change.0 = omega (arith, c.if-index-eq0.false) in
    let most : change.0 ≤ length numbers = omega (arith, c.if-numbers-index.false) in
    let inside : place < length numbers = omega (arith, least, most) in
    let fits : FitsSigned w64 (get_or changes index (0, pos 0)).1 = search rules in
    let sum_is = sum_held index old change.1 c.from.result few (c.changes.invariant.sized place) fits (c.from.ensures ∙ to_z-of_z w64 change.1 fits) in
    record {
      long = length-set numbers place _ ∙ c.changes.invariant.long;
      sized = more_sized index place numbers _ old change.1 c.changes.invariant.sized inside refl fits sum_is;
      inside = λ k default below. elim (cases_eq k index) [
        | inl here ↦ rw here (rw (get_or_default changes index default (0, pos 0) c.changes-test.true) (least, omega (arith, most, c.changes.invariant.long)))
        | inr other ↦ c.changes.invariant.inside k default (omega (arith, below, other))
      ];
      so_far = ap (λ z. all_grown (drop (index + 1) changes) (set numbers place z)) sum_is ∙ sym (grown_left changes numbers index (0, pos 0) c.changes-test.true) ∙ c.changes.invariant.so_far;
    }
