-- The goals of `copy_within` in src/case_tree.rt, which copies the numbers of a leaf if they are within limits: its
-- loop.
use Rattle.tsp_cases.proofs.Prelude.{◌≡◌, ◌∙◌, ◌<◌, ℕ, ℤ, List, length, get_or, inl, inr, ap₂, sym, rules, FitsSigned, arith, to_z, of_z, pos, ◌≤ℤ◌, ◌++◌, [], ◌∷◌, w64, w128, length-set, cases_eq, ints, take_more, take_more_set, get_or_default}
use Rattle.tsp_cases.proofs.case_tree.copy_within.Goals as goal

-- plan: one number more is copied, if it is within the limit
pub numbers-preserved : goal.numbers-preserved
numbers-preserved c =
    let xs : List ℤ = c.args.numbers.now in
    let index : ℕ = c.numbers.index in
    let number : ℤ = get_or xs index (pos 0) in
    let least : ℤ = to_z w64 (of_z w64 c.args.least) in
    let most : ℤ = to_z w64 (of_z w64 c.args.most) in
    let fits : FitsSigned w128 (get_or xs index (pos 0)) = search rules in
    let low : least ≤ℤ number = omega (arith, ints, c.if-number-from.false, c.from.ensures, fits) in
    let high : number ≤ℤ most = omega (arith, ints, c.if-from-number.false, c.from-else-number-from.ensures, fits) in
    let same : to_z w64 (of_z w64 (to_z w128 (of_z w128 number))) ≡ number = omega (arith, ints, low, high, fits) in
    let room : index < length c.numbers.copy = omega (arith, c.numbers-test.true, c.numbers.invariant.long) in
    record {
      long = length-set c.numbers.copy index _ ∙ c.numbers.invariant.long;
      inside = λ k default below. elim (cases_eq k index) [
        | inl here ↦ rw here (rw (get_or_default xs index default (pos 0) c.numbers-test.true) (low, high))
        | inr other ↦ c.numbers.invariant.inside k default (omega (arith, below, other))
      ];
      copied = take_more_set c.numbers.copy index _ room ∙ ap₂ (λ (ys : List ℤ) (z : ℤ). ys ++ z ∷ []) c.numbers.invariant.copied same ∙ sym (take_more xs index (pos 0) c.numbers-test.true);
    }
