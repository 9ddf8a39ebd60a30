-- The goals of `examples_of_pairs` in src/examples.rt: what it ensures.
use Rattle.tsp_verdict.proofs.Prelude.{◌≡◌, List, [], ◌∷◌, Some, ap, sym, subst₂, unwrap_or, ℤ, pos, ◌+ℤ◌, ◌*ℤ◌, ◌<ℤ◌, cost, entry}
use Rattle.tsp_verdict.proofs.examples.examples_of_pairs.Goals as goal

the_list : (xs ys : List ℤ) → Some xs ≡ Some ys → ys ≡ xs
the_list xs ys same = sym (ap (λ o. unwrap_or o []) same)

-- plan: the example is computed
pub returns-clause-of_duals : goal.returns-clause-of_duals
returns-clause-of_duals c = λ inst i j is.
    subst₂ (λ rows columns. (pos 2 *ℤ cost inst i j) <ℤ (entry rows i +ℤ entry columns j))
    (the_list (pos 1 ∷ pos 2 ∷ pos 4 ∷ []) is.1.rows is.1.rows_are)
    (the_list (pos 0 ∷ pos 1 ∷ pos 1 ∷ []) is.1.columns is.1.columns_are) is.1.first.broken
