-- The goals of `examples_of_bounds` in src/examples.rt: what it ensures.
use Rattle.tsp_verdict.proofs.Prelude.{◌≡◌, List, [], ◌∷◌, Some, refl, ap, sym, subst, subst₂, arith, unwrap_or, pos, ints, nodes_of, cost, IsAdjustedBound, IsDualBound, is_directed, Crossings, decided_number, Family, families_with}
use Rattle.tsp_format.specs.Steps as listed
use Rattle.tsp_cases.specs.CaseTrees.{IsCaseTreeBound}
use Rattle.tsp_verdict.specs.Certificates.{given_in, case_steps_in}
use Rattle.tsp_verdict.specs.Examples.{halves_of_leaf}
use Rattle.tsp_verdict.proofs.examples.examples_of_bounds.Goals as goal

-- a file has one list
the_list : {A : Type 0} (xs ys : List A) → Some xs ≡ Some ys → ys ≡ xs
the_list xs ys same = sym (ap (λ o. unwrap_or o []) same)

no_families : (crossed : List Crossings) → families_with crossed [] ≡ []
no_families [] = refl
no_families (own ∷ crossed) = refl

-- plan: each example is computed; a file has one list (`the_list`)
pub returns-clause-nodes : goal.returns-clause-nodes
returns-clause-nodes c = λ inst bound is.
    subst (λ ps. IsAdjustedBound (nodes_of inst) (cost inst) (pos 2) ps ((1, 2, pos 5) ∷ []) [] bound)
    (the_list (pos 1 ∷ pos 0 ∷ pos 3 ∷ []) is.potentials is.potentials_are) is.of_tree

pub returns-clause-duals : goal.returns-clause-duals
returns-clause-duals c = λ inst bound is.
    let of_halves : IsDualBound (pos 2) (pos 1 ∷ pos 2 ∷ pos 4 ∷ []) (pos 0 ∷ pos 1 ∷ pos 1 ∷ []) bound =
    subst₂ (λ rows columns. IsDualBound (pos 2) rows columns bound) (the_list (pos 1 ∷ pos 2 ∷ pos 4 ∷ []) is.rows is.rows_are)
    (the_list (pos 0 ∷ pos 1 ∷ pos 1 ∷ []) is.columns is.columns_are) is.of_duals in
    omega (arith, ints, of_halves.above, of_halves.least (pos 5) (omega (arith, ints)))

pub returns-clause-branches : goal.returns-clause-branches
returns-clause-branches c = λ inst found is.
    subst₂ (λ (families : List Family) (steps : List listed.Step). IsCaseTreeBound (is_directed inst.kind) (nodes_of inst)
    (cost inst) (pos 2)
    decided_number families (given_in inst) (case_steps_in inst halves_of_leaf steps) found)
    (no_families is.crossed) (the_list (listed.Leaf [] ∷ []) is.steps is.steps_are) is.bound
