-- The goals of `examples_of_accepted` in src/examples.rt: what it ensures.
use Rattle.tsp_verdict.proofs.Prelude.{◌≡◌, ℕ, List, [], ◌∷◌, get_or, ap, sym, subst, subst₂, ◌∙◌, arith, ints, pos, cost, length_of, plan_length, IsLeastRoutes}
use Rattle.tsp_theory.specs.Examples.{two, three}
use Rattle.tsp_verdict.proofs.examples.examples_of_accepted.Goals as goal

-- the one list of a list
the_one : (xs ys : List ℕ) → xs ∷ [] ≡ ys ∷ [] → ys ≡ xs
the_one xs ys same = sym (ap (λ lists. get_or lists 0 []) same)

-- plan: each example is computed; a list of one list has that one alone (`the_one`)
pub returns-clause-tour : goal.returns-clause-tour
returns-clause-tour c = λ inst found bound is.
    let measured : found ≡ length_of (cost inst) (three 1 2 3) =
    is.1.3 ∙ ap (length_of (cost inst)) (the_one (three 1 2 3) is.1.0 is.1.1) in
    omega (arith, ints, measured)

pub returns-clause-certified : goal.returns-clause-certified
returns-clause-certified c = λ by inst cert found bound is.
    let measured : found ≡ length_of (cost inst) (three 1 2 3) =
    is.1.measured ∙ ap (length_of (cost inst)) (the_one (three 1 2 3) is.1.tour is.1.only) in
    omega (arith, ints, measured)

pub returns-clause-routes : goal.returns-clause-routes
returns-clause-routes c = λ inst found routes least depot is.
    let measured : found ≡ plan_length (cost inst) 2 (two 3 1 ∷ (4 ∷ []) ∷ []) =
    subst (λ (d : ℕ). found ≡ plan_length (cost inst) d (two 3 1 ∷ (4 ∷ []) ∷ [])) depot is.1.measured in
    omega (arith, ints, measured)

pub returns-clause-certified_routes : goal.returns-clause-certified_routes
returns-clause-certified_routes c = λ by inst cert found routes least bound depot is.
    let measured : found ≡ plan_length (cost inst) 2 (two 3 1 ∷ (4 ∷ []) ∷ []) =
    subst (λ (d : ℕ). found ≡ plan_length (cost inst) d (two 3 1 ∷ (4 ∷ []) ∷ [])) depot is.1.planned.measured in
    omega (arith, ints, measured)

pub returns-clause-number : goal.returns-clause-number
returns-clause-number c = λ inst found routes least is. is.1.counted

pub returns-clause-least : goal.returns-clause-least
returns-clause-least c = λ inst found routes least total capacity is.
    let least_is : IsLeastRoutes (pos 12) (pos 8) least = subst₂ (λ t c. IsLeastRoutes t c least) total capacity is.1.least_is in
    omega (arith, ints, least_is.enough, least_is.none_less 2 (omega (arith, ints)))
