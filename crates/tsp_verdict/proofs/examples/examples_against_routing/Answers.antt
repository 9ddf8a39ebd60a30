-- The goals of `examples_against_routing` in src/examples.rt: what it ensures.
use Rattle.tsp_verdict.proofs.Prelude.{subst₂, arith, pos, ints, IsLeastRoutes}
use Rattle.tsp_verdict.proofs.examples.examples_against_routing.Goals as goal

-- plan: the example is computed
pub returns-clause-least : goal.returns-clause-least
returns-clause-least c = λ inst least total capacity is.
    let least_is : IsLeastRoutes (pos 12) (pos 8) least = subst₂ (λ t c. IsLeastRoutes t c least) total capacity is in
    omega (arith, ints, least_is.enough, least_is.none_less 2 (omega (arith, ints)))
