-- The goals of `solution_tours` in src/tour.rt, which returns the tours of a solution, if it has TYPE TOUR: what it
-- ensures.
use Rattle.tsp_verdict.proofs.Prelude.{Option, None, Some, MatchOption}
use Rattle.tsp_verdict.proofs.RouteFiles.{tours_held, no_tours}
use Rattle.tsp_verdict.proofs.tour.solution_tours.Goals as goal

both : {A : Type 0} (found : Option A) (P R : Type 0) (Q S : A → Type 0) → MatchOption found P Q → (P → R) → ((x : A) → Q x → S x)
    → MatchOption found R S
both None P R Q S held none some = none held
both (Some x) P R Q S held none some = some x held

-- plan: by whether the solution has tours (`tours_held`, `no_tours`)
pub returns : goal.returns
returns c =
    both c.as_tours.result _ _ _ _ c.as_tours.ensures (no_tours c.args.sol.now)
    (λ tours held. tours_held c.args.sol.now tours.now held.0 held.1 held.2)
