-- The goals of `placed_changes` in src/run_verdict.rt, which puts the differences of a leaf at places: its loop.
use Rattle.tsp_routing.proofs.Prelude.{ℕ, ℤ, List, [], ◌∷◌, ◌++◌, get_or, pos, ap₂, ◌∙◌, rules, FitsSigned, w64, to_z-of_z}
use Rattle.tsp_routing.specs.RunTrees.{number_place}
use Rattle.tsp_routing.proofs.RunJudging.{map_pushed}
use Rattle.tsp_routing.proofs.run_verdict.placed_changes.Goals as goal

-- plan: difference by difference
pub changes-preserved : goal.changes-preserved
changes-preserved c =
    let change : ℕ × ℤ = get_or c.args.changes.now c.changes.change-index (0, pos 0) in
    let fits : FitsSigned w64 change.1 = search rules in
    map_pushed (λ (change : ℕ × ℤ). (number_place c.args.nodes c.args.families change.0, change.1)) c.changes.placed.items _ _ c.args.changes.now
    c.changes.change-index (0, pos 0) c.changes-test.true
    (c.in_ok-push.ensures.items
    ∙ ap₂ (λ (place : ℕ) (number : ℤ). c.changes.placed.items ++ (place, number) ∷ []) c.number_place.ensures (to_z-of_z w64 change.1 fits))
    c.changes.invariant
