-- The goals of `scaled_cost` in src/potentials.rt, which counts the cost between two nodes in 1 / scale: what it
-- ensures.
use Rattle.tsp_bound.proofs.Prelude.{ap₂, ◌∙◌, rules, w64, SFits, ◌*ℤ◌, to_z-of_z, same_scale}
use Rattle.tsp_bound.proofs.potentials.scaled_cost.Goals as goal

-- plan: the scale in 64 bits is the whole one (`same_scale`)
pub returns-clause-value : goal.returns-clause-value
returns-clause-value g c =
    let fits : SFits w64 c.cost.result = search rules in
    let back : SFits w64 c.scaled.result = search rules in
    to_z-of_z w64 c.scaled.result back ∙ c.scaled.ensures.value ∙ ap₂ (λ a b. a *ℤ b) (same_scale c.args.scale c.requires.scale) (to_z-of_z w64 c.cost.result fits ∙ c.cost.ensures.value)
