-- The loop of `rows_of` in src/leaf_weights.rt.
use Rattle.tsp_cases.specs.states.Sets.{lent_in, set_weight}
use Rattle.tsp_routing.specs.states.LeafWeights.{AreFirstRows}
use Rattle.tsp_routing.proofs.leaf_weights.rows_of.Given as goal

-- there are the rows of the first nodes, as many as `index`, with their weights
abbrev pub invariant-rows : goal.invariant-rows
invariant-rows g l =
    AreFirstRows (g.C.Costs.nodes l.weights.costs.now) (set_weight l.weights.scale l.weights.potentials.now l.weights.multipliers.now
    (lent_in l.weights.families.now) (g.C.Costs.at l.weights.costs.now)) l.index l.rows.items
