-- The goals of `rows_of` in src/leaf_weights.rt, which makes the rows of all nodes: its loop.
use Rattle.tsp_routing.proofs.Prelude.{◌≡◌, ◌+◌, ◌++◌, [], ◌∷◌, ℕ, subst, sym, lent_in, set_weight}
use Rattle.tsp_routing.specs.states.LeafWeights.{AreFirstRows}
use Rattle.tsp_routing.proofs.RouteProducts.{weights_more}
use Rattle.tsp_routing.proofs.leaf_weights.rows_of.Goals as goal

-- plan: the rows so far with the row of the next node are the rows of one node more
pub rows-preserved : goal.rows-preserved
rows-preserved g c =
    let s = c.args.weights.now in
    let n : ℕ = g.C.Costs.nodes s.costs.now in
    let w = set_weight s.scale s.potentials.now s.multipliers.now (lent_in s.families.now) (g.C.Costs.at s.costs.now) in
    let pushed : c.push.new.list.items ≡ c.rows.rows.items ++ c.in_ok-row.row ∷ [] = c.in_ok-push.ensures.items in
    subst (AreFirstRows n w (c.rows.index + 1)) (sym pushed)
    (weights_more n w c.rows.index c.rows.rows.items c.in_ok-row.row c.rows.invariant c.in_ok-row.ensures)
