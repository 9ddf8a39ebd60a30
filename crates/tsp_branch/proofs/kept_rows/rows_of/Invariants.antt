-- The loop of `rows_of` in src/kept_rows.rt, which makes a row of scaled costs for each node.
use Rattle.std.specs.Prelude.{◌*ℤ◌}
use Rattle.tsp_branch.specs.states.KeptRows.{AreRows}
use Rattle.tsp_branch.proofs.kept_rows.rows_of.Given as goal

-- there are the rows of the first nodes, as many as `index`, with the costs at the scale
abbrev pub invariant-rows : goal.invariant-rows
invariant-rows g l = AreRows (g.C.Costs.nodes l.context.costs.now) (g.C.Costs.at l.context.costs.now) (λ i x. l.context.cases.now.scale *ℤ g.C.Costs.at l.context.costs.now i x) l.index l.rows.items
