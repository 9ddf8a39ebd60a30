-- The goals of `ListedWeights::first_asymmetric_by_rows` in src/typed.rt, which finds the first pair whose two costs
-- differ, one pair after another: what it ensures.
use Rattle.std.proofs.Common.{◌<◌, arith}
use Rattle.tsp_file.proofs.Relaid.{even_between_nodes, outside}
use Rattle.tsp_file.proofs.typed.ListedWeights.first_asymmetric_by_rows.Goals as goal

-- plan: other numbers than nodes cost 0 in both directions (`outside`), so after all pairs of nodes the costs are
-- symmetric (`even_between_nodes`)
pub returns : goal.returns
returns c =
    let w = c.args.self.now in
    even_between_nodes w.layout w.nodes w.weights.now (outside w.layout w.nodes)
    (λ i j row column upper.
    let earlier : i < c.rows.i = omega (arith, column.1) in
    c.rows.invariant i j row column upper earlier)
