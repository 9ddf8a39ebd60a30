-- The goals of `ListedWeights::first_asymmetric` in src/typed.rt, which finds the first pair whose two costs differ:
-- what it ensures.
use Rattle.tsp_file.proofs.Relaid.{even_between_nodes, outside}
use Rattle.tsp_file.proofs.typed.ListedWeights.first_asymmetric.Goals as goal

-- plan: other numbers than nodes cost 0 in both directions (`outside`), so costs that are symmetric between nodes are
-- symmetric (`even_between_nodes`)
pub returns-then-is_symmetric : goal.returns-then-is_symmetric
returns-then-is_symmetric c =
    let w = c.args.self.now in
    even_between_nodes w.layout w.nodes w.weights.now (outside w.layout w.nodes) (c.is_symmetric.ensures.0 c.if-is_symmetric.true)
