-- The goals of `ListedWeights::lost_pair` in src/typed.rt, which finds the first pair whose cost another layout would
-- lose: what it ensures.
use Rattle.std.proofs.Common.{inr}
use Rattle.tsp_file.proofs.Relaid.{triangle_holds}
use Rattle.tsp_file.proofs.typed.ListedWeights.lost_pair.Goals as goal

-- plan: a triangle lists one of both pairs, so its costs are symmetric, and every layout holds them (`triangle_holds`)
pub returns-in_default : goal.returns-in_default
returns-in_default c =
    let w = c.args.self.now in
    inr (triangle_holds w.layout w.nodes w.weights.now c.in_default.not-FullMatrix)
