-- The goals of `ListedWeights::first_on_diagonal` in src/typed.rt, which finds the first node that doesn't cost 0 to
-- itself: what it ensures.
use Rattle.std.proofs.Common.{◌<◌, ⊎_elim, arith}
use Rattle.tsp_file.proofs.Relaid.{nodes_or_not, cost_outside}
use Rattle.tsp_file.proofs.typed.ListedWeights.first_on_diagonal.Goals as goal

-- plan: other numbers than nodes cost 0 to themselves (`cost_outside`), so it is enough to look at the nodes
pub returns : goal.returns
returns c = λ i.
    let w = c.args.self.now in
    ⊎_elim (λ out. cost_outside w.layout w.nodes w.weights.now i i out)
    (λ nodes.
    let earlier : i < c.nodes.i = omega (arith, nodes.0.1) in
    c.nodes.invariant i nodes.0 earlier)
    (nodes_or_not w.nodes i i)
