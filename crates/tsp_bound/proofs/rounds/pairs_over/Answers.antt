-- The goals of `pairs_over` in src/rounds.rt, which finds the pairs of a least tree in rounds: what it ensures.
use Rattle.std.proofs.Common.{◌∙◌, ap}
use Rattle.tsp_bound.proofs.RoundJoins.{spanning_seen}
use Rattle.tsp_bound.proofs.rounds.pairs_over.Goals as goal

-- plan: by boxes or by the least links of each place: a spanning tree of the places is one of their nodes
-- (`spanning_seen`)
pub returns-in-Some : goal.returns-in-Some
returns-in-Some g c =
    let nodes = c.in-Some.nodes.placed in
    spanning_seen c.args.order.now nodes.order.now (g.W.Weights.at c.args.w.now) (g.W.Weights.at nodes.w.now) c.grow_by_rounds.result
    ((rw c.in-Some.is at c.in_ok-nodes.ensures.order) ∙ c.new.ensures.order)
    (ap (g.W.Weights.at) ((rw c.in-Some.is at c.in_ok-nodes.ensures.weights) ∙ c.new.ensures.weights)) c.grow_by_rounds.ensures

pub returns : goal.returns
returns g c =
    let nodes = c.in_ok-nodes-2.nodes.placed in
    spanning_seen c.args.order.now nodes.order.now (g.W.Weights.at c.args.w.now) (g.W.Weights.at nodes.w.now) c.grow_by_rounds-2.result
    (c.in_ok-nodes-2.ensures.order ∙ c.new-3.ensures.order) (ap (g.W.Weights.at) (c.in_ok-nodes-2.ensures.weights ∙ c.new-3.ensures.weights)) c.grow_by_rounds-2.ensures
