-- The goals of `Demands::need` in src/demands.rt, which counts the routes that some customers need: what it ensures.
use Rattle.tsp_routing.specs.states.Demands.{loads_problem}
use Rattle.tsp_routing.proofs.CutNeeds.{cut_of}
use Rattle.tsp_routing.proofs.demands.Demands.need.Goals as goal

-- plan: the demand of the customers is that of the nodes in the cut, so its least routes are the need of the cut
-- (`cut_of`)
pub returns-clause-cut : goal.returns-clause-cut
returns-clause-cut c = λ cost.
    cut_of (loads_problem c.args.self.now cost) c.args.customers.now c.least_routes.result c.counted.result c.requires.customers
    c.requires.once c.requires.some c.least_routes.ensures c.counted.ensures.value
