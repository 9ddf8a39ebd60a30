-- The goals of `best_entry` in src/least_q_route.rt, which finds the entry of a node by those of the next nodes: what
-- it ensures.
use Rattle.tsp_routing.specs.states.Demands.{entry_at}
use Rattle.tsp_routing.proofs.least_q_route.best_entry.Goals as goal

-- plan: the entry of the way back to the depot, then one by all customers but the node
pub returns-then-node-q_routes-clause-below : goal.returns-then-node-q_routes-clause-below
returns-then-node-q_routes-clause-below g c = λ w default rows.
    c.entry_around.ensures.below w default rows
    (c.only_back-back.ensures.below w (entry_at g.S.Sum.value c.args.known.now default) (rows c.args.q_routes.now.depot c.args.q_routes.now.depot_in))

pub returns-then-node-q_routes-clause-met : goal.returns-then-node-q_routes-clause-met
returns-then-node-q_routes-clause-met g c = λ w default rows.
    c.entry_around.ensures.met w default rows
    (c.only_back-back.ensures.met w (entry_at g.S.Sum.value c.args.known.now default) (rows c.args.q_routes.now.depot c.args.q_routes.now.depot_in))

pub returns-then-node-q_routes-clause-size : goal.returns-then-node-q_routes-clause-size
returns-then-node-q_routes-clause-size g c = λ size fits rows. c.entry_around.ensures.size size fits rows (c.only_back-back.ensures.size size fits)

pub returns-clause-below : goal.returns-clause-below
returns-clause-below g c = λ w default rows.
    c.entry_around-2.ensures.below w default rows
    (c.only_back-back.ensures.below w (entry_at g.S.Sum.value c.args.known.now default) (rows c.args.q_routes.now.depot c.args.q_routes.now.depot_in))

pub returns-clause-met : goal.returns-clause-met
returns-clause-met g c = λ w default rows.
    c.entry_around-2.ensures.met w default rows
    (c.only_back-back.ensures.met w (entry_at g.S.Sum.value c.args.known.now default) (rows c.args.q_routes.now.depot c.args.q_routes.now.depot_in))

pub returns-clause-size : goal.returns-clause-size
returns-clause-size g c = λ size fits rows. c.entry_around-2.ensures.size size fits rows (c.only_back-back.ensures.size size fits)
