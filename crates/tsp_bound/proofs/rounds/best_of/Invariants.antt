-- The loop of `best_of` in src/rounds.rt, which finds the best link of each component.
use Rattle.tsp_bound.specs.states.Components.{AreLeaving}
use Rattle.tsp_bound.proofs.rounds.best_of.Given as goal

-- the best link of a label, if any, leads from that component to another one, with its own weight
abbrev pub invariant-nodes : goal.invariant-nodes
invariant-nodes g l = AreLeaving (g.P.Components.count_of l.nodes) (g.P.Components.weight_of l.nodes) (g.P.Components.label_of l.nodes) l.best.items
