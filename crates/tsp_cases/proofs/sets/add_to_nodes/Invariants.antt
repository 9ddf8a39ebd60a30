-- The loop of `add_to_nodes` in src/sets.rt, which adds a number at each node of a list.
use Rattle.tsp_cases.proofs.Prelude.{ℕ, ℤ, drop, least_at, IsMoved}
use Rattle.tsp_cases.specs.states.Sets.{added}
use Rattle.tsp_cases.proofs.sets.add_to_nodes.Given as goal

-- adding the number at the nodes left to the row now gives the same as adding it at all to the row at the call
abbrev pub invariant-nodes : goal.invariant-nodes
invariant-nodes l = (x : ℕ) (last : ℤ) → IsMoved (added l.number (drop l.node-index l.nodes) x) (least_at l.row x) last → IsMoved (added l.number l.nodes x) (least_at l.fn.row x) last
