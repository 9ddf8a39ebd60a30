-- The loop of `lists_of` in src/multipliers_by_node.rt, which lists at each node the multipliers of its pairs.
use Rattle.std.proofs.Common.{take}
use Rattle.tsp_bound.specs.states.ByNode.{IsTable}
use Rattle.tsp_bound.proofs.multipliers_by_node.lists_of.Given as goal

-- each node's list has the other node and the multiplier of each triple before this one on the node, and no others
abbrev pub invariant-triples : goal.invariant-triples
invariant-triples l = IsTable l.nodes (take l.triple-index l.triples) l.lists.items
