-- The loop of `add_near` in src/memories.rt.
use Rattle.std.proofs.Common.{◌≡◌, ◌++◌, drop, map}
use Rattle.tsp_routing.specs.states.MemoryTables.{key_of_node}
use Rattle.tsp_routing.proofs.memories.add_near.Given as goal

-- with the keys of the customers left, the list has those of all
abbrev pub invariant-customers : goal.invariant-customers
invariant-customers l = l.keys.items ++ map key_of_node (drop l.index l.near) ≡ l.fn.keys.items ++ map key_of_node l.near
