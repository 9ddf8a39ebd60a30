-- The loop of `memories_of` in src/memories.rt.
use Rattle.std.proofs.Common.{◌≡◌, ◌+◌, ℕ, length}
use Rattle.tsp_routing.specs.states.MemoryTables.{near_in, AreTablesTo}
use Rattle.tsp_routing.proofs.memories.memories_of.Given as goal

-- the tables have a place 0 and the lists of the nodes up to `index`
abbrev pub invariant-nodes : goal.invariant-nodes
invariant-nodes l = record {
  long : length l.keys.items ≡ l.index + 1;
  tables : AreTablesTo l.nodes (near_in l.near) l.rows l.keys.items l.places.items;
}
