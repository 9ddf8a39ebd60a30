-- The loop of `add_rows` in src/memories.rt.
use Rattle.std.proofs.Common.{◌≡◌, ◌+◌, ◌++◌, drop}
use Rattle.tsp_routing.specs.states.MemoryTables.{kept_keys}
use Rattle.tsp_routing.proofs.memories.add_rows.Given as goal

-- with the keys of the rows left, the list has those of all
abbrev pub invariant-rows : goal.invariant-rows
invariant-rows l = l.keys.items ++ kept_keys (l.first + l.index) (drop l.index l.rows) l.node ≡ l.fn.keys.items ++ kept_keys l.first l.rows l.node
