-- The loop of `add_by_table` in src/run_steps.rt.
use Rattle.std.proofs.Common.{◌≡◌, ◌<◌, ◌+◌, ℕ, ℤ, List, take}
use Rattle.tsp_format.specs.Steps.{SubsetRow}
use Rattle.tsp_routing.specs.states.Demands.{load_at}
use Rattle.tsp_routing.specs.states.KeptLists.{rules_of, IsLeafOf, AddsNexts, AreSizedEntries}
use Rattle.tsp_routing.proofs.run_steps.add_by_table.Given as goal

-- the entries that go on from the first `index` ones are added
abbrev pub invariant-befores : goal.invariant-befores
invariant-befores l = record {
  adds : (near : ℕ → List ℕ) (rows : List (SubsetRow × ℤ)) (load : ℕ) → IsLeafOf l.leaf near rows
      → load + load_at l.leaf.nodes.now.loads.now l.serving.last + l.serving.left ≡ l.leaf.nodes.now.room
      → AddsNexts (rules_of l.leaf near rows) l.leaf.limit load l.serving.before l.serving.last (take l.index l.befores)
      l.fn.entries.items l.entries.items;
  sizes : (load next : ℕ) → load < next → AreSizedEntries load l.befores → AreSizedEntries next l.fn.entries.items
      → AreSizedEntries next l.entries.items;
}
