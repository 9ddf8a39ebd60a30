-- The loop of `kept_states` in src/kept_states.rt.
use Rattle.std.proofs.Common.{◌≡◌, ◌≤◌, ℕ, ℤ, List, length}
use Rattle.tsp_format.specs.Steps.{SubsetRow}
use Rattle.tsp_routing.specs.KeptStates.{most_states}
use Rattle.tsp_routing.specs.states.KeptLists.{entry_count, AreRisingRows, rules_of, IsLeafOf, AreStateRows, AreSizedRows, AreFloors}
use Rattle.tsp_routing.proofs.kept_states.kept_states.Given as goal

-- the table has the rows of the loads below this one, with their floors, and its entries are counted
abbrev pub invariant-loads : goal.invariant-loads
invariant-loads l = record {
  long : length l.table.items ≡ l.load;
  rows : (near : ℕ → List ℕ) (rows : List (SubsetRow × ℤ)) → IsLeafOf l.leaf near rows
      → AreStateRows (rules_of l.leaf near rows) l.leaf.limit l.table.items;
  rising : AreRisingRows l.table.items;
  counted : l.count ≡ entry_count l.table.items;
  fits : l.count ≤ most_states;
  sizes : AreSizedRows l.leaf.nodes.now.nodes l.table.items;
  floors : AreFloors l.table.items l.floors.items;
}
