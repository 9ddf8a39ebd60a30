-- The loop of `states_with` in src/kept_states.rt.
use Rattle.tsp_routing.proofs.Prelude.{◌≡◌, ◌≤◌, ◌<◌, ◌+◌, ℕ, ℤ, List, [], length, get_or}
use Rattle.tsp_format.specs.Steps.{SubsetRow}
use Rattle.tsp_routing.specs.KeptStates.{most_states}
use Rattle.tsp_routing.specs.states.RunTables.{item_lists}
use Rattle.tsp_routing.specs.states.KeptLists.{count_in_lists, AreRisingLists, rules_of, IsLeafOf, IsKeptList, AreStateRows, AreSizedEntries}
use Rattle.tsp_routing.proofs.kept_states.states_with.Given as goal

-- the row has a place 0 and the lists of the nodes up to `index`, whose entries are counted
abbrev pub invariant-nodes : goal.invariant-nodes
invariant-nodes l = record {
  long : length l.lists.items ≡ l.index + 1;
  lists : (near : ℕ → List ℕ) (rows : List (SubsetRow × ℤ)) → IsLeafOf l.leaf near rows
      → AreStateRows (rules_of l.leaf near rows) l.leaf.limit l.table
      → (last : ℕ) → last < length l.lists.items
      → IsKeptList (rules_of l.leaf near rows) l.leaf.limit (length l.table) last (get_or (item_lists l.lists.items) last []);
  rising : AreRisingLists (item_lists l.lists.items);
  counted : l.count ≡ l.fn.count + count_in_lists (item_lists l.lists.items);
  fits : l.count ≤ most_states;
  sizes : (node : ℕ) → node < length l.lists.items → AreSizedEntries (length l.table) (get_or (item_lists l.lists.items) node []);
}
