-- The loop of `all_entries` in src/kept_states.rt.
use Rattle.std.proofs.Common.{ℕ, ℤ, List, length}
use Rattle.tsp_format.specs.Steps.{SubsetRow}
use Rattle.tsp_routing.specs.states.KeptLists.{rules_of, IsLeafOf, IsKeptListTo, AreStateRows, AreSizedEntries}
use Rattle.tsp_routing.proofs.kept_states.all_entries.Given as goal

-- the entries of the starts with none before the last customer, or with one up to `index`
abbrev pub invariant-befores : goal.invariant-befores
invariant-befores l = record {
  entries : (near : ℕ → List ℕ) (rows : List (SubsetRow × ℤ)) → IsLeafOf l.leaf near rows
      → AreStateRows (rules_of l.leaf near rows) l.leaf.limit l.table
      → IsKeptListTo (rules_of l.leaf near rows) l.leaf.limit (length l.table) l.last l.index l.entries.items;
  sizes : AreSizedEntries (length l.table) l.entries.items;
}
