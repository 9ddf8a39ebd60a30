-- The loop of `no_lists` in src/judged_memory.rt.
use Rattle.tsp_routing.proofs.Prelude.{◌≡◌, ℕ, [], length, get_or}
use Rattle.tsp_routing.specs.states.RunTables.{item_lists}
use Rattle.tsp_routing.proofs.judged_memory.no_lists.Given as goal

-- there are so many lists, none with a node
abbrev pub invariant-lists : goal.invariant-lists
invariant-lists l = record {
  long : length l.lists.items ≡ l.index;
  none : (node : ℕ) → get_or (item_lists l.lists.items) node [] ≡ [];
}
