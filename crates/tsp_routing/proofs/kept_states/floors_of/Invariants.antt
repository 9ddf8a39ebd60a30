-- The loop of `floors_of` in src/kept_states.rt.
use Rattle.tsp_routing.proofs.Prelude.{◌≡◌, ◌<◌, ℕ, [], pos, length, get_or}
use Rattle.tsp_routing.specs.states.RunTables.{item_lists}
use Rattle.tsp_routing.specs.states.KeptLists.{IsFloor}
use Rattle.tsp_routing.proofs.kept_states.floors_of.Given as goal

-- there are the floors of the first `index` lists
abbrev pub invariant-lists : goal.invariant-lists
invariant-lists l = record {
  long : length l.floors.items ≡ l.index;
  below : (last : ℕ) → last < l.index → IsFloor (get_or (item_lists l.lists) last []) (get_or l.floors.items last (pos 0));
}
