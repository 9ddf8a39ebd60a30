-- The loop of `first_bad_list` in src/judged_memory.rt.
use Rattle.tsp_routing.proofs.Prelude.{◌≡◌, ◌<◌, ◌+◌, ℕ, length}
use Rattle.tsp_cases.specs.states.GoodFamilies.{AreUnmarked}
use Rattle.tsp_routing.specs.RunTrees.{IsGoodList}
use Rattle.tsp_routing.specs.states.JudgedMemory.{AreOwners}
use Rattle.tsp_routing.specs.states.RunTables.{item_lists}
use Rattle.tsp_routing.proofs.judged_memory.first_bad_list.Given as goal

-- the lists before this one are good; no node has the mark of a later list
abbrev pub invariant-lists : goal.invariant-lists
invariant-lists l = record {
  places : length l.marks.items ≡ l.demands.nodes + 1;
  fresh : (mark : ℕ) → l.index < mark → AreUnmarked l.marks.items mark;
  owned : length l.owners.items ≡ l.demands.nodes + 1;
  owners : AreOwners (item_lists l.lists) l.index l.owners.items;
  good : (place : ℕ) → place < l.index → IsGoodList l.demands.nodes l.demands.depot (item_lists l.lists) place;
}
