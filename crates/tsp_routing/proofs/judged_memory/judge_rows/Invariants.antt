-- The loop of `judge_rows` in src/judged_memory.rt.
use Rattle.tsp_routing.proofs.Prelude.{◌≡◌, ◌≤◌, ◌<◌, ◌+◌, ℕ, length, map, take, get_or}
use Rattle.tsp_cases.specs.states.GoodFamilies.{AreUnmarked}
use Rattle.tsp_routing.specs.RunTrees.{IsGoodRow, row_at, rows_kept}
use Rattle.tsp_format.specs.states.TreeSteps.{subset_row_of}
use Rattle.tsp_routing.proofs.judged_memory.judge_rows.Given as goal

-- the rows before this one are good, and counted; no node has the mark of a later row
abbrev pub invariant-rows : goal.invariant-rows
invariant-rows l = record {
  places : length l.marks.items ≡ l.demands.nodes + 1;
  fresh : (mark : ℕ) → l.index < mark → AreUnmarked l.marks.items mark;
  long : length l.counts.items ≡ l.demands.nodes + 1;
  counted : (node : ℕ) → node ≤ l.demands.nodes
      → get_or l.counts.items node 0 ≡ rows_kept (take l.index (map subset_row_of l.rows)) node;
  good : (place : ℕ) → place < l.index → IsGoodRow l.demands.nodes l.demands.depot (row_at (map subset_row_of l.rows) place);
}
