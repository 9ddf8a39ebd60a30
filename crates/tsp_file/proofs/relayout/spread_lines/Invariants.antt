-- The loop of `spread_lines` in src/relayout.rt, which moves the lines of a half to their rows.
use Rattle.tsp_file.proofs.Prelude.{◌≡◌, ◌≤◌, ◌*◌, List, length, take, ℤ}
use Rattle.tsp_file.proofs.Spread.{before, SpreadTo}
use Rattle.tsp_file.proofs.relayout.spread_lines.Given as goal

-- the lines after `line` are in their rows, and the others are still at the beginning, one after the other
abbrev pub invariant-lines : goal.invariant-lines
invariant-lines l = record {
  size : length l.weights.items ≡ l.nodes * l.nodes;
  within : l.line ≤ l.nodes;
  kept : l.kept ≡ length (before l.from l.nodes l.line);
  spread : (half : List ℤ) → length half ≡ l.count → take l.count l.fn.weights.items ≡ half
      → SpreadTo l.from l.nodes l.line l.kept half l.weights.items;
}

-- `line` gets smaller by one
abbrev pub decreases-lines : goal.decreases-lines
decreases-lines l = l.line
