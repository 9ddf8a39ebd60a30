-- The goals of `cells_go_line_by_line` in src/layout.rt: what it ensures.
use Rattle.tsp_format.proofs.Pairs.{cells-lines}
use Rattle.tsp_format.proofs.layout.cells_go_line_by_line.Goals as goal

-- plan: filtering the pairs of all lines at once gives the same as filtering those of each line
pub returns : goal.returns
returns c = cells-lines
