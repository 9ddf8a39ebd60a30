-- The goals of `cells_are_distinct` in src/layout.rt: what it ensures.
use Rattle.tsp_format.proofs.Pairs.{cells_differ}
use Rattle.tsp_format.proofs.layout.cells_are_distinct.Goals as goal

-- plan: two lines have different line numbers, and the cells of one line different numbers in it
pub returns : goal.returns
returns c = cells_differ
