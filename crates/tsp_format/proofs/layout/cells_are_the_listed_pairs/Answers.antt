-- The goals of `cells_are_the_listed_pairs` in src/layout.rt: what it ensures.
use Rattle.tsp_format.proofs.Pairs.{cell_is}
use Rattle.tsp_format.proofs.layout.cells_are_the_listed_pairs.Goals as goal

-- plan: the cells are all pairs of nodes that pass the test of the layout, by rows or by columns
pub returns : goal.returns
returns c = cell_is
