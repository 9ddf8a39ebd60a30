-- The goals of `only_cells_have_places` in src/layout.rt: what it ensures.
use Rattle.tsp_format.proofs.Places.{no_place}
use Rattle.tsp_format.proofs.layout.only_cells_have_places.Goals as goal

-- plan: a pair has a place if it is found among the cells, so a pair that is no cell has none
pub returns : goal.returns
returns c = no_place
