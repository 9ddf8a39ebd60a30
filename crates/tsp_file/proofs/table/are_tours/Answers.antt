-- The goals of `are_tours` in src/table.rt, which says whether tours are valid and short enough together: what it
-- ensures.
use Rattle.tsp_file.proofs.ValidFields.{mapped_tours}
use Rattle.tsp_file.proofs.table.are_tours.Goals as goal

-- plan: the tours in vectors are the lists of nodes of the definition, with as many nodes in all (`mapped_tours`)
pub returns-in-Some : goal.returns-in-Some
returns-in-Some c =
    rw c.in-Some.is (mapped_tours c.in-Some.tours.items c.are_tours.result (rw c.deref.ensures.value at c.are_tours.ensures))
