-- The loop of `put_tours` in src/writer/sections.rt.
use Rattle.tsp_file.proofs.Prelude.{take, flat_map, way_of, Carried}
use Rattle.tsp_file.specs.CanonicalText.{node_list}
use Rattle.tsp_file.proofs.writer.sections.put_tours.Given as goal

-- the bytes added so far are the tours before this one, each with its line -1
abbrev pub invariant-tours : goal.invariant-tours
invariant-tours g l =
    Carried (way_of g.W.Takes.contents l.initial.out l.initial.piece.items) (way_of g.W.Takes.contents l.out l.piece.items)
    (flat_map (λ tour. node_list tour.items) (take l.tour-index l.tours))
