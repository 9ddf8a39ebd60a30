-- The loop of `put_points` in src/writer/sections.rt.
use Rattle.tsp_file.proofs.Prelude.{take, map, flat_map, enumerate_from, decimal, way_of, Carried}
use Rattle.tsp_file.specs.CanonicalText.{number_line, coordinate_words}
use Rattle.tsp_file.proofs.writer.sections.put_points.Given as goal

-- the bytes added so far are the lines of the points before this one, numbered from 1 on
abbrev pub invariant-nodes : goal.invariant-nodes
invariant-nodes g l =
    Carried (way_of g.W.Takes.contents l.initial.out l.initial.piece.items) (way_of g.W.Takes.contents l.out l.piece.items)
    (flat_map (λ entry. number_line (decimal entry.0) (coordinate_words l.spatial entry.1))
    (take l.index (enumerate_from 1 (map g.P.InSpace.place l.points))))
