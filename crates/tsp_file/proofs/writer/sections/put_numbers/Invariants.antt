-- The loop of `put_numbers` in src/writer/sections.rt.
use Rattle.tsp_file.proofs.Prelude.{take, flat_map, enumerate_from, decimal, way_of, Carried}
use Rattle.tsp_file.specs.CanonicalText.{number_line, whole_number}
use Rattle.tsp_file.proofs.writer.sections.put_numbers.Given as goal

-- the bytes added so far are the lines of the numbers before this one, counted from 1 on
abbrev pub invariant-nodes : goal.invariant-nodes
invariant-nodes g l =
    Carried (way_of g.W.Takes.contents l.initial.out l.initial.piece.items) (way_of g.W.Takes.contents l.out l.piece.items)
    (flat_map (λ entry. number_line (decimal entry.0) (whole_number entry.1)) (take l.index (enumerate_from 1 l.numbers)))
