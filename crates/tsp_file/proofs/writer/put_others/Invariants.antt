-- The loop of `put_others` in src/writer.rt.
use Rattle.tsp_file.proofs.Prelude.{take, flat_map, way_of, Carried}
use Rattle.tsp_file.specs.CanonicalText.{value_line}
use Rattle.tsp_file.proofs.writer.put_others.Given as goal

-- the bytes added so far are the lines of the unknown keywords before this one
abbrev pub invariant-loop-keyword : goal.invariant-loop-keyword
invariant-loop-keyword g l =
    Carried (way_of g.W.Takes.contents l.initial.out l.initial.piece.items) (way_of g.W.Takes.contents l.out l.piece.items)
    (flat_map (λ p. value_line p.0.items p.1.items) (take l.keyword-index l.others))
