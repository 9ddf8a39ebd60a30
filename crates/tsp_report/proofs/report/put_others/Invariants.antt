-- The loop of `put_others` in src/report.rt.
use Rattle.tsp_report.proofs.Prelude.{take, flat_map, way_of, Carried}
use Rattle.tsp_report.proofs.Texts.{unknown_line}
use Rattle.tsp_report.proofs.report.put_others.Given as goal

-- the bytes added so far are the lines of the unknown keywords before this one
abbrev pub invariant-lines : goal.invariant-lines
invariant-lines g l =
    Carried (way_of g.W.Takes.contents l.initial.out l.initial.piece.items) (way_of g.W.Takes.contents l.out l.piece.items)
    (flat_map (λ line. unknown_line (line.0.items, line.1.items)) (take l.keyword-index l.others))
