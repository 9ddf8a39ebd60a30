-- The loop of `put_each_tour` in src/shown.rt.
use Rattle.tsp_report.proofs.Prelude.{take, map, flat_map, enumerate_from, way_of, Carried}
use Rattle.tsp_report.specs.Show.{tour_line}
use Rattle.tsp_report.proofs.shown.put_each_tour.Given as goal

-- the bytes added so far are the lines of the tours before this one, counted from 1 on
abbrev pub invariant-tours : goal.invariant-tours
invariant-tours g l =
    Carried (way_of g.W.Takes.contents l.initial.out l.initial.piece.items) (way_of g.W.Takes.contents l.out l.piece.items)
    (flat_map tour_line (take l.index (enumerate_from 1 (map (λ tour. tour.items) l.tours))))
