-- The goals of `put_each_tour` in src/shown.rt: its loop and what it ensures.
use Rattle.tsp_report.proofs.Prelude.{rules, map, arith, length-map, way_of, carried_nodes}
use Rattle.tsp_report.specs.Show.{tour_line}
use Rattle.tsp_report.proofs.Texts.{next_mapped}
use Rattle.tsp_report.proofs.shown.put_each_tour.Goals as goal

-- plan: one tour's line more (`next_mapped`)
pub tours-preserved : goal.tours-preserved
tours-preserved g c =
    let line = rw c.deref.ensures.value at c.put_tour.ensures in
    next_mapped tour_line (λ tour. tour.items) c.args.tours.now c.tours.index c.index-tours-index.result
    (way_of g.W.Takes.contents c.args.out.now c.args.piece.now.items) (way_of g.W.Takes.contents c.tours.out c.tours.piece.items)
    (way_of g.W.Takes.contents c.put_tour.new.out c.put_tour.new.piece.items) (omega arith) (search rules) c.tours.invariant line

pub returns : goal.returns
returns g c = carried_nodes tour_line (map (λ tour. tour.items) c.args.tours.now) c.tours.index
    (way_of g.W.Takes.contents c.args.out.now c.args.piece.now.items) (way_of g.W.Takes.contents c.tours.out c.tours.piece.items)
    (omega (arith, length-map c.args.tours.now (λ tour. tour.items))) c.tours.invariant
