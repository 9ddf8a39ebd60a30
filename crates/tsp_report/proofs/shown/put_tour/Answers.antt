-- The goals of `put_tour` in src/shown.rt: what it ensures.
use Rattle.tsp_report.proofs.Prelude.{◌++◌, length, codes, decimal, way_of, carried_then}
use Rattle.tsp_report.proofs.Texts.{then_named}
use Rattle.tsp_report.proofs.shown.put_tour.Goals as goal

-- plan: the number of the tour, and how many nodes it has (`then_named`)
pub returns : goal.returns
returns g c =
    let start = way_of g.W.Takes.contents c.args.out.now c.args.piece.now.items in
    let after_number = way_of g.W.Takes.contents c.put_named.new.out c.put_named.new.piece.items in
    let after_nodes = way_of g.W.Takes.contents c.put_named-2.new.out c.put_named-2.new.piece.items in
    let last = way_of g.W.Takes.contents c.put.new.out c.put.new.piece.items in
    let tour = codes "tour " ++ decimal c.args.number in
    carried_then start after_nodes last (tour ++ codes " nodes " ++ decimal (length c.args.tour.now)) (codes "\n")
    (then_named start after_number after_nodes tour (codes " nodes ") (decimal (length c.args.tour.now)) c.put_named.ensures c.put_named-2.ensures) c.put.ensures
