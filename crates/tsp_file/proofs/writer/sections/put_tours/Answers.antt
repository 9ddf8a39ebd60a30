-- The goals of `put_tours` in src/writer/sections.rt: its loop and what it ensures.
use Rattle.tsp_file.proofs.Prelude.{arith, way_of, carried_mapped, carried_none, carried_next}
use Rattle.tsp_file.specs.CanonicalText.{node_list}
use Rattle.tsp_file.proofs.writer.sections.put_tours.Goals as goal

pub tours-init : goal.tours-init
tours-init g c = carried_none (way_of g.W.Takes.contents c.args.out.now c.args.piece.now.items)

-- plan: one tour more is added, with its line -1 (`carried_next`)
pub tours-preserved : goal.tours-preserved
tours-preserved g c =
    let start = way_of g.W.Takes.contents c.args.out.now c.args.piece.now.items in
    let before = way_of g.W.Takes.contents c.tours.out c.tours.piece.items in
    let after = way_of g.W.Takes.contents c.put_nodes.new.out c.put_nodes.new.piece.items in
    let text = rw c.deref.ensures.value at c.put_nodes.ensures in
    carried_next (λ tour. node_list tour.items) c.args.tours.now c.tours.tour-index c.tour-item.result start before after
    c.tours-test.true c.tour-item.is c.tours.invariant text

pub returns : goal.returns
returns g c = carried_mapped node_list (λ t. t.items) c.args.tours.now c.tours.tour-index
    (way_of g.W.Takes.contents c.args.out.now c.args.piece.now.items) (way_of g.W.Takes.contents c.tours.out c.tours.piece.items)
    (omega arith) c.tours.invariant
