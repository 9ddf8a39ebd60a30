-- The goals of `put_others` in src/writer.rt, which adds the lines of unknown keywords: its loop and what it
-- ensures.
use Rattle.tsp_file.proofs.Prelude.{arith, way_of, carried_mapped, carried_none, carried_next}
use Rattle.tsp_file.specs.CanonicalText.{other_line, value_line}
use Rattle.tsp_file.proofs.writer.put_others.Goals as goal

pub loop-keyword-init : goal.loop-keyword-init
loop-keyword-init g c = carried_none (way_of g.W.Takes.contents c.args.out.now c.args.piece.now.items)

-- plan: the line of one unknown keyword more is added (`carried_next`)
pub loop-keyword-preserved : goal.loop-keyword-preserved
loop-keyword-preserved g c =
    let start = way_of g.W.Takes.contents c.args.out.now c.args.piece.now.items in
    let before = way_of g.W.Takes.contents c.loop-keyword.out c.loop-keyword.piece.items in
    let after = way_of g.W.Takes.contents c.put_value.new.out c.put_value.new.piece.items in
    let text = rw (c.deref.ensures.value, c.deref-in-loop-keyword.ensures.value) at c.put_value.ensures in
    carried_next (λ p. value_line p.0.items p.1.items) c.args.others.now c.loop-keyword.keyword-index c.loop-keyword-item.result
    start before after c.loop-keyword-test.true c.loop-keyword-item.is c.loop-keyword.invariant text

pub returns : goal.returns
returns g c = carried_mapped other_line (λ p. (p.0.items, p.1.items)) c.args.others.now c.loop-keyword.keyword-index
    (way_of g.W.Takes.contents c.args.out.now c.args.piece.now.items)
    (way_of g.W.Takes.contents c.loop-keyword.out c.loop-keyword.piece.items)
    (omega arith) c.loop-keyword.invariant
