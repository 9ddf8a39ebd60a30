-- The goals of `put_more_weights` in src/writer/matrix.rt, which adds weights, by a block or one by one: its loop and
-- what it ensures.
use Rattle.tsp_file.proofs.Prelude.{[], refl, way_of, carried_none}
use Rattle.tsp_file.proofs.WrittenLines.{after_blanks, comes_block, comes_blocks}
use Rattle.tsp_file.proofs.writer.matrix.put_more_weights.Goals as goal

-- plan: one block of weights more is written (`comes_block`), until none is left (`comes_blocks`)
pub parts-init : goal.parts-init
parts-init g c =
    record { done = []; carried = carried_none (way_of g.W.Takes.contents c.args.out.now c.args.piece.now.items); parts = refl }

pub parts-preserved : goal.parts-preserved
parts-preserved g c =
    comes_block c.min.result c.parts.rest.now c.split_at.result.0.now c.split_at.result.1.now (after_blanks c.args.weights.now)
    (way_of g.W.Takes.contents c.args.out.now c.args.piece.now.items) (way_of g.W.Takes.contents c.parts.out c.parts.piece.items)
    (way_of g.W.Takes.contents c.put_block.new.out c.put_block.new.piece.items)
    c.split_at.ensures.front c.split_at.ensures.back c.parts.invariant c.put_block.ensures

pub returns : goal.returns
returns g c =
    comes_blocks c.args.weights.now c.parts.rest.now (way_of g.W.Takes.contents c.args.out.now c.args.piece.now.items)
    (way_of g.W.Takes.contents c.parts.out c.parts.piece.items) (cc) c.parts.invariant
