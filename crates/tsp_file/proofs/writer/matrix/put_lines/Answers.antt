-- The goals of `put_lines` in src/writer/matrix.rt, which adds the lines of the weights, one for each row or column:
-- its loop and what it ensures.
use Rattle.tsp_file.proofs.Prelude.{◌≡◌, ◌∙◌, sym, length, map, min, arith, nodes_to, cells_of_line, way_of}
use Rattle.tsp_file.specs.CanonicalText.{matrix_lines}
use Rattle.tsp_file.proofs.WrittenLines.{comes_begins, comes_next, comes_last, comes_failed}
use Rattle.tsp_file.proofs.writer.matrix.put_lines.Goals as goal

-- plan: one line more is written (`comes_next`), up to the last (`comes_last`) or to a failure (`comes_failed`)
pub lines-init : goal.lines-init
lines-init g c =
    comes_begins (λ k. length (cells_of_line c.args.layout c.args.nodes k)) c.args.nodes c.args.weights.now
    (way_of g.W.Takes.contents c.args.out.now c.args.piece.now.items)

pub lines-preserved : goal.lines-preserved
lines-preserved g c =
    let fewer : c.min.result ≡ min c.line_len-len.result (length c.lines.rest.now) = c.min.ensures in
    comes_next (λ k. length (cells_of_line c.args.layout c.args.nodes k)) c.args.nodes c.lines.index c.line_len-len.result
    c.min.result
    c.lines.rest.now c.split_at.result.0.now c.split_at.result.1.now
    (matrix_lines (map (λ k. length (cells_of_line c.args.layout c.args.nodes k)) (nodes_to c.args.nodes)) c.args.weights.now)
    (way_of g.W.Takes.contents c.args.out.now c.args.piece.now.items) (way_of g.W.Takes.contents c.lines.out c.lines.piece.items)
    (way_of g.W.Takes.contents c.put_weight_line.new.out c.put_weight_line.new.piece.items)
    (omega arith) c.line_len-len.ensures.count fewer c.split_at.ensures.front c.split_at.ensures.back c.lines.invariant
    c.put_weight_line.ensures

pub returns-then-failed : goal.returns-then-failed
returns-then-failed g c = comes_failed _ _ _ _ c.lines.invariant (sym c.failed.ensures ∙ c.if-failed.true)

pub returns : goal.returns
returns g c =
    comes_last (λ k. length (cells_of_line c.args.layout c.args.nodes k)) c.args.nodes c.lines.index c.lines.rest.now _ _ _
    (way_of g.W.Takes.contents c.put_weight_line-2.new.out c.put_weight_line-2.new.piece.items) (omega arith) c.lines.invariant
    c.put_weight_line-2.ensures
