-- The goals of `put_node_line` in src/writer/sections.rt: what it ensures.
use Rattle.tsp_file.proofs.Prelude.{decimal, way_of, carried_then}
use Rattle.tsp_file.specs.CanonicalText.{line_end}
use Rattle.tsp_file.proofs.writer.sections.put_node_line.Goals as goal

-- plan: the number, then the line's end (`carried_then`)
pub returns : goal.returns
returns g c =
    let start = way_of g.W.Takes.contents c.args.out.now c.args.piece.now.items in
    let after_node = way_of g.W.Takes.contents c.put_number.new.out c.put_number.new.piece.items in
    let last = way_of g.W.Takes.contents c.put.new.out c.put.new.piece.items in
    carried_then start after_node last (decimal c.args.node) line_end c.put_number.ensures c.put.ensures
