-- The goals of `put_rows` in src/writer.rt: its loop and what it ensures.
use Rattle.tsp_file.proofs.Prelude.{arith, codes, flat_map, way_of, carried_then, carried_mapped, carried_none, carried_next, subset_row_of, subset_rows_of}
use Rattle.tsp_file.specs.CanonicalText.{row_lines}
use Rattle.tsp_file.proofs.writer.put_rows.Goals as goal

-- plan: one row more (`carried_next`), and the -1 at the end (`carried_then`)
pub rows-init : goal.rows-init
rows-init g c = carried_none (way_of g.W.Takes.contents c.args.out.now c.args.piece.now.items)

pub rows-preserved : goal.rows-preserved
rows-preserved g c =
    let start = way_of g.W.Takes.contents c.args.out.now c.args.piece.now.items in
    let before = way_of g.W.Takes.contents c.rows.out c.rows.piece.items in
    let after = way_of g.W.Takes.contents c.put_row.new.out c.put_row.new.piece.items in
    carried_next (λ row. row_lines (subset_row_of row)) c.args.rows.now c.rows.row-index c.row-item.result start before after
    c.rows-test.true c.row-item.is c.rows.invariant c.put_row.ensures

pub returns : goal.returns
returns g c =
    let start = way_of g.W.Takes.contents c.args.out.now c.args.piece.now.items in
    let after_rows = way_of g.W.Takes.contents c.rows.out c.rows.piece.items in
    let last = way_of g.W.Takes.contents c.put.new.out c.put.new.piece.items in
    carried_then start after_rows last (flat_map row_lines (subset_rows_of c.args.rows.now)) (codes "-1\n")
    (carried_mapped row_lines subset_row_of c.args.rows.now c.rows.row-index start after_rows (omega arith) c.rows.invariant)
    c.put.ensures
