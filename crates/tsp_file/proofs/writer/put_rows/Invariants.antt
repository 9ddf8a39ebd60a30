-- The loop of `put_rows` in src/writer.rt.
use Rattle.tsp_file.proofs.Prelude.{take, flat_map, way_of, Carried, subset_row_of}
use Rattle.tsp_file.specs.CanonicalText.{row_lines}
use Rattle.tsp_file.proofs.writer.put_rows.Given as goal

-- the bytes added so far are the lines of the rows before this one
abbrev pub invariant-rows : goal.invariant-rows
invariant-rows g l =
    Carried (way_of g.W.Takes.contents l.initial.out l.initial.piece.items) (way_of g.W.Takes.contents l.out l.piece.items)
    (flat_map (λ row. row_lines (subset_row_of row)) (take l.row-index l.rows))
