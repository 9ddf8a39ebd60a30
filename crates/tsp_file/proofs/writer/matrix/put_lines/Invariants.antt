-- The loop of `put_lines` in src/writer/matrix.rt.
use Rattle.tsp_file.proofs.Prelude.{◌+◌, ◌-◌, length, map, nodes_to, cells_of_line, way_of}
use Rattle.tsp_file.specs.CanonicalText.{matrix_lines}
use Rattle.tsp_file.proofs.WrittenLines.{Comes, lines_from}
use Rattle.tsp_file.proofs.writer.matrix.put_lines.Given as goal

-- the bytes added so far, with the lines of the weights in `rest` behind them, are the lines of the whole matrix
abbrev pub invariant-lines : goal.invariant-lines
invariant-lines g l =
    Comes (way_of g.W.Takes.contents l.initial.out l.initial.piece.items) (way_of g.W.Takes.contents l.out l.piece.items)
    (lines_from (λ k. length (cells_of_line l.layout l.nodes k)) (l.index + 1) (l.nodes - l.index) l.rest)
    (matrix_lines (map (λ k. length (cells_of_line l.layout l.nodes k)) (nodes_to l.nodes)) l.weights)
