-- The goals of `put_numbers` in src/writer/sections.rt: its loop and what it ensures.
use Rattle.tsp_file.proofs.Prelude.{ℕ, arith, rules, get_or, ℤ, pos, FitsSigned, w64, to_z-of_z, decimal, way_of, carried_node_or, carried_nodes}
use Rattle.tsp_file.specs.CanonicalText.{number_line, whole_number}
use Rattle.tsp_file.proofs.writer.sections.put_numbers.Goals as goal

-- plan: the line of one node more is added, with its number, unless the writer has failed (`carried_node_or`)
pub nodes-preserved : goal.nodes-preserved
nodes-preserved g c =
    let fits : FitsSigned w64 (get_or c.args.numbers.now c.nodes.index (pos 0)) = search rules in
    let line = simp to_z-of_z at c.put_number_line.ensures in
    carried_node_or (λ (entry : ℕ × ℤ). number_line (decimal entry.0) (whole_number entry.1)) c.args.numbers.now c.nodes.index
    (pos 0)
    (way_of g.W.Takes.contents c.args.out.now c.args.piece.now.items) (way_of g.W.Takes.contents c.nodes.out c.nodes.piece.items)
    (way_of g.W.Takes.contents c.put_number_line.new.out c.put_number_line.new.piece.items)
    (omega arith) c.nodes.invariant line

pub returns : goal.returns
returns g c =
    carried_nodes (λ (entry : ℕ × ℤ). number_line (decimal entry.0) (whole_number entry.1)) c.args.numbers.now c.nodes.index
    (way_of g.W.Takes.contents c.args.out.now c.args.piece.now.items) (way_of g.W.Takes.contents c.nodes.out c.nodes.piece.items)
    (omega arith)
    c.nodes.invariant
