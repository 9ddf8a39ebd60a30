-- The goals of `put_number_line` in src/writer/sections.rt: what it ensures.
use Rattle.tsp_file.proofs.Prelude.{rules, decimal, signed_decimal, way_of, w64, to_z-of_z, FitsSigned}
use Rattle.tsp_file.proofs.WrittenLines.{two_numbers}
use Rattle.tsp_file.proofs.writer.sections.put_number_line.Goals as goal

-- plan: two numbers in a line (`two_numbers`)
pub returns : goal.returns
returns g c =
    let fits : FitsSigned w64 c.args.number = search rules in
    let number = simp to_z-of_z at c.put_next_number.ensures in
    let start = way_of g.W.Takes.contents c.args.out.now c.args.piece.now.items in
    let after_node = way_of g.W.Takes.contents c.put_number.new.out c.put_number.new.piece.items in
    let after_number = way_of g.W.Takes.contents c.put_next_number.new.out c.put_next_number.new.piece.items in
    let last = way_of g.W.Takes.contents c.put.new.out c.put.new.piece.items in
    two_numbers start after_node after_number last (decimal c.args.node) (signed_decimal c.args.number) c.put_number.ensures
    number c.put.ensures
