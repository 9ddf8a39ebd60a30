-- The goals of `put_triple_line` in src/writer/sections.rt: what it ensures.
use Rattle.tsp_file.proofs.Prelude.{rules, decimal, signed_decimal, way_of, w64, to_z-of_z, FitsSigned}
use Rattle.tsp_file.proofs.WrittenLines.{three_numbers}
use Rattle.tsp_file.proofs.writer.sections.put_triple_line.Goals as goal

-- plan: three numbers in a line (`three_numbers`)
pub returns : goal.returns
returns g c =
    let fits : FitsSigned w64 c.args.number = search rules in
    let number = simp to_z-of_z at c.put_next_number-2.ensures in
    let start = way_of g.W.Takes.contents c.args.out.now c.args.piece.now.items in
    let after_first = way_of g.W.Takes.contents c.put_number.new.out c.put_number.new.piece.items in
    let after_second = way_of g.W.Takes.contents c.put_next_number.new.out c.put_next_number.new.piece.items in
    let after_number = way_of g.W.Takes.contents c.put_next_number-2.new.out c.put_next_number-2.new.piece.items in
    let last = way_of g.W.Takes.contents c.put.new.out c.put.new.piece.items in
    three_numbers start after_first after_second after_number last (decimal c.args.first) (decimal c.args.second)
    (signed_decimal c.args.number)
    c.put_number.ensures c.put_next_number.ensures number c.put.ensures
