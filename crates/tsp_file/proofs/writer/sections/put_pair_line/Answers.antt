-- The goals of `put_pair_line` in src/writer/sections.rt: what it ensures.
use Rattle.tsp_file.proofs.Prelude.{decimal, way_of}
use Rattle.tsp_file.proofs.WrittenLines.{two_numbers}
use Rattle.tsp_file.proofs.writer.sections.put_pair_line.Goals as goal

-- plan: two numbers in a line (`two_numbers`)
pub returns : goal.returns
returns g c =
    let start = way_of g.W.Takes.contents c.args.out.now c.args.piece.now.items in
    let after_first = way_of g.W.Takes.contents c.put_number.new.out c.put_number.new.piece.items in
    let after_second = way_of g.W.Takes.contents c.put_next_number.new.out c.put_next_number.new.piece.items in
    let last = way_of g.W.Takes.contents c.put.new.out c.put.new.piece.items in
    two_numbers start after_first after_second last (decimal c.args.first) (decimal c.args.second) c.put_number.ensures
    c.put_next_number.ensures c.put.ensures
