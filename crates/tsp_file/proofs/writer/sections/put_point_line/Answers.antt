-- The goals of `put_point_line` in src/writer/sections.rt, which adds the line of a node with its coordinates: what it
-- ensures.
use Rattle.tsp_file.proofs.Prelude.{◌≡◌, ◌∙◌, ◌-◌, take, drop, arith, take_all, length-drop}
use Rattle.tsp_file.proofs.writer.sections.put_point_line.Goals as goal

-- plan: the block is filled from its end, and its bytes from the first written one on are added: the line of the point
pub returns : goal.returns
returns g c =
    let start = c.write_point_line-start.result in
    let rest = drop start c.write_point_line-start.new.line in
    let all : take (87 - start) rest ≡ rest = take_all (87 - start) rest
    (omega (arith, length-drop start c.write_point_line-start.new.line, c.write_point_line-start.array_long)) in
    rw (all ∙ c.write_point_line-start.ensures.written) at c.put.ensures
