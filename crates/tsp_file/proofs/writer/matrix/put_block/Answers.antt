-- The goals of `put_block` in src/writer/matrix.rt, which adds weights by way of a block: what it ensures.
use Rattle.tsp_file.proofs.Prelude.{◌≡◌, ◌∙◌, ◌-◌, take, drop, arith, take_all, length-drop}
use Rattle.tsp_file.proofs.writer.matrix.put_block.Goals as goal

-- plan: the block is filled from its end, and its bytes from the first written one on are added: a blank and a weight
-- each
pub returns-in-Some : goal.returns-in-Some
returns-in-Some g c =
    let rest = drop c.in-Some.start c.fill.new.block in
    let all : take (576 - c.in-Some.start) rest ≡ rest = take_all (576 - c.in-Some.start) rest
    (omega (arith, length-drop c.in-Some.start c.fill.new.block, c.fill.array_long)) in
    rw (all ∙ c.in-Some.ensures.1) at c.put.ensures
