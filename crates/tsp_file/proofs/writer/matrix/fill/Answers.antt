-- The goals of `fill` in src/writer/matrix.rt, which writes weights of few digits to the end of a block: that its loop
-- begins.
use Rattle.std.proofs.Common.{◌≡◌, length, rules, arith}
use Rattle.tsp_file.proofs.WrittenLines.{block_begins}
use Rattle.tsp_file.proofs.writer.matrix.fill.Goals as goal

-- plan: before the first weight nothing is written, and there is memory for all of them (`block_begins`)
pub weights-init : goal.weights-init
weights-init c =
    let long : length c.args.block.now ≡ 576 = search rules in
    (omega (arith, c.requires), omega arith, block_begins c.args.weights.now c.args.block.now long)
