-- The goals of `put_next_number` in src/piece.rt, which adds a blank and a number: what it ensures.
use Rattle.std.proofs.Common.{[], ◌∷◌}
use Rattle.tsp_io.specs.states.Output.{way_of}
use Rattle.tsp_io.proofs.Carrying.{carried_then}
use Rattle.tsp_io.proofs.piece.put_next_number.Goals as goal

-- plan: the blank, then the number (`carried_then`)
pub returns : goal.returns
returns g c =
    let start = way_of g.W.Takes.contents c.args.out.now c.args.piece.now.items in
    let after_blank = way_of g.W.Takes.contents c.put.new.out c.put.new.piece.items in
    let last = way_of g.W.Takes.contents c.put_number.new.out c.put_number.new.piece.items in
    carried_then start after_blank last (32 ∷ []) (g.N.Integer.text c.args.number) c.put.ensures c.put_number.ensures
