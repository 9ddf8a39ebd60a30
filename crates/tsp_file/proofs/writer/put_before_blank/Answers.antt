-- The goals of `put_before_blank` in src/writer.rt, which adds a number and a blank: what it ensures.
use Rattle.tsp_file.proofs.Prelude.{[], ◌∷◌, way_of, carried_then}
use Rattle.tsp_file.proofs.writer.put_before_blank.Goals as goal

-- plan: the number, then a blank (`carried_then`)
pub returns : goal.returns
returns g c =
    let start = way_of g.W.Takes.contents c.args.out.now c.args.piece.now.items in
    let after_number = way_of g.W.Takes.contents c.put_number.new.out c.put_number.new.piece.items in
    let last = way_of g.W.Takes.contents c.put.new.out c.put.new.piece.items in
    carried_then start after_number last (g.N.Integer.text c.args.number) (32 ∷ []) c.put_number.ensures c.put.ensures
