-- The goals of `put_scale` in src/shown.rt: what it ensures.
use Rattle.tsp_report.proofs.Prelude.{◌++◌, rules, codes, FitsSigned, unwrap_or, pos, way_of, carried_then, signed_decimal, w64, to_z-of_z}
use Rattle.tsp_report.proofs.shown.put_scale.Goals as goal

-- plan: the word and the scale, 1 if it is missing (`carried_then`)
pub returns : goal.returns
returns g c =
    let start = way_of g.W.Takes.contents c.args.out.now c.args.piece.now.items in
    let after_number = way_of g.W.Takes.contents c.put_named.new.out c.put_named.new.piece.items in
    let last = way_of g.W.Takes.contents c.put.new.out c.put.new.piece.items in
    let fits : FitsSigned w64 c.unwrap_or.result = search rules in
    let named = rw c.unwrap_or.ensures at (simp to_z-of_z at c.put_named.ensures) in
    carried_then start after_number last (codes "scale " ++ signed_decimal (unwrap_or c.args.scale (pos 1))) (codes "\n") named c.put.ensures
