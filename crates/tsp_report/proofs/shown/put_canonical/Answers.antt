-- The goals of `put_canonical` in src/shown.rt, which adds the length of the tour 1, 2, .., n: what it ensures.
use Rattle.tsp_report.proofs.Prelude.{◌++◌, rules, codes, FitsSigned, way_of, carried_then, signed_decimal, w64, to_z-of_z}
use Rattle.tsp_report.proofs.shown.put_canonical.Goals as goal

-- plan: the word and the length (`carried_then`)
pub returns : goal.returns
returns g c =
    let start = way_of g.W.Takes.contents c.args.out.now c.args.piece.now.items in
    let after_number = way_of g.W.Takes.contents c.put_named.new.out c.put_named.new.piece.items in
    let last = way_of g.W.Takes.contents c.put.new.out c.put.new.piece.items in
    let fits : FitsSigned w64 c.args.length = search rules in
    let named = simp to_z-of_z at c.put_named.ensures in
    carried_then start after_number last (codes "canonical " ++ signed_decimal c.args.length) (codes "\n") named c.put.ensures
