-- The goals of `put_fixed` in src/shown.rt, which adds how many pairs are fixed, if a section lists them: what it
-- ensures.
use Rattle.tsp_report.proofs.Prelude.{◌++◌, length, codes, way_of, carried_then, carried_none, decimal}
use Rattle.tsp_report.proofs.shown.put_fixed.Goals as goal

-- plan: by whether the section is present (`carried_none`)
pub returns-in-Some : goal.returns-in-Some
returns-in-Some g c =
    let start = way_of g.W.Takes.contents c.args.out.now c.args.piece.now.items in
    let after_number = way_of g.W.Takes.contents c.put_named.new.out c.put_named.new.piece.items in
    let last = way_of g.W.Takes.contents c.put.new.out c.put.new.piece.items in
    rw c.in-Some.is (carried_then start after_number last (codes "fixed " ++ decimal (length c.in-Some.pairs.now)) (codes "\n") c.put_named.ensures c.put.ensures)

pub returns-in_default : goal.returns-in_default
returns-in_default g c = rw c.in_default.is (carried_none (way_of g.W.Takes.contents c.args.out.now c.args.piece.now.items))
