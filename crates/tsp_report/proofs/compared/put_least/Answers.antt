-- The goals of `put_least` in src/compared.rt, which adds the line of the least number of routes: what it ensures.
use Rattle.tsp_report.proofs.Prelude.{◌++◌, codes, decimal, way_of, carried_none, carried_then}
use Rattle.tsp_report.proofs.compared.put_least.Goals as goal

-- plan: without a number nothing is put, else the number and the end of its line
pub returns-in-Some : goal.returns-in-Some
returns-in-Some g c =
    let start = way_of g.W.Takes.contents c.args.out.now c.args.piece.now.items in
    let after_least = way_of g.W.Takes.contents c.put_named.new.out c.put_named.new.piece.items in
    let last = way_of g.W.Takes.contents c.put.new.out c.put.new.piece.items in
    rw c.in-Some.is (carried_then start after_least last (codes "least " ++ decimal c.in-Some.least) (codes "\n") c.put_named.ensures c.put.ensures)

pub returns-in_default : goal.returns-in_default
returns-in_default g c = rw c.in_default.is (carried_none (way_of g.W.Takes.contents c.args.out.now c.args.piece.now.items))
