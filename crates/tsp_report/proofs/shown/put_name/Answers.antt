-- The goals of `put_name` in src/shown.rt: what it ensures.
use Rattle.tsp_report.proofs.Prelude.{◌++◌, ◌∙◌, sym, subst, codes, way_of, Carried, carried_then}
use Rattle.tsp_report.proofs.Texts.{named}
use Rattle.tsp_report.proofs.shown.put_name.Goals as goal

-- plan: by whether there is a name: its line, or none
pub returns : goal.returns
returns g c =
    let start = way_of g.W.Takes.contents c.args.out.now c.args.piece.now.items in
    let begun = way_of g.W.Takes.contents c.put.new.out c.put.new.piece.items in
    let after_name = way_of g.W.Takes.contents c.put-2.new.out c.put-2.new.piece.items in
    let last = way_of g.W.Takes.contents c.put-3.new.out c.put-3.new.piece.items in
    let name = c.in-Some.value.now in
    let whole = carried_then start after_name last (codes "name " ++ name) (codes "\n") (carried_then start begun after_name (codes "name ") name c.put.ensures c.put-2.ensures)
    c.put-3.ensures in
    rw c.in-Some.is (subst (Carried start last) (named name (sym c.is_empty.ensures ∙ c.if-is_empty.false)) whole)
