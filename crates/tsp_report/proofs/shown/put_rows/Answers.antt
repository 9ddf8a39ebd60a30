-- The goals of `put_rows` in src/shown.rt: what it ensures.
use Rattle.tsp_report.proofs.Prelude.{◌++◌, length, ℕ, subst, sym, codes, Carried, way_of, carried_then, carried_none, decimal, length-map}
use Rattle.tsp_format.specs.states.TreeSteps.{subset_row_of, subset_rows_of}
use Rattle.tsp_report.proofs.shown.put_rows.Goals as goal

-- plan: by whether the section is present (`carried_none`)
pub returns-in-Some : goal.returns-in-Some
returns-in-Some g c =
    let start = way_of g.W.Takes.contents c.args.out.now c.args.piece.now.items in
    let after_number = way_of g.W.Takes.contents c.put_named.new.out c.put_named.new.piece.items in
    let last = way_of g.W.Takes.contents c.put.new.out c.put.new.piece.items in
    let named = subst (λ (n : ℕ). Carried start after_number (codes "rows " ++ decimal n))
    (sym (length-map c.in-Some.rows.now subset_row_of)) c.put_named.ensures in
    rw c.in-Some.is (carried_then start after_number last (codes "rows " ++ decimal (length (subset_rows_of c.in-Some.rows.now))) (codes "\n") named c.put.ensures)

pub returns-in_default : goal.returns-in_default
returns-in_default g c = rw c.in_default.is (carried_none (way_of g.W.Takes.contents c.args.out.now c.args.piece.now.items))
