-- The goals of `put_reason` in src/report.rt: what it ensures.
use Rattle.tsp_report.proofs.Prelude.{◌++◌, Option, subst, ℤ, Carried, way_of, carried_then}
use Rattle.tsp_report.specs.Verdicts.{row_of_reason}
use Rattle.tsp_report.specs.Report.{after_blank}
use Rattle.tsp_report.proofs.report.put_reason.Goals as goal

-- plan: the name, then each number after a blank (`carried_then`)
pub returns : goal.returns
returns g c =
    let start = way_of g.W.Takes.contents c.args.out.now c.args.piece.now.items in
    let after_name = way_of g.W.Takes.contents c.put.new.out c.put.new.piece.items in
    let after_first = way_of g.W.Takes.contents c.put_after_blank.new.out c.put_after_blank.new.piece.items in
    let last = way_of g.W.Takes.contents c.put_after_blank-2.new.out c.put_after_blank-2.new.piece.items in
    let row = row_of_reason c.args.reason in
    let name = rw (c.as_bytes.ensures.value, c.row_of_reason-row.ensures.name) at c.put.ensures in
    let first = subst (λ (numbers : Option ℤ × Option ℤ). Carried after_name after_first (after_blank numbers.0)) c.row_of_reason-row.ensures.numbers c.put_after_blank.ensures in
    let second = subst (λ (numbers : Option ℤ × Option ℤ). Carried after_first last (after_blank numbers.1)) c.row_of_reason-row.ensures.numbers c.put_after_blank-2.ensures in
    carried_then start after_first last (row.name ++ after_blank row.numbers.0) (after_blank row.numbers.1)
    (carried_then start after_name after_first row.name (after_blank row.numbers.0) name first) second
