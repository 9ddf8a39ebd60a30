-- The goals of `put_others` in src/report.rt, which adds the lines of unknown keywords: its loop and what it ensures.
use Rattle.tsp_report.proofs.Prelude.{rules, subst, map, arith, way_of, Carried, carried_mapped, carried_next}
use Rattle.tsp_report.proofs.Texts.{unknown_line, not_judged_each}
use Rattle.tsp_report.proofs.report.put_others.Goals as goal

-- plan: one line of an unknown keyword more (`carried_next`)
pub lines-preserved : goal.lines-preserved
lines-preserved g c =
    let line = rw c.deref.ensures.value at c.put_other.ensures in
    carried_next (λ line. unknown_line (line.0.items, line.1.items)) c.args.others.now c.lines.keyword-index c.lines-item.result
    (way_of g.W.Takes.contents c.args.out.now c.args.piece.now.items) (way_of g.W.Takes.contents c.lines.out c.lines.piece.items)
    (way_of g.W.Takes.contents c.put_other.new.out c.put_other.new.piece.items) (omega arith) (search rules) c.lines.invariant line

pub returns : goal.returns
returns g c =
    let start = way_of g.W.Takes.contents c.args.out.now c.args.piece.now.items in
    let last = way_of g.W.Takes.contents c.lines.out c.lines.piece.items in
    subst (Carried start last) (not_judged_each (map (λ line. (line.0.items, line.1.items)) c.args.others.now))
    (carried_mapped unknown_line (λ line. (line.0.items, line.1.items)) c.args.others.now c.lines.keyword-index start last (omega arith) c.lines.invariant)
