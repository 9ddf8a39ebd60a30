-- The goals of `write_shown` in src/shown.rt: what it ensures.
use Rattle.tsp_report.proofs.Prelude.{◌++◌, ◌∙◌, sym, subst, append_assoc, way_of, Carried, text_stopped, text_written}
use Rattle.tsp_report.proofs.Texts.{two_parts}
use Rattle.tsp_report.specs.Report.{not_judged}
use Rattle.tsp_report.specs.Show.{shown, head_lines, lines_by_type}
use Rattle.tsp_report.proofs.shown.write_shown.Goals as goal

-- plan: by whether the writer fails: the whole text was written (`text_written`), or a prefix (`text_stopped`)
pub returns-then-failed-2 : goal.returns-then-failed-2
returns-then-failed-2 g c =
    let start = way_of g.W.Takes.contents c.args.out.now c.new-piece.result.items in
    let after_head = way_of g.W.Takes.contents c.put_head.new.out c.put_head.new.piece.items in
    let after_rest = way_of g.W.Takes.contents c.put_rest.new.out c.put_rest.new.piece.items in
    let last = way_of g.W.Takes.contents c.hand_over.new.out c.hand_over.new.piece.items in
    let lines = lines_by_type c.args.file.kind c.args.file in
    let others = not_judged c.args.file.others in
    let whole = subst (Carried start last) (sym (append_assoc (head_lines c.args.file) lines others))
    (two_parts start after_head after_rest last (head_lines c.args.file) (lines ++ others) c.put_head.ensures c.put_rest.ensures c.hand_over.ensures.carried) in
    text_stopped start last (shown c.args.file) c.new-piece.ensures (sym c.failed.ensures ∙ c.if-failed.false) whole
    (sym c.failed-2.ensures ∙ c.if-failed-2.true)

pub returns-else-failed-2 : goal.returns-else-failed-2
returns-else-failed-2 g c =
    let start = way_of g.W.Takes.contents c.args.out.now c.new-piece.result.items in
    let after_head = way_of g.W.Takes.contents c.put_head.new.out c.put_head.new.piece.items in
    let after_rest = way_of g.W.Takes.contents c.put_rest.new.out c.put_rest.new.piece.items in
    let last = way_of g.W.Takes.contents c.hand_over.new.out c.hand_over.new.piece.items in
    let lines = lines_by_type c.args.file.kind c.args.file in
    let others = not_judged c.args.file.others in
    let whole = subst (Carried start last) (sym (append_assoc (head_lines c.args.file) lines others))
    (two_parts start after_head after_rest last (head_lines c.args.file) (lines ++ others) c.put_head.ensures c.put_rest.ensures c.hand_over.ensures.carried) in
    text_written start last (shown c.args.file) c.new-piece.ensures (sym c.failed.ensures ∙ c.if-failed.false) whole
    c.hand_over.ensures.empty (sym c.failed-2.ensures ∙ c.if-failed-2.false)
