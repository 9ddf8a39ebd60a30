-- The goals of `write_head` in src/compared.rt, which writes the lines on the instance and on all solutions:
-- what it ensures.
use Rattle.tsp_report.proofs.Prelude.{◌∙◌, sym, way_of, text_stopped, text_written}
use Rattle.tsp_report.proofs.Texts.{two_parts}
use Rattle.tsp_report.specs.Report.{instance_lines, head_of, known_lines}
use Rattle.tsp_report.proofs.compared.write_head.Goals as goal

-- plan: by whether the writer fails: the whole head was written (`text_written`), or a prefix (`text_stopped`)
pub returns-then-failed-2 : goal.returns-then-failed-2
returns-then-failed-2 g c =
    let start = way_of g.W.Takes.contents c.args.out.now c.new-piece.result.items in
    let after_instance = way_of g.W.Takes.contents c.put_instance.new.out c.put_instance.new.piece.items in
    let after_known_bound = way_of g.W.Takes.contents c.put_known_bound.new.out c.put_known_bound.new.piece.items in
    let last = way_of g.W.Takes.contents c.hand_over.new.out c.hand_over.new.piece.items in
    let whole = two_parts start after_instance after_known_bound last (instance_lines c.args.instance.now) (known_lines c.args.instance.now c.args.known_bound.least c.args.known_bound.found)
    c.put_instance.ensures c.put_known_bound.ensures c.hand_over.ensures.carried in
    text_stopped start last (head_of c.args.instance.now c.args.known_bound) c.new-piece.ensures (sym c.failed.ensures ∙ c.if-failed.false) whole
    (sym c.failed-2.ensures ∙ c.if-failed-2.true)

pub returns-else-failed-2 : goal.returns-else-failed-2
returns-else-failed-2 g c =
    let start = way_of g.W.Takes.contents c.args.out.now c.new-piece.result.items in
    let after_instance = way_of g.W.Takes.contents c.put_instance.new.out c.put_instance.new.piece.items in
    let after_known_bound = way_of g.W.Takes.contents c.put_known_bound.new.out c.put_known_bound.new.piece.items in
    let last = way_of g.W.Takes.contents c.hand_over.new.out c.hand_over.new.piece.items in
    let whole = two_parts start after_instance after_known_bound last (instance_lines c.args.instance.now) (known_lines c.args.instance.now c.args.known_bound.least c.args.known_bound.found)
    c.put_instance.ensures c.put_known_bound.ensures c.hand_over.ensures.carried in
    text_written start last (head_of c.args.instance.now c.args.known_bound) c.new-piece.ensures (sym c.failed.ensures ∙ c.if-failed.false) whole
    c.hand_over.ensures.empty (sym c.failed-2.ensures ∙ c.if-failed-2.false)
