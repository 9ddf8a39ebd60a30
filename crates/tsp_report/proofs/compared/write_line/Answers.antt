-- The goals of `write_line` in src/compared.rt, which writes the line of one solution: what it ensures.
use Rattle.tsp_report.proofs.Prelude.{◌∙◌, ◌++◌, sym, codes, way_of, text_stopped, text_written}
use Rattle.tsp_report.proofs.Texts.{with_path}
use Rattle.tsp_report.specs.Report.{solution_line, found_words}
use Rattle.tsp_report.proofs.compared.write_line.Goals as goal

-- plan: by whether the writer fails: the whole line was written (`text_written`), or a prefix (`text_stopped`)
pub returns-then-failed-2 : goal.returns-then-failed-2
returns-then-failed-2 g c =
    let start = way_of g.W.Takes.contents c.args.out.now c.new-piece.result.items in
    let after_found = way_of g.W.Takes.contents c.put_found.new.out c.put_found.new.piece.items in
    let after_path = way_of g.W.Takes.contents c.put_path.new.out c.put_path.new.piece.items in
    let last = way_of g.W.Takes.contents c.hand_over.new.out c.hand_over.new.piece.items in
    let whole = with_path start after_found after_path last (found_words c.args.found) c.args.path.now
    c.put_found.ensures c.put_path.ensures c.hand_over.ensures.carried in
    text_stopped start last (solution_line c.args.found c.args.path.now) c.new-piece.ensures (sym c.failed.ensures ∙ c.if-failed.false) whole
    (sym c.failed-2.ensures ∙ c.if-failed-2.true)

pub returns-else-failed-2 : goal.returns-else-failed-2
returns-else-failed-2 g c =
    let start = way_of g.W.Takes.contents c.args.out.now c.new-piece.result.items in
    let after_found = way_of g.W.Takes.contents c.put_found.new.out c.put_found.new.piece.items in
    let after_path = way_of g.W.Takes.contents c.put_path.new.out c.put_path.new.piece.items in
    let last = way_of g.W.Takes.contents c.hand_over.new.out c.hand_over.new.piece.items in
    let whole = with_path start after_found after_path last (found_words c.args.found) c.args.path.now
    c.put_found.ensures c.put_path.ensures c.hand_over.ensures.carried in
    text_written start last (solution_line c.args.found c.args.path.now) c.new-piece.ensures (sym c.failed.ensures ∙ c.if-failed.false) whole
    c.hand_over.ensures.empty (sym c.failed-2.ensures ∙ c.if-failed-2.false)
