-- The goals of `write_draft` in src/writer.rt, which writes the canonical text of a draft: what it ensures.
use Rattle.tsp_file.proofs.Prelude.{[], ◌∙◌, sym, codes, flat_map, fields_in_order, way_of, carried_then, text_stopped, text_written}
use Rattle.tsp_file.specs.states.Drafts.{fields_of}
use Rattle.tsp_file.specs.CanonicalText.{text_of_field, text_of}
use Rattle.tsp_file.proofs.writer.write_draft.Goals as goal

pub returns-then-failed-2 : goal.returns-then-failed-2
returns-then-failed-2 g c =
    let start = way_of g.W.Takes.contents c.args.out.now c.new-piece.result.items in
    let after_fields = way_of g.W.Takes.contents c.put_fields.new.out c.put_fields.new.piece.items in
    let after_end = way_of g.W.Takes.contents c.put.new.out c.put.new.piece.items in
    let last = way_of g.W.Takes.contents c.hand_over.new.out c.hand_over.new.piece.items in
    let whole = carried_then start after_fields last (flat_map (text_of_field (fields_of c.args.draft.now)) fields_in_order)
    (codes "EOF\n") c.put_fields.ensures
    (carried_then after_fields after_end last (codes "EOF\n") [] c.put.ensures c.hand_over.ensures.carried) in
    text_stopped start last (text_of (fields_of c.args.draft.now)) c.new-piece.ensures (sym c.failed.ensures ∙ c.if-failed.false)
    whole (sym c.failed-2.ensures ∙ c.if-failed-2.true)

-- plan: by whether the writer has failed: the whole text was written (`text_written`), or a prefix of it
-- (`text_stopped`)
pub returns-else-failed-2 : goal.returns-else-failed-2
returns-else-failed-2 g c =
    let start = way_of g.W.Takes.contents c.args.out.now c.new-piece.result.items in
    let after_fields = way_of g.W.Takes.contents c.put_fields.new.out c.put_fields.new.piece.items in
    let after_end = way_of g.W.Takes.contents c.put.new.out c.put.new.piece.items in
    let last = way_of g.W.Takes.contents c.hand_over.new.out c.hand_over.new.piece.items in
    let whole = carried_then start after_fields last (flat_map (text_of_field (fields_of c.args.draft.now)) fields_in_order)
    (codes "EOF\n") c.put_fields.ensures
    (carried_then after_fields after_end last (codes "EOF\n") [] c.put.ensures c.hand_over.ensures.carried) in
    text_written start last (text_of (fields_of c.args.draft.now)) c.new-piece.ensures (sym c.failed.ensures ∙ c.if-failed.false)
    whole
    c.hand_over.ensures.empty (sym c.failed-2.ensures ∙ c.if-failed-2.false)
