-- The goals of `put_fields` in src/writer.rt, which adds the texts of fields, one after the other: its loop and what it
-- ensures.
use Rattle.tsp_file.proofs.Prelude.{arith, way_of, carried_all, carried_none, carried_next_or}
use Rattle.tsp_file.specs.states.Drafts.{fields_of}
use Rattle.tsp_file.specs.CanonicalText.{text_of_field}
use Rattle.tsp_file.proofs.writer.put_fields.Goals as goal

-- plan: one field more is written, unless the writer has failed (`carried_next_or`). The texts of all fields are the
-- text (`carried_all`)
pub loop-field-init : goal.loop-field-init
loop-field-init g c = carried_none (way_of g.W.Takes.contents c.args.out.now c.args.piece.now.items)

pub loop-field-preserved : goal.loop-field-preserved
loop-field-preserved g c =
    let start = way_of g.W.Takes.contents c.args.out.now c.args.piece.now.items in
    let before = way_of g.W.Takes.contents c.loop-field.out c.loop-field.piece.items in
    let after = way_of g.W.Takes.contents c.put_field.new.out c.put_field.new.piece.items in
    carried_next_or (text_of_field (fields_of c.args.draft.now)) c.args.fields.now c.loop-field.field-index _ start before after
    c.loop-field-test.true c.loop-field.invariant c.put_field.ensures

pub returns : goal.returns
returns g c = carried_all (text_of_field (fields_of c.args.draft.now)) c.args.fields.now c.loop-field.field-index
    (way_of g.W.Takes.contents c.args.out.now c.args.piece.now.items)
    (way_of g.W.Takes.contents c.loop-field.out c.loop-field.piece.items)
    (omega arith) c.loop-field.invariant
