-- The goals of `put_opening` in src/writer/sections.rt, which adds the line that opens a section: what it ensures.
use Rattle.tsp_file.proofs.Prelude.{field_word, way_of, carried_then}
use Rattle.tsp_file.specs.CanonicalText.{line_end}
use Rattle.tsp_file.proofs.writer.sections.put_opening.Goals as goal

-- plan: the section's word, then the line's end (`carried_then`)
pub returns : goal.returns
returns g c =
    let start = way_of g.W.Takes.contents c.args.out.now c.args.piece.now.items in
    let after_word = way_of g.W.Takes.contents c.put.new.out c.put.new.piece.items in
    let last = way_of g.W.Takes.contents c.put-2.new.out c.put-2.new.piece.items in
    let word = rw (c.as_bytes.ensures.value, c.word.ensures) at c.put.ensures in
    carried_then start after_word last (field_word c.args.field) line_end word c.put-2.ensures
