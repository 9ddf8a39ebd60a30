-- The loop of `put_fields` in src/writer.rt.
use Rattle.tsp_file.proofs.Prelude.{take, flat_map, way_of, Carried}
use Rattle.tsp_file.specs.states.Drafts.{fields_of}
use Rattle.tsp_file.specs.CanonicalText.{text_of_field}
use Rattle.tsp_file.proofs.writer.put_fields.Given as goal

-- the bytes added so far are the texts of the fields before this one
abbrev pub invariant-loop-field : goal.invariant-loop-field
invariant-loop-field g l =
    Carried (way_of g.W.Takes.contents l.initial.out l.initial.piece.items) (way_of g.W.Takes.contents l.out l.piece.items)
    (flat_map (text_of_field (fields_of l.draft)) (take l.field-index l.fields))
