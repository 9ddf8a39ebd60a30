-- The goals of `store` in src/reading.rt, which puts the list of a section into the draft: what it ensures.
use Rattle.tsp_read.proofs.Prelude.{refl, map, points_of, families_of, subset_rows_of, fields_of}
use Rattle.tsp_format.specs.states.TreeSteps.{steps_of}
use Rattle.tsp_read.proofs.SectionSteps as steps
use Rattle.tsp_read.proofs.reading.store.Goals as goal

-- plan: by the section: its list is the field of the draft
pub returns-in-Numbers : goal.returns-in-Numbers
returns-in-Numbers c =
    steps.numbers_stored c.args.section c.in-Numbers.part c.finish-numbers.result.0.items c.finish-numbers.result.1 (fields_of c.args.draft.now)
    (fields_of c.set_numbers.new.self) c.in-Numbers.is c.set_numbers.ensures c.finish-numbers.ensures

pub returns-in-Points : goal.returns-in-Points
returns-in-Points c =
    steps.points_stored c.args.section c.in-Points.part (points_of c.finish-points.result.0) c.finish-points.result.1 (fields_of c.args.draft.now)
    (fields_of c.set_points.new.self) c.in-Points.is c.set_points.ensures c.finish-points.ensures

pub returns-in-Pairs : goal.returns-in-Pairs
returns-in-Pairs c =
    steps.pairs_stored c.args.section c.in-Pairs.part c.finish-pairs.result.0.items c.finish-pairs.result.1 (fields_of c.args.draft.now) _
    c.in-Pairs.is refl c.finish-pairs.ensures

pub returns-in-Triples : goal.returns-in-Triples
returns-in-Triples c =
    steps.triples_stored c.args.section c.in-Triples.part c.finish-triples.result.0.items c.finish-triples.result.1 (fields_of c.args.draft.now) _
    c.in-Triples.is refl c.finish-triples.ensures

pub returns-in-Families : goal.returns-in-Families
returns-in-Families c =
    steps.families_stored c.args.section c.in-Families.part (families_of c.finish-families.result.0.items) c.finish-families.result.1 (fields_of c.args.draft.now) _
    c.in-Families.is refl c.finish-families.ensures

pub returns-in-Memories : goal.returns-in-Memories
returns-in-Memories c =
    steps.memories_stored c.args.section c.in-Memories.part (map (λ list. list.items) c.finish-lists.result.0.items) c.finish-lists.result.1 (fields_of c.args.draft.now) _
    c.in-Memories.is refl c.finish-lists.ensures

pub returns-in-SubsetRows : goal.returns-in-SubsetRows
returns-in-SubsetRows c =
    steps.rows_stored c.args.section c.in-SubsetRows.part (subset_rows_of c.finish-rows.result.0.items) c.finish-rows.result.1 (fields_of c.args.draft.now) _
    c.in-SubsetRows.is refl c.finish-rows.ensures

pub returns-in-Steps : goal.returns-in-Steps
returns-in-Steps c =
    steps.steps_stored c.args.section c.in-Steps.part (steps_of c.finish-steps.result.0.items) c.finish-steps.result.1 (fields_of c.args.draft.now) _
    c.in-Steps.is refl c.finish-steps.ensures
