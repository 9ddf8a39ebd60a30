-- The goals of `Reading::finish` in src/reading.rt, which returns the file, or the fault at its end: what its call
-- requires.
use Rattle.tsp_read.proofs.Prelude.{◌≡◌, None, Option, sym, subst, fields_of, Field}
use Rattle.tsp_file.specs.declared.draft.Draft.{Draft}
use Rattle.tsp_file.specs.Rules.{standing_of, end_fault, fault_of}
use Rattle.tsp_read.proofs.TextSteps.{valid_draft}
use Rattle.tsp_read.proofs.reading.Reading.finish.Goals as goal

-- plan: the draft of a text without a fault is valid (`valid_draft`)
pub file_of-requires : goal.file_of-requires
file_of-requires c =
    subst (λ (it : Draft × Option Field). end_fault (standing_of (fields_of it.0)) it.1 ≡ None → fault_of (fields_of it.0) ≡ None) (sym c.into_draft-draft.ensures)
    (valid_draft c.args.self c.close.new.self c.requires c.in-Ok.ensures.closed)
