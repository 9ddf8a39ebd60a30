-- The goals of `converted` in src/picked_runs.rt, which converts a text: what it ensures.
use Rattle.tsp_c.proofs.Prelude.{◌∙◌, ap, refl, Some}
use Rattle.tsp_c.proofs.PickedRuns.{converts}
use Rattle.tsp_c.proofs.picked_runs.converted.Goals as goal

-- plan: a reader over the text delivers its bytes, so the file written is that of the text in its new layout
-- (`converts`)
pub returns : goal.returns
returns c = let run = c.convert_file.ensures.answer in
    converts _ _ _ c.convert_file.result _ _ _ _ (ap (λ s. Some s.now) c.new-reader.ensures.inner)
    (record { held = ap (λ v. Some v.items) c.new-report.ensures.inner ∙ ap Some c.new.ensures.items; holds = refl }) run.2
    (rw c.done-answer.ensures at c.ended.ensures)
