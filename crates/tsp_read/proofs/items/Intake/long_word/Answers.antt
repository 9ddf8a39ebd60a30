-- The goals of `Intake::long_word` in src/items.rt, which returns the fault of a word that is too long: what it
-- ensures.
use Rattle.tsp_read.proofs.Prelude.{refl, NumberWord}
use Rattle.tsp_read.proofs.IntakeSteps.{same_long, never_long}
use Rattle.tsp_read.proofs.items.Intake.long_word.Goals as goal

-- plan: what a long word gives doesn't depend on its bytes (`same_long`), and it is never taken (`never_long`)
pub returns-in-Err : goal.returns-in-Err
returns-in-Err c = λ earlier h word long. same_long earlier _ word c.take_next.new.self c.in-Err.fault refl long (c.in-Err.ensures.item earlier h)

pub returns-in-Ok : goal.returns-in-Ok
returns-in-Ok c = λ earlier h word long. absurd (never_long earlier (NumberWord _) c.take_next.new.self c.in-Ok.field-0 refl (c.in-Ok.ensures.item earlier h))
