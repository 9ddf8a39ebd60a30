-- The goals of `Feed::end` in src/feed.rt, which takes the item that has begun as the last, and returns what was read:
-- what it ensures.
use Rattle.tsp_read.proofs.Prelude.{subst, sym, ◌≡◌, false, is_some}
use Rattle.tsp_read.specs.declared.reading.Reading.{Reading}
use Rattle.tsp_read.specs.Reads.{SpellsWhole}
use Rattle.tsp_read.proofs.FeedSteps.{taken_at, not_refused, still_going, ended_read, going_read, ended_whole, taken_whole, taken_fault, refused_fault}
use Rattle.tsp_read.proofs.IntakeSteps.{ended_none}
use Rattle.tsp_read.specs.declared.feed.Stage.TheVariants.{Ended}
use Rattle.tsp_read.specs.states.Holds.{IsReadFrom}
use Rattle.tsp_read.proofs.feed.Feed.end.Goals as goal

-- plan: by the stage: refused, ended, or going on; the last item is read, and what was read is the file or a fault
pub returns-in-Refused-clause-ends : goal.returns-in-Refused-clause-ends
returns-in-Refused-clause-ends c = λ bytes h. refused_fault c.args.self bytes c.in-Refused.fault c.in-Refused.is h

pub returns-in-Ended-clause-ends : goal.returns-in-Ended-clause-ends
returns-in-Ended-clause-ends c = λ bytes h. subst (λ (r : Reading). SpellsWhole r bytes) (sym c.into_reading.ensures) (ended_whole c.args.self bytes c.in-Ended.is h)

pub returns-in-Ok-clause-ends : goal.returns-in-Ok-clause-ends
returns-in-Ok-clause-ends c = λ bytes h.
    subst (λ (r : Reading). SpellsWhole r bytes) (sym c.into_reading-in-Ok.ensures)
    (taken_whole c.args.self bytes c.take_last.new.intake.reading c.in-Ok.field-0 c.in-Going.is h (c.in-Ok.ensures bytes))

pub returns-in-Err-clause-ends : goal.returns-in-Err-clause-ends
returns-in-Err-clause-ends c = λ bytes h.
    taken_fault c.args.self bytes c.take_last.new.intake.reading c.in-Err.fault c.in-Going.is h (c.in-Err.ensures bytes)

pub returns-in-Refused-clause-ended : goal.returns-in-Refused-clause-ended
returns-in-Refused-clause-ended c = λ bytes h none ended. absurd (not_refused c.args.self bytes c.in-Refused.fault c.in-Refused.is h none)

pub returns-in-Ended-clause-ended : goal.returns-in-Ended-clause-ended
returns-in-Ended-clause-ended c = λ bytes h none ended.
    subst (λ (r : Reading). is_some r.opened ≡ false) (sym c.into_reading.ensures)
    (ended_none c.args.self.intake.reading bytes (taken_at c.args.self bytes Ended c.in-Ended.is h))

pub returns-in-Ok-clause-ended : goal.returns-in-Ok-clause-ended
returns-in-Ok-clause-ended c = λ bytes h none ended. absurd (still_going c.args.self bytes c.in-Going.is h ended)

pub returns-in-Err-clause-ended : goal.returns-in-Err-clause-ended
returns-in-Err-clause-ended c = λ bytes h none ended. absurd (still_going c.args.self bytes c.in-Going.is h ended)

pub returns-in-Ended-clause-real : goal.returns-in-Ended-clause-real
returns-in-Ended-clause-real c = subst IsReadFrom (sym c.into_reading.ensures) (ended_read c.args.self c.in-Ended.is)

pub returns-in-Ok-clause-real : goal.returns-in-Ok-clause-real
returns-in-Ok-clause-real c =
    subst IsReadFrom (sym c.into_reading-in-Ok.ensures) (going_read c.args.self c.take_last.new.intake.reading c.in-Ok.field-0 c.in-Going.is c.in-Ok.ensures)
