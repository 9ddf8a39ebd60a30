-- The goals of `Feed::take` in src/feed.rt, which takes the next piece: what it ensures.
use Rattle.tsp_read.proofs.FeedSteps.{feeds_refused, feeds_ended, feeds_going, not_refused, still_going}
use Rattle.tsp_read.proofs.feed.Feed.take.Goals as goal

-- plan: by the stage: a refusal stays (`feeds_refused`), an end stays (`feeds_ended`), or the piece is read
-- (`feeds_going`)
pub returns-in-Refused-clause-taken : goal.returns-in-Refused-clause-taken
returns-in-Refused-clause-taken c = λ bytes h. feeds_refused c.args.self.now bytes c.args.piece.now c.in-Refused.fault c.in-Refused.is h

pub returns-in-Refused-clause-ended : goal.returns-in-Refused-clause-ended
returns-in-Refused-clause-ended c = λ bytes h none ended. absurd (not_refused c.args.self.now bytes c.in-Refused.fault c.in-Refused.is h none)

pub returns-in-Ended-clause-taken : goal.returns-in-Ended-clause-taken
returns-in-Ended-clause-taken c = λ bytes h. feeds_ended c.args.self.now bytes c.args.piece.now c.in-Ended.is h

pub returns-in-Going-clause-taken : goal.returns-in-Going-clause-taken
returns-in-Going-clause-taken c = λ bytes h.
    feeds_going c.args.self.now c.go_on.new.self bytes c.args.piece.now c.outcome.result c.in-Going.is c.outcome.ensures (c.go_on.ensures bytes) h

pub returns-in-Going-clause-ended : goal.returns-in-Going-clause-ended
returns-in-Going-clause-ended c = λ bytes h none ended. absurd (still_going c.args.self.now bytes c.in-Going.is h ended)
