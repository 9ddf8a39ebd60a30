-- The goals of `Feed::into_file` in src/feed.rt, which returns the file of the bytes so far: what it ensures.
use Rattle.tsp_read.proofs.Prelude.{sym, ◌∙◌, false≢true}
use Rattle.tsp_read.proofs.FeedSteps.{whole_answer, open_not_bare}
use Rattle.tsp_read.proofs.feed.Feed.into_file.Goals as goal

-- plan: the draft of all bytes is the file, or has the first fault (`whole_answer`)
pub returns-clause-read : goal.returns-clause-read
returns-clause-read c = λ bytes h. whole_answer bytes c.in_ok-reading.reading c.completed.result (c.in_ok-reading.ensures.ends bytes h) c.completed.ensures.file

pub returns-clause-memory : goal.returns-clause-memory
returns-clause-memory c = λ bytes h wants. open_not_bare bytes c.in_ok-reading.reading (c.in_ok-reading.ensures.ends bytes h) (c.completed.ensures.stood wants)

pub returns-clause-ended : goal.returns-clause-ended
returns-clause-ended c = λ bytes h none ended wants. false≢true (sym (c.in_ok-reading.ensures.ended bytes h none ended) ∙ c.completed.ensures.stood wants)

pub returns-in_err-reading-clause-ended : goal.returns-in_err-reading-clause-ended
returns-in_err-reading-clause-ended c = λ bytes h none ended. absurd (c.in_err-reading.ensures.ended bytes h none ended)
