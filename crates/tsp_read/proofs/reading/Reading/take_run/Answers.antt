-- The goals of `Reading::take_run` in src/plain_numbers.rt, which takes the words of a part of a text, in the open
-- section: what it ensures.
use Rattle.tsp_read.proofs.PlainNumbers.{opened_run}
use Rattle.tsp_read.proofs.reading.Reading.take_run.Goals as goal

-- plan: the part that takes the run is that of the open section (`opened_run`)
pub returns-in-Some-clause-read : goal.returns-in-Some-clause-read
returns-in-Some-clause-read c = λ bytes h.
    let s = c.args.self.now in
    c.take_part.ensures.read s.draft s.incomplete c.in-Some.section.field bytes
    (opened_run s c.in-Some.section c.args.count bytes c.args.text.now c.in-Some.is h)
