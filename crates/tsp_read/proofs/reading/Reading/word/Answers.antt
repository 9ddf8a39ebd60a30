-- The goals of `Reading::word` in src/reading.rt, which takes a word of a number line: what it ensures.
use Rattle.std.proofs.Common.{refl}
use Rattle.tsp_read.proofs.TextSteps.{word_answer}
use Rattle.tsp_read.proofs.reading.Reading.word.Goals as goal

-- plan: the answer is that of the open section's part, and no other section changes (`word_answer`)
pub returns-in-Some : goal.returns-in-Some
returns-in-Some c = λ earlier h.
    word_answer c.args.self.now _ c.in-Some.section _ c.args.word.now c.push.result earlier c.in-Some.is refl refl refl refl c.push.ensures.takes h
