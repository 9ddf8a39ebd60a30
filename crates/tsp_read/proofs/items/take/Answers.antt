-- The goals of `take` in src/items.rt, which takes an item into the state: what it ensures.
use Rattle.std.proofs.Common.{refl}
use Rattle.tsp_read.proofs.IntakeSteps.{line_ended, word_taken}
use Rattle.tsp_read.proofs.items.take.Goals as goal

pub returns-in-LineEnd-clause-item : goal.returns-in-LineEnd-clause-item
returns-in-LineEnd-clause-item c = λ earlier h. line_ended c.args.reading.now earlier c.args.next.now c.in-LineEnd.is h

-- plan: by the item: a line's end (`line_ended`), or a word (`word_taken`)
pub returns-in_ok-word-in-Word-clause-item : goal.returns-in_ok-word-in-Word-clause-item
returns-in_ok-word-in-Word-clause-item c = λ earlier h.
    word_taken c.word.new.self earlier c.args.next.now c.in-Word.word.now (rw c.in-Word.is refl) (c.in_ok-word-in-Word.ensures earlier h)
