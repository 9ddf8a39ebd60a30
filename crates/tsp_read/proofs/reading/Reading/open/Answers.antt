-- The goals of `Reading::open` in src/reading.rt, which opens the section of a field: what it ensures.
use Rattle.std.proofs.Common.{refl}
use Rattle.tsp_read.specs.states.Holds.{seen}
use Rattle.tsp_read.proofs.SectionSteps as steps
use Rattle.tsp_read.proofs.reading.Reading.open.Goals as goal

-- plan: the open section is stored, and the new one begins
pub returns-in-Ok-open : goal.returns-in-Ok-open
returns-in-Ok-open c = λ earlier h short.
    steps.opens c.args.self.now _ c.args.field c.args.shape (seen c.args.line.now) c.in-Ok.n _ c.requires (rw c.stands-stands.ensures at c.in-Ok.ensures) refl
    c.in-Ok-open.ensures c.begin.ensures.draft c.begin.ensures.incomplete c.begin.ensures.begun earlier h short

pub returns-in-Err : goal.returns-in-Err
returns-in-Err c = λ earlier h short.
    steps.refuses c.args.self.now c.args.field c.args.shape (seen c.args.line.now) c.in-Err.fault c.requires (rw c.stands-stands.ensures at c.in-Err.ensures) earlier h short
