-- The goals of `take_other` in src/plain_numbers.rt, which takes a line's end, or a number of up to 18 digits: what its
-- calls require and what it ensures.
use Rattle.std.proofs.Common.{arith}
use Rattle.tsp_read.proofs.PlainNumbers.{step_then}
use Rattle.tsp_read.proofs.plain_numbers.take_other.Goals as goal

-- plan: a number that isn't plain leaves the run to the next step (`step_then`)
pub take_number-requires-clause-line : goal.take_number-requires-clause-line
take_number-requires-clause-line g c = let none = c.in-None.ensures (g.L.PlainNumberList.part c.args.list.now) in omega (arith, none.line, c.requires.line)

pub take_number-requires-clause-words : goal.take_number-requires-clause-words
take_number-requires-clause-words g c = let none = c.in-None.ensures (g.L.PlainNumberList.part c.args.list.now) in omega (arith, none.words, c.requires.words)

pub returns-in-None : goal.returns-in-None
returns-in-None g c = step_then _ _ _ _ _ _ _ _ (c.in-None.ensures (g.L.PlainNumberList.part c.args.list.now)) c.take_number.ensures
