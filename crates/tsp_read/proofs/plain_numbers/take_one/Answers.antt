-- The goals of `take_one` in src/plain_numbers.rt, which takes a word or a line's end: what it ensures.
use Rattle.tsp_read.proofs.PlainNumbers.{step_then}
use Rattle.tsp_read.proofs.plain_numbers.take_one.Goals as goal

-- plan: a word that isn't a number of few digits is left, so the next try begins where the first did (`step_then`)
pub returns-in-None : goal.returns-in-None
returns-in-None g c = step_then _ _ _ _ _ _ _ _ c.in-None.ensures c.take_other.ensures
