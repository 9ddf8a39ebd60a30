-- The goals of `take_few` in src/plain_numbers.rt, which takes a word of few digits, if the list takes it: what it
-- ensures.
use Rattle.tsp_read.proofs.PlainNumbers.{step_then}
use Rattle.tsp_read.proofs.plain_numbers.take_few.Goals as goal

-- plan: a word that doesn't end its line isn't taken, so the second try begins where the first did (`step_then`)
pub returns-in-None : goal.returns-in-None
returns-in-None g c = step_then _ _ _ _ _ _ _ _ c.in-None.ensures c.take_number-in-None.ensures
