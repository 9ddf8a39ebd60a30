-- The goals of `step_word` in src/run_steps.rt, which makes the memory after a step: what it ensures.
use Rattle.tsp_routing.proofs.RunSteps.{table_gives_word}
use Rattle.tsp_routing.proofs.run_steps.step_word.Goals as goal

pub returns : goal.returns
returns c = λ steps bits is few word_is.
    table_gives_word steps c.args.table.now bits c.deref.result.now c.told_word.result is few c.deref.ensures.value
    (c.told_word.ensures bits few word_is)
