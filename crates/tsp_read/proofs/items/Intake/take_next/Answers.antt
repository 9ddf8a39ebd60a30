-- The goals of `Intake::take_next` in src/items.rt, which takes the next item: what it ensures.
use Rattle.std.proofs.Common.{◌∙◌}
use Rattle.tsp_read.specs.states.Left.{item_next}
use Rattle.tsp_read.proofs.IntakeSteps.{words_next}
use Rattle.tsp_read.proofs.items.Intake.take_next.Goals as goal

-- plan: the item is counted: a word more of its line, or a line more (`words_next`)
pub returns-in-Ok-clause-item : goal.returns-in-Ok-clause-item
returns-in-Ok-clause-item c = λ earlier h.
    let got = c.in-Ok.ensures.item earlier h.holds in (
      record {
        holds = got.0;
        line_is = c.line_after-self.ensures.number earlier h.line_is;
        words_are = c.word_of-self.ensures.number earlier h.words_are ∙ words_next earlier (item_next c.args.next.now);
      },
      got.1,
    )
