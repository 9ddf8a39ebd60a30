-- The goals of `take_line` in src/items.rt, which takes a word line into the state: what it ensures.
use Rattle.tsp_text.specs.Items.{line_item}
use Rattle.tsp_read.specs.states.Holds.{seen, cut_item}
use Rattle.tsp_read.proofs.IntakeSteps.{takes_ok}
use Rattle.tsp_read.proofs.items.take_line.Goals as goal

-- plan: the line that was cut and read is the item of the text (`takes_ok`)
pub returns : goal.returns
returns c = λ earlier h.
    takes_ok earlier (cut_item c.of-line.result) (line_item c.args.text.now) c.line.new.self c.is_end.result c.of-line.ensures
    (c.in_ok-line.ensures earlier h) (c.is_end.ensures (seen c.of-line.result))
