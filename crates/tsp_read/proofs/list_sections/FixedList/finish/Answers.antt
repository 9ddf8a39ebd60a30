-- The goals of `FixedList::finish` in src/list_sections.rt, which returns the pairs, and whether one is incomplete:
-- what it ensures.
use Rattle.std.proofs.Common.{◌∙◌}
use Rattle.tsp_read.proofs.ListSteps.{cut_short, pair_places}
use Rattle.tsp_read.proofs.list_sections.FixedList.finish.Goals as goal

-- plan: a pair is cut short exactly if its first node has come, so that more words are wanted (`cut_short`)
pub returns : goal.returns
returns c = λ n words h.
    (h.read.list, c.is_some-wants_more.ensures ∙ cut_short (pair_places n) h.read)
