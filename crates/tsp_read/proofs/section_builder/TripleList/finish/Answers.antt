-- The goals of `TripleList::finish` in src/section_builder.rt, which returns the triples, and whether one is
-- incomplete: what it ensures.
use Rattle.std.proofs.Common.{◌∙◌}
use Rattle.tsp_read.proofs.ListSteps.{cut_short}
use Rattle.tsp_read.proofs.SectionLists.{triple_places}
use Rattle.tsp_read.proofs.section_builder.TripleList.finish.Goals as goal

-- plan: a triple is cut short exactly if its first node has come, so that more words are wanted (`cut_short`)
pub returns : goal.returns
returns c = λ n words h.
    (h.read.list, c.is_some-wants_more.ensures ∙ cut_short (triple_places n) h.read)
