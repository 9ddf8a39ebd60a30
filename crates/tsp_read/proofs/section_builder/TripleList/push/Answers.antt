-- The goals of `TripleList::push` in src/section_builder.rt, which takes the next word: what it ensures.
use Rattle.std.proofs.Common.{◌∙◌, sym}
use Rattle.tsp_read.proofs.ListSteps.{past_end}
use Rattle.tsp_read.proofs.SectionLists.{triple_places}
use Rattle.tsp_read.proofs.section_builder.TripleList.push.Goals as goal

-- plan: after the -1 that ends the list another -1 changes nothing (`past_end`)
pub returns-then-is_minus_one-clause-takes : goal.returns-then-is_minus_one-clause-takes
returns-then-is_minus_one-clause-takes c = λ n words h.
    let next = past_end (triple_places n) h.read c.args.word.now c.if-self.true (sym c.is_minus_one.ensures ∙ c.if-is_minus_one.true) in
    (next.0, record { nodes = h.nodes; read = next.1 })
