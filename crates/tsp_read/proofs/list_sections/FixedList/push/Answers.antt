-- The goals of `FixedList::push` in src/list_sections.rt, which takes the next word: what it ensures.
use Rattle.std.proofs.Common.{◌∙◌, sym}
use Rattle.tsp_read.proofs.ListSteps.{past_end, pair_places}
use Rattle.tsp_read.proofs.list_sections.FixedList.push.Goals as goal

-- plan: past the end a -1 is left out (`past_end`); else it is the first or the second word of a pair
pub returns-then-is_minus_one-clause-takes : goal.returns-then-is_minus_one-clause-takes
returns-then-is_minus_one-clause-takes c = λ n words h.
    let next = past_end (pair_places n) h.read c.args.word.now c.if-self.true (sym c.is_minus_one.ensures ∙ c.if-is_minus_one.true) in
    (next.0, record { nodes = h.nodes; read = next.1 })

pub returns-in-None-clause-takes : goal.returns-in-None-clause-takes
returns-in-None-clause-takes c = λ n words h. c.push_first.ensures.takes n words h c.if-self.false c.in-None.is
