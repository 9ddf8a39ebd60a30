-- The goals of `TripleList::push_multiplier` in src/section_builder.rt, which takes the multiplier of a triple: what it
-- ensures.
use Rattle.tsp_read.proofs.Prelude.{◌≡◌, sym, Ok, FitsSigned, rules, w64, pos, to_z-of_z, whole_of, most_multiplier}
use Rattle.tsp_read.proofs.SectionLists.{triple_ends}
use Rattle.tsp_read.proofs.section_builder.TripleList.push_multiplier.Goals as goal

-- plan: the triple ends (`triple_ends`)
pub returns-clause-takes : goal.returns-clause-takes
returns-clause-takes c = λ n words h open_ended is also.
    let read : whole_of c.args.word.now (pos 0) (pos most_multiplier) ≡ Ok c.in_ok-multiplier.multiplier = sym c.in_ok-multiplier.ensures.computed in
    let next = triple_ends h.read c.args.word.now c.args.first c.args.second c.in_ok-multiplier.multiplier open_ended is also read in
    let fits : FitsSigned w64 c.in_ok-multiplier.multiplier = search rules in
    (next.0, record { nodes = h.nodes; read = rw (c.in_ok-push.ensures.items, to_z-of_z w64 c.in_ok-multiplier.multiplier fits) next.1 })
