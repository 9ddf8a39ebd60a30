-- The goals of `TripleList::push_second` in src/section_builder.rt, which takes the second node of a triple: what it
-- ensures.
use Rattle.tsp_read.proofs.Prelude.{◌≡◌, ◌∙◌, ap, Ok, pos, node}
use Rattle.tsp_read.proofs.SectionLists.{second_same, triple_goes_on}
use Rattle.tsp_read.proofs.section_builder.TripleList.push_second.Goals as goal

-- plan: by the word: the same node again (`second_same`), or the triple goes on (`triple_goes_on`)
pub returns-then-second-first-clause-takes : goal.returns-then-second-first-clause-takes
returns-then-second-first-clause-takes c = λ n words h open_ended is also.
    let same : c.in_ok-second.second ≡ c.args.first = c.if-second-first.true in
    let read : node n c.args.word.now ≡ Ok (pos c.args.first) =
    rw (← h.nodes) (c.in_ok-second.ensures.read ∙ ap (λ i. Ok (pos i)) same) in
    second_same h.read c.args.word.now c.args.first open_ended is also read

pub returns-clause-takes : goal.returns-clause-takes
returns-clause-takes c = λ n words h open_ended is also.
    let read : node n c.args.word.now ≡ Ok (pos c.in_ok-second.second) = rw (← h.nodes) c.in_ok-second.ensures.read in
    let next = triple_goes_on h.read c.args.word.now c.args.first c.in_ok-second.second open_ended is also read c.if-second-first.false in
    (next.0, record { nodes = h.nodes; read = next.1 })
