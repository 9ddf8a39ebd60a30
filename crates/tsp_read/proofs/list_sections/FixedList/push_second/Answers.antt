-- The goals of `FixedList::push_second` in src/list_sections.rt, which takes the second node of a pair: what it
-- ensures.
use Rattle.tsp_read.proofs.Prelude.{◌≡◌, ◌∙◌, ap, Ok, pos, node}
use Rattle.tsp_read.proofs.ListSteps.{second_same, pair_places, alone, pair_ends}
use Rattle.tsp_read.proofs.list_sections.FixedList.push_second.Goals as goal

-- plan: by the word: the same node again (`second_same`), or the pair ends (`pair_ends`)
pub returns-then-second-first-clause-takes : goal.returns-then-second-first-clause-takes
returns-then-second-first-clause-takes c = λ n words h open_ended is.
    let same : c.in_ok-second.second ≡ c.args.first = c.if-second-first.true in
    let read : node n c.args.word.now ≡ Ok (pos c.args.first) =
    rw (← h.nodes) (c.in_ok-second.ensures.read ∙ ap (λ k. Ok (pos k)) same) in
    second_same (pair_places n) h.read c.args.word.now c.args.first alone open_ended is read

pub returns-clause-takes : goal.returns-clause-takes
returns-clause-takes c = λ n words h open_ended is.
    let read : node n c.args.word.now ≡ Ok (pos c.in_ok-second.second) = rw (← h.nodes) c.in_ok-second.ensures.read in
    let next = pair_ends h.read c.args.word.now c.args.first c.in_ok-second.second open_ended is read c.if-second-first.false in
    (next.0, record { nodes = h.nodes; read = rw c.in_ok-push.ensures.items next.1 })
