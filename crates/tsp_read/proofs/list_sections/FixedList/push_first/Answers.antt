-- The goals of `FixedList::push_first` in src/list_sections.rt, which takes the first node of a pair, or -1: what it
-- ensures.
use Rattle.tsp_read.proofs.Prelude.{◌≡◌, ◌∙◌, refl, ap, Ok, arith, pos, negsuc, node_or_end}
use Rattle.tsp_read.specs.states.Parts.{as_node_or_end}
use Rattle.tsp_read.proofs.ListSteps.{list_ends, group_begins, pair_places}
use Rattle.tsp_read.proofs.list_sections.FixedList.push_first.Goals as goal

-- plan: by the word: the end (`list_ends`), or a pair begins (`group_begins`)
pub returns-in_default-clause-takes : goal.returns-in_default-clause-takes
returns-in_default-clause-takes c = λ n words h open_ended is.
    let read : node_or_end n c.args.word.now ≡ Ok (negsuc 0) =
    rw (← h.nodes) (c.in_ok-node.ensures.read ∙ ap as_node_or_end (ap (λ o. Ok o) c.in_default.is)) in
    let next = list_ends (pair_places n) h.read c.args.word.now refl open_ended is read in
    (next.0, record { nodes = h.nodes; read = next.1 })

pub returns-clause-takes : goal.returns-clause-takes
returns-clause-takes c = λ n words h open_ended is.
    let k = c.in-Some.node in
    let read : node_or_end n c.args.word.now ≡ Ok (pos k) =
    rw (← h.nodes) (c.in_ok-node.ensures.read ∙ ap as_node_or_end (ap (λ o. Ok o) c.in-Some.is)) in
    let next = group_begins (pair_places n) h.read c.args.word.now k refl open_ended is read (omega arith) in
    (next.0, record { nodes = h.nodes; read = next.1 })
