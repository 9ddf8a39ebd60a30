-- The goals of `DepotList::push` in src/list_sections.rt, which takes the next word: what it ensures.
use Rattle.tsp_read.proofs.Prelude.{◌≡◌, ◌∙◌, sym, ap, Ok, arith, pos, negsuc, node_or_end}
use Rattle.tsp_read.specs.states.Parts.{as_node_or_end}
use Rattle.tsp_read.proofs.ListSteps.{depot_past_end, depot_end, depot_more}
use Rattle.tsp_read.proofs.list_sections.DepotList.push.Goals as goal

-- plan: by the word: past the end (`depot_past_end`), the end (`depot_end`), or a depot more (`depot_more`)
pub returns-then-is_minus_one-clause-takes : goal.returns-then-is_minus_one-clause-takes
returns-then-is_minus_one-clause-takes c = λ n words h.
    let s = c.args.self.now in
    let next = depot_past_end s.depots.items s.ended n words c.args.word.now c.if-self.true (sym c.is_minus_one.ensures ∙ c.if-is_minus_one.true) h.read in
    (next.0, record { nodes = h.nodes; read = next.1 })

pub returns-in_default-clause-takes : goal.returns-in_default-clause-takes
returns-in_default-clause-takes c = λ n words h.
    let s = c.args.self.now in
    let read : node_or_end n c.args.word.now ≡ Ok (negsuc 0) =
    rw (← h.nodes) (c.in_ok-node.ensures.read ∙ ap as_node_or_end (ap (λ o. Ok o) c.in_default.is)) in
    let next = depot_end s.depots.items s.ended n words c.args.word.now c.if-self.false read h.read in
    (next.0, record { nodes = h.nodes; read = next.1 })

pub returns-clause-takes : goal.returns-clause-takes
returns-clause-takes c = λ n words h.
    let s = c.args.self.now in
    let k = c.in-Some.node in
    let read : node_or_end n c.args.word.now ≡ Ok (pos k) =
    rw (← h.nodes) (c.in_ok-node.ensures.read ∙ ap as_node_or_end (ap (λ o. Ok o) c.in-Some.is)) in
    let next = depot_more s.depots.items s.ended n words c.args.word.now k c.if-self.false read (omega arith) h.read in
    (next.0, record { nodes = h.nodes; read = rw c.in_ok-push.ensures.items next.1 })
