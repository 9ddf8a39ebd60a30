-- The goals of `NumberList::push_read` in src/node_sections.rt, which takes the number of a word, if it fits the group:
-- what it ensures.
use Rattle.tsp_read.proofs.Prelude.{◌≡◌, refl, Ok, arith, rules, w64, FitsSigned, ◌≤ℤ◌, to_z-of_z, ints, whole_of, Amount}
use mir.Val.{SFits}
use Rattle.tsp_read.proofs.GroupSteps.{node_taken}
use Rattle.tsp_read.proofs.CoordSteps.{number_taken}
use Rattle.tsp_read.proofs.node_sections.NumberList.push_read.Goals as goal

pub returns-in-Some-unmarked_node-clause-taken : goal.returns-in-Some-unmarked_node-clause-taken
returns-in-Some-unmarked_node-clause-taken c = λ taken low high n words word whole h.
    let s = c.args.self.now in
    let fits : FitsSigned w64 c.args.number = search rules in
    let new = rw c.as_slice.ensures.value at (c.in-Some-unmarked_node.ensures.new word (rw (to_z-of_z w64 c.args.number fits) whole)) in
    let next = node_taken (Amount low high) h.read word c.in-Some-unmarked_node.node (omega arith) refl (omega arith) c.in-None.is new in
    (next.0, record { from = h.from; to = h.to; read = next.1 })

-- plan: by the word's place: a node (`node_taken`), or the node's number (`number_taken`)
pub returns-else-number-self-2-clause-taken : goal.returns-else-number-self-2-clause-taken
returns-else-number-self-2-clause-taken c = λ taken low high n words word whole h.
    let s = c.args.self.now in
    let z = c.args.number in
    let low_fits : SFits w64 s.low = search rules in
    let high_fits : SFits w64 s.high = search rules in
    let fits : SFits w64 z = search rules in
    let from : s.low ≤ℤ z = omega (arith, ints, c.if-number-self.false) in
    let to : z ≤ℤ s.high = omega (arith, ints, c.if-number-self-2.false) in
    let read : whole_of word low high ≡ Ok z = whole low high (rw (← h.from) from) (rw (← h.to) to) in
    let next = number_taken low high h.read word c.in-Some.node z (omega arith) c.in-Some.is read in
    (next.0, record { from = h.from; to = h.to; read = simp (to_z-of_z, fits) next.1 })
