-- The goals of `NumberList::push` in src/node_sections.rt, which takes the next word: that no difference overflows,
-- that indices are in range and what it ensures.
use Rattle.tsp_read.proofs.Prelude.{◌≡◌, ◌∙◌, refl, sym, subst, Ok, Err, arith, rules, w64, to_z-of_z, whole_of, Amount}
use mir.Val.{SFits}
use Rattle.tsp_read.specs.states.Parts.{IsNewNode}
use Rattle.tsp_read.proofs.GroupSteps as groups
use Rattle.tsp_read.proofs.CoordSteps.{number_bad, number_taken}
use Rattle.tsp_read.proofs.node_sections.NumberList.push.Goals as goal

-- plan: by the word's place: past the groups, a node (`node_taken`), or the node's number (`number_taken`)
pub returns-then-is_minus_one-clause-takes : goal.returns-then-is_minus_one-clause-takes
returns-then-is_minus_one-clause-takes c = λ low high n words h.
    let s = c.args.self.now in
    let next = groups.end_taken (Amount low high) h.read c.args.word.now c.if-self-eq0.true (sym c.is_minus_one.ensures ∙ c.if-is_minus_one.true) in
    (next.0, record { from = h.from; to = h.to; read = next.1 })

pub returns-then-self-eq0-clause-takes : goal.returns-then-self-eq0-clause-takes
returns-then-self-eq0-clause-takes c = λ low high n words h.
    let s = c.args.self.now in
    groups.surplus (Amount low high) h.read c.args.word.now c.if-self-eq0.true (sym c.is_minus_one.ensures ∙ c.if-is_minus_one.false)

pub overflow_sub-node : goal.overflow_sub-node
overflow_sub-node c = (c.args.self.now.within c.in-Some.node c.in-Some.is).0

pub index_mut-requires : goal.index_mut-requires
index_mut-requires c =
    let place = c.args.self.now.within c.in-Some.node c.in-Some.is in
    omega (arith, place.0, place.1)

pub overflow_sub-node-in-Ok-parse_whole : goal.overflow_sub-node-in-Ok-parse_whole
overflow_sub-node-in-Ok-parse_whole c = (c.args.self.now.within c.in-Some.node c.in-Some.is).0

pub index_mut-requires-in-Ok-parse_whole : goal.index_mut-requires-in-Ok-parse_whole
index_mut-requires-in-Ok-parse_whole c =
    let place = c.args.self.now.within c.in-Some.node c.in-Some.is in
    omega (arith, c.args.self.now.same, place.0, place.1)

pub returns-in-Ok-clause-takes : goal.returns-in-Ok-clause-takes
returns-in-Ok-clause-takes c = λ low high n words h.
    let s = c.args.self.now in
    let new = rw c.as_slice.ensures.value at c.in-Ok.ensures in
    let next = groups.node_taken (Amount low high) h.read c.args.word.now c.in-Ok.node (omega arith) refl (omega arith) c.in-None.is new in
    (next.0, record { from = h.from; to = h.to; read = next.1 })

pub returns-in-Err-clause-takes : goal.returns-in-Err-clause-takes
returns-in-Err-clause-takes c = λ low high n words h.
    let s = c.args.self.now in
    let new = subst (λ seen. IsNewNode seen c.args.word.now (Err c.in-Err.fault)) c.as_slice.ensures.value c.in-Err.ensures in
    groups.node_faulty (Amount low high) h.read c.args.word.now c.in-Err.fault (omega arith) c.in-None.is new

pub returns-in-Ok-parse_whole-clause-takes : goal.returns-in-Ok-parse_whole-clause-takes
returns-in-Ok-parse_whole-clause-takes c = λ low high n words h.
    let s = c.args.self.now in
    let z = c.in-Ok-parse_whole.number in
    let low_fits : SFits w64 s.low = search rules in
    let high_fits : SFits w64 s.high = search rules in
    let fits : SFits w64 z = search rules in
    let computed = simp (to_z-of_z, low_fits, high_fits) at c.parse_whole.ensures.computed in
    let read : whole_of c.args.word.now low high ≡ Ok z = rw (← h.from, ← h.to) (sym computed ∙ c.in-Ok-parse_whole.is) in
    let next = number_taken low high h.read c.args.word.now c.in-Some.node z (omega arith) c.in-Some.is read in
    (next.0, record { from = h.from; to = h.to; read = simp (to_z-of_z, fits) next.1 })

pub returns-in-Err-parse_whole-clause-takes : goal.returns-in-Err-parse_whole-clause-takes
returns-in-Err-parse_whole-clause-takes c = λ low high n words h.
    let s = c.args.self.now in
    let low_fits : SFits w64 s.low = search rules in
    let high_fits : SFits w64 s.high = search rules in
    let computed = simp (to_z-of_z, low_fits, high_fits) at c.parse_whole.ensures.computed in
    let read : whole_of c.args.word.now low high ≡ Err c.in-Err-parse_whole.fault = rw (← h.from, ← h.to) (sym computed ∙ c.in-Err-parse_whole.is) in
    number_bad low high h.read c.args.word.now c.in-Some.node c.in-Err-parse_whole.fault (omega arith) c.in-Some.is read
