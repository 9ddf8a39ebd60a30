-- The goals of `floor_of` in src/kept_states.rt, which finds the least weight of a list: its loop and what it ensures.
use Rattle.tsp_routing.proofs.Prelude.{ℤ, List, subst, arith, rules, FitsSigned, to_z, w128, ints, to_z-of_z, take_all}
use Rattle.tsp_routing.specs.declared.kept_states.KeptState.{KeptState}
use Rattle.tsp_routing.specs.states.KeptLists.{IsFloor}
use Rattle.tsp_routing.proofs.Floors.{floor_one_more}
use Rattle.tsp_routing.proofs.kept_states.floor_of.Goals as goal

-- plan: one entry more
pub entries-preserved : goal.entries-preserved
entries-preserved c =
    let own = c.lesser-floor.ensures in
    let new : ℤ = c.lesser-floor.result in
    let fits : FitsSigned w128 new = search rules in
    let first = own.0 in
    let second = own.1 in
    rw (to_z-of_z w128 new fits)
    (floor_one_more c.args.entries.now c.entries.index c.entry_at.result (to_z w128 c.entries.floor-bits) new c.entries-test.true
    c.entry_at.ensures (omega (arith, ints, first)) (omega (arith, ints, second)) c.entries.invariant)

pub returns : goal.returns
returns c =
    subst (λ (xs : List KeptState). IsFloor xs (to_z w128 c.entries.floor-bits))
    (take_all c.entries.index c.args.entries.now c.entries-test.false) c.entries.invariant
