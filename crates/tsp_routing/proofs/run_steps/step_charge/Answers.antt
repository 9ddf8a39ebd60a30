-- The goals of `step_charge` in src/run_steps.rt, which sums what a step pays: what it ensures.
use Rattle.tsp_routing.proofs.Prelude.{◌≡◌, List, ap, ◌∙◌, arith, ints}
use Rattle.tsp_routing.specs.declared.memories.StepKey.{StepKey}
use Rattle.tsp_routing.specs.states.MemoryTables.{charge_after}
use Rattle.tsp_routing.proofs.run_steps.step_charge.Goals as goal

pub returns-clause-charge : goal.returns-clause-charge
returns-clause-charge c = λ steps bits is few word_is.
    let value = c.charge_of_paid.ensures.charge bits few word_is in
    let low = c.charge_of_paid.ensures.size.0 in
    let high = c.charge_of_paid.ensures.size.1 in
    let same = ap (λ (keys : List StepKey). charge_after keys bits) c.deref.ensures.value ∙ is.paid bits few in
    omega (arith, ints, value, low, high, same)
