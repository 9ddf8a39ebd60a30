-- The goals of `paid_keys` in src/run_steps.rt, which lists the keys for which a step pays: its loop and what it ensures.
use Rattle.tsp_routing.proofs.Prelude.{◌≡◌, ◌<◌, ◌≤◌, ◌+◌, ℕ, Bool, List, [], take, length, ap, ◌∙◌, arith, take_all}
use Rattle.tsp_routing.specs.declared.memories.StepKey.{StepKey}
use Rattle.tsp_routing.specs.states.MemoryTables.{charge_after}
use Rattle.tsp_routing.proofs.RunSteps.{paid_more}
use Rattle.tsp_routing.proofs.run_steps.paid_keys.Goals as goal

-- plan: key by key
pub keys-init : goal.keys-init
keys-init c =
    let none = ap (λ (keys : List StepKey). length keys) c.new-paid.ensures.items in
    record {
      charge = λ bits few. ap (λ (keys : List StepKey). charge_after keys bits) c.new-paid.ensures.items;
      few = omega (arith, none);
    }

pub keys-preserved : goal.keys-preserved
keys-preserved c = record {
  charge = λ bits few.
      paid_more c.keys.paid.items c.add_paid.new.paid.items c.args.steps.now c.keys.index c.step_at.result bits c.keys-test.true
      (c.step_at.ensures c.step_at.result) (c.in_ok-add_paid.ensures.charge bits few) (c.keys.invariant.charge bits few);
  few =
      let one = c.in_ok-add_paid.ensures.few in
      let before = c.keys.invariant.few in
      omega (arith, one, before);
}

pub returns-clause-charge : goal.returns-clause-charge
returns-clause-charge c = λ bits few.
    c.keys.invariant.charge bits few
    ∙ ap (λ (steps : List StepKey). charge_after steps bits) (take_all c.keys.index c.args.steps.now c.keys-test.false)
