-- The goals of `charge_of_paid` in src/run_steps.rt, which sums charges: its loop and what it ensures.
use Rattle.tsp_routing.proofs.Prelude.{◌≡◌, ◌≤◌, ◌<◌, ◌*◌, ◌^◌, ℤ, List, take, length, pos, neg_ℤ, ap, ◌∙◌, arith, ints, take_all}
use Rattle.tsp_routing.specs.declared.memories.StepKey.{StepKey}
use Rattle.tsp_routing.specs.states.MemoryTables.{charge_after}
use Rattle.tsp_routing.proofs.RunSteps.{charged_more}
use Rattle.tsp_routing.proofs.run_steps.charge_of_paid.Goals as goal

-- plan: key by key
pub with_charge-charge-requires : goal.with_charge-charge-requires
with_charge-charge-requires c =
    let low = c.keys.invariant.size.0 in
    let high = c.keys.invariant.size.1 in (
      omega (arith, ints, low, c.requires, c.keys-test.true),
      omega (arith, ints, high, c.requires, c.keys-test.true),
    )

pub keys-preserved : goal.keys-preserved
keys-preserved c =
    let h = c.keys.invariant in
    let own = c.with_charge-charge.ensures.size in
    let low = h.size.0 in
    let high = h.size.1 in
    let least = own.0 in
    let most = own.1 in
    let value = c.with_charge-charge.ensures.value in
    record {
      size = (omega (arith, ints, low, least), omega (arith, ints, high, most));
      charge = λ bits few is.
          let before = h.charge bits few is in
          let exact =
          charged_more c.args.paid.now c.keys.index c.step_at-key.result bits c.keys.charge c.with_charge-charge.result c.has_bit.result
          c.keys-test.true (c.step_at-key.ensures c.step_at-key.result) (c.has_bit.ensures bits few is)
          (omega (arith, ints, value, low, high, c.requires, c.keys-test.true))
          (omega (arith, ints, before, low, high, c.requires, c.keys-test.true)) in
          omega (arith, ints, exact, least, most, low, high, c.requires, c.keys-test.true);
    }

pub returns-clause-charge : goal.returns-clause-charge
returns-clause-charge c = λ bits few is.
    c.keys.invariant.charge bits few is
    ∙ ap (λ (keys : List StepKey). charge_after keys bits) (take_all c.keys.index c.args.paid.now c.keys-test.false)

pub returns-clause-size : goal.returns-clause-size
returns-clause-size c =
    let low = c.keys.invariant.size.0 in
    let high = c.keys.invariant.size.1 in (
      omega (arith, ints, low, c.requires, c.keys-test.false, c.keys.auto.index-end),
      omega (arith, ints, high, c.requires, c.keys-test.false, c.keys.auto.index-end),
    )
