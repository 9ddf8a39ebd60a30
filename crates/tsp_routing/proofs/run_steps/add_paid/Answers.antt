-- The goals of `add_paid` in src/run_steps.rt, which adds a key for which a step pays: what it ensures.
use Rattle.tsp_routing.proofs.Prelude.{◌≡◌, ◌+◌, ◌≤◌, ℕ, ℤ, Bool, true, false, List, length, get_or, pos, ◌+ℤ◌, ints, sym, ap, ◌∙◌, arith, if◌then◌else◌, get_or_past}
use Rattle.tsp_routing.specs.declared.memories.StepKey.{StepKey}
use Rattle.tsp_routing.specs.states.MemoryTables.{charge_after}
use Rattle.tsp_routing.proofs.RunSteps.{charge_push}
use Rattle.tsp_routing.proofs.run_steps.add_paid.Goals as goal

pub returns-clause-charge : goal.returns-clause-charge
returns-clause-charge c = λ bits few.
    ap (λ (keys : List StepKey). charge_after keys bits) c.in_ok-push.ensures.items
    ∙ charge_push c.args.paid.now.items c.args.key bits
