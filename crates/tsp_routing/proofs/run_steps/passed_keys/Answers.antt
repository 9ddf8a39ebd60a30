-- The goals of `passed_keys` in src/run_steps.rt, which lists the keys that are passed on: its loop and what it ensures.
use Rattle.tsp_routing.proofs.Prelude.{◌≡◌, ◌<◌, ◌≤◌, ℕ, Bool, List, [], take, length, ap, ◌∙◌, arith, take_all}
use Rattle.tsp_routing.specs.Memories.{memory_word}
use Rattle.tsp_routing.specs.declared.memories.PassedKey.{PassedKey}
use Rattle.tsp_routing.specs.declared.memories.StepKey.{StepKey}
use Rattle.tsp_routing.specs.states.MemoryTables.{told_before, passed_word}
use Rattle.tsp_routing.proofs.RunSteps.{passed_more}
use Rattle.tsp_routing.proofs.run_steps.passed_keys.Goals as goal

-- plan: key by key
pub keys-init : goal.keys-init
keys-init c = λ bits few. ap (λ (keys : List PassedKey). passed_word keys bits) c.new-passed.ensures.items

pub keys-preserved : goal.keys-preserved
keys-preserved c = λ bits few.
    passed_more c.keys.passed.items c.add_passed.new.passed.items c.args.steps.now c.keys.index c.step_at.result bits c.keys-test.true
    (c.step_at.ensures c.step_at.result) (c.in_ok-add_passed.ensures bits few) (c.keys.invariant bits few)

pub returns : goal.returns
returns c = λ bits few.
    c.keys.invariant bits few
    ∙ ap (λ (steps : List StepKey). memory_word (told_before steps bits)) (take_all c.keys.index c.args.steps.now c.keys-test.false)
