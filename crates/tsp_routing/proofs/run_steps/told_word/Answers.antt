-- The goals of `told_word` in src/run_steps.rt, which passes on the bits that are told: its loop and what it ensures.
use Rattle.tsp_routing.proofs.Prelude.{◌%◌, ◌^◌, Bool, false, List, get_or, refl, ap, ◌∙◌, take_all}
use Rattle.tsp_routing.specs.declared.memories.PassedKey.{PassedKey}
use Rattle.tsp_routing.specs.states.MemoryTables.{passed_word}
use Rattle.tsp_routing.proofs.RunSteps.{told_more}
use Rattle.tsp_routing.proofs.run_steps.told_word.Goals as goal

-- plan: key by key
pub keys-preserved : goal.keys-preserved
keys-preserved c = λ bits few is.
    let is_told : Bool = get_or bits c.passed_at-key.result.place false in
    told_more c.args.passed.now c.keys.index c.passed_at-key.result bits c.keys.told c.with_mask-told.result is_told
    c.keys-test.true (c.passed_at-key.ensures c.passed_at-key.result) refl
    (c.with_mask-told.ensures is_told (c.bit_of.ensures bits few is)) (c.keys.invariant bits few is)

pub returns : goal.returns
returns c = λ bits few is.
    c.keys.invariant bits few is
    ∙ ap (λ (keys : List PassedKey). passed_word keys bits % 2 ^ 64) (take_all c.keys.index c.args.passed.now c.keys-test.false)
