-- The goals of `flips_of` in src/run_steps.rt, which makes the word of the bits that turn: its loop and what it ensures.
use Rattle.tsp_routing.proofs.Prelude.{◌≡◌, ◌≤◌, ◌<◌, ◌+◌, ◌-◌, ◌*◌, ◌^◌, ℕ, List, ◌∷◌, drop, length, ap, ap₂, subst, sym, ◌∙◌, arith, if◌then◌else◌, length-map, length-drop, drop_more}
use Rattle.tsp_routing.specs.Memories.{memory_word}
use Rattle.tsp_routing.specs.declared.memories.StepKey.{StepKey}
use Rattle.tsp_routing.specs.states.MemoryTables.{flips_of}
use Rattle.tsp_routing.proofs.MemoryWords.{word_below}
use Rattle.tsp_routing.proofs.run_steps.flips_of.Goals as goal

-- plan: one bit more below the others, from the last key to the first
pub with_bit-word-requires : goal.with_bit-word-requires
with_bit-word-requires c =
    let steps : List StepKey = c.args.steps.now in
    let rest : List StepKey = drop (length steps - c.bits.index) steps in
    let left = length-drop (length steps - c.bits.index) steps in
    let bits = length-map rest (λ (key : StepKey). key.flips) in
    subst (λ (n : ℕ). n < 2 ^ 63) (sym c.bits.invariant)
    (word_below (flips_of rest) 63 (omega (arith, c.requires, left, bits, c.bits-test.true)))

pub bits-preserved : goal.bits-preserved
bits-preserved c =
    let steps : List StepKey = c.args.steps.now in
    let own : StepKey = c.step_from_last-key.result in
    let at : ℕ = length steps - 1 - c.bits.index in
    let lt : at < length steps = omega (arith, c.bits-test.true) in
    let next : length steps - (c.bits.index + 1) ≡ at = omega arith in
    let rest : at + 1 ≡ length steps - c.bits.index = omega (arith, c.bits-test.true) in
    let split : drop (length steps - (c.bits.index + 1)) steps ≡ own ∷ drop (length steps - c.bits.index) steps =
    ap (λ (n : ℕ). drop n steps) next
    ∙ (drop_more steps at own lt
    ∙ ap₂ (λ (key : StepKey) (n : ℕ). key ∷ drop n steps) (sym (c.step_from_last-key.ensures own)) rest) in
    c.with_bit-word.ensures
    ∙ (ap (λ (n : ℕ). (if own.flips then 1 else 0) + 2 * n) c.bits.invariant
    ∙ sym (ap (λ (xs : List StepKey). memory_word (flips_of xs)) split))

pub returns : goal.returns
returns c =
    let steps : List StepKey = c.args.steps.now in
    let none : length steps - c.bits.index ≡ 0 = omega (arith, c.bits-test.false) in
    c.bits.invariant ∙ ap (λ (n : ℕ). memory_word (flips_of (drop n steps))) none
