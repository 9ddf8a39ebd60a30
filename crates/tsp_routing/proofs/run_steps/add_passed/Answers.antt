-- The goals of `add_passed` in src/run_steps.rt, which adds a key that is passed on: what it ensures.
use Rattle.tsp_routing.proofs.Prelude.{◌≡◌, ◌+◌, ◌^◌, ◌≤◌, ℕ, Bool, true, false, List, length, get_or, sym, ap, ◌∙◌, arith, if◌then◌else◌, get_or_past}
use Rattle.tsp_routing.specs.declared.memories.PassedKey.{PassedKey}
use Rattle.tsp_routing.specs.states.MemoryTables.{passed_word}
use Rattle.tsp_routing.proofs.RunSteps.{passed_push}
use Rattle.tsp_routing.proofs.run_steps.add_passed.Goals as goal

pub returns : goal.returns
returns c = λ bits few.
    ap (λ (keys : List PassedKey). passed_word keys bits) c.in_ok-push.ensures.items
    ∙ (passed_push c.args.passed.now.items (record { place = c.args.key.place; mask = c.mask_at-mask.result }) bits
    ∙ ap (λ (n : ℕ). passed_word c.args.passed.now.items bits + (if get_or bits c.args.key.place false then n else 0)) c.mask_at-mask.ensures)
