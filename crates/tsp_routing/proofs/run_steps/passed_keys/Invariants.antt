-- The loop of `passed_keys` in src/run_steps.rt.
use Rattle.std.proofs.Common.{◌≡◌, ◌≤◌, Bool, List, take, length}
use Rattle.tsp_routing.specs.Memories.{memory_word}
use Rattle.tsp_routing.specs.states.MemoryTables.{told_before, passed_word}
use Rattle.tsp_routing.proofs.run_steps.passed_keys.Given as goal

-- the list has those of the first `index` keys
abbrev pub invariant-keys : goal.invariant-keys
invariant-keys l = (bits : List Bool) → length bits ≤ 64
    → passed_word l.passed.items bits ≡ memory_word (told_before (take l.index l.steps) bits)
