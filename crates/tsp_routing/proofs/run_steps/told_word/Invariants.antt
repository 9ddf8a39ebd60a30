-- The loop of `told_word` in src/run_steps.rt.
use Rattle.std.proofs.Common.{◌≡◌, ◌≤◌, ◌%◌, ◌^◌, Bool, List, take, length}
use Rattle.tsp_routing.specs.Memories.{memory_word}
use Rattle.tsp_routing.specs.states.MemoryTables.{passed_word}
use Rattle.tsp_routing.proofs.run_steps.told_word.Given as goal

-- the word has the bits of the first `index` keys that are told
abbrev pub invariant-keys : goal.invariant-keys
invariant-keys l = (bits : List Bool) → length bits ≤ 64 → l.word ≡ memory_word bits
    → l.told ≡ passed_word (take l.index l.passed) bits % 2 ^ 64
