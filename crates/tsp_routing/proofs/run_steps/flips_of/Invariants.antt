-- The loop of `flips_of` in src/run_steps.rt.
use Rattle.std.proofs.Common.{◌≡◌, ◌-◌, ℕ, List, drop, length}
use Rattle.tsp_routing.specs.Memories.{memory_word}
use Rattle.tsp_routing.specs.states.MemoryTables.{flips_of}
use Rattle.tsp_routing.proofs.run_steps.flips_of.Given as goal

-- the word has the bits of the last `index` keys
abbrev pub invariant-bits : goal.invariant-bits
invariant-bits l = l.word ≡ memory_word (flips_of (drop (length l.steps - l.index) l.steps))
