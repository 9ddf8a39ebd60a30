-- The loop of `first` in src/memories.rt.
use Rattle.std.proofs.Common.{◌≡◌, ◌-◌, ℕ, List, map, drop, length}
use Rattle.tsp_routing.specs.Memories.{memory_word}
use Rattle.tsp_routing.specs.declared.memories.MemoryKey.{MemoryKey}
use Rattle.tsp_routing.proofs.memories.Memories.first.Given as goal

-- the word has the bits of the last `index` keys
abbrev pub invariant-bits : goal.invariant-bits
invariant-bits l = l.word ≡ memory_word (map (λ (key : MemoryKey). key.is_member) (drop (length l.keys - l.index) l.keys))
