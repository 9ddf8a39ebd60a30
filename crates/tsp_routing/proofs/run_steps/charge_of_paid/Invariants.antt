-- The loop of `charge_of_paid` in src/run_steps.rt.
use Rattle.tsp_routing.proofs.Prelude.{◌≡◌, ◌≤◌, ◌*◌, ◌^◌, Bool, List, take, length, pos, neg_ℤ, IsFromTo}
use Rattle.tsp_routing.specs.Memories.{memory_word}
use Rattle.tsp_routing.specs.states.MemoryTables.{charge_after}
use Rattle.tsp_routing.proofs.run_steps.charge_of_paid.Given as goal

-- the sum is that of the first `index` keys
abbrev pub invariant-keys : goal.invariant-keys
invariant-keys l = record {
  size : IsFromTo (neg_ℤ (pos (l.index * 2 ^ 63))) (pos (l.index * 2 ^ 63)) l.charge;
  charge : (bits : List Bool) → length bits ≤ 64 → l.word ≡ memory_word bits → l.charge ≡ charge_after (take l.index l.paid) bits;
}
