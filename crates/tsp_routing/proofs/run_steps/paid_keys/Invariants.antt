-- The loop of `paid_keys` in src/run_steps.rt.
use Rattle.std.proofs.Common.{◌≡◌, ◌≤◌, Bool, List, take, length}
use Rattle.tsp_routing.specs.states.MemoryTables.{charge_after}
use Rattle.tsp_routing.proofs.run_steps.paid_keys.Given as goal

-- the list has those of the first `index` keys
abbrev pub invariant-keys : goal.invariant-keys
invariant-keys l = record {
  charge : (bits : List Bool) → length bits ≤ 64 → charge_after l.paid.items bits ≡ charge_after (take l.index l.steps) bits;
  few : length l.paid.items ≤ l.index;
}
