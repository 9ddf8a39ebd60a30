-- The loop of `empty_lists` in src/multipliers_by_node.rt, which makes an empty list for each node.
use Rattle.std.proofs.Common.{◌≡◌, ◌<◌, ℕ, ℤ, [], length, get_or}
use Rattle.std.specs.Global.{Vec}
use Rattle.tsp_bound.proofs.multipliers_by_node.empty_lists.Given as goal

-- there is one list for each round so far, and each is empty
abbrev pub invariant-lists : goal.invariant-lists
invariant-lists l = (length l.lists.items ≡ l.counter) × ((k : ℕ) (d : Vec (ℕ × ℤ)) → k < l.counter → (get_or l.lists.items k d).items ≡ [])
