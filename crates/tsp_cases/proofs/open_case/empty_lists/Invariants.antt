-- The loop of `empty_lists` in src/open_case.rt, which makes an empty list for each node.
use Rattle.tsp_cases.proofs.Prelude.{◌≡◌, ◌<◌, ℕ, [], length, get_or}
use Rattle.tsp_cases.proofs.open_case.empty_lists.Given as goal

-- there is one list for each round so far, and each is empty
abbrev pub invariant-lists : goal.invariant-lists
invariant-lists g l = (length l.lists.items ≡ l.counter) × ((k : ℕ) (d : _) → k < l.counter → (get_or l.lists.items k d).items ≡ [])
