-- The loop of `first_unmarked` in src/routes.rt.
use Rattle.tsp_verdict.proofs.Prelude.{◌≡◌, ◌≢◌, ◌≤◌, ◌<◌, ℕ, true, false, slice_index_or}
use Rattle.tsp_verdict.proofs.routes.first_unmarked.Given as goal

-- each number from 1 to the one before this is marked, or is the depot
abbrev pub invariant-nodes : goal.invariant-nodes
invariant-nodes l = (other : ℕ) → 1 ≤ other → other < l.node → other ≢ l.depot → slice_index_or l.seen.items other false ≡ true
