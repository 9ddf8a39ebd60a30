-- The loop of `first_larger_in` in src/routes.rt.
use Rattle.tsp_verdict.proofs.Prelude.{◌≡◌, ◌≤◌, ◌<◌, ℕ, length, take, slice_index_or}
use Rattle.tsp_verdict.specs.states.Marks.{nodes_in}
use Rattle.tsp_verdict.proofs.routes.first_larger_in.Given as goal

-- no node of the routes before this one is larger than n, and `before` is how many these are
abbrev pub invariant-routes : goal.invariant-routes
invariant-routes l = record {
  counted : l.before ≡ length (nodes_in (take l.route-index l.routes));
  so_far : (k d : ℕ) → k < l.before → slice_index_or (nodes_in l.routes) k d ≤ l.n;
}
