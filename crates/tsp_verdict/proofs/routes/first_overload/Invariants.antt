-- The loop of `first_overload` in src/routes.rt.
use Rattle.tsp_verdict.proofs.Prelude.{◌≡◌, ◌<◌, ℕ, List, map, slice_index_or, ◌≤ℤ◌, load_of}
use Rattle.tsp_verdict.proofs.routes.first_overload.Given as goal

-- no route before this one demands more than the capacity, and `index` is how many these are
abbrev pub invariant-routes : goal.invariant-routes
invariant-routes l = record {
  counted : l.index ≡ l.route-index;
  so_far : (k : ℕ) (d : List ℕ) → k < l.route-index
      → load_of l.demands (slice_index_or (map (λ r. r.items) l.routes) k d) ≤ℤ l.capacity;
}
