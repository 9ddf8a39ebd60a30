-- The loop of `total` in src/routes.rt.
use Rattle.tsp_verdict.proofs.Prelude.{◌≡◌, ◌+◌, ◌-◌, length, ◌+ℤ◌, range_with_len, load_of}
use Rattle.tsp_verdict.proofs.RouteFiles.{IsLoadOf}
use Rattle.tsp_verdict.proofs.routes.total.Given as goal

-- the sum so far and the demands of the nodes left are the demand of all nodes
abbrev pub invariant-demands : goal.invariant-demands
invariant-demands l = record {
  size : IsLoadOf l.demand-index l.sum;
  so_far : (l.sum +ℤ load_of l.demands (range_with_len (l.demand-index + 1) (length l.demands - l.demand-index))) ≡ load_of
      l.demands (range_with_len 1 (length l.demands));
}
