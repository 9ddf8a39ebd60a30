-- The goals of `total` in src/routes.rt, which sums all demands: its loop and what it ensures.
use Rattle.tsp_verdict.proofs.Prelude.{◌≤◌, ℕ, arith, to_z, ℤ, pos, slice_index_or, w64, nodes_to, IsDemand}
use Rattle.tsp_verdict.proofs.RouteFiles.{load_fits, load_more, total_more, total_end}
use Rattle.tsp_verdict.proofs.routes.total.Goals as goal

-- plan: one node's demand more (`total_more`), to the last (`total_end`)
pub demands-preserved : goal.demands-preserved
demands-preserved c =
    let so_far : ℤ = to_z w64 c.demands.sum-bits in
    let index : ℕ = c.demands.demand-index in
    let demand : ℤ = slice_index_or c.args.demands.now index (pos 0) in
    let is : IsDemand demand = c.requires.demands index (pos 0) c.demands-test.true in
    let few : index ≤ 1000000 = omega (arith, c.demands-test.true, c.requires.size) in
    let sum = load_fits so_far demand index few c.demands.invariant.size is in
    record {
      size = rw sum (load_more so_far demand index c.demands.invariant.size is);
      so_far = rw sum (total_more c.args.demands.now so_far _ index c.demands-test.true c.demands.invariant.so_far);
    }

pub returns-clause-value : goal.returns-clause-value
unfolding nodes_to
returns-clause-value c =
    total_end c.args.demands.now (to_z w64 c.demands.sum-bits) _ c.demands.demand-index c.demands-test.false
    c.demands.invariant.so_far
