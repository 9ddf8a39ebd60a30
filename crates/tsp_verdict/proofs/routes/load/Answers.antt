-- The goals of `load` in src/routes.rt, which sums the demands of a route: that no sum overflows and its loop.
use Rattle.tsp_verdict.proofs.Prelude.{◌≡◌, ◌∷◌, ◌∙◌, ◌+◌, ◌-◌, ◌≤◌, ℕ, List, length, get_or, drop, refl, arith, to_z, drop-cons, add-one, ℤ, pos, w64, ints, IsNode, IsDemand, load_of, demand_of}
use Rattle.tsp_verdict.proofs.RouteFiles.{load_fits, load_more, sum_step}
use Rattle.tsp_verdict.proofs.routes.load.Goals as goal

pub overflow_add-sum : goal.overflow_add-sum
overflow_add-sum c =
    let index : ℕ = c.nodes.node-index in
    let node : ℕ = get_or c.args.route.now index 0 in
    let in_node : IsNode (length c.args.demands.now) node = c.requires.range index 0 c.nodes-test.true in
    let own : IsDemand (get_or c.args.demands.now (node - 1) (pos 0)) =
    c.requires.demands (node - 1) (pos 0) (omega (arith, in_node.0, in_node.1)) in
    let few : index ≤ 1000000 = omega (arith, c.nodes-test.true, c.requires.size) in
    omega (arith, ints, few, c.nodes.invariant.size.low, c.nodes.invariant.size.high, own.0, own.1)

-- plan: one customer's demand more (`load_more`), which fits 64 bits (`load_fits`)
pub nodes-preserved : goal.nodes-preserved
nodes-preserved c =
    let route : List ℕ = c.args.route.now in
    let demands : List ℤ = c.args.demands.now in
    let so_far : ℤ = to_z w64 c.nodes.sum-bits in
    let index : ℕ = c.nodes.node-index in
    let node : ℕ = get_or route index 0 in
    let in_node : IsNode (length demands) node = c.requires.range index 0 c.nodes-test.true in
    let demand : ℤ = get_or demands (node - 1) (pos 0) in
    let own : IsDemand demand = c.requires.demands (node - 1) (pos 0) (omega (arith, in_node.0, in_node.1)) in
    let few : index ≤ 1000000 = omega (arith, c.nodes-test.true, c.requires.size) in
    let sum = load_fits so_far demand index few c.nodes.invariant.size own in
    let parts : drop index route ≡ node ∷ drop (index + 1) route = drop-cons route index 0 c.nodes-test.true
    ∙ rw (add-one index) refl in
    record {
      size = rw sum (load_more so_far demand index c.nodes.invariant.size own);
      so_far = rw sum (sum_step (demand_of demands) so_far (load_of demands route) node (drop index route)
          (drop (index + 1) route) parts c.nodes.invariant.so_far);
    }
