-- The goals of `route_length` in src/routes.rt, which sums the costs of a route: that no sum overflows, its loop
-- and what it ensures.
use Rattle.tsp_verdict.proofs.Prelude.{◌≡◌, ◌∷◌, ◌∙◌, ◌+◌, ◌≤◌, ℕ, List, length, get_or, drop, refl, subst, arith, to_z, drop-cons, add-one, ℤ, ◌+ℤ◌, w64, ints, drop_all, IsNode, cost, nodes_of}
use Rattle.tsp_verdict.specs.states.Marks.{IsSumOf}
use Rattle.tsp_verdict.proofs.RouteFiles.{length_to, length_more, length_last, sum_more, sum_one, sum_fits}
use Rattle.tsp_verdict.proofs.routes.route_length.Goals as goal

-- plan: one step more is one cost more (`length_more`), and the last goes back to the depot (`length_last`)
pub overflow_add-length : goal.overflow_add-length
overflow_add-length c =
    let few : c.nodes.node-index ≤ 1000000 = omega (arith, c.nodes-test.true, c.requires.size) in
    omega (
      arith,
      ints,
      few,
      c.nodes.invariant.size.low,
      c.nodes.invariant.size.high,
      c.cost-length.ensures.low,
      c.cost-length.ensures.high,
    )

pub nodes-preserved : goal.nodes-preserved
nodes-preserved c =
    let route : List ℕ = c.args.route.now in
    let so_far : ℤ = to_z w64 c.nodes.length-bits in
    let index : ℕ = c.nodes.node-index in
    let node : ℕ = get_or route index 0 in
    let in_node : IsNode (nodes_of c.args.inst.now) node = c.requires.range index 0 c.nodes-test.true in
    let few : index + 1 ≤ 2000001 = omega (arith, c.nodes-test.true, c.requires.size) in
    let one = sum_one c.cost-length.result c.cost-length.ensures.low c.cost-length.ensures.high in
    let sum = sum_fits so_far c.cost-length.result index 1 few c.nodes.invariant.size one in
    let parts : drop index route ≡ node ∷ drop (index + 1) route = drop-cons route index 0 c.nodes-test.true
    ∙ rw (add-one index) refl in
    record {
      from = in_node;
      size = rw sum (sum_more so_far c.cost-length.result index 1 c.nodes.invariant.size one);
      so_far = rw (sum, c.cost-length.ensures.value)
          (length_more (cost c.args.inst.now) so_far (length_to (cost c.args.inst.now) c.args.depot c.args.depot route)
          c.args.depot c.nodes.from node (drop index route) (drop (index + 1) route) parts c.nodes.invariant.so_far);
    }

pub overflow_add-result : goal.overflow_add-result
overflow_add-result c =
    let few : c.nodes.node-index ≤ 1000000 = omega (arith, c.nodes.auto.node-index-end, c.requires.size) in
    omega (arith, ints, few, c.nodes.invariant.size.low, c.nodes.invariant.size.high, c.cost.ensures.low, c.cost.ensures.high)

pub returns : goal.returns
returns c =
    let route : List ℕ = c.args.route.now in
    let so_far : ℤ = to_z w64 c.nodes.length-bits in
    let index : ℕ = c.nodes.node-index in
    let last : index ≡ length route = omega (arith, c.nodes-test.false, c.nodes.auto.node-index-end) in
    let few : index + 1 ≤ 2000001 = omega (arith, last, c.requires.size) in
    let one = sum_one c.cost.result c.cost.ensures.low c.cost.ensures.high in
    let sum = sum_fits so_far c.cost.result index 1 few c.nodes.invariant.size one in
    record {
      value = rw (sum, c.cost.ensures.value)
          (length_last (cost c.args.inst.now) so_far (length_to (cost c.args.inst.now) c.args.depot c.args.depot route)
          c.args.depot c.nodes.from (drop index route) (drop_all index route (omega (arith, last))) c.nodes.invariant.so_far);
      size = rw sum (subst (λ (k : ℕ). IsSumOf (k + 1) (so_far +ℤ c.cost.result)) last
          (sum_more so_far c.cost.result index 1 c.nodes.invariant.size one));
    }
