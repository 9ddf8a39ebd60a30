-- The goals of `plan_length` in src/routes.rt, which sums the costs of all routes: that no sum overflows, its
-- loop and what its calls require.
use Rattle.tsp_verdict.proofs.Prelude.{◌≡◌, ◌≤◌, ◌+◌, ◌∷◌, ℕ, List, length, take, refl, ap, subst, ◌∙◌, arith, to_z, ℤ, ◌+ℤ◌, w64, ints, IsNode, cost, length_of, nodes_of}
use Rattle.tsp_verdict.specs.states.Marks.{StandsAfter, nodes_in, IsSumOf}
use Rattle.tsp_verdict.proofs.RouteFiles.{applies_here, count_here, all_here, sum_more, sum_fits, plan_more}
use Rattle.tsp_verdict.proofs.routes.plan_length.Goals as goal

pub route_length-length-requires-clause-range : goal.route_length-length-requires-clause-range
route_length-length-requires-clause-range c =
    let before : ℕ = length (nodes_in (take c.routes.route-index c.args.routes.now)) in
    let nodes : List ℕ = c.as_slice-nodes.result.now in
    let applies : StandsAfter before (nodes_in c.args.routes.now) nodes =
    applies_here c.args.routes.now c.routes.route-index before c.route-item.result nodes c.routes-test.true c.route-item.is refl
    c.as_slice-nodes.ensures.value in
    all_here (IsNode (nodes_of c.args.inst.now)) (nodes_in c.args.routes.now) nodes before applies c.requires.range

pub route_length-length-requires-clause-size : goal.route_length-length-requires-clause-size
route_length-length-requires-clause-size c =
    let before : ℕ = length (nodes_in (take c.routes.route-index c.args.routes.now)) in
    let nodes : List ℕ = c.as_slice-nodes.result.now in
    let applies : StandsAfter before (nodes_in c.args.routes.now) nodes =
    applies_here c.args.routes.now c.routes.route-index before c.route-item.result nodes c.routes-test.true c.route-item.is refl
    c.as_slice-nodes.ensures.value in
    omega (arith, applies.inside, c.requires.size)

pub overflow_add-length : goal.overflow_add-length
overflow_add-length c =
    let before : ℕ = length (nodes_in (take c.routes.route-index c.args.routes.now)) in
    let nodes : List ℕ = c.as_slice-nodes.result.now in
    let applies : StandsAfter before (nodes_in c.args.routes.now) nodes =
    applies_here c.args.routes.now c.routes.route-index before c.route-item.result nodes c.routes-test.true c.route-item.is refl
    c.as_slice-nodes.ensures.value in
    let few : before + c.routes.route-index + (length nodes + 1) ≤ 2000001 =
    omega (arith, applies.inside, c.requires.size, c.requires.few, c.routes-test.true) in
    let other : IsSumOf (length nodes + 1) c.route_length-length.result = c.route_length-length.ensures.size in
    omega (arith, ints, few, c.routes.invariant.size.low, c.routes.invariant.size.high, other.low, other.high)

-- plan: one route more is its length more (`plan_more`), which fits 64 bits (`sum_fits`)
pub routes-preserved : goal.routes-preserved
routes-preserved c =
    let index : ℕ = c.routes.route-index in
    let before : ℕ = length (nodes_in (take index c.args.routes.now)) in
    let nodes : List ℕ = c.as_slice-nodes.result.now in
    let so_far : ℤ = to_z w64 c.routes.length-bits in
    let applies : StandsAfter before (nodes_in c.args.routes.now) nodes =
    applies_here c.args.routes.now index before c.route-item.result nodes c.routes-test.true c.route-item.is refl
    c.as_slice-nodes.ensures.value in
    let few : before + index + (length nodes + 1) ≤ 2000001 =
    omega (arith, applies.inside, c.requires.size, c.requires.few, c.routes-test.true) in
    let more : before + length nodes ≡ length (nodes_in (take (index + 1) c.args.routes.now)) =
    count_here c.args.routes.now index before c.route-item.result nodes c.routes-test.true c.route-item.is refl
    c.as_slice-nodes.ensures.value in
    let count : before + index + (length nodes + 1) ≡ length (nodes_in (take (index + 1) c.args.routes.now)) + (index + 1) =
    omega (arith, more) in
    let other : IsSumOf (length nodes + 1) c.route_length-length.result = c.route_length-length.ensures.size in
    let sum = sum_fits so_far c.route_length-length.result (before + index) (length nodes + 1) few c.routes.invariant.size
    other in
    let value : c.route_length-length.result ≡ length_of (cost c.args.inst.now) (c.args.depot ∷ c.route-item.result.items) =
    c.route_length-length.ensures.value ∙ ap (λ (xs : List ℕ). length_of (cost c.args.inst.now) (c.args.depot ∷ xs))
    c.as_slice-nodes.ensures.value in
    record {
      size = rw sum (subst (λ k. IsSumOf k (so_far +ℤ c.route_length-length.result)) count
          (sum_more so_far c.route_length-length.result (before + index) (length nodes + 1) c.routes.invariant.size other));
      so_far = rw (sum, value)
          (plan_more (cost c.args.inst.now) c.args.depot so_far _ c.args.routes.now index c.route-item.result c.routes-test.true
          c.route-item.is c.routes.invariant.so_far);
    }
