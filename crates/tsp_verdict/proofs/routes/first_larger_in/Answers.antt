-- The goals of `first_larger_in` in src/routes.rt, which finds the first place whose node is above n: that no sum
-- overflows, its loop, what its call requires and what it ensures.
use Rattle.std.proofs.Common.{◌<◌, ◌≤◌, ℕ, List, arith}
use Rattle.tsp_verdict.specs.states.Marks.{StandsAfter, nodes_in}
use Rattle.tsp_verdict.proofs.RouteFiles.{applies_here, count_here, first_after, all_more}
use Rattle.tsp_verdict.proofs.routes.first_larger_in.Goals as goal

-- plan: route by route: the first such place of the next route is the first of all (`first_after`)
pub first_larger-requires : goal.first_larger-requires
first_larger-requires c =
    let all : List ℕ = nodes_in c.args.routes.now in
    let nodes : List ℕ = c.as_slice-nodes.result.now in
    let applies : StandsAfter c.routes.before all nodes =
    applies_here c.args.routes.now c.routes.route-index c.routes.before c.route-item.result nodes
    c.routes-test.true c.route-item.is c.routes.invariant.counted c.as_slice-nodes.ensures.value in
    omega (arith, applies.inside, c.requires)

pub overflow_add-result : goal.overflow_add-result
overflow_add-result c =
    let all : List ℕ = nodes_in c.args.routes.now in
    let nodes : List ℕ = c.as_slice-nodes.result.now in
    let applies : StandsAfter c.routes.before all nodes =
    applies_here c.args.routes.now c.routes.route-index c.routes.before c.route-item.result nodes
    c.routes-test.true c.route-item.is c.routes.invariant.counted c.as_slice-nodes.ensures.value in
    omega (arith, applies.inside, c.requires, c.in-Some.ensures.applies.0.1)

pub returns-in-Some : goal.returns-in-Some
returns-in-Some c =
    let all : List ℕ = nodes_in c.args.routes.now in
    let nodes : List ℕ = c.as_slice-nodes.result.now in
    let applies : StandsAfter c.routes.before all nodes =
    applies_here c.args.routes.now c.routes.route-index c.routes.before c.route-item.result nodes
    c.routes-test.true c.route-item.is c.routes.invariant.counted c.as_slice-nodes.ensures.value in
    first_after (λ v. c.args.n < v) (λ v. v ≤ c.args.n) all nodes c.routes.before c.in-Some.place
    (λ v above below. omega (arith, above, below)) applies c.routes.invariant.so_far c.in-Some.ensures

pub overflow_cast-before : goal.overflow_cast-before
overflow_cast-before c =
    let all : List ℕ = nodes_in c.args.routes.now in
    let nodes : List ℕ = c.as_slice-nodes.result.now in
    let applies : StandsAfter c.routes.before all nodes =
    applies_here c.args.routes.now c.routes.route-index c.routes.before c.route-item.result nodes
    c.routes-test.true c.route-item.is c.routes.invariant.counted c.as_slice-nodes.ensures.value in
    omega (arith, applies.inside, c.requires)

pub overflow_add-before : goal.overflow_add-before
overflow_add-before c =
    let all : List ℕ = nodes_in c.args.routes.now in
    let nodes : List ℕ = c.as_slice-nodes.result.now in
    let applies : StandsAfter c.routes.before all nodes =
    applies_here c.args.routes.now c.routes.route-index c.routes.before c.route-item.result nodes
    c.routes-test.true c.route-item.is c.routes.invariant.counted c.as_slice-nodes.ensures.value in
    omega (arith, applies.inside, c.requires)

pub routes-preserved : goal.routes-preserved
routes-preserved c =
    let all : List ℕ = nodes_in c.args.routes.now in
    let nodes : List ℕ = c.as_slice-nodes.result.now in
    let applies : StandsAfter c.routes.before all nodes =
    applies_here c.args.routes.now c.routes.route-index c.routes.before c.route-item.result nodes
    c.routes-test.true c.route-item.is c.routes.invariant.counted c.as_slice-nodes.ensures.value in
    record {
      counted = count_here c.args.routes.now c.routes.route-index c.routes.before c.route-item.result nodes c.routes-test.true
          c.route-item.is
          c.routes.invariant.counted c.as_slice-nodes.ensures.value;
      so_far = all_more (λ v. v ≤ c.args.n) all nodes c.routes.before applies c.routes.invariant.so_far c.in_default.ensures;
    }
