-- The goals of `mark_all` in src/routes.rt, which marks the nodes of routes up to the first repeated one: that no sum
-- overflows, its loop, what its calls require and what it ensures.
use Rattle.tsp_verdict.proofs.Prelude.{◌<◌, ℕ, List, sym, subst, ◌∙◌, arith, vec_len, All}
use Rattle.tsp_verdict.specs.states.Marks.{StandsAfter, nodes_in}
use Rattle.tsp_verdict.proofs.RouteFiles.{applies_here, count_here, all_here}
use Rattle.tsp_verdict.proofs.routes.mark_all.Goals as goal

-- plan: one route's nodes more are marked, or one of them has a mark already
pub mark-requires-clause-size : goal.mark-requires-clause-size
mark-requires-clause-size c =
    let all : List ℕ = nodes_in c.args.routes.now in
    let nodes : List ℕ = c.as_slice-nodes.result.now in
    let applies : StandsAfter c.routes.before all nodes =
    applies_here c.args.routes.now c.routes.route-index c.routes.before c.route-item.result nodes
    c.routes-test.true c.route-item.is c.routes.invariant.counted c.as_slice-nodes.ensures.value in
    omega (arith, applies.inside, c.requires.size)

pub mark-requires-clause-range : goal.mark-requires-clause-range
mark-requires-clause-range c =
    let all : List ℕ = nodes_in c.args.routes.now in
    let nodes : List ℕ = c.as_slice-nodes.result.now in
    let applies : StandsAfter c.routes.before all nodes =
    applies_here c.args.routes.now c.routes.route-index c.routes.before c.route-item.result nodes
    c.routes-test.true c.route-item.is c.routes.invariant.counted c.as_slice-nodes.ensures.value in
    all_here (λ node. node < vec_len c.routes.seen) all nodes c.routes.before applies
    (subst (λ n. All (λ node. node < n) all) (sym c.routes.invariant.wide) c.requires.range)

pub overflow_add-result : goal.overflow_add-result
overflow_add-result c =
    let all : List ℕ = nodes_in c.args.routes.now in
    let nodes : List ℕ = c.as_slice-nodes.result.now in
    let applies : StandsAfter c.routes.before all nodes =
    applies_here c.args.routes.now c.routes.route-index c.routes.before c.route-item.result nodes
    c.routes-test.true c.route-item.is c.routes.invariant.counted c.as_slice-nodes.ensures.value in
    let first = c.in-Some.ensures.marks all c.routes.before applies c.routes.invariant.marks in
    omega (arith, first.applies.0.1, c.requires.size)

pub returns-in-Some-clause-marks : goal.returns-in-Some-clause-marks
returns-in-Some-clause-marks c =
    let all : List ℕ = nodes_in c.args.routes.now in
    let nodes : List ℕ = c.as_slice-nodes.result.now in
    let applies : StandsAfter c.routes.before all nodes =
    applies_here c.args.routes.now c.routes.route-index c.routes.before c.route-item.result nodes
    c.routes-test.true c.route-item.is c.routes.invariant.counted c.as_slice-nodes.ensures.value in
    c.in-Some.ensures.marks all c.routes.before applies c.routes.invariant.marks

pub overflow_cast-before : goal.overflow_cast-before
overflow_cast-before c =
    let all : List ℕ = nodes_in c.args.routes.now in
    let nodes : List ℕ = c.as_slice-nodes.result.now in
    let applies : StandsAfter c.routes.before all nodes =
    applies_here c.args.routes.now c.routes.route-index c.routes.before c.route-item.result nodes
    c.routes-test.true c.route-item.is c.routes.invariant.counted c.as_slice-nodes.ensures.value in
    omega (arith, applies.inside, c.requires.size)

pub overflow_add-before : goal.overflow_add-before
overflow_add-before c =
    let all : List ℕ = nodes_in c.args.routes.now in
    let nodes : List ℕ = c.as_slice-nodes.result.now in
    let applies : StandsAfter c.routes.before all nodes =
    applies_here c.args.routes.now c.routes.route-index c.routes.before c.route-item.result nodes
    c.routes-test.true c.route-item.is c.routes.invariant.counted c.as_slice-nodes.ensures.value in
    omega (arith, applies.inside, c.requires.size)

pub routes-preserved : goal.routes-preserved
routes-preserved c =
    let all : List ℕ = nodes_in c.args.routes.now in
    let nodes : List ℕ = c.as_slice-nodes.result.now in
    let applies : StandsAfter c.routes.before all nodes =
    applies_here c.args.routes.now c.routes.route-index c.routes.before c.route-item.result nodes
    c.routes-test.true c.route-item.is c.routes.invariant.counted c.as_slice-nodes.ensures.value in
    record {
      counted = count_here c.args.routes.now c.routes.route-index c.routes.before c.route-item.result nodes c.routes-test.true
          c.route-item.is
          c.routes.invariant.counted c.as_slice-nodes.ensures.value;
      wide = c.in_default.ensures.len ∙ c.routes.invariant.wide;
      marks = c.in_default.ensures.marks all c.routes.before applies c.routes.invariant.marks;
    }
