-- The goals of `first_overload` in src/routes.rt, which finds the first route above the capacity: its loop and what its
-- calls require.
use Rattle.tsp_verdict.proofs.Prelude.{◌≡◌, ℕ, List, length, take, refl, sym, ap, ◌∙◌, ◌+◌, arith, rules, FitsSigned, ◌≤ℤ◌, w64, to_z-of_z, IsNode, load_of}
use Rattle.std.specs.Prelude.{◌<ℤ◌}
use Rattle.tsp_verdict.specs.states.Marks.{StandsAfter, nodes_in}
use Rattle.tsp_verdict.proofs.RouteFiles.{applies_here, all_here, carried_more, not_over, is_over, over_here}
use Rattle.tsp_verdict.proofs.routes.first_overload.Goals as goal

-- plan: route by route: the first whose load is too much, or none so far (`not_over`)
pub load-requires-clause-range : goal.load-requires-clause-range
load-requires-clause-range c =
    let before : ℕ = length (nodes_in (take c.routes.route-index c.args.routes.now)) in
    let nodes : List ℕ = c.as_slice-nodes.result.now in
    let applies : StandsAfter before (nodes_in c.args.routes.now) nodes =
    applies_here c.args.routes.now c.routes.route-index before c.route-item.result nodes c.routes-test.true c.route-item.is refl
    c.as_slice-nodes.ensures.value in
    all_here (IsNode (length c.args.demands.now)) (nodes_in c.args.routes.now) nodes before applies c.requires.range

pub load-requires-clause-size : goal.load-requires-clause-size
load-requires-clause-size c =
    let before : ℕ = length (nodes_in (take c.routes.route-index c.args.routes.now)) in
    let nodes : List ℕ = c.as_slice-nodes.result.now in
    let applies : StandsAfter before (nodes_in c.args.routes.now) nodes =
    applies_here c.args.routes.now c.routes.route-index before c.route-item.result nodes c.routes-test.true c.route-item.is refl
    c.as_slice-nodes.ensures.value in
    omega (arith, applies.inside, c.requires.size)

pub routes-preserved : goal.routes-preserved
routes-preserved c =
    let capacity_fits : FitsSigned w64 c.args.capacity = search rules in
    let load_fits : FitsSigned w64 c.load.result = search rules in
    let below = simp to_z-of_z at c.if-load-capacity.false in
    let value : load_of c.args.demands.now c.route-item.result.items ≡ c.load.result =
    ap (load_of c.args.demands.now) (sym c.as_slice-nodes.ensures.value) ∙ sym c.load.ensures in
    let carries : load_of c.args.demands.now c.route-item.result.items ≤ℤ c.args.capacity =
    rw value (not_over c.load.result c.args.capacity below) in
    let before = simp to_z-of_z at c.routes.invariant.so_far in
    record {
      counted = omega (arith, c.routes.invariant.counted);
      so_far = simp to_z-of_z (carried_more c.args.demands.now c.args.capacity c.args.routes.now c.routes.route-index
          c.route-item.result c.routes-test.true c.route-item.is carries before);
    }

pub returns-then-load-capacity : goal.returns-then-load-capacity
returns-then-load-capacity c =
    let capacity_fits : FitsSigned w64 c.args.capacity = search rules in
    let load_fits : FitsSigned w64 c.load.result = search rules in
    let above = simp to_z-of_z at c.if-load-capacity.true in
    let value : load_of c.args.demands.now c.route-item.result.items ≡ c.load.result =
    ap (load_of c.args.demands.now) (sym c.as_slice-nodes.ensures.value) ∙ sym c.load.ensures in
    let over : c.args.capacity <ℤ load_of c.args.demands.now c.route-item.result.items =
    rw value (is_over c.load.result c.args.capacity above) in
    let before = simp to_z-of_z at c.routes.invariant.so_far in
    over_here c.args.demands.now c.args.capacity c.args.routes.now c.routes.route-index (c.routes.index + 1) c.route-item.result
    c.routes-test.true c.route-item.is (omega (arith, c.routes.invariant.counted)) over before
