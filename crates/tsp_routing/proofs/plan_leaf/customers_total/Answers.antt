-- The goals of `customers_total` in src/plan_leaf.rt, which sums the potentials of the customers: its loop and what it
-- ensures.
use Rattle.tsp_routing.proofs.Prelude.{◌≡◌, ◌∙◌, ◌+◌, ◌-◌, ℕ, ℤ, length, get_or, ap, arith, rules, to_z, of_z, FitsSigned, ◌==◌, pos, ◌+ℤ◌, if◌then◌else◌, w64, w128, ints, to_z-of_z, nodes_to, sum_int_by, entry}
use Rattle.tsp_routing.specs.states.Demands.{of_others}
use Rattle.tsp_routing.proofs.CutNeeds.{others_sum, nodes_more, nodes_none}
use Rattle.tsp_routing.proofs.plan_leaf.customers_total.Goals as goal

-- plan: the sum so far is that of the potentials of the nodes so far, without the depot's
pub nodes-init : goal.nodes-init
nodes-init c = record {
  size = (omega (arith, ints), omega (arith, ints));
  sum = nodes_none (of_others c.args.depot (entry c.args.potentials.now));
}

pub nodes-preserved : goal.nodes-preserved
nodes-preserved c =
    let f : ℕ → ℤ = of_others c.args.depot (entry c.args.potentials.now) in
    let index : ℕ = c.nodes.index in
    let own = c.of_customer-sum.ensures in
    let more = nodes_more f index in
    let fits : FitsSigned w64 (get_or c.args.potentials.now c.nodes.index (pos 0)) = search rules in
    let at : index ≡ index + 1 - 1 = omega arith in
    let value_is : c.of_customer-sum.result ≡ f (index + 1) = own.value
    ∙ ap (λ z. if (index + 1) == c.args.depot then pos 0 else z) (to_z-of_z w64 (get_or c.args.potentials.now index (pos 0)) fits
    ∙ ap (λ (k : ℕ). get_or c.args.potentials.now k (pos 0)) at) in
    let h = c.nodes.invariant in
    let computed : to_z w128 (of_z w128 (to_z w128 c.nodes.sum-bits +ℤ to_z w128 (of_z w128 c.of_customer-sum.result)))
    ≡ to_z w128 c.nodes.sum-bits +ℤ c.of_customer-sum.result =
    omega (arith, ints, own.size.0, own.size.1, h.size.0, h.size.1, c.requires.few, c.nodes-test.true) in
    rw computed (record {
      size = (omega (arith, ints, own.size.0, h.size.0), omega (arith, ints, own.size.1, h.size.1));
      sum = omega (arith, ints, value_is, more, h.sum);
    })

pub returns-clause-value : goal.returns-clause-value
returns-clause-value c =
    let f : ℕ → ℤ = of_others c.args.depot (entry c.args.potentials.now) in
    let last : c.nodes.index ≡ length c.args.potentials.now = omega (arith, c.nodes-test.false, c.nodes.auto.index-end) in
    c.nodes.invariant.sum ∙ ap (λ k. sum_int_by f (nodes_to k)) last
    ∙ others_sum (length c.args.potentials.now) c.args.depot (entry c.args.potentials.now) c.requires.depot
