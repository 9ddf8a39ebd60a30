-- The goals of `Demands::all` in src/demands.rt, which sums the demands of all customers: its loop and what it ensures.
use Rattle.tsp_routing.proofs.Prelude.{◌≡◌, ◌∙◌, ◌≤◌, ℕ, ℤ, arith, ap, to_z, w64, ints, most_nodes, nodes_to, sum_int_by, demand_of}
use Rattle.tsp_routing.specs.states.Demands.{of_others}
use Rattle.tsp_routing.proofs.CutNeeds.{load_more, load_fits, others_sum, nodes_more, nodes_none}
use Rattle.tsp_routing.proofs.demands.Demands.all.Goals as goal

-- plan: the sum so far is what the nodes so far demand, and fits 64 bits, since no demand is large
pub nodes-init : goal.nodes-init
nodes-init c = record {
  size = record { low = omega (arith, ints); high = omega (arith, ints) };
  sum = nodes_none (of_others c.args.self.now.depot (demand_of c.args.self.now.demands.now));
}

pub nodes-preserved : goal.nodes-preserved
nodes-preserved c =
    let f : ℕ → ℤ = of_others c.args.self.now.depot (demand_of c.args.self.now.demands.now) in
    let so_far : ℤ = to_z w64 c.nodes.sum-bits in
    let demand : ℤ = c.of_customer-sum.result in
    let index : ℕ = c.nodes.index in
    let few : index ≤ most_nodes = omega (arith, c.nodes-test.true, c.requires.demands.few) in
    let sum = load_fits so_far demand index few c.nodes.invariant.size c.of_customer-sum.ensures.size in
    let more = nodes_more f index in
    let before = c.nodes.invariant.sum in
    let own = c.of_customer-sum.ensures.value in
    record {
      size = rw sum (load_more so_far demand index c.nodes.invariant.size c.of_customer-sum.ensures.size);
      sum = sum ∙ omega (arith, ints, more, before, own);
    }

pub returns-clause-value : goal.returns-clause-value
returns-clause-value c =
    let f : ℕ → ℤ = of_others c.args.self.now.depot (demand_of c.args.self.now.demands.now) in
    let last : c.nodes.index ≡ c.args.self.now.nodes = omega (arith, c.nodes-test.false, c.nodes.auto.index-end) in
    c.nodes.invariant.sum ∙ ap (λ k. sum_int_by f (nodes_to k)) last
    ∙ others_sum c.args.self.now.nodes c.args.self.now.depot (demand_of c.args.self.now.demands.now) c.requires.demands.depot_in
