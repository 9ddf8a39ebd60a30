-- The goals of `Demands::load` in src/demands.rt, which sums the demands of some customers: its loop.
use Rattle.tsp_routing.proofs.Prelude.{◌≡◌, ◌∷◌, ◌∙◌, ◌+◌, ◌≤◌, ℕ, ℤ, List, get_or, drop, refl, arith, to_z, drop-cons, add-one, w64, most_nodes, demand_of, load_of}
use Rattle.tsp_routing.proofs.CutNeeds.{load_fits, load_more, sum_step}
use Rattle.tsp_routing.proofs.demands.Demands.load.Goals as goal

-- plan: what the customers so far demand, and what those left demand, is the sum of all
pub nodes-preserved : goal.nodes-preserved
nodes-preserved c =
    let customers : List ℕ = c.args.customers.now in
    let demands : List ℤ = c.args.self.now.demands.now in
    let so_far : ℤ = to_z w64 c.nodes.sum-bits in
    let index : ℕ = c.nodes.node-index in
    let node : ℕ = get_or customers index 0 in
    let demand : ℤ = c.demand-sum.result in
    let few : index ≤ most_nodes = omega (arith, c.nodes-test.true, c.requires.few) in
    let sum = load_fits so_far demand index few c.nodes.invariant.size c.demand-sum.ensures.size in
    let parts : drop index customers ≡ node ∷ drop (index + 1) customers = drop-cons customers index 0 c.nodes-test.true
    ∙ rw (add-one index) refl in
    let step = sum_step (demand_of demands) so_far (load_of demands customers) node (drop index customers)
    (drop (index + 1) customers) parts c.nodes.invariant.so_far in
    record {
      size = rw sum (load_more so_far demand index c.nodes.invariant.size c.demand-sum.ensures.size);
      so_far = rw sum (rw c.demand-sum.ensures.value step);
    }
