-- The loop of `Demands::load` in src/demands.rt.
use Rattle.tsp_routing.proofs.Prelude.{◌≡◌, drop, ◌+ℤ◌, load_of}
use Rattle.tsp_routing.proofs.CutNeeds.{IsLoadOf}
use Rattle.tsp_routing.proofs.demands.Demands.load.Given as goal

-- the sum so far, and what the customers left demand, are the demand of all
abbrev pub invariant-nodes : goal.invariant-nodes
invariant-nodes l = record {
  size : IsLoadOf l.node-index l.sum;
  so_far : (l.sum +ℤ load_of l.self.demands.now (drop l.node-index l.customers)) ≡ load_of l.self.demands.now l.customers;
}
