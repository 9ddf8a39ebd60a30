-- The loop of `Demands::all` in src/demands.rt.
use Rattle.tsp_routing.proofs.Prelude.{◌≡◌, nodes_to, sum_int_by, demand_of}
use Rattle.tsp_routing.specs.states.Demands.{of_others}
use Rattle.tsp_routing.proofs.CutNeeds.{IsLoadOf}
use Rattle.tsp_routing.proofs.demands.Demands.all.Given as goal

-- `sum` is what the customers up to `index` demand
abbrev pub invariant-nodes : goal.invariant-nodes
invariant-nodes l = record {
  size : IsLoadOf l.index l.sum;
  sum : l.sum ≡ sum_int_by (of_others l.self.depot (demand_of l.self.demands.now)) (nodes_to l.index);
}
