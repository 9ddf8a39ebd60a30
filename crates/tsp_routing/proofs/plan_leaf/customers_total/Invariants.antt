-- The loop of `customers_total` in src/plan_leaf.rt.
use Rattle.tsp_routing.proofs.Prelude.{◌≡◌, ◌*◌, pos, neg_ℤ, most_potential, nodes_to, IsFromTo, sum_int_by, entry}
use Rattle.tsp_routing.specs.states.Demands.{of_others}
use Rattle.tsp_routing.proofs.plan_leaf.customers_total.Given as goal

-- `sum` is that of the potentials of the customers up to `index`
abbrev pub invariant-nodes : goal.invariant-nodes
invariant-nodes l = record {
  size : IsFromTo (neg_ℤ (pos (l.index * most_potential))) (pos (l.index * most_potential)) l.sum;
  sum : l.sum ≡ sum_int_by (of_others l.depot (entry l.potentials)) (nodes_to l.index);
}
