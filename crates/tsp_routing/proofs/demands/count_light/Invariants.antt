-- The loop of `count_light` in src/demands.rt.
use Rattle.tsp_routing.proofs.Prelude.{◌≡◌, ◌≤◌, ℕ, ℤ, pos, nodes_to, sum_int_by}
use Rattle.tsp_routing.specs.states.Demands.{loads_problem, light_in}
use Rattle.tsp_routing.proofs.demands.count_light.Given as goal

-- `count` is how many customers up to `index` demand less than a unit
abbrev pub invariant-nodes : goal.invariant-nodes
invariant-nodes l = record {
  few : l.count ≤ l.index;
  sum : (cost : ℕ → ℕ → ℤ) → pos l.count ≡ sum_int_by (light_in (loads_problem l.demands cost) l.unit) (nodes_to l.index);
}
