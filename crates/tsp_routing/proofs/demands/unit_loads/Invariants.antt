-- The loop of `unit_loads` in src/demands.rt.
use Rattle.tsp_routing.proofs.Prelude.{◌≡◌, ◌<◌, ℕ, ◌+◌, length, ℤ, IsNode}
use Rattle.tsp_routing.specs.PlanLinks.{load_in}
use Rattle.tsp_routing.specs.states.Demands.{loads_problem, load_at}
use Rattle.tsp_routing.proofs.demands.unit_loads.Given as goal

-- each node before this one has its load in units
abbrev pub invariant-nodes : goal.invariant-nodes
invariant-nodes l = record {
  places : length l.loads.items ≡ l.demands.nodes + 1;
  loads_are : (cost : ℕ → ℕ → ℤ) (light node : ℕ) → light + 1 ≡ l.parts → IsNode l.demands.nodes node → node < l.node
      → load_at l.loads.items node ≡ load_in (loads_problem l.demands cost) l.unit light node;
}
