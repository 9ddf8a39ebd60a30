-- The loop of `least_of_load` in src/run_bound.rt.
use Rattle.tsp_routing.proofs.Prelude.{◌≡◌, ◌⊎◌, ◌≤ℤ◌}
use Rattle.tsp_routing.specs.states.RunTables.{link_in}
use Rattle.tsp_routing.specs.states.KeptLists.{IsBelowLoad, IsMetAtLoad}
use Rattle.tsp_routing.proofs.run_bound.least_of_load.Given as goal

-- the least of the weight at the call and of the lists of the customers up to `index`
abbrev pub invariant-nodes : goal.invariant-nodes
invariant-nodes l = record {
  keeps : l.found.least ≤ℤ l.fn.begun.least;
  below : IsBelowLoad l.leaf.nodes.now.depot (link_in l.leaf.nodes.now.rows.now) l.table l.load l.index l.found.least;
  met : (l.found.least ≡ l.fn.begun.least)
      ⊎ IsMetAtLoad l.leaf.nodes.now.nodes l.leaf.nodes.now.depot (link_in l.leaf.nodes.now.rows.now) l.table l.load l.found.least;
}
