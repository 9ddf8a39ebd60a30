-- The loop of `least_run` in src/run_bound.rt.
use Rattle.tsp_routing.proofs.Prelude.{◌≡◌, length, ◌⊎◌, ◌≤ℤ◌}
use Rattle.tsp_routing.specs.states.RunTables.{link_in}
use Rattle.tsp_routing.specs.states.KeptLists.{IsBelowTable, IsMetBelow}
use Rattle.tsp_routing.proofs.run_bound.least_run.Given as goal

-- the least of the limit and of the lists of the loads below this one
abbrev pub invariant-loads : goal.invariant-loads
invariant-loads l = record {
  within : l.found.least ≤ℤ l.leaf.limit;
  below : IsBelowTable l.leaf.nodes.now.nodes l.leaf.nodes.now.depot (link_in l.leaf.nodes.now.rows.now) l.table l.load l.found.least;
  met : (l.found.least ≡ l.leaf.limit)
      ⊎ IsMetBelow l.leaf.nodes.now.nodes l.leaf.nodes.now.depot (link_in l.leaf.nodes.now.rows.now) l.table (length l.table) l.found.least;
}
