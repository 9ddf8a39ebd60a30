-- The loop of `least_of_list` in src/run_bound.rt.
use Rattle.tsp_routing.proofs.Prelude.{◌≡◌, List, take, ◌⊎◌, ◌≤ℤ◌}
use Rattle.tsp_routing.specs.states.RunTables.{link_in}
use Rattle.tsp_routing.specs.states.KeptLists.{IsBelowEntries, IsMetBy}
use Rattle.tsp_routing.proofs.run_bound.least_of_list.Given as goal

-- the least of the weight at the call and of the first `index` entries
abbrev pub invariant-entries : goal.invariant-entries
invariant-entries l = record {
  keeps : l.found.least ≤ℤ l.fn.begun.least;
  below : IsBelowEntries l.found.least (link_in l.leaf.nodes.now.rows.now l.last l.leaf.nodes.now.depot) (take l.index l.entries);
  met : (l.found.least ≡ l.fn.begun.least)
      ⊎ IsMetBy l.found.least (link_in l.leaf.nodes.now.rows.now l.last l.leaf.nodes.now.depot) l.entries;
}
