-- The loop of `best_paths` in src/family.rt, which finds the best paths through all sets of parts.
use Rattle.tsp_cases.proofs.Prelude.{◌≡◌, ◌+◌, ◌-◌, ◌*◌, ◌≤◌, length, All}
use Rattle.tsp_cases.specs.Crossings.{cost_by_rows, no_path, AreBestPaths}
use Rattle.tsp_cases.proofs.family.best_paths.Given as goal

-- the table has the best paths of the sets before this one
abbrev pub invariant-sets : goal.invariant-sets
invariant-sets l = record {
  long : length l.paths.items ≡ l.set * (l.between.nodes - 1);
  small : All (λ path. path ≤ no_path) l.paths.items;
  best : AreBestPaths l.between.nodes (cost_by_rows l.between.nodes l.between.costs.now) l.paths.items;
}

-- the table has the best paths of the sets before this one, and of this set those of the nodes before this one
abbrev pub invariant-nodes : goal.invariant-nodes
invariant-nodes l = record {
  long : length l.paths.items ≡ l.set * (l.between.nodes - 1) + l.other;
  small : All (λ path. path ≤ no_path) l.paths.items;
  best : AreBestPaths l.between.nodes (cost_by_rows l.between.nodes l.between.costs.now) l.paths.items;
}
