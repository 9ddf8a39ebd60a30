-- The loop of `ways_home` in src/run_leaf.rt.
use Rattle.std.proofs.Common.{◌≡◌, ℕ, ℤ, List, length}
use Rattle.tsp_format.specs.Steps.{SubsetRow}
use Rattle.tsp_routing.specs.states.RunTables.{rules_by, AreHomeRows, AreHomeRowsSized}
use Rattle.tsp_routing.proofs.run_leaf.ways_home.Given as goal

-- the table has the rows of the loads below this one
abbrev pub invariant-lefts : goal.invariant-lefts
invariant-lefts l = record {
  long : length l.table.items ≡ l.left;
  rows : (near : ℕ → List ℕ) (rows : List (SubsetRow × ℤ))
      → AreHomeRows (rules_by l.run_nodes.nodes l.run_nodes.depot l.run_nodes.loads.now l.run_nodes.room l.run_nodes.rows.now near rows) l.table.items;
  sizes : AreHomeRowsSized l.run_nodes.nodes l.table.items;
}
