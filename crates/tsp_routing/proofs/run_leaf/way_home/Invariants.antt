-- The loop of `way_home` in src/run_leaf.rt.
use Rattle.tsp_routing.proofs.Prelude.{◌≡◌, ◌≤◌, ◌+◌, ◌*◌, ℕ, ℤ, pos, neg_ℤ, ◌≤ℤ◌}
use Rattle.tsp_routing.specs.PlanBounds.{most_link}
use Rattle.tsp_routing.specs.states.RunTables.{AreOnwardsSized, IsWayBelowTo, IsWayMetTo}
use Rattle.tsp_routing.proofs.run_leaf.way_home.Given as goal

-- `least` is the least of the way back and of the ways over the nodes up to `index`
abbrev pub invariant-nexts : goal.invariant-nexts
invariant-nexts l = record {
  below : IsWayBelowTo l.run_nodes.depot l.run_nodes.rows.now l.onward l.node l.index l.least;
  met : IsWayMetTo l.run_nodes.depot l.run_nodes.rows.now l.onward l.node l.index l.least;
  size : (links : ℕ) → AreOnwardsSized l.run_nodes.nodes links l.onward → neg_ℤ (pos ((links + 1) * most_link)) ≤ℤ l.least;
  most : l.least ≤ℤ pos most_link;
}
