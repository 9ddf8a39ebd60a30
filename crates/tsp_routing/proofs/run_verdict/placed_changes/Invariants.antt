-- The loop of `placed_changes` in src/run_verdict.rt.
use Rattle.std.proofs.Common.{◌≡◌, ◌++◌, drop}
use Rattle.tsp_routing.specs.RunTrees.{placed_changes}
use Rattle.tsp_routing.proofs.run_verdict.placed_changes.Given as goal

-- with the differences left, the list has all
abbrev pub invariant-changes : goal.invariant-changes
invariant-changes l = l.placed.items ++ placed_changes l.nodes l.families (drop l.change-index l.changes)
    ≡ placed_changes l.nodes l.families l.changes
