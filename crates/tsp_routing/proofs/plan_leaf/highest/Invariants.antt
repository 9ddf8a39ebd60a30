-- The loop of `highest` in src/plan_leaf.rt.
use Rattle.tsp_routing.proofs.Prelude.{◌≡◌, ◌≤◌, take, stack_of}
use Rattle.tsp_routing.specs.PlanBounds.{high_of}
use Rattle.tsp_routing.proofs.plan_leaf.highest.Given as goal

-- `high` is what the limits so far leave of `own`, and no larger
abbrev pub invariant-limits : goal.invariant-limits
invariant-limits l = record {
  value : l.high ≡ high_of l.place (stack_of (take l.limit-index l.decisions)) l.own;
  most : l.high ≤ l.own;
}
