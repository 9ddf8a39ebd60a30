-- The loop of `lowest` in src/plan_leaf.rt.
use Rattle.tsp_routing.proofs.Prelude.{◌≡◌, ◌≤◌, ◌^◌, take, stack_of}
use Rattle.tsp_routing.specs.PlanBounds.{low_of}
use Rattle.tsp_routing.proofs.plan_leaf.lowest.Given as goal

-- `low` is what the limits so far make of `own`
abbrev pub invariant-limits : goal.invariant-limits
invariant-limits l = record {
  value : l.low ≡ low_of l.place (stack_of (take l.limit-index l.decisions)) l.own;
  most : l.low ≤ 2 ^ 33;
}
