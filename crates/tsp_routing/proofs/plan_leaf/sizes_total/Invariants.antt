-- The loop of `sizes_total` in src/plan_leaf.rt.
use Rattle.tsp_routing.proofs.Prelude.{◌≡◌, ◌*◌, drop, pos, ◌+ℤ◌, IsFromTo}
use Rattle.tsp_routing.specs.PlanVerdicts.{most_of_multipliers, sizes_total}
use Rattle.tsp_routing.proofs.plan_leaf.sizes_total.Given as goal

-- the sum so far and the sizes left are the sum of all sizes, no more than as many multipliers can have
abbrev pub invariant-multipliers : goal.invariant-multipliers
invariant-multipliers l = record {
  size : IsFromTo (pos 0) (pos (l.multiplier-index * most_of_multipliers)) l.sum;
  so_far : (l.sum +ℤ sizes_total (drop l.multiplier-index l.multipliers)) ≡ sizes_total l.multipliers;
}
