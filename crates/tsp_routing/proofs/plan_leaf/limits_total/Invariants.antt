-- The loop of `limits_total` in src/plan_leaf.rt.
use Rattle.tsp_routing.proofs.Prelude.{◌≡◌, ◌+◌, ◌-◌, ◌*◌, ◌^◌, drop, pos, neg_ℤ, ◌+ℤ◌, ◌-ℤ◌, ◌*ℤ◌, ◌≤ℤ◌, decisions_in}
use Rattle.tsp_routing.specs.PlanVerdicts.{sizes_total}
use Rattle.tsp_routing.specs.states.LeafWeights.{numbers_total}
use Rattle.tsp_routing.proofs.plan_leaf.limits_total.Given as goal

-- the sum so far, and what the multipliers left give back, are what all give back. So far it is at most 2^33 times the
-- sizes of those before
abbrev pub invariant-families : goal.invariant-families
invariant-families l = record {
  low : (neg_ℤ (pos (2 ^ 33)) *ℤ (sizes_total l.multipliers -ℤ sizes_total (drop l.index l.multipliers))) ≤ℤ l.sum;
  high : l.sum ≤ℤ (pos (2 ^ 33) *ℤ (sizes_total l.multipliers -ℤ sizes_total (drop l.index l.multipliers)));
  so_far : (l.sum +ℤ numbers_total (decisions_in l.case) (2 * (l.nodes - 1)) (l.nodes + 1 + l.index) (drop l.index l.crossed)
      (drop l.index l.multipliers)) ≡ numbers_total (decisions_in l.case) (2 * (l.nodes - 1)) (l.nodes + 1) l.crossed l.multipliers;
}
