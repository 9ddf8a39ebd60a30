-- The loop of `halves_of` in src/run_bound.rt.
use Rattle.tsp_routing.proofs.Prelude.{◌≡◌, ◌^◌, drop, map, pos, neg_ℤ, ◌+ℤ◌, ◌-ℤ◌, ◌*ℤ◌, ◌≤ℤ◌}
use Rattle.tsp_routing.specs.PlanVerdicts.{sizes_total}
use Rattle.tsp_format.specs.states.TreeSteps.{subset_row_of}
use Rattle.tsp_routing.specs.states.RunJudged.{halves_with}
use Rattle.tsp_routing.proofs.run_bound.halves_of.Given as goal

-- the sum so far, and what the rows left give back, are what all give back. So far it is at most 2^33 times the charges
-- of those before
abbrev pub invariant-rows : goal.invariant-rows
invariant-rows l = record {
  low : (neg_ℤ (pos (2 ^ 33)) *ℤ (sizes_total l.charges -ℤ sizes_total (drop l.index l.charges))) ≤ℤ l.sum;
  high : l.sum ≤ℤ (pos (2 ^ 33) *ℤ (sizes_total l.charges -ℤ sizes_total (drop l.index l.charges)));
  so_far : (l.sum +ℤ halves_with (drop l.index (map subset_row_of l.rows)) (drop l.index l.charges)) ≡ halves_with (map subset_row_of l.rows) l.charges;
}
