-- The goals of `decided_bounds_bound_cycles` in src/laws.rt: what it ensures.
use Rattle.tsp_cases.proofs.LeavesBoundCycles.{decided_bounds_bound_cycles}
use Rattle.tsp_cases.proofs.laws.decided_bounds_bound_cycles.Goals as goal

-- plan: a cycle that keeps the decisions uses each taken pair and no avoided one, so the bound with numbers on pairs of
-- tsp_theory applies
pub returns : goal.returns
returns c = decided_bounds_bound_cycles c.adjusted_bounds_bound_cycles.ensures.cycles
