-- The goals of `fixed_bounds_bound_tours` in src/laws.rt: what it ensures.
use Rattle.tsp_cases.proofs.LeavesBoundCycles.{fixed_bounds_bound_tours}
use Rattle.tsp_cases.proofs.laws.fixed_bounds_bound_tours.Goals as goal

-- plan: a tour uses each fixed pair, so the bound with numbers on pairs of tsp_theory applies
pub returns : goal.returns
returns c = fixed_bounds_bound_tours c.adjusted_bounds_bound_cycles.ensures.cycles
