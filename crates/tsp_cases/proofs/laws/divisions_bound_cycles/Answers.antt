-- The goals of `divisions_bound_cycles` in src/laws.rt: what it ensures.
use Rattle.tsp_cases.proofs.Divisions.{divisions_bound_cycles}
use Rattle.tsp_cases.proofs.laws.divisions_bound_cycles.Goals as goal

-- plan: a cycle is a walk through the parts. Without its repetitions it is a cyclic order of them that is no longer, by
-- the triangle inequality
pub returns : goal.returns
returns c = divisions_bound_cycles
