-- The goals of `parts_tell_cycles` in src/laws.rt: what it ensures.
use Rattle.tsp_cases.proofs.Divisions.{parts_tell_cycles}
use Rattle.tsp_cases.proofs.laws.parts_tell_cycles.Goals as goal

-- plan: each node is put into the best order of the parts behind the first one of its part, which crosses no set more
pub returns : goal.returns
returns c = parts_tell_cycles
