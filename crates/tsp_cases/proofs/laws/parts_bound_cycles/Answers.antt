-- The goals of `parts_bound_cycles` in src/laws.rt: what it ensures.
use Rattle.tsp_cases.proofs.PartWalks.{parts_bound_cycles}
use Rattle.tsp_cases.proofs.laws.parts_bound_cycles.Goals as goal

-- plan: a cycle goes through each part, and crosses the sets as often as its walk through the parts. That is no shorter
-- than their best order
pub returns : goal.returns
returns c = parts_bound_cycles
