-- The goals of `least_lengths_are_unique` in src/laws.rt: what it ensures.
use Rattle.tsp_cases.proofs.PartWalks.{least_lengths_are_unique}
use Rattle.tsp_cases.proofs.laws.least_lengths_are_unique.Goals as goal

-- plan: each of two least lengths is at most the other, since some cycle has it
pub returns : goal.returns
returns c = least_lengths_are_unique
