-- The goals of `most_costs_are_unique` in src/laws.rt: what it ensures.
use Rattle.tsp_cases.proofs.PartWalks.{most_costs_are_unique}
use Rattle.tsp_cases.proofs.laws.most_costs_are_unique.Goals as goal

-- plan: each of two greatest costs is at most the other, since some two nodes have it
pub returns : goal.returns
returns c = most_costs_are_unique
