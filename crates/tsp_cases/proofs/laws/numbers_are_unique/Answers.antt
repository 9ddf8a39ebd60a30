-- The goals of `numbers_are_unique` in src/laws.rt: what it ensures.
use Rattle.tsp_cases.proofs.FamilyCrossings.{numbers_are_unique}
use Rattle.tsp_cases.proofs.laws.numbers_are_unique.Goals as goal

-- plan: by the kind of family: a lone set or a comb has numbers by a formula. Of other sets the least cycle has one
-- length, and the most costs one number
pub returns : goal.returns
returns c = numbers_are_unique c.least_lengths_are_unique.ensures c.most_costs_are_unique.ensures
