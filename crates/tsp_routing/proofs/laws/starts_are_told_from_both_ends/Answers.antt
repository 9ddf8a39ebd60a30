-- The goals of `starts_are_told_from_both_ends` in src/laws.rt: what it ensures.
use Rattle.tsp_routing.proofs.KeptStarts.{kept_starts_are_starts, starts_are_kept_starts}
use Rattle.tsp_routing.proofs.laws.starts_are_told_from_both_ends.Goals as goal

-- plan: customer by customer, with what was told so far
pub returns-clause-from_the_first : goal.returns-clause-from_the_first
returns-clause-from_the_first c = kept_starts_are_starts

pub returns-clause-from_the_last : goal.returns-clause-from_the_last
returns-clause-from_the_last c = starts_are_kept_starts
