-- The goals of `sets_tell_combs` in src/laws.rt: what it ensures.
use Rattle.tsp_cases.proofs.FamilyCrossings.{sets_tell_combs, sets_give_leaves}
use Rattle.tsp_cases.proofs.laws.sets_tell_combs.Goals as goal

-- plan: the sum over all sets is split by families, of which each has its multiplier (`sets_tell_combs`); so the
-- weights are those of a leaf (`sets_give_leaves`)
pub returns : goal.returns
returns c = record { combs = sets_tell_combs; leaves = sets_give_leaves }
