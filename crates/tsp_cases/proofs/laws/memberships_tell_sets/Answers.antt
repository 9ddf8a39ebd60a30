-- The goals of `memberships_tell_sets` in src/laws.rt: what it ensures.
use Rattle.tsp_cases.proofs.Divisions.{memberships_tell_sets}
use Rattle.tsp_cases.proofs.laws.memberships_tell_sets.Goals as goal

-- plan: by induction over the sets: equal numbers have equal lowest bits, which say whether the first set has the node
pub returns : goal.returns
returns c = memberships_tell_sets
