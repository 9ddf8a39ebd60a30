-- The goals of `cycles_keep_leaves` in src/laws.rt: what it ensures.
use Rattle.tsp_cases.proofs.CaseLaws.{cycles_keep_leaves}
use Rattle.tsp_cases.proofs.laws.cycles_keep_leaves.Goals as goal

-- plan: at a branch a cycle uses the pair or avoids it, so it stays in one of the open cases (`leaves_are_kept`)
pub returns : goal.returns
returns c = cycles_keep_leaves
