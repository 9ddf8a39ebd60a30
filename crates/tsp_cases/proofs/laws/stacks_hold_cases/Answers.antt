-- The goals of `stacks_hold_cases` in src/laws.rt: what it ensures.
use Rattle.tsp_cases.proofs.CaseLaws.{stacks_hold_cases}
use Rattle.tsp_cases.proofs.laws.stacks_hold_cases.Goals as goal

-- plan: by induction over the stack: a taken pair leaves two cases, itself and the avoided pair, and an avoided one
-- none beside
pub returns-clause-leaf : goal.returns-clause-leaf
returns-clause-leaf c = stacks_hold_cases
