-- The goals of `case_tree_bounds_are_unique` in src/laws.rt: what it ensures.
use Rattle.tsp_cases.proofs.LeavesBoundCycles.{case_tree_bounds_are_unique}
use Rattle.tsp_cases.proofs.laws.case_tree_bounds_are_unique.Goals as goal

-- plan: two minimum 1-trees weigh the same, so a leaf has one bound at most, and the least of these is one number
pub returns : goal.returns
returns c = case_tree_bounds_are_unique
