-- The loop of `least_sum` in src/family.rt, which finds the least sum of a step and a best path.
use Rattle.tsp_cases.specs.Crossings.{IsLeastSum}
use Rattle.tsp_cases.proofs.family.least_sum.Given as goal

-- `least` is the least of `start` and of the sums at the places before this one
abbrev pub invariant-places : goal.invariant-places
invariant-places l = IsLeastSum l.start l.costs l.paths l.cost_at l.path_at l.place l.least
