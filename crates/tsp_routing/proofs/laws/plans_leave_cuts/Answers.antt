-- The goals of `plans_leave_cuts` in src/laws.rt: what it ensures.
use Rattle.tsp_routing.proofs.Plans.{plans_leave_cuts, plans_cross_cuts}
use Rattle.tsp_routing.proofs.laws.plans_leave_cuts.Goals as goal

-- plan: each route with a customer of the cut leaves it and enters it, and carries no more than the capacity
pub returns : goal.returns
returns c = record { cuts = plans_leave_cuts; families = plans_cross_cuts }
