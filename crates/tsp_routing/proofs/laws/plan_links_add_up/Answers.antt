-- The goals of `plan_links_add_up` in src/laws.rt: what it ensures.
use Rattle.tsp_routing.proofs.Plans.{lengths_are_weights, plan_sums, plans_have_few_routes}
use Rattle.tsp_routing.proofs.laws.plan_links_add_up.Goals as goal

-- plan: route by route: the first nodes of its links are the depot and its customers, and so are the second ones
pub returns : goal.returns
returns c = record { weights = lengths_are_weights; sums = plan_sums; few = plans_have_few_routes }
