-- The goals of `plans_are_charged_half` in src/laws.rt: what it ensures.
use Rattle.tsp_routing.proofs.RunsBoundPlans.{runs_weigh_links_and_charges, rows_are_charged_for_two, plans_are_charged_half, plans_weigh_at_most}
use Rattle.tsp_routing.proofs.laws.plans_are_charged_half.Goals as goal

-- plan: along a run, twice the charges are at most the customers of the set, less one if the parity is odd; the
-- routes of a plan part the set
pub returns : goal.returns
returns c = record {
  weights = runs_weigh_links_and_charges;
  run = rows_are_charged_for_two;
  plan = plans_are_charged_half;
  all = plans_weigh_at_most;
}
