-- The goals of `step_table` in src/run_steps.rt, which makes the table of a step: what it ensures.
use Rattle.tsp_routing.proofs.Prelude.{arith, ◌≤◌}
use Rattle.tsp_routing.proofs.run_steps.step_table.Goals as goal

pub returns : goal.returns
returns c = record {
  few = c.requires;
  flips = c.flips_of-flips.ensures;
  passed = λ bits few. c.in_ok-passed.ensures bits few;
  paid = λ bits few. c.in_ok-paid.ensures.charge bits few;
  few_paid = let few = c.in_ok-paid.ensures.few in omega (arith, few, c.requires);
}
