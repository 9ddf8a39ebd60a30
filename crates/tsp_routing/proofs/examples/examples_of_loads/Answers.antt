-- The goals of `examples_of_loads` in src/examples.rt: what it ensures.
use Rattle.tsp_routing.proofs.SmallCases.{in_fours, in_fives}
use Rattle.tsp_routing.proofs.examples.examples_of_loads.Goals as goal

-- plan: the light customers are counted
pub returns-clause-none_light : goal.returns-clause-none_light
returns-clause-none_light c = in_fours

pub returns-clause-all_light : goal.returns-clause-all_light
returns-clause-all_light c = in_fives
