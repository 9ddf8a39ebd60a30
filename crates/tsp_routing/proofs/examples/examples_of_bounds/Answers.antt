-- The goals of `examples_of_bounds` in src/examples.rt: what it ensures.
use Rattle.tsp_routing.proofs.SmallCases.{twelve, eighteen, ten, none}
use Rattle.tsp_routing.proofs.examples.examples_of_bounds.Goals as goal

-- plan: with a capacity of 8 there are nine walks, and SmallCases.antt tests for each leaf which is the least
-- (`twelve`, `eighteen`, `ten`); with a capacity of 3 there is none (`none`)
pub returns : goal.returns
returns c = record {
  no_numbers = twelve;
  potentials = eighteen;
  branch = ten;
  no_q_route = none;
}
