-- The goals of `examples_of_leaves` in src/examples.rt: what it ensures.
use Rattle.tsp_routing.proofs.SmallCases.{low, high, low_of_case, high_of_case, most_routes}
use Rattle.tsp_routing.proofs.examples.examples_of_leaves.Goals as goal

-- plan: each sum is computed, with two as the fewest routes
pub returns : goal.returns
returns c = record {
  low = low;
  high = high;
  low_of_case = low_of_case;
  high_of_case = high_of_case;
  most_routes = most_routes;
}
