-- The goals of `examples_of_cases` in src/examples.rt: what it ensures.
use Rattle.tsp_cases.proofs.SmallCaseTrees.{once, turned, turned_arcs, given_too}
use Rattle.tsp_cases.proofs.examples.examples_of_cases.Goals as goal

-- plan: each list of cases is computed, and its decisions are compared pair by pair
pub returns : goal.returns
returns c = record {
  once = once;
  turned = turned;
  arcs = turned_arcs;
  given = given_too;
}
