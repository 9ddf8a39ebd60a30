-- The goals of `examples_of_limits` in src/examples.rt: what it ensures.
use Rattle.tsp_cases.proofs.SmallFamilies.{most_sets, most_parts, more_parts}
use Rattle.tsp_cases.proofs.examples.examples_of_limits.Goals as goal

-- plan: 63 sets are few enough (`most_sets`), and so are 14 parts (`most_parts`); a 15th part is too many
-- (`more_parts`)
pub returns-clause-most_sets : goal.returns-clause-most_sets
returns-clause-most_sets c = most_sets c.unlike_nodes_need_parts.ensures

pub returns-clause-most_parts : goal.returns-clause-most_parts
returns-clause-most_parts c = most_parts c.unlike_nodes_need_parts.ensures

pub returns-clause-more_parts : goal.returns-clause-more_parts
returns-clause-more_parts c = more_parts
