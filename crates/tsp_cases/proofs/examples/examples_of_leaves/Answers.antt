-- The goals of `examples_of_leaves` in src/examples.rt: what it ensures.
use Rattle.tsp_cases.proofs.SmallCaseTrees.{leaf_alone, leaf_with_arc}
use Rattle.tsp_cases.proofs.examples.examples_of_leaves.Goals as goal

-- plan: the least arcs of three nodes are given, and no allowed arc weighs less: without a decision (`leaf_alone`), and
-- with a taken arc (`leaf_with_arc`)
pub returns-clause-alone : goal.returns-clause-alone
returns-clause-alone c = leaf_alone

pub returns-clause-taken : goal.returns-clause-taken
returns-clause-taken c = leaf_with_arc
