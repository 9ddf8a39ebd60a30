-- The goals of `examples_of_rows` in src/examples.rt: what it ensures.
use Rattle.tsp_cases.proofs.SmallCaseTrees.{none_left, without_decisions, with_arc, without_arc, rounded_up, given_back}
use Rattle.tsp_cases.proofs.examples.examples_of_rows.Goals as goal

-- plan: the least arc from each node is given, and each other one is forbidden or weighs no less
pub returns-clause-none_left : goal.returns-clause-none_left
returns-clause-none_left c = none_left

pub returns-clause-no_decision : goal.returns-clause-no_decision
returns-clause-no_decision c = without_decisions

pub returns-clause-taken : goal.returns-clause-taken
returns-clause-taken c = with_arc

pub returns-clause-avoided : goal.returns-clause-avoided
returns-clause-avoided c = without_arc

pub returns-clause-rounded_up : goal.returns-clause-rounded_up
returns-clause-rounded_up c = rounded_up

pub returns-clause-given_back : goal.returns-clause-given_back
returns-clause-given_back c = given_back
