-- The goals of `examples_of_links` in src/examples.rt: what it ensures.
use Rattle.tsp_cases.proofs.SmallCaseTrees.{row_of_taken, column_of_taken, avoided, second_decision}
use Rattle.tsp_cases.proofs.examples.examples_of_links.Goals as goal

-- plan: an arc is compared with each decision: it is allowed by all, or one forbids it
pub returns-clause-row_of_taken : goal.returns-clause-row_of_taken
returns-clause-row_of_taken c = row_of_taken

pub returns-clause-column_of_taken : goal.returns-clause-column_of_taken
returns-clause-column_of_taken c = column_of_taken

pub returns-clause-avoided : goal.returns-clause-avoided
returns-clause-avoided c = avoided

pub returns-clause-second_decision : goal.returns-clause-second_decision
returns-clause-second_decision c = second_decision
