-- The goals of `examples_of_bound_reports` in src/examples.rt: what it ensures.
use Rattle.tsp_report.proofs.Prelude.{refl, digits}
use Rattle.tsp_report.proofs.examples.examples_of_bound_reports.Goals as goal

-- plan: each example is computed
pub returns-clause-bound : goal.returns-clause-bound
unfolding digits
returns-clause-bound c = refl

pub returns-clause-no_tour : goal.returns-clause-no_tour
unfolding digits
returns-clause-no_tour c = refl

pub returns-clause-no : goal.returns-clause-no
unfolding digits
returns-clause-no c = refl

pub returns-clause-unjudged : goal.returns-clause-unjudged
unfolding digits
returns-clause-unjudged c = refl

pub returns-clause-unused : goal.returns-clause-unused
unfolding digits
returns-clause-unused c = refl
