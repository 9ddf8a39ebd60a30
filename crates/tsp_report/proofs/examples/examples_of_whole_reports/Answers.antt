-- The goals of `examples_of_whole_reports` in src/examples.rt: what it ensures.
use Rattle.tsp_report.proofs.Prelude.{refl, digits}
use Rattle.tsp_report.proofs.examples.examples_of_whole_reports.Goals as goal

-- plan: each example is computed
pub returns-clause-yes : goal.returns-clause-yes
unfolding digits
returns-clause-yes c = refl

pub returns-clause-no : goal.returns-clause-no
unfolding digits
returns-clause-no c = refl

pub returns-clause-routes : goal.returns-clause-routes
unfolding digits
returns-clause-routes c = refl

pub returns-clause-optimal_routes : goal.returns-clause-optimal_routes
unfolding digits
returns-clause-optimal_routes c = refl

pub returns-clause-bounded_routes : goal.returns-clause-bounded_routes
unfolding digits
returns-clause-bounded_routes c = refl

pub returns-clause-unjudged : goal.returns-clause-unjudged
unfolding digits
returns-clause-unjudged c = refl

pub returns-clause-unused : goal.returns-clause-unused
unfolding digits
returns-clause-unused c = refl
