-- The goals of `examples_of_heads` in src/examples.rt: what it ensures.
use Rattle.tsp_report.proofs.Prelude.{refl, digits}
use Rattle.tsp_report.proofs.examples.examples_of_heads.Goals as goal

-- plan: each example is computed
pub returns-clause-alone : goal.returns-clause-alone
unfolding digits
returns-clause-alone c = refl

pub returns-clause-bounded : goal.returns-clause-bounded
unfolding digits
returns-clause-bounded c = refl

pub returns-clause-no_tour : goal.returns-clause-no_tour
unfolding digits
returns-clause-no_tour c = refl

pub returns-clause-routes : goal.returns-clause-routes
unfolding digits
returns-clause-routes c = refl

pub returns-clause-no : goal.returns-clause-no
unfolding digits
returns-clause-no c = refl

pub returns-clause-bounded_routes : goal.returns-clause-bounded_routes
unfolding digits
returns-clause-bounded_routes c = refl

pub returns-clause-unjudged : goal.returns-clause-unjudged
unfolding digits
returns-clause-unjudged c = refl
