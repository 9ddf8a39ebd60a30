-- The goals of `examples_of_lines` in src/examples.rt: what it ensures.
use Rattle.tsp_report.proofs.Prelude.{refl, digits}
use Rattle.tsp_report.proofs.examples.examples_of_lines.Goals as goal

-- plan: each example is computed
pub returns-clause-alone : goal.returns-clause-alone
unfolding digits
returns-clause-alone c = refl

pub returns-clause-optimal : goal.returns-clause-optimal
unfolding digits
returns-clause-optimal c = refl

pub returns-clause-gap : goal.returns-clause-gap
unfolding digits
returns-clause-gap c = refl

pub returns-clause-below_zero : goal.returns-clause-below_zero
unfolding digits
returns-clause-below_zero c = refl

pub returns-clause-routes : goal.returns-clause-routes
unfolding digits
returns-clause-routes c = refl

pub returns-clause-no : goal.returns-clause-no
unfolding digits
returns-clause-no c = refl

pub returns-clause-stray : goal.returns-clause-stray
unfolding digits
returns-clause-stray c = refl

pub returns-clause-number : goal.returns-clause-number
unfolding digits
returns-clause-number c = refl

pub returns-clause-missing : goal.returns-clause-missing
unfolding digits
returns-clause-missing c = refl

pub returns-clause-device : goal.returns-clause-device
unfolding digits
returns-clause-device c = refl

pub returns-clause-too_long : goal.returns-clause-too_long
unfolding digits
returns-clause-too_long c = refl

pub returns-clause-optimal_routes : goal.returns-clause-optimal_routes
unfolding digits
returns-clause-optimal_routes c = refl

pub returns-clause-gap_of_routes : goal.returns-clause-gap_of_routes
unfolding digits
returns-clause-gap_of_routes c = refl
