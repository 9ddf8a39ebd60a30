-- The goals of `examples_of_runs` in src/examples.rt: what it ensures.
use Rattle.tsp_routing.proofs.Prelude.{◌≡◌, true, false, [], ◌∷◌, refl, arith, true≢false}
use Rattle.tsp_routing.proofs.examples.examples_of_runs.Goals as goal

-- plan: a list that isn't a run breaks a rule at one step
pub returns-clause-remembered : goal.returns-clause-remembered
returns-clause-remembered c = λ run. true≢false run.2.1.0.unseen

pub returns-clause-twice_in_a_row : goal.returns-clause-twice_in_a_row
returns-clause-twice_in_a_row c = λ run. run.2.0.other refl

pub returns-clause-too_heavy : goal.returns-clause-too_heavy
returns-clause-too_heavy c = λ run. omega (arith, run.2.1.1.1.0.within)

pub returns-clause-depot : goal.returns-clause-depot
returns-clause-depot c = λ run. run.2.0.customer.1 refl
