-- The goals of `examples_of_bounds` in src/examples.rt: what it ensures.
use Rattle.tsp_cases.proofs.SmallFamilies.{four_have_five, four_have_six, six_have_nine, six_have_ten}
use Rattle.tsp_cases.proofs.examples.examples_of_bounds.Goals as goal

-- plan: for each example the minimum 1-tree is found by Prim's method, tested pair by pair, and its bound computed
pub returns-clause-potentials_alone : goal.returns-clause-potentials_alone
returns-clause-potentials_alone c = four_have_five

pub returns-clause-branch : goal.returns-clause-branch
returns-clause-branch c = four_have_six

pub returns-clause-no_multiplier : goal.returns-clause-no_multiplier
returns-clause-no_multiplier c = six_have_nine

pub returns-clause-comb : goal.returns-clause-comb
returns-clause-comb c = six_have_ten
