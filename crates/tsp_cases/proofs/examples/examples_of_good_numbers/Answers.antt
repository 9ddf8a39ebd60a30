-- The goals of `examples_of_good_numbers` in src/examples.rt: what it ensures.
use Rattle.tsp_cases.proofs.Prelude.{arith, pos, negsuc, ◌≤ℤ◌}
use Rattle.tsp_cases.proofs.examples.examples_of_good_numbers.Goals as goal

-- plan: each example is computed
pub returns-clause-below_zero : goal.returns-clause-below_zero
returns-clause-below_zero c = λ good. let sign : pos 0 ≤ℤ negsuc 0 = good.signs 1 (pos 0) (omega arith) in omega (arith, sign)

pub returns-clause-larger_potential : goal.returns-clause-larger_potential
returns-clause-larger_potential c = λ good.
    let most : pos 1000000000000001 ≤ℤ pos 1000000000000000 = (good.potentials_are 2 (pos 0) (omega arith)).1 in
    omega (arith, most)

pub returns-clause-lower_potential : goal.returns-clause-lower_potential
returns-clause-lower_potential c = λ good.
    let least : negsuc 999999999999999 ≤ℤ negsuc 1000000000000000 = (good.potentials_are 2 (pos 0) (omega arith)).0 in
    omega (arith, least)
