-- The goals of `examples_of_numbers` in src/examples.rt: what it ensures.
use Rattle.tsp_theory.proofs.Prelude.{arith, pos, ◌≤ℤ◌, ints}
use Rattle.tsp_theory.proofs.examples.examples_of_numbers.Goals as goal

-- plan: the example is computed from the definition
-- 2 at the scale 2 is no less than 4
pub returns-clause-not_above : goal.returns-clause-not_above
returns-clause-not_above c = λ bound. (
    let low : pos 3 ≤ℤ pos 2 = bound.least (pos 2) (omega (arith, ints)) in
    omega (arith, ints, low))
