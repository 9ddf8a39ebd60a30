-- The goals of `examples_of_most` in src/examples.rt: what it ensures.
use Rattle.tsp_routing.proofs.Prelude.{ℕ, ◌<◌, ◌+◌, ◌*◌, arith, subst, pos, negsuc, ◌≤ℤ◌, ints}
use Rattle.tsp_routing.specs.Examples.{rectangle_with}
use Rattle.tsp_routing.specs.PlanLinks.{capacity_in_parts}
use Rattle.tsp_routing.specs.PlanVerdicts.{most_entries}
use Rattle.tsp_routing.proofs.SmallCases.{in_ones, none_below_one}
use Rattle.tsp_routing.proofs.examples.examples_of_most.Goals as goal

-- plan: no customer demands less than 1 (`none_below_one`), so a route carries its capacity
pub returns-clause-as_many_loads : goal.returns-clause-as_many_loads
returns-clause-as_many_loads c = λ has.
    let many : 10000000 < 10000000 =
    subst (λ light. most_entries < (4 * (capacity_in_parts (rectangle_with (pos 2499999)) 1 light + 1)))
    (none_below_one (pos 2499999) has.light has.units) has.many in
    omega (arith, many)

pub returns-clause-more_loads : goal.returns-clause-more_loads
returns-clause-more_loads c = record { light = 0; units = in_ones (pos 2500000); many = omega arith }

pub returns-clause-larger : goal.returns-clause-larger
returns-clause-larger c = λ good.
    let sum : pos 300000000000000001 ≤ℤ pos 300000000000000000 = good.sum in
    omega (arith, ints, sum)

pub returns-clause-larger_of_both_signs : goal.returns-clause-larger_of_both_signs
returns-clause-larger_of_both_signs c = λ good.
    let sum : pos 300000000000000001 ≤ℤ pos 300000000000000000 = good.sum in
    omega (arith, ints, sum)
