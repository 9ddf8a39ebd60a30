-- The goals of `examples_of_run_bounds` in src/examples.rt: what it ensures.
use Rattle.tsp_routing.proofs.Prelude.{◌≡◌, ◌≢◌, ℕ, [], ◌∷◌, refl, arith, inl, inr, ℤ, pos, negsuc, ◌≤ℤ◌, ints, nodes_to, IsCustomer}
use Rattle.tsp_routing.specs.Runs.{IsRunUnder, run_weight}
use Rattle.tsp_routing.specs.RunBounds.{IsRunBound}
use Rattle.tsp_routing.proofs.SmallCases.{rules_with, AreAbove, all_above}
use Rattle.tsp_routing.proofs.examples.examples_of_run_bounds.Goals as goal

-- customers 3 and 4, of which the run's weight is the least
last_two : (charge : ℤ) → IsRunUnder (rules_with charge) (3 ∷ 4 ∷ [])
last_two charge = (
  ((omega arith, omega arith), λ same. omega (arith, same)),
  omega arith,
  (
    record {
      customer = ((omega arith, omega arith), λ same. omega (arith, same));
      other = λ same. omega (arith, same);
      unseen = refl;
      within = omega arith;
    },
    tt,
  ),
)

-- plan: the weights of all runs of one and of two customers (`all_above`), and then the sum
pub returns-clause-no_charge : goal.returns-clause-no_charge
unfolding nodes_to
returns-clause-no_charge c =
    let are : AreAbove (pos 0) (negsuc 5) = record {
      two = omega (arith, ints);
      three = omega (arith, ints);
      four = omega (arith, ints);
      two_three = omega (arith, ints);
      three_two = omega (arith, ints);
      two_four = omega (arith, ints);
      four_two = omega (arith, ints);
      three_four = omega (arith, ints);
      four_three = omega (arith, ints);
    } in
    record {
      each = negsuc 5;
      least = record { within = omega (arith, ints); below = all_above (pos 0) (negsuc 5) are; met = inr (3 ∷ 4 ∷ [], last_two (pos 0), refl) };
      bound_is = record { above = omega (arith, ints); least = λ other above. omega (arith, ints, above) };
    }

pub returns-clause-small_charge : goal.returns-clause-small_charge
unfolding nodes_to
returns-clause-small_charge c =
    let are : AreAbove (pos 2) (negsuc 3) = record {
      two = omega (arith, ints);
      three = omega (arith, ints);
      four = omega (arith, ints);
      two_three = omega (arith, ints);
      three_two = omega (arith, ints);
      two_four = omega (arith, ints);
      four_two = omega (arith, ints);
      three_four = omega (arith, ints);
      four_three = omega (arith, ints);
    } in
    record {
      each = negsuc 3;
      least = record { within = omega (arith, ints); below = all_above (pos 2) (negsuc 3) are; met = inr (3 ∷ 4 ∷ [], last_two (pos 2), refl) };
      bound_is = record { above = omega (arith, ints); least = λ other above. omega (arith, ints, above) };
    }

pub returns-clause-charge : goal.returns-clause-charge
unfolding nodes_to
returns-clause-charge c =
    let are : AreAbove (pos 6) (pos 0) = record {
      two = omega (arith, ints);
      three = omega (arith, ints);
      four = omega (arith, ints);
      two_three = omega (arith, ints);
      three_two = omega (arith, ints);
      two_four = omega (arith, ints);
      four_two = omega (arith, ints);
      three_four = omega (arith, ints);
      four_three = omega (arith, ints);
    } in
    record {
      each = pos 0;
      least = record { within = omega (arith, ints); below = all_above (pos 6) (pos 0) are; met = inl refl };
      bound_is = record { above = omega (arith, ints); least = λ other above. omega (arith, ints, above) };
    }
