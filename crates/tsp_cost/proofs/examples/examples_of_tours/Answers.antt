-- The goals of `examples_of_tours` in src/examples.rt: what it ensures.
use Rattle.tsp_cost.proofs.Prelude.{◌≡◌, ℕ, zero, suc, ◌<◌, inl, inr, arith, ap, slice_index_or, links, Follows, AreNeighbours}
use Rattle.tsp_theory.specs.Examples.{three, four}
use Rattle.tsp_cost.proofs.examples.examples_of_tours.Goals as goal

-- no link of 1 2 3 goes from 2 to 1, and none of 1 2 3 4 from 1 to 3 or back
no_arc : (k : ℕ) → k < 3 → slice_index_or (links (three 1 2 3)) k (2, 1) ≡ (2, 1) → ⊥
no_arc zero within is = omega (arith, ap (λ link. link.0) is)
no_arc (suc zero) within is = omega (arith, ap (λ link. link.1) is)
no_arc (suc (suc zero)) within is = omega (arith, ap (λ link. link.0) is)
no_arc (suc (suc (suc k))) within is = omega (arith, within)

no_way : (k : ℕ) → k < 4 → slice_index_or (links (four 1 2 3 4)) k (1, 3) ≡ (1, 3) → ⊥
no_way zero within is = omega (arith, ap (λ link. link.1) is)
no_way (suc zero) within is = omega (arith, ap (λ link. link.0) is)
no_way (suc (suc zero)) within is = omega (arith, ap (λ link. link.0) is)
no_way (suc (suc (suc zero))) within is = omega (arith, ap (λ link. link.0) is)
no_way (suc (suc (suc (suc k)))) within is = omega (arith, within)

no_way_back : (k : ℕ) → k < 4 → slice_index_or (links (four 1 2 3 4)) k (3, 1) ≡ (3, 1) → ⊥
no_way_back zero within is = omega (arith, ap (λ link. link.0) is)
no_way_back (suc zero) within is = omega (arith, ap (λ link. link.0) is)
no_way_back (suc (suc zero)) within is = omega (arith, ap (λ link. link.1) is)
no_way_back (suc (suc (suc zero))) within is = omega (arith, ap (λ link. link.0) is)
no_way_back (suc (suc (suc (suc k)))) within is = omega (arith, within)

not_neighbours : AreNeighbours (four 1 2 3 4) (1, 3) → ⊥
not_neighbours (inl found) = no_way found.0 found.1 found.2
not_neighbours (inr found) = no_way_back found.0 found.1 found.2

-- plan: each link of the list is compared with the pair: none is it (`no_arc`, `no_way`), so the cycle doesn't use it
pub returns-clause-arc_in_reverse : goal.returns-clause-arc_in_reverse
returns-clause-arc_in_reverse c = λ tour. (
    let found : Follows (three 1 2 3) (2, 1) = tour.fixed_used 0 (0, 0) (omega arith) in
    no_arc found.0 found.1 found.2)

pub returns-clause-unused : goal.returns-clause-unused
returns-clause-unused c = λ tour. not_neighbours (tour.fixed_used 0 (0, 0) (omega arith))

pub returns-clause-second_unused : goal.returns-clause-second_unused
returns-clause-second_unused c = λ tour. not_neighbours (tour.fixed_used 1 (0, 0) (omega arith))
