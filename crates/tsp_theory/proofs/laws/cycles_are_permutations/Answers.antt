-- The goals of `cycles_are_permutations` in src/laws.rt: what it ensures.
use Rattle.tsp_theory.proofs.Sums.{cycle_permutation, sum_of_cycle}
use Rattle.tsp_theory.proofs.laws.cycles_are_permutations.Goals as goal

-- plan: n different nodes of 1..n are these in another order, and a sum is the same in any order
pub returns : goal.returns
returns c = record { permutation = cycle_permutation; sum = sum_of_cycle }
