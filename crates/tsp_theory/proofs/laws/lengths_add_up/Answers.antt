-- The goals of `lengths_add_up` in src/laws.rt: what it ensures.
use Rattle.tsp_theory.proofs.Sums.{length_by_first, length_by_second, length_of_sum, length_scaled}
use Rattle.tsp_theory.proofs.laws.lengths_add_up.Goals as goal

pub returns : goal.returns
returns c = record { by_first = length_by_first; by_second = length_by_second; sum = length_of_sum; scale = length_scaled }
