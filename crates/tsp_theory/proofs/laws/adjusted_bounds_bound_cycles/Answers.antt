-- The goals of `adjusted_bounds_bound_cycles` in src/laws.rt: what it ensures.
use Rattle.tsp_theory.proofs.Cycles.{Laws}
use Rattle.tsp_theory.proofs.Neighbours.{adjusted_bounds_bound_cycles, unadjusted_bounds_are_node_bounds}
use Rattle.tsp_theory.proofs.laws.adjusted_bounds_bound_cycles.Goals as goal

-- plan: a cycle weighs no less than a minimum 1-tree; it has the number of each taken pair and of no avoided one.
-- `Laws` has the laws of cycles that the proof takes
pub returns : goal.returns
returns c =
    let laws : Laws = record {
      permutation = c.cycles_are_permutations.ensures.permutation;
      sum_of_cycle = c.cycles_are_permutations.ensures.sum;
      by_first = c.lengths_add_up.ensures.by_first;
      by_second = c.lengths_add_up.ensures.by_second;
      sum = c.lengths_add_up.ensures.sum;
      scale = c.lengths_add_up.ensures.scale;
      no_loops = c.cycles_have_no_loops.ensures;
    } in
    record { cycles = adjusted_bounds_bound_cycles laws; unadjusted = unadjusted_bounds_are_node_bounds }
