-- The goals of `leaf_bounds_bound_cycles` in src/laws.rt: what it ensures.
use Rattle.tsp_theory.proofs.Cycles.{Laws}
use Rattle.tsp_cases.proofs.LeavesBoundCycles.{leaf_bounds_bound_cycles, uncombed_bounds_are_adjusted_bounds}
use Rattle.tsp_cases.proofs.laws.leaf_bounds_bound_cycles.Goals as goal

-- plan: a cycle weighs at least a minimum 1-tree. It crosses each family as often as its number says, so its length is
-- at least that weight plus the sum given back
pub returns : goal.returns
returns c =
    let laws : Laws = record {
      permutation = c.cycles_are_permutations.ensures.permutation;
      sum_of_cycle = c.cycles_are_permutations.ensures.sum;
      by_first = c.lengths_add_up.ensures.by_first;
      by_second = c.lengths_add_up.ensures.by_second;
      sum = c.lengths_add_up.ensures.sum;
      scale = c.lengths_add_up.ensures.scale;
      no_loops = c.cycles_have_no_loops.ensures;
    } in
    record { cycles = leaf_bounds_bound_cycles laws c.cycles_cross_families.ensures; uncombed = uncombed_bounds_are_adjusted_bounds }
