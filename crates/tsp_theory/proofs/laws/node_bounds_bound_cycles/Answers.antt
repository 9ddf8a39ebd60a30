-- The goals of `node_bounds_bound_cycles` in src/laws.rt: what it ensures.
use Rattle.tsp_theory.proofs.Cycles.{Laws, node_bounds_bound_cycles}
use Rattle.tsp_theory.proofs.laws.node_bounds_bound_cycles.Goals as goal

-- plan: a cycle weighs its length and each potential twice, and no less than a minimum 1-tree. `Laws` has the laws of
-- cycles that the proof takes
pub returns : goal.returns
returns c =
    let laws : Laws = record {
      permutation = c.cycles_are_permutations.ensures.permutation;
      sum_of_cycle = c.cycles_are_permutations.ensures.sum;
      by_first = c.lengths_add_up.ensures.by_first;
      by_second = c.lengths_add_up.ensures.by_second;
      sum = c.lengths_add_up.ensures.sum;
      scale = c.lengths_add_up.ensures.scale;
      no_loops = c.cycles_have_no_loops.ensures;
    } in
    node_bounds_bound_cycles laws
