-- The goals of `least_trees_are_below_cycles` in src/laws.rt: what it ensures.
use Rattle.tsp_theory.proofs.Cycles.{Laws, least_tree_below}
use Rattle.tsp_theory.proofs.laws.least_trees_are_below_cycles.Goals as goal

-- plan: a cycle, from node 1 on, is a 1-tree, so a least one weighs no more (`least_tree_below`). `Laws` has the laws
-- of cycles that the proof takes
pub returns : goal.returns
returns c =
    let laws : Laws = record {
      permutation = c.cycles_are_permutations.ensures.permutation;
      sum_of_cycle = c.cycles_are_permutations.ensures.sum;
      by_first = c.lengths_add_up.ensures.by_first;
      by_second = c.lengths_add_up.ensures.by_second;
      sum = c.lengths_add_up.ensures.sum;
      scale = c.lengths_add_up.ensures.scale;
      no_loops = c.cycles_have_no_loops.ensures;
    } in
    least_tree_below laws
