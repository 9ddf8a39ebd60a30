-- The goals of `sums_are_below_cycles` in src/laws.rt: what it ensures.
use Rattle.tsp_theory.proofs.Cycles.{Laws}
use Rattle.tsp_cases.proofs.CaseLaws.{sums_are_below_cycles}
use Rattle.tsp_cases.proofs.laws.sums_are_below_cycles.Goals as goal

-- plan: each link of a cycle is allowed, so it weighs no less than the least allowed link from its first node; a cycle
-- leaves each node once
pub returns : goal.returns
returns c =
    let laws : Laws = record {
      permutation = c.cycles_are_permutations.ensures.permutation;
      sum_of_cycle = c.cycles_are_permutations.ensures.sum;
      by_first = c.lengths_add_up.ensures.by_first;
      by_second = c.lengths_add_up.ensures.by_second;
      sum = c.lengths_add_up.ensures.sum;
      scale = c.lengths_add_up.ensures.scale;
      no_loops = c.cycles_have_no_loops.ensures;
    } in
    sums_are_below_cycles laws c.links_are_allowed.ensures.links
