-- The goals of `cycles_cross_families` in src/laws.rt: what it ensures.
use Rattle.tsp_theory.proofs.Cycles.{Laws}
use Rattle.tsp_cases.proofs.FamilyCrossings.{cycles_cross_families}
use Rattle.tsp_cases.proofs.laws.cycles_cross_families.Goals as goal

-- plan: by the kind of family: a lone set is left and entered, a comb is crossed 3k + 1 times, and for other sets the
-- least cycle is known
pub returns : goal.returns
returns c =
    let laws : Laws = record {
      permutation = c.cycles_are_permutations.ensures.permutation;
      sum_of_cycle = c.cycles_are_permutations.ensures.sum;
      by_first = c.lengths_add_up.ensures.by_first;
      by_second = c.lengths_add_up.ensures.by_second;
      sum = c.lengths_add_up.ensures.sum;
      scale = c.lengths_add_up.ensures.scale;
      no_loops = c.cycles_have_no_loops.ensures;
    } in
    cycles_cross_families laws c.cycles_cross_combs.ensures
