-- The goals of `links_are_allowed` in src/laws.rt: what it ensures.
use Rattle.tsp_theory.proofs.Cycles.{Laws}
use Rattle.tsp_cases.proofs.CaseLaws.{links_are_allowed, no_link_no_cycle}
use Rattle.tsp_cases.proofs.laws.links_are_allowed.Goals as goal

-- plan: a cycle has one link out of each node and one into it: beside a taken pair it has no other link there
pub returns : goal.returns
returns c =
    let laws : Laws = record {
      permutation = c.cycles_are_permutations.ensures.permutation;
      sum_of_cycle = c.cycles_are_permutations.ensures.sum;
      by_first = c.lengths_add_up.ensures.by_first;
      by_second = c.lengths_add_up.ensures.by_second;
      sum = c.lengths_add_up.ensures.sum;
      scale = c.lengths_add_up.ensures.scale;
      no_loops = c.cycles_have_no_loops.ensures;
    } in
    record { links = links_are_allowed laws; none = no_link_no_cycle laws (links_are_allowed laws) }
