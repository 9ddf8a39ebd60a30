-- The goals of `examples_of_families` in src/examples.rt: what it ensures.
use Rattle.std.proofs.Common.{arith}
use Rattle.tsp_cases.proofs.SmallFamilies.{lone_set, set_twice, set_beside_all, not_others, all_nodes, node_twice}
use Rattle.tsp_cases.proofs.examples.examples_of_families.Goals as goal

-- plan: a cycle crosses a lone set at least twice (`lone_set`), so a set that is there twice at least four times
-- (`set_twice`). A family has one pair of numbers, so no other one (`not_others`)
pub returns : goal.returns
returns c =
    let cross = c.cycles_cross_families.ensures in
    let add = c.lengths_add_up.ensures.sum in
    let unlike = c.unlike_nodes_need_parts.ensures in
    let unique = c.numbers_are_unique.ensures in
    record {
      lone_set = lone_set;
      set_twice = set_twice cross add unlike;
      not_as_a_lone_set = λ is. let same = not_others cross add unlike unique 2 3 is in omega (arith, same.0);
      not_more = λ is. let same = not_others cross add unlike unique 5 2 is in omega (arith, same.0);
      not_fewer = λ is. let same = not_others cross add unlike unique 3 2 is in omega (arith, same.0);
      not_one_set = λ is. let same = not_others cross add unlike unique 4 1 is in omega (arith, same.1);
      crossed_by_one_set = set_beside_all cross unlike;
      all_nodes = all_nodes;
      node_twice = node_twice;
    }
