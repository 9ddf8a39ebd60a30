-- The goals of `case_trees_bound_cycles` in src/laws.rt: what it ensures.
use Rattle.tsp_cases.proofs.LeavesBoundCycles.{LeafLaws, case_trees_bound_cycles, certificates_bound_tours, no_bound_no_tour}
use Rattle.tsp_cases.proofs.laws.case_trees_bound_cycles.Goals as goal

-- plan: each cycle is in the case of some leaf, whose bound, by a 1-tree or by least links, is at most its length
-- (`least_found_bounds`). A tour takes the fixed pairs, so it is in the given case
pub returns : goal.returns
returns c =
    let laws : LeafLaws = record {
      trees = c.leaf_bounds_bound_cycles.ensures.cycles;
      rows = c.row_leaf_bounds_bound_cycles.ensures;
      no_link = c.links_are_allowed.ensures.none;
    } in
    let cycles = case_trees_bound_cycles laws in
    record { cycles = cycles; tours = certificates_bound_tours cycles; none = no_bound_no_tour cycles }
