-- Names of other crates, passed on to the files of this crate alone. It defines nothing: add or remove names freely;
-- `tests/repository/names` sees that each is imported from here.
pub use Rattle.std.specs.Global.{Vec}
pub use Rattle.std.specs.List.{All, AllByRecursion, AllPairs, Contains}
pub use Rattle.std.specs.Prelude.{Bool, IfOk, IfSome, IsTrue, List, None, Option, Some, drop, false, int_lt, length, map, max, min, nat_abs, nat_le, neg_ℤ, negsuc, not, pos, slice_index_or, slice_set, suc, take, true, unsigned_abs, zero, ℕ, ℤ, []}
pub use Rattle.tsp_cases.specs.Cases.{CaseStep, LeafNumbers, are_case_trees, leaves_of}
pub use Rattle.tsp_cases.specs.Crossings.{AreFamiliesOf, AreSetsOf, families_in, has, lists_of}
pub use Rattle.tsp_cases.specs.Families.{Family, HasEachOnce, families_with, family_crossings, family_with}
pub use Rattle.tsp_cases.specs.ListedCases.{AreGoodLeavesBy, BeginsWithin, IsFirstBadBranch, IsFirstBadLeafBy, IsStepOf, as_leaf_numbers, branch_pairs, listed_steps}
pub use Rattle.tsp_cases.specs.declared.decision.Decision.{Decision}
pub use Rattle.tsp_cases.specs.states.Sets.{AreSmallDifferences, IsSetTable, lent_in, multipliers_at, set_crossings, set_weight}
pub use Rattle.tsp_format.specs.Limits.{most_capacity, most_demand, most_nodes, most_potential}
pub use Rattle.tsp_format.specs.Nodes.{IsNode}
unfoldable pub use Rattle.tsp_format.specs.Nodes.{nodes_to}
pub use Rattle.tsp_format.specs.Steps.{Branch, IsFromTo, Leaf, Step, are_whole}
pub use Rattle.tsp_theory.specs.Bounds.{ArePotentials, IsBoundSized, IsLeastBound, IsScale, entry, most_between, weight_between}
pub use Rattle.tsp_theory.specs.Tour.{IsCustomer, IsLeastRoutes, IsPlan, RoutingProblem, demand_of, length_of, links, links_to, load_of, plan_length, sum_int_by}
pub use Rattle.tsp_theory.specs.states.Nearest.{IsMoved, least_at}
