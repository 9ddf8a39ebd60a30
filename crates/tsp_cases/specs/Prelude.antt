-- Names of other crates, passed on to the files of this crate alone. It defines nothing: add or remove names freely;
-- `tests/repository/names` sees that each is imported from here.
pub use Rattle.std.specs.Global.{Vec}
pub use Rattle.std.specs.Int.{w64}
unfoldable pub use Rattle.std.specs.Int.{int_wrap}
pub use Rattle.std.specs.List.{All, AllByRecursion, AllPairs, Any, filter, list_any, range_with_len}
pub use Rattle.std.specs.Prelude.{Bool, IfOk, IfSome, IsTrue, List, None, Option, Some, drop, false, length, map, max, min, neg_ℤ, negsuc, not, pos, replicate, reverse, slice_index, slice_index_or, slice_set, suc, take, true, zero, ℕ, ℤ, []}
pub use Rattle.tsp_format.specs.Nodes.{IsNode}
unfoldable pub use Rattle.tsp_format.specs.Nodes.{nodes_to}
pub use Rattle.tsp_format.specs.Steps.{IsFromTo, are_whole}
pub use Rattle.tsp_format.specs.Words.{IsSymmetric}
pub use Rattle.tsp_format.specs.states.TreeSteps.{steps_of}
pub use Rattle.tsp_theory.specs.Bounds.{ArePotentials, IsAdjustedBound, IsBoundSized, IsLeastBound, IsScale, UsesEach, UsesNone, adjusted, entry, is_same_pair, most_between, most_number, pair_of, total, triples_total, weight_between}
pub use Rattle.tsp_theory.specs.Tour.{BoundsTours, Follows, HasNoTour, IsCycle, Problem, Uses, length_of, sum_int_by}
pub use Rattle.tsp_theory.specs.Tree.{IsInner, IsLeastOneTree, crossing, weight_of}
pub use Rattle.tsp_theory.specs.states.Nearest.{IsMoved, least_at}
