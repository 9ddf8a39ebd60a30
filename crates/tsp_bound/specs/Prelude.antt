-- Names of other crates, passed on to the files of this crate alone. It defines nothing: add or remove names freely;
-- `tests/repository/names` sees that each is imported from here.
pub use Rattle.std.specs.List.{All, AllPairs}
pub use Rattle.std.specs.Prelude.{Bool, IfOk, IfSome, IsTrue, List, MatchOption, MatchResult, None, Option, Some, false, length, map, neg_ℤ, not, pos, slice_index, slice_index_or, slice_set, suc, true, zero, ℕ, ℤ, []}
pub use Rattle.tsp_format.specs.Limits.{most_multiplier, most_nodes, most_potential, most_scale, most_triples, most_weight}
pub use Rattle.tsp_format.specs.Nodes.{IsNode}
pub use Rattle.tsp_format.specs.Steps.{IsFromTo}
pub use Rattle.tsp_theory.specs.Bounds.{AreDuals, AreGood, AreMultipliers, AreNodePotentials, AreOnPairs, ArePotentials, IsAdjustedBound, IsAdjustedBoundOf, IsBoundSized, IsDualBound, IsFirstBroken, IsMultiplier, IsScale, IsSumSized, UsesEach, entry, most_between, most_number, numbers_on, total, triples_total}
pub use Rattle.tsp_theory.specs.Tree.{AreNearest, IsInner, IsLeastOneTree, IsOneTree, IsWholeGrowth, tree_of, weight_of}
pub use Rattle.tsp_theory.specs.states.Nearest.{IsMoved, IsNearer, least_at}
