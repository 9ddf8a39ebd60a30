-- Names of other crates, passed on to the files of this crate alone. It defines nothing: add or remove names freely;
-- `tests/repository/names` sees that each is imported from here.
pub use Rattle.std.specs.Global.{Vec}
pub use Rattle.std.specs.Int.{w64}
unfoldable pub use Rattle.std.specs.Int.{int_wrap}
pub use Rattle.std.specs.List.{All, filter, list_any}
pub use Rattle.std.specs.Prelude.{Bool, IfOk, IfSome, IsTrue, List, MatchOption, None, Some, drop, false, length, map, neg_ℤ, negsuc, pos, reverse, slice_index, slice_index_or, take, true, ℕ, ℤ}
pub use Rattle.tsp_cases.specs.CaseTrees.{Allows, BoundsIfAny, HasNoLink, IsAllowed, IsCaseTree, IsCaseTreeBound, IsFoundAt, IsLeafBound, IsLeastFrom, IsRowBound, IsSumOfLeast, leaf_weight, least_of, multiplied}
pub use Rattle.tsp_cases.specs.Cases.{DecideOnce, decided_number, on_taken}
pub use Rattle.tsp_cases.specs.states.OpenCases.{AreFewChanges, IsChanged, IsOnPlaces, IsOpenCase, bears_on, change_of, changes, decided, decisions_in, marks_in, most_decided, stack_of}
pub use Rattle.tsp_cases.specs.states.Sets.{AreFewCrossings, AreSmallMultipliers, IsApart, good_in, lent_in, most_combed, multipliers_at, set_weight}
pub use Rattle.tsp_format.specs.Nodes.{IsNode}
pub use Rattle.tsp_format.specs.Steps.{IsFromTo}
pub use Rattle.tsp_format.specs.Words.{IsSymmetric}
pub use Rattle.tsp_theory.specs.Bounds.{ArePotentials, IsBoundSized, IsLeastBound, IsScale, IsSumSized, entry, is_same_pair, most_between, most_number, total, triples_total, weight_between}
pub use Rattle.tsp_theory.specs.states.Nearest.{IsMoved, least_at}
