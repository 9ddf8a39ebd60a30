-- Names of other crates, passed on to the files of this crate alone. It defines nothing: add or remove names freely;
-- `tests/repository/names` sees that each is imported from here.
pub use Rattle.std.proofs.Common.{Bool, Err, FitsSigned, IfOk, IfSome, List, MatchOption, None, Ok, Option, Result, SFits, Some, add-one, ap, ap₂, arith, below_more, cond, drop, drop-cons, false, get_or, inl, inr, length, length-append, map, negsuc, not, of_z, refl, replicate, rules, set, slice_index, subst, suc, sym, take, to_z, true, w64, zero, ℕ, ℤ, [], ◌&&◌, ◌*◌, ◌++◌, ◌+◌, ◌-◌, ◌/◌, ◌<◌, ◌==◌, ◌^◌, ◌||◌, ◌∙◌, ◌∷◌, ◌≡◌, ◌≢◌, ◌≤ℤ◌, ◌≤◌, ◌⊎◌}
pub use Rattle.std.proofs.Math.ListN.{get_or-map, length-set}
pub use Rattle.std.proofs.lemmas.Bool.{and_from, both_ways, cases_Bool, cases_eq, cases_lt, eq-eqb, eqb-false, eqb-true, false≢true, ne_eqb, or_cases, or_left, or_parts, or_right}
pub use Rattle.std.proofs.lemmas.Int.{fits_signed_from_abs, ints, to_z-of_z}
pub use Rattle.std.proofs.lemmas.List.{append-nil, append_assoc, drop_all, get_or-drop, get_or-replicate, get_or-set_other, get_or-set_same, get_or-take, get_or_append_left, get_or_default, get_or_push, get_or_read, length-map, length-take-le, map-append, take_more}
pub use Rattle.std.proofs.lemmas.List.Elements.{All-from_recursion, All-map, All-nil, All-push, All-weaker, recursion_from_All}
pub use Rattle.std.specs.Int.{w128}
pub use Rattle.std.specs.Prelude.{if◌then◌else◌, nat_abs, neg_ℤ, pos, slice_index_or, ◌*ℤ◌, ◌+ℤ◌, ◌-ℤ◌, ◌<ℤ◌}
pub use Rattle.tsp_format.specs.Limits.{most_multiplier, most_nodes, most_potential, most_triples}
pub use Rattle.tsp_format.specs.Nodes.{IsNode}
pub use Rattle.tsp_format.specs.Steps.{IsFromTo}
pub use Rattle.tsp_theory.proofs.Cycles.{between_size, bound_of_weight, lower_fits, lower_is, scaled_by, sum_computed, sum_fits, sum_more, sum_of_bound, tree_computed, tree_fits, tree_same, tree_size, weight_added, weight_computed, weight_even, weight_fits, weight_of_tree}
pub use Rattle.tsp_theory.proofs.Sums.{bound_of_sums, fit_decided, most_64, moved_on, moved_to, node_moved, same_64, same_scale, scaled_up, size_of}
pub use Rattle.tsp_theory.proofs.Trees.{AreNearestBefore, grown_by_more, grows_more, growth_is_forest, joins_more, least_from_forest, less_of, nearer_first, nearer_none, nearer_second, nearest_by_row, nearest_of_all, not_less_of, three_first, two_first, written_back}
pub use Rattle.tsp_theory.specs.Bounds.{AreGood, AreOnPairs, IsAdjustedBound, IsAdjustedBoundOf, IsDualBound, IsMultiplier, IsScale, IsSumSized, is_same_pair, most_between, most_number, number_on, numbers_on, pair_of, total, triples_total}
pub use Rattle.tsp_theory.specs.Tree.{AreNearest, Grows, IsInner, IsLeastLeaving, IsLeastOneTree, IsWholeGrowth, and_node, crosses, grown_by, tree_of, weight_of}
pub use Rattle.tsp_theory.specs.states.Nearest.{IsMoved, IsNearer, least_at}
