-- Names of other crates, passed on to the files of this crate alone. It defines nothing: add or remove names freely;
-- `tests/repository/names` sees that each is imported from here.
pub use Rattle.std.proofs.Common.{Bool, FitsSigned, List, None, Option, add-one, ap, ap₂, arith, bit_xor, cond, count_ones, drop, drop-cons, eqb, false, get_or, inl, inr, leb, length, length-append, map, mul_comm, not, of_z, pow-suc, refl, replicate, rules, subst, subst₂, suc, sym, take, to_z, true, zero, ℕ, ℤ, [], ◌%◌, ◌&&◌, ◌*◌, ◌++◌, ◌+◌, ◌-◌, ◌/◌, ◌<◌, ◌==◌, ◌^◌, ◌||◌, ◌∙◌, ◌∷◌, ◌≡◌, ◌≢◌, ◌≤ℤ◌, ◌≤◌, ◌⊎◌}
pub use Rattle.std.proofs.Math.ListN.{length-set, set}
pub use Rattle.std.proofs.Math.Logic.{∥∥₁_elim}
pub use Rattle.std.proofs.Props.{props}
pub use Rattle.std.proofs.lemmas.Bool.{and_from, and_parts, and_right, both_ways, cases_Bool, cases_eq, cases_lt, cases_order, eq-eqb, eqb-false, eqb-true, false_from_ne_true, iff_false, leb-true, ne_eqb, not-true, or_cases, or_from, or_parts}
pub use Rattle.std.proofs.lemmas.Int.{SFits-int_wrap, fits_signed_from_abs, int_wrap-add_right, int_wrap-add_same, int_wrap_fits, ints, to_z-of_z, wrapping_add_is}
pub use Rattle.std.proofs.lemmas.List.{append-nil, append_assoc, drop_all, drop_more, get_or-map, get_or-replicate, get_or-set_other, get_or-set_same, get_or-take, get_or_append_left, get_or_default, get_or_past, get_or_push, length-map, length-replicate, length-reverse, length-take-le, length_push, reverse-append, take-append-le, take_all, take_more, take_more_set}
pub use Rattle.std.proofs.lemmas.List.Elements.{All-cons, All-contains, All-from_recursion, All-head, All-more, All-nil, All-push, All-tail, All-weaker, Contains-get_or, recursion_from_All}
pub use Rattle.std.proofs.lemmas.List.Folds.{Any-from_list_any, list_any_at, list_any_more, list_any_none}
pub use Rattle.std.proofs.lemmas.List.Kept.{AllPairs-cons}
pub use Rattle.std.proofs.lemmas.Nat.{div-add-mod', mul-add-lt, one_shl, ones-le, ones_cat, pow_below, pow_pos, same_from_place, xor_block, xor_lt}
pub use Rattle.std.specs.Global.{Vec}
pub use Rattle.std.specs.Int.{bit_at, w128, w64}
unfoldable pub use Rattle.std.specs.Int.{int_wrap}
pub use Rattle.std.specs.List.{All, AllByRecursion, AllPairs, AllZip, Any, Contains, filter, list_all, list_any, range_with_len}
unfoldable pub use Rattle.std.specs.List.{IsDistinct}
pub use Rattle.std.specs.Prelude.{IfSome, IsTrue, MatchOption, Some, if◌then◌else◌, neg_ℤ, negsuc, pos, reverse, slice_index, slice_index_or, ◌*ℤ◌, ◌+ℤ◌, ◌-ℤ◌, ◌↔◌}
pub use Rattle.tsp_format.specs.Nodes.{IsNode}
unfoldable pub use Rattle.tsp_format.specs.Nodes.{nodes_to}
pub use Rattle.tsp_format.specs.Steps.{IsFromTo, are_whole}
pub use Rattle.tsp_format.specs.declared.steps.TreeStep.{TreeStep}
pub use Rattle.tsp_format.specs.states.TreeSteps.{step_of, steps_of}
pub use Rattle.tsp_theory.proofs.Cycles.{AreInner, Laws, entries_of_links, has_node, least_tree_below, scaled_length, turned_length, turned_nodes, weight_even}
pub use Rattle.tsp_theory.proofs.Neighbours.{adjusted_cycle, adjusted_even, count_any, difference, evenly, neighbours_or_not, none_or_one, once, one_if, sum_below, sum_zero, twice}
pub use Rattle.tsp_theory.proofs.Sums.{moved_on, moved_to, node_moved, product_is, same_scale, scaled_sum, scaled_up, size_of, sum_int_by-le}
pub use Rattle.tsp_theory.specs.Bounds.{AdjustedBoundsBoundCycles, IsBoundSized, IsScale, UsesEach, UsesNone, adjusted, entry, is_same_pair, most_between, pair_of, total, weight_between}
pub use Rattle.tsp_theory.specs.Tour.{AreNeighbours, Follows, IsCycle, Uses, length_of, links, links_to, sum_int_by}
pub use Rattle.tsp_theory.specs.Tree.{AreNearest, Grows, IsInner, IsLeastOneTree, and_node, crosses, crossing, grown_by, tree_of, weight_of}
pub use Rattle.tsp_theory.specs.states.Nearest.{IsMoved, least_at}
