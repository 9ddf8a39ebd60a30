-- Names of other crates, passed on to the files of this crate alone. It defines nothing: add or remove names freely;
-- `tests/repository/names` sees that each is imported from here.
pub use Rattle.std.proofs.Common.{Bool, FitsSigned, List, [], add-one, ap, ap₂, arith, drop, drop-cons, false, get_or, inl, inr, length, length-append, map, of_z, refl, replicate, rules, slice_index, subst, suc, sym, take, to_z, true, zero, ℕ, ℤ, ◌&&◌, ◌*◌, ◌++◌, ◌+◌, ◌-◌, ◌<◌, ◌==◌, ◌^◌, ◌||◌, ◌∙◌, ◌∷◌, ◌≡◌, ◌≢◌, ◌≤◌}
pub use Rattle.std.proofs.Math.ListN.{length-set, set}
pub use Rattle.std.proofs.lemmas.Bool.{both_ways, cases_Bool, cases_eq, cases_lt, eq-eqb, eqb-true, ne_eqb}
pub use Rattle.std.proofs.lemmas.Int.{int_wrap-add_left, int_wrap-add_same, int_wrap_fits, ints, to_z-of_z}
pub use Rattle.std.proofs.lemmas.List.{drop_all, get_or-replicate, get_or-set_other, get_or-set_same, get_or_append_left, get_or_default, get_or_past, get_or_push, length-map, length-replicate, length-reverse, reverse-append, take-append-drop, take_all, take_more}
pub use Rattle.std.proofs.lemmas.List.Elements.{All-from_recursion, recursion_from_All}
pub use Rattle.std.proofs.lemmas.Result.{IfOk-weaker}
pub use Rattle.std.specs.Global.{Vec}
pub use Rattle.std.specs.Int.{w128, w64}
unfoldable pub use Rattle.std.specs.Int.{int_wrap}
pub use Rattle.std.specs.List.{All, AllByRecursion, Contains, filter, range_with_len}
pub use Rattle.std.specs.Prelude.{None, Option, Some, if◌then◌else◌, neg_ℤ, negsuc, pos, reverse, slice_index_or, ◌*ℤ◌, ◌+ℤ◌, ◌-ℤ◌, ◌<ℤ◌, ◌↔◌, ◌≤ℤ◌, ◌⊎◌}
pub use Rattle.tsp_cases.proofs.OpenCases.{changes_borne, changes_listed, changes_turned, few_changes, filter_in, filter_out, first_bears, second_only}
pub use Rattle.tsp_cases.proofs.SetSums.{added_once, apart_is, back_of, both_sums, case_weight, changes_are, changes_left, combed_at, few_crossings, few_multipliers, found_by_rows, places_inside, row_weight, sets_come_to, small_multipliers, within}
pub use Rattle.tsp_cases.specs.CaseTrees.{Allows, AllowsLink, AreCostsFor, AreLeafNumbers, BoundsIfAny, CaseTreesBoundCycles, IsAllowed, IsFoundAt, IsLeafBound, IsLeastFrom, IsSumOfLeast, combed, leaf_weight, least_of, multiplied}
pub use Rattle.tsp_cases.specs.Cases.{DecideOnce, LeafNumbers, decided_number, leaves_of, on_avoided, on_taken}
pub use Rattle.tsp_cases.specs.Families.{Family, HasEachOnce, IsFamily, families_with, sum_with}
pub use Rattle.tsp_cases.specs.declared.decision.Decision.{Decision}
pub use Rattle.tsp_cases.specs.declared.sets.SetPlace.{SetPlace}
pub use Rattle.tsp_cases.specs.states.OpenCases.{AreSmall, IsDecision, IsOnPlaces, IsOpenCase, bears_on, change_of, changes, decided, decisions_in, marks_in, most_decided, stack_of}
pub use Rattle.tsp_cases.specs.states.Sets.{AreSmallMultipliers, IsApart, IsPlaceIn, added, good_in, inside_both, lent_in, most_combed, multipliers_at, place_at, places_in, places_with, set_crossings, set_in, set_weight, summed_from, times, twice_in}
pub use Rattle.tsp_format.specs.Limits.{most_nodes, most_potential, most_scale, most_weight}
pub use Rattle.tsp_format.specs.Nodes.{IsNode}
unfoldable pub use Rattle.tsp_format.specs.Nodes.{nodes_to}
pub use Rattle.tsp_format.specs.Steps.{IsFromTo, are_whole}
pub use Rattle.tsp_format.specs.states.TreeSteps.{steps_of}
pub use Rattle.tsp_theory.proofs.Cycles.{between_size, sum_more}
pub use Rattle.tsp_theory.proofs.Sums.{most_64, moved_on, moved_to, product_fits, product_is, same_scale, scaled_size}
pub use Rattle.tsp_theory.specs.Bounds.{IsLeastBound, IsScale, IsSumSized, entry, is_same_pair, most_between, most_number, total, triples_total, weight_between}
pub use Rattle.tsp_theory.specs.Tour.{sum_int_by}
pub use Rattle.tsp_theory.specs.states.Nearest.{IsMoved, least_at}
