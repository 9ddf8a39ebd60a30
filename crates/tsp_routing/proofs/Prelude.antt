-- Names of other crates, passed on to the files of this crate alone. It defines nothing: add or remove names freely;
-- `tests/repository/names` sees that each is imported from here.
pub use Rattle.std.proofs.Common.{Bool, FitsSigned, List, add-one, ap, ap₂, arith, cond, drop, drop-cons, eqb, false, get_or, inl, inr, length, length-append, map, not, of_z, refl, rules, set, subst, subst₂, suc, sym, take, to_z, true, zero, ℕ, ℤ, [], ◌%◌, ◌&&◌, ◌*◌, ◌++◌, ◌+◌, ◌-◌, ◌/◌, ◌<◌, ◌==◌, ◌^◌, ◌||◌, ◌∙◌, ◌∷◌, ◌≡◌, ◌≢◌, ◌≤◌}
pub use Rattle.std.proofs.Math.IntN.{suc_ℤ-*ℤ, zero-*ℤ, *ℤ-zero, *ℤ_comm, +ℤ_assoc}
pub use Rattle.std.proofs.Math.Nat.{add-mul, div-mul-le_self, lt-div-mul-add, mul-le-mul_right, pow-le-pow_right, suc-mul}
pub use Rattle.std.proofs.lemmas.Bool.{and_left, and_parts, and_right, both_ways, cases_Bool, cases_eq, cases_lt, eq-eqb, eqb-false, eqb-true, false≢true, le-leb, leb-false, leb-true, lt-leb, ne_eqb, or_from, or_left, or_parts, or_right, true≢false}
pub use Rattle.std.proofs.lemmas.Int.{by_lt_z, fits_signed_from_abs, ints, to_z-of_z}
pub use Rattle.std.proofs.lemmas.List.{append-nil, append_assoc, drop_all, drop_more, get_or-map, get_or-replicate, get_or-set_other, get_or-set_same, get_or_append_left, get_or_at, get_or_default, get_or_past, get_or_push, get_or_read, length-drop, length-map, length-replicate, length-set, length-take-le, length_push, map-append, map_push, take-append-drop, take-take, take_all, take_more}
pub use Rattle.std.proofs.lemmas.List.Elements.{All-append, All-cons, All-contains, All-from_recursion, All-get_or, All-nil, All-push, All-take, All-weaker, Contains-append_left, Contains-push, Contains-push_cases, recursion_from_All}
pub use Rattle.std.specs.Global.{Vec}
pub use Rattle.std.specs.Int.{bit_at, w128, w64}
unfoldable pub use Rattle.std.specs.Int.{int_wrap}
pub use Rattle.std.specs.List.{All, AllByRecursion, AllPairs, Contains, concat, filter, list_any, range_with_len, remove}
unfoldable pub use Rattle.std.specs.List.{IsDistinct}
pub use Rattle.std.specs.Prelude.{MatchOption, None, Option, Some, if◌then◌else◌, int_lt, max, min, nat_abs, nat_le, neg_ℤ, negsuc, pos, replicate, slice_index_or, unsigned_abs, ◌*ℤ◌, ◌+ℤ◌, ◌-ℤ◌, ◌<ℤ◌, ◌≤ℤ◌, ◌⊎◌}
pub use Rattle.tsp_cases.proofs.FamilyCrossings.{over_sum, sets_tell_combs, size_of_link}
pub use Rattle.tsp_cases.proofs.Passes.{whole_trees, written}
pub use Rattle.tsp_cases.proofs.SetSums.{absent, apart_is, places_inside, sets_come_to, wrapped_by}
pub use Rattle.tsp_cases.specs.CaseTrees.{IsAbove, IsLeastFound, crossings_of, multiplied}
pub use Rattle.tsp_cases.specs.Cases.{CaseStep, LeafNumbers, leaves_of}
pub use Rattle.tsp_cases.specs.Crossings.{AreSetsOf, families_in, has, lists_of}
pub use Rattle.tsp_cases.specs.Families.{Comb, Family, HasEachOnce, IsFamily, comb_with, families_with, family_crossings, family_with}
pub use Rattle.tsp_cases.specs.ListedCases.{BeginsWithin, IsFirstBadBranch, IsGoodAtBy, IsStepOf, as_leaf_numbers, branch_pairs, listed_steps, no_numbers_of, split_at}
pub use Rattle.tsp_cases.specs.declared.family.Crossings.{Crossings}
pub use Rattle.tsp_cases.specs.declared.decision.Decision.{Decision}
pub use Rattle.tsp_cases.specs.states.OpenCases.{bears_on, decisions_in, stack_of}
pub use Rattle.tsp_cases.specs.states.Sets.{IsApart, IsPlaceIn, IsSetTable, inside_both, lent_in, multipliers_at, places_with, set_crossings, set_weight}
pub use Rattle.tsp_format.specs.Limits.{most_demand, most_nodes, most_potential, most_scale, most_weight}
pub use Rattle.tsp_format.specs.Nodes.{IsNode}
unfoldable pub use Rattle.tsp_format.specs.Nodes.{nodes_to}
pub use Rattle.tsp_format.specs.Steps.{IsFromTo, are_whole}
pub use Rattle.tsp_theory.proofs.Neighbours.{difference, evenly, none_or_one, one_if, sum_below, sum_zero, twice}
pub use Rattle.tsp_theory.proofs.Sums.{from_size, length_by_first, length_by_second, moved_on, moved_to, product_size, same_scale, scaled_size, size_of, sum_int_by-IsPermutation, sum_int_by-add, sum_int_by-le, sum_int_by-scaled}
pub use Rattle.tsp_theory.specs.Bounds.{ArePotentials, IsLeastBound, IsScale, entry, most_between, weight_between}
pub use Rattle.tsp_theory.specs.Tour.{IsCustomer, IsLeastRoutes, IsPlan, RoutingProblem, demand_of, length_of, links, links_to, load_of, plan_length, sum_int_by}
pub use Rattle.tsp_theory.specs.Tree.{crosses, crossing, weight_of}
pub use Rattle.tsp_theory.specs.states.Nearest.{IsMoved, least_at}
