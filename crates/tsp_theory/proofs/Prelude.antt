-- Names of other crates, passed on to the files of this crate alone. It defines nothing: add or remove names freely;
-- `tests/repository/names` sees that each is imported from here.
pub use Rattle.std.proofs.Common.{Bool, List, add-one, ap, append_assoc, ap₂, arith, cond, drop, drop-cons, eqb, false, get_or, inl, inr, length, length-append, ltb, map, not, of_z, refl, rules, subst, subst₂, suc, sym, take, to_z, true, zero, ℕ, [], ◌&&◌, ◌*◌, ◌++◌, ◌+◌, ◌-◌, ◌/◌, ◌<◌, ◌==◌, ◌^◌, ◌||◌, ◌∙◌, ◌∷◌, ◌≡◌, ◌≢◌, ◌≤◌, ◌⊎◌}
pub use Rattle.std.proofs.lemmas.Bool.{and_from, and_left, and_parts, and_right, both_ways, cases_Bool, cases_eq, cond_both, eq-eqb, eqb-false, eqb-true, false_from_ne_true, ltb-false, ltb-true, ne_eqb, not-true, or_cases, or_from, or_left, or_parts, or_right, true_from_ne_false}
pub use Rattle.std.proofs.lemmas.Int.{by_lt_z, fits_signed_from_abs, fits_signed_mul, int_wrap-add_left, int_wrap_fits, ints, to_z-of_z, unsigned_abs-mul, wrapping_add_is}
pub use Rattle.std.proofs.lemmas.List.{append-nil, get_or-append-add, get_or-set_other, get_or-set_same, get_or_append_left, length-map, take-append-drop}
pub use Rattle.std.proofs.lemmas.List.Elements.{All-append, All-cons, All-contains, All-from_recursion, All-head, All-nil, All-push, All-tail, All-weaker, recursion_from_All}
pub use Rattle.std.proofs.lemmas.List.Sorted.{All-permutation, Contains-permutation, IsPermutation-append_comm, IsPermutation-append_right, IsPermutation-cons, IsPermutation-filter_both, IsPermutation-middle, IsPermutation-refl, IsPermutation-remove, IsPermutation-sym, IsPermutation-trans, length_permutation, sum_by-IsPermutation}
pub use Rattle.std.specs.Int.{int_div_euclid, int_rem_euclid, w128, w64}
unfoldable pub use Rattle.std.specs.Int.{int_wrap}
pub use Rattle.std.specs.List.{All, AllByRecursion, AllPairs, Contains, filter, list_any, range_with_len, remove, sum_by}
unfoldable pub use Rattle.std.specs.List.{IsDistinct}
pub use Rattle.std.specs.Prelude.{FitsSigned, IsTrue, if◌then◌else◌, int_le, int_lt, neg_ℤ, negsuc, pos, slice_index_or, unsigned_abs, ℤ, ◌*ℤ◌, ◌+ℤ◌, ◌-ℤ◌, ◌<ℤ◌, ◌↔◌, ◌≤ℤ◌}
pub use Rattle.tsp_format.specs.Nodes.{IsNode}
unfoldable pub use Rattle.tsp_format.specs.Nodes.{nodes_to}
