-- Names of other crates, passed on to the files of this crate alone. It defines nothing: add or remove names freely;
-- `tests/repository/names` sees that each is imported from here.
pub use Rattle.std.proofs.Common.{Bool, Fits, FitsSigned, List, None, Ok, Option, Result, Some, T, add-one, ap, append-nil, append_assoc, arith, bit_and, cond, drop, eqb, eqb→eq, false, get_or, if◌then◌else◌, inl, inr, int_le, leb, length, length-append, length-drop, length-set, map, max, nat_le, nat_lt, neg_ℤ, negsuc, not, of_z, pos, pow-add, refl, replicate, rules, set, subst, suc, sym, take, take-append-drop, to_z, true, unsigned_abs, w64, w8, zero, ℕ, ℤ, [], ⊎_elim, ◌%◌, ◌&&◌, ◌*ℤ◌, ◌*◌, ◌++◌, ◌+ℤ◌, ◌+◌, ◌-ℤ◌, ◌-◌, ◌/◌, ◌<ℤ◌, ◌<◌, ◌==◌, ◌^◌, ◌||◌, ◌∙◌, ◌∷◌, ◌≡◌, ◌≢◌, ◌≤ℤ◌, ◌≤◌, ◌⊎◌}
pub use Rattle.std.proofs.Math.Nat.{add-mul-div_right, add-mul-mod_self_left, add-mul-mod_self_right, div-div-eq-div-mul, div-one, eq_of_mul-eq-mul_right, mod-eq_of_lt, mod-le, mul-div-mul_right, mul-le-mul, mul-le-mul_left, mul-lt-mul_of_pos_right, mul-mod_left, one-le-pow, pow-le-pow_right, pow-suc, pow-zero, zero-mod}
pub use Rattle.std.proofs.lemmas.Bool.{agree_below_at, cases_eq, cases_lt}
pub use Rattle.std.proofs.lemmas.Bool.Decides.{nat_tests}
pub use Rattle.std.proofs.lemmas.Int.{by_lt_z, ints, to_z-of_z, to_z_pos}
pub use Rattle.std.proofs.lemmas.List.{drop-set, drop_all, length-map, length-replicate, length-take-le, replicate-append-replicate, set_comm, take-take, take_rest}
pub use Rattle.std.proofs.lemmas.Nat.{and_block, and_mask, div-add-mod', div-mul-add, div_below, from_le_bytes-to_le_bytes_8, le_bytes_8, mod-mul-add, mod_below, mul-le, mul-mod_first, same_from_place}
pub use Rattle.std.proofs.lemmas.Str.{digit_value_digit}
pub use Rattle.std.specs.Char.{digit_value, is_ascii_digit}
pub use Rattle.std.specs.Int.{from_le_bytes, to_le_bytes, w128}
pub use Rattle.std.specs.List.{list_all, prefix_len}
pub use Rattle.std.specs.Option.{option_map}
pub use Rattle.std.specs.Prelude.{Err, IsTrue, MatchBool, min, slice_index_or, ◌↔◌}
pub use Rattle.std.specs.Str.Parse.{AllDigits, digits_value, digits_value_after}
