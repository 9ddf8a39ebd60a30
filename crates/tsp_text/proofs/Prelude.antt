-- Names of other crates, passed on to the files of this crate alone. It defines nothing: add or remove names freely;
-- `tests/repository/names` sees that each is imported from here.
pub use Rattle.std.proofs.Common.{Bool, Err, List, None, Ok, Option, Result, Some, ap, append_assoc, arith, cond, false, get_or, inl, inr, length, length-append, map, refl, reverse, subst, suc, sym, true, zero, ℕ, [], ◌*◌, ◌++◌, ◌+◌, ◌-◌, ◌<◌, ◌∙◌, ◌∷◌, ◌≡◌, ◌≢◌, ◌≤◌}
pub use Rattle.std.proofs.Math.ListN.{drop, take}
pub use Rattle.std.proofs.lemmas.Bool.{and_from, and_parts, eq-eqb, eqb-false, eqb-true, false≢true, le-leb, leb-false, leb-true, lt-leb, lt-ltb, ltb-false, ltb-true, ne_eqb, not_from_false, or_parts, true≢false}
pub use Rattle.std.proofs.lemmas.Bool.Decides.{Decides-int_eq, nat_tests}
pub use Rattle.std.proofs.lemmas.List.{append-nil, get_or_push, length-map, length-take-le, length_push, map_push, nil_from_length, reverse-append, reverse-reverse, take-append-drop, take-append-le, take_all}
pub use Rattle.std.proofs.lemmas.List.Folds.{list_all-append, list_all-map, list_any-append}
pub use Rattle.std.specs.List.{AllByRecursion, Contains, filter, find, list_all, list_any, onto_first, prefix_len, remove, slice_split, sum_by, take_while}
pub use Rattle.std.specs.Option.{option_and_then, option_map, option_map_or, option_or}
pub use Rattle.std.specs.Prelude.{codes, if◌then◌else◌, int_le, is_some, nat_abs, nat_le, nat_lt, neg_ℤ, negsuc, not, pos, slice_index, unsigned_abs, unwrap_or, ℤ, ◌&&◌, ◌==◌, ◌||◌, ◌⊎◌}
pub use Rattle.std.specs.Result.{result_err, result_ok}
pub use Rattle.tsp_file.specs.Validity.{are_comments, are_depots, are_family_lists, are_fixed, are_memory_lists, are_others, are_sets, are_subset_rows, are_tours, are_tree_steps, are_triples, bad_field, first_failing, fit_matrix, fits, if_there, is_branch_of, is_by_node, is_change, is_demand, is_from_to, is_kept, is_node, is_node_list, is_other, is_pair_of, is_point, is_row_of, is_set_of, is_step, is_triple_of, is_unknown_keyword, is_within, with_dimension}
pub use Rattle.tsp_format.specs.Limits.{field_of, is_other_key, is_section_field, is_unknown, keyword_of, known_or_not, most_branches, most_capacity, most_changes, most_comments, most_coordinate, most_demand, most_depots, most_difference, most_families, most_family_nodes, most_file_bytes, most_fixed, most_kept_bytes, most_line_bytes, most_load_unit, most_matrix_nodes, most_multiplier, most_nodes, most_others, most_potential, most_rows, most_scale, most_tour_nodes, most_weight, most_word_bytes, shape_of}
pub use Rattle.tsp_format.specs.Words.{field_found, field_word, fields_in_order, has_three, is_blank, is_keyword_byte, is_letter, weighs_three}
pub use Rattle.tsp_format.specs.declared.keyword.Field.{Field}
pub use Rattle.tsp_format.specs.declared.keyword.Field.TheVariants.{BranchPart, CapacityKey, ColumnPotentialPart, CommentKey, DemandPart, DepotPart, DimensionKey, DisplayDataPart, DisplayDataTypeKey, EdgeWeightFormatKey, EdgeWeightPart, EdgeWeightTypeKey, FamilyPart, FixedEdgePotentialPart, FixedEdgesPart, LoadUnitKey, MemoryPart, NameKey, NodeCoordPart, NodeCoordTypeKey, NodePotentialPart, OtherKey, RowPotentialPart, ScaleKey, SubsetRowPart, TourPart, TypeKey}
pub use Rattle.tsp_format.specs.declared.keyword.Keyword.TheVariants.{EdgeDataFormat, EdgeDataSection, Eof, Known, Unknown}
