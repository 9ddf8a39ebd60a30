-- Names of other crates, passed on to the files of this crate alone. It defines nothing: add or remove names freely;
-- `tests/repository/names` sees that each is imported from here.
pub use Rattle.std.proofs.Common.{Bool, Err, FitsSigned, IfErr, List, None, Ok, Option, Result, Some, ap, append-nil, append_assoc, ap₂, arith, cond, drop, false, get_or, get_or-set_other, get_or-set_same, inl, inr, length, length-append, length-drop, map, refl, reverse, rules, set, subst, suc, sym, take, take-append-drop, tests, true, w64, zero, ℕ, [], ◌%◌, ◌*◌, ◌++◌, ◌+◌, ◌-◌, ◌/◌, ◌<◌, ◌^◌, ◌∙◌, ◌∷◌, ◌≡◌, ◌≢◌, ◌≤◌}
pub use Rattle.std.proofs.lemmas.Bool.{and_from, and_left, and_parts, and_right, eq-eqb, eqb-true, false_from_ne_true, false≢true, le-leb, le-ltb, leb-true, lt-leb, lt-ltb, ltb-false, ltb-true, ne_eqb, not-true, not_from_false, not_from_true, or_from, or_parts, or_right, true≢false}
pub use Rattle.std.proofs.lemmas.Bool.Decides.{Decides-int_eq, Decides-ltb, nat_tests, same_from_decides}
pub use Rattle.std.proofs.lemmas.Grind.{common_steps}
pub use Rattle.std.proofs.lemmas.Int.{ints, to_z-of_z}
pub use Rattle.std.proofs.lemmas.List.{drop_at, ext_get_or, get_or-replicate, get_or-reverse, length-map, length-replicate, length-set, length_push, map-append, map-set, map_push, nil_from_length, reverse-append, reverse-reverse, take-append-le, take_all, take_at}
pub use Rattle.std.proofs.lemmas.List.Folds.{list_all-append, list_any-append}
pub use Rattle.std.proofs.lemmas.List.Sums.{fold-append, prefix_len-le-length, sum_by-cons}
pub use Rattle.std.proofs.lemmas.Option.{cond_some, none-some}
pub use Rattle.std.specs.Fmt.{decimal, signed_decimal}
pub use Rattle.std.specs.List.{enumerate_from, filter, find, flat_map, fold, list_all, list_any, onto_first, position, position_or_len, prefix_len, range_with_len, slice_split, sum_by}
pub use Rattle.std.specs.Option.{option_and_then, option_map, option_map_or, option_or}
pub use Rattle.std.specs.Ordering.{int_eq}
pub use Rattle.std.specs.Prelude.{IfSome, IsOk, MatchResult, OnOk, codes, int_le, is_err, is_none, is_some, nat_abs, nat_le, nat_lt, neg_ℤ, negsuc, not, pos, replicate, slice_index, slice_index_or, slice_set, unsigned_abs, unwrap_or, ℤ, ◌&&◌, ◌*ℤ◌, ◌==◌, ◌||◌, ◌↔◌, ◌≤ℤ◌, ◌⊎◌}
pub use Rattle.std.specs.Result.{IsErrAnd, result_err, result_ok}
pub use Rattle.tsp_file.proofs.TextLengths.{within_abs}
pub use Rattle.tsp_file.specs.CanonicalText.{before_blank, blank_before, case_tree_lines, change_words, coordinate_words, ended_by_mark, ended_line, family_lines, family_list, keyword_line, line_end, line_lens, lines_by_node, matrix_lines, node_list, number_line, optional, other_line, pair_list, row_lines, row_list, section_text, set_line, step_line, text_of, text_of_field, text_of_section, triple_list, value_line, weight_line, whole_number}
pub use Rattle.tsp_file.specs.Fields.{Fields, numbers_in, points_in, spatial, stands_in, with_numbers, with_one_number, with_points}
pub use Rattle.tsp_file.specs.Validity.{are_depots, are_family_lists, are_fixed, are_memory_lists, are_sets, are_subset_rows, are_tours, are_tree_steps, are_triples, bad_field, fit_matrix, fits, if_there, is_branch_of, is_by_node, is_change, is_from_to, is_kept, is_node, is_node_list, is_other, is_pair_of, is_point, is_row_of, is_set_of, is_step, is_triple_of, is_unknown_keyword, is_within, section_fits, with_dimension}
pub use Rattle.tsp_file.specs.states.Drafts.{families_of, fields_of, points_of}
pub use Rattle.tsp_format.specs.Limits.{is_section_field, is_unknown, keyword_of, most_branches, most_capacity, most_changes, most_comments, most_coordinate, most_depots, most_difference, most_families, most_family_nodes, most_file_bytes, most_fixed, most_kept_bytes, most_line_bytes, most_load_unit, most_matrix_nodes, most_multiplier, most_nodes, most_others, most_rows, most_scale, most_tour_nodes, most_triples, most_weight, most_word_bytes, shape_of, value_shape_of}
pub use Rattle.tsp_format.specs.Steps.{Branch, Leaf, Step, SubsetRow, are_whole, branch_count, change_count, row_size}
pub use Rattle.tsp_format.specs.Words.{coord_kind_word, coord_kinds, display_kind_word, display_kinds, field_found, field_word, fields_in_order, is_blank, is_keyword_byte, is_letter, is_spatial, kind_word, kinds, weight_format_word, weight_formats, weight_kind_word, weight_kinds}
pub use Rattle.tsp_format.specs.declared.keyword.Field.{Field}
pub use Rattle.tsp_format.specs.declared.keyword.Field.TheVariants.{BranchPart, CapacityKey, ColumnPotentialPart, CommentKey, DemandPart, DepotPart, DimensionKey, DisplayDataPart, DisplayDataTypeKey, EdgeWeightFormatKey, EdgeWeightPart, EdgeWeightTypeKey, FamilyPart, FixedEdgePotentialPart, FixedEdgesPart, LoadUnitKey, MemoryPart, NameKey, NodeCoordPart, NodeCoordTypeKey, NodePotentialPart, OtherKey, RowPotentialPart, ScaleKey, SubsetRowPart, TourPart, TypeKey}
pub use Rattle.tsp_format.specs.declared.keyword.Keyword.TheVariants.{EdgeDataFormat, EdgeDataSection, Eof, Known, Unknown}
pub use Rattle.tsp_format.specs.declared.keyword.Shape.{Shape}
pub use Rattle.tsp_format.specs.declared.keyword.Shape.TheVariants.{Depots, Families, Memories, Numbers, Pairs, Points, SpacePoints, Steps, SubsetRows, Tours, Triples, Weights}
pub use Rattle.tsp_format.specs.states.TreeSteps.{subset_rows_of}
pub use Rattle.tsp_io.specs.states.Watched.{has_failed, read_trace_of, watched}
pub use Rattle.tsp_number.proofs.NumberGrammar.{nil_from_test}
pub use Rattle.tsp_number.specs.Decimal.{most_count, unit}
pub use Rattle.tsp_number.specs.NumberWord.{IsExponent, IsFraction, IsSign, Numeral, ReadsDecimal, ReadsWhole, SpellsNumeral, StandsFor, fraction_spelling, lower_e, minus, plus, point, shift_of, size_spelling, spelling, upper_e, with_sign}
unfoldable pub use Rattle.tsp_number.specs.NumberWord.{decimal_of, decimals, whole_of}
pub use Rattle.tsp_number.specs.declared.decimal.Point.{Point}
pub use Rattle.tsp_number.specs.declared.number_word.NumberFault.{NumberFault}
pub use Rattle.tsp_text.proofs.GroupWords.{Words, all_groups, begun_append, begun_short, first_of, firsts_begin, firsts_kept, firsts_on, goes_on, group_ends, groups_append, groups_kept, groups_none, length_groups, nodes_read}
pub use Rattle.tsp_text.proofs.SettledFaults.{clean_more, ended_kept, ended_stays, fault_kept, fault_stays, long_fault, long_row, part_kept, part_long, part_short, same_fault, settled_kept}
pub use Rattle.tsp_text.proofs.SettledItems.{start_blank, start_filled, words_blank}
pub use Rattle.tsp_text.proofs.ValidRows.{clean_parts, coords_stay, first_stays, long_line, no_words_opened, rows_of_word, same_field_is, same_self, space_kept, was_opened, words_more}
pub use Rattle.tsp_text.specs.Earlier.{coord_kind_named, dimension_in, dimension_of, display_kind_named, has_line, is_key, is_left_out, is_open, kind_named, named_at, open_section, others_in, place_by, place_in, read_as, same_field, says_space, spatial_after, value_at, values_at, weight_format_named, weight_kind_named, words_of}
pub use Rattle.tsp_text.specs.FaultRows.{first_row, is_late, is_past_families, is_too_long_to_keep, may_repeat, row_of, when, word_fault}
pub use Rattle.tsp_text.specs.Groups.{FamiliesSoFar, before, begun_in, by_node, coords_by_node, depots_in, entry_of, firsts_in, fixed_in, fixed_pair, fixed_triple, fixed_triples_in, groups_in, listed_in, no_families, node_groups, nodes_of_groups, number_value, numbers_by_node, place_by_node, place_in_families, place_in_group, place_in_list, place_in_pair, place_in_triple, place_of_depot, place_of_family, place_of_fixed, place_of_number, place_of_triple, point_in, points_by_node, space_point_in, space_points_by_node, whole_families, with_end, with_family_word, with_node, word_at}
pub use Rattle.tsp_text.specs.Items.{AreCut, Item, Line, LineEnd, NumberWord, WordLine, after_keyword, begins, ends_line, first_word, has_colon, has_end_line, has_no_line_end, is_colon, is_end_line, is_not_empty, is_word_line, items_by, items_in, items_of, keyword_in, line_item, lines_of, settled_in, settled_items, settled_line, settled_pieces, settled_words, to_end_line, value_in, without_end, without_start, word_line_of, word_number, words_before, words_in}
pub use Rattle.tsp_text.specs.MemoryWords.{MemoriesSoFar, RowsSoFar, no_memories, no_subset_rows, place_in_memories, place_in_rows, place_of_memory, place_of_row, row_with, whole_memories, whole_rows, with_list_end, with_memory_node, with_memory_word, with_row_end, with_row_node, with_row_word}
pub use Rattle.tsp_text.specs.ParsesTo.{IsClean, ParsesTo, fault, fault_at_end, fault_in, fields_by, first_incomplete, is_incomplete, is_matrix, is_too_long, needs_nodes, opening_rows, part, sections_in_order, settled_fault, settled_part, spelled, wants_more}
pub use Rattle.tsp_text.specs.SectionWords.{Amount, Coordinate, DepotAfter, FirstAfter, IndexAfter, IsWhole, NodeAfter, PastEnd, PastGroups, PastWeights, Place, SecondOf, SetNode, StepAfter, TourNode, TreeSoFar, Weight, begins_leaf, ends_leaf, ends_tour, index_or_end, index_or_leaf, is_end, is_minus_one, no_steps, node, node_or_end, not_zero, number, place_in_step, place_in_tree, place_of_step, place_of_tour, place_of_weight, reads_as, tour_node, tours_in, tree_after, weights_in, whole_of_size, whole_steps, with_leaf, with_tree_word, with_word_of}
pub use Rattle.tsp_text.specs.declared.fault.LineFault.{LineFault}
pub use Rattle.tsp_text.specs.declared.fault.ReadFault.{ReadFault}
