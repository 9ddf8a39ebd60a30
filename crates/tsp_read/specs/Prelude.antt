-- Names of other crates, passed on to the files of this crate alone. It defines nothing: add or remove names freely;
-- `tests/repository/names` sees that each is imported from here.
pub use Rattle.std.specs.List.{filter, find, list_all, list_any, position, position_or_len, prefix_len, slice_split}
pub use Rattle.std.specs.Option.{ForSome, option_map, option_map_or}
pub use Rattle.std.specs.Prelude.{Bool, Err, IfErr, IfOk, IfSome, IsTrue, List, MatchOption, MatchResult, None, Ok, OnOk, Option, Result, Some, cond, drop, false, is_err, is_none, is_some, length, map, nat_le, nat_lt, negsuc, not, pos, replicate, reverse, slice_index_or, suc, take, true, unsigned_abs, unwrap_or, vec_capacity, vec_len, zero, ℕ, ℤ, []}
pub use Rattle.tsp_file.specs.Fields.{Fields, spatial, with_numbers, with_points}
pub use Rattle.tsp_file.specs.states.Drafts.{families_of, fields_of, points_of}
pub use Rattle.tsp_format.specs.Limits.{most_comments, most_families, most_file_bytes, most_line_bytes, most_others, most_rows, most_tour_nodes, most_weight, most_word_bytes, shape_of, value_shape_of}
pub use Rattle.tsp_format.specs.Words.{fields_in_order, is_blank, is_keyword_byte, is_letter}
pub use Rattle.tsp_format.specs.states.TreeSteps.{subset_rows_of}
pub use Rattle.tsp_number.specs.NumberWord.{spelling}
unfoldable pub use Rattle.tsp_number.specs.NumberWord.{decimal_of, whole_of}
pub use Rattle.tsp_text.specs.Earlier.{dimension_in, has_line, is_left_out, is_open, named, open_section, place_by, place_in, same_field, says_space, spatial_after, words_of}
pub use Rattle.tsp_text.specs.FaultRows.{first_row, is_past_families, is_too_long_to_keep, row_of, when, word_fault}
pub use Rattle.tsp_text.specs.Groups.{FamiliesSoFar, begun_in, coords_by_node, depots_in, entry_of, families_after, firsts_in, fixed_in, fixed_pair, fixed_triple, fixed_triples_in, groups_in, has_begun_family, listed_in, node_groups, number_value, numbers_by_node, place_of_family, place_of_fixed, place_of_number, place_of_triple, point_in, points_by_node, space_point_in, space_points_by_node, whole_families, with_end, with_family, with_set}
pub use Rattle.tsp_text.specs.Items.{AreCut, Item, Line, LineEnd, NumberWord, WordLine, begins, ends_line, first_word, has_end_line, is_colon, is_end_line, is_not_empty, items_by, items_in, items_of, keyword_in, line_item, line_number, lines_of, settled_in, settled_items, settled_words, to_end_line, without_end, without_start, word_number, words_before, words_in}
pub use Rattle.tsp_text.specs.MemoryWords.{MemoriesSoFar, RowsSoFar, has_begun_row, memories_after, place_of_memory, place_of_row, rows_after, whole_memories, whole_rows, with_list, with_list_end, with_row, with_row_end, with_row_set}
pub use Rattle.tsp_text.specs.ParsesTo.{IsClean, ParsesTo, fault, fault_at_end, fault_in, fields_by, first_incomplete, is_incomplete, is_too_long, opening_rows, part, sections_in_order, settled_fault, settled_part, spelled, wants_more}
pub use Rattle.tsp_text.specs.SectionWords.{IsWhole, Place, TreeSoFar, ends_tour, is_end, is_minus_one, node, node_or_end, place_of_step, place_of_weight, tour_node, tours_in, tree_after, weights_in, whole_steps, with_leaf}
pub use Rattle.tsp_text.specs.declared.fault.ReadFault.{ReadFault}
