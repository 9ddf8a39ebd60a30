-- Names of other crates, passed on to the files of this crate alone. It defines nothing: add or remove names freely;
-- `tests/repository/names` sees that each is imported from here.
pub use Rattle.std.specs.List.{AllByRecursion, before_first, filter, find, fold, list_all, list_any, prefix_len, slice_split, take_while}
pub use Rattle.std.specs.Prelude.{Bool, Err, IsTrue, List, None, Ok, Option, Result, Some, codes, cond, decimal, drop, false, get_or, is_none, is_some, length, map, nat_abs, nat_le, nat_lt, neg_ℤ, negsuc, not, pos, replicate, reverse, slice_index, take, true, unwrap_or, ℕ, ℤ, []}
pub use Rattle.tsp_format.specs.Limits.{is_section_field, is_unknown, keyword_of, most_branches, most_changes, most_comments, most_coordinate, most_demand, most_depots, most_difference, most_families, most_family_nodes, most_file_bytes, most_fixed, most_kept_bytes, most_line_bytes, most_matrix_nodes, most_multiplier, most_nodes, most_others, most_potential, most_rows, most_tour_nodes, most_weight, most_word_bytes, shape_of, value_shape_of}
pub use Rattle.tsp_format.specs.declared.keyword.Field.{Field}
pub use Rattle.tsp_format.specs.declared.keyword.Field.TheVariants.{BranchPart, CapacityKey, ColumnPotentialPart, CommentKey, DemandPart, DepotPart, DimensionKey, DisplayDataPart, DisplayDataTypeKey, EdgeWeightFormatKey, EdgeWeightPart, EdgeWeightTypeKey, FamilyPart, FixedEdgePotentialPart, FixedEdgesPart, LoadUnitKey, MemoryPart, NameKey, NodeCoordPart, NodeCoordTypeKey, NodePotentialPart, OtherKey, RowPotentialPart, ScaleKey, SubsetRowPart, TourPart, TypeKey}
pub use Rattle.tsp_number.specs.NumberWord.{IsShort, number_fault_text}
unfoldable pub use Rattle.tsp_number.specs.NumberWord.{decimal_of, whole_of}
pub use Rattle.tsp_number.specs.declared.number_word.NumberFault.{NumberFault}
