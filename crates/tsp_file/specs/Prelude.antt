-- Names of other crates, passed on to the files of this crate alone. It defines nothing: add or remove names freely;
-- `tests/repository/names` sees that each is imported from here.
pub use Rattle.std.specs.List.{All, enumerate_from, find, flat_map, list_all, sum_by}
pub use Rattle.std.specs.Option.{option_map, option_map_or, option_or}
pub use Rattle.std.specs.Prelude.{Bool, Err, IfOk, IfSome, IsSome, IsTrue, List, MatchOption, MatchResult, None, Ok, OnErr, OnOk, Option, Result, Some, codes, cond, decimal, drop, false, int_le, is_some, length, map, nat_abs, nat_le, neg_ℤ, negsuc, not, pos, replicate, slice_index, slice_index_or, take, true, unsigned_abs, unwrap_or, ℕ, ℤ, []}
pub use Rattle.tsp_format.specs.Limits.{IsNumberOf, is_unknown, keyword_of, most_branches, most_capacity, most_changes, most_comments, most_coordinate, most_demand, most_depots, most_difference, most_families, most_family_nodes, most_fixed, most_kept_bytes, most_load_unit, most_matrix_nodes, most_multiplier, most_nodes, most_others, most_potential, most_rows, most_scale, most_tour_nodes, most_triples, most_weight, shape_of, value_shape_of}
pub use Rattle.tsp_format.specs.Nodes.{IsNode, is_listed, line_len_of}
unfoldable pub use Rattle.tsp_format.specs.Nodes.{cells, cells_of_line, nodes_to}
pub use Rattle.tsp_format.specs.Steps.{Branch, IsFromTo, Leaf, Step, SubsetRow, are_whole, branch_count, change_count, row_size}
pub use Rattle.tsp_format.specs.Words.{FindsAsymmetric, IsFirstAsymmetric, IsSymmetric, coord_kind_word, display_kind_word, field_word, fields_in_order, is_blank, is_keyword_byte, is_letter, is_spatial, kind_word, weight_format_word, weight_kind_word}
pub use Rattle.tsp_format.specs.declared.keyword.Field.{Field}
pub use Rattle.tsp_format.specs.declared.keyword.Field.TheVariants.{BranchPart, CapacityKey, ColumnPotentialPart, CommentKey, DemandPart, DepotPart, DimensionKey, DisplayDataPart, DisplayDataTypeKey, EdgeWeightFormatKey, EdgeWeightPart, EdgeWeightTypeKey, FamilyPart, FixedEdgePotentialPart, FixedEdgesPart, LoadUnitKey, MemoryPart, NameKey, NodeCoordPart, NodeCoordTypeKey, NodePotentialPart, OtherKey, RowPotentialPart, ScaleKey, SubsetRowPart, TourPart, TypeKey}
pub use Rattle.tsp_format.specs.declared.kinds.WeightFormat.{WeightFormat}
pub use Rattle.tsp_format.specs.declared.kinds.WeightFormat.TheVariants.{ByFunction, Listed}
pub use Rattle.tsp_format.specs.declared.kinds.WeightKind.{WeightKind}
pub use Rattle.tsp_format.specs.declared.kinds.WeightKind.TheVariants.{Att, Ceil2d, Euc2d, Euc3d, Explicit, Man2d, Man3d, Max2d, Max3d}
pub use Rattle.tsp_format.specs.declared.layout.Layout.{Layout}
pub use Rattle.tsp_format.specs.declared.layout.Layout.TheVariants.{FullMatrix, LowerCol, LowerDiagCol, LowerDiagRow, LowerRow, UpperCol, UpperDiagCol, UpperDiagRow, UpperRow}
pub use Rattle.tsp_format.specs.states.TreeSteps.{subset_row_of, subset_rows_of, step_of, steps_of}
pub use Rattle.tsp_number.specs.Distances.{IsAtt, IsCeil2d, IsEuc2d, IsEuc3d, IsMan2d, IsMan3d, IsMax2d, IsMax3d, att_of, ceil_2d_of, euc_2d_of, euc_3d_of, man_2d_of, man_3d_of, max_2d_of, max_3d_of, on_plane}
pub use Rattle.tsp_number.specs.declared.decimal.Point.{Point}
