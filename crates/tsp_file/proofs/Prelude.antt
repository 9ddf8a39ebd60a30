-- Names of other crates, passed on to the files of this crate alone. It defines nothing: add or remove names freely;
-- `tests/repository/names` sees that each is imported from here.
pub use Rattle.std.proofs.Common.{Bool, Err, List, None, Ok, Option, Result, Some, ap, append-nil, append_assoc, arith, bit_or, cond, drop, false, get_or, inl, inr, length, length-append, map, max, min, of_z, refl, rules, set, subst, suc, sym, take, to_z, true, zero, ℕ, [], ⊎_elim, ◌%◌, ◌*◌, ◌++◌, ◌+◌, ◌-◌, ◌/◌, ◌<◌, ◌^◌, ◌∙◌, ◌∷◌, ◌≡◌, ◌≢◌, ◌≤ℤ◌, ◌≤◌}
pub use Rattle.std.proofs.lemmas.Bool.{and_from, and_parts, cases_eq, cases_lt, eq-eqb, eqb-true, false≢true, le-leb, le-ltb, leb-true, lt-leb, or_parts, or_right}
pub use Rattle.std.proofs.lemmas.Int.{ints, to_z-of_z}
pub use Rattle.std.proofs.lemmas.List.{at_drop_more, drop-append-le, drop-drop, drop-set, drop_all, drop_at, drop_min, ext_get_or, flat_map_more, get_or-append_right, get_or-map, get_or-set_other, get_or-set_same, get_or-take, get_or_append_left, get_or_default, get_or_past, length-drop, length-map, length-set, length-take-le, map-append, map-id, take-append-drop, take_all, take_min, take_more}
pub use Rattle.std.proofs.lemmas.List.Folds.{flat_map-map, list_all-append, list_all-map}
pub use Rattle.std.proofs.lemmas.List.Sums.{AllPass-from_list_all, list_all-from_AllPass, sum_by-cons, sum_by-le-sum_by}
pub use Rattle.std.proofs.lemmas.Nat.{le_or_l, le_or_r, mul-le}
pub use Rattle.std.specs.Fmt.{decimal, signed_decimal}
unfoldable pub use Rattle.std.specs.Fmt.{digits}
pub use Rattle.std.specs.Int.{w64}
pub use Rattle.std.specs.List.{All, AllByRecursion, Contains, CopiedTo, SameBelow, SameFrom, enumerate_from, find, flat_map, fold, list_all, range_with_len, sum_by}
pub use Rattle.std.specs.Option.{option_map, option_map_or, option_or}
pub use Rattle.std.specs.Prelude.{FitsSigned, IsSome, IsTrue, OnOk, codes, int_le, is_some, nat_le, nat_lt, neg_ℤ, not, pos, replicate, slice_index, slice_index_or, slice_set, unsigned_abs, unwrap_or, ℤ, ◌&&◌, ◌==◌, ◌||◌, ◌↔◌, ◌⊎◌}
pub use Rattle.tsp_format.proofs.Pairs.{cell_is, cells-lines, cells_counted, line_counted}
pub use Rattle.tsp_format.specs.Limits.{most_branches, most_capacity, most_changes, most_comments, most_coordinate, most_demand, most_depots, most_difference, most_families, most_family_nodes, most_fixed, most_kept_bytes, most_load_unit, most_matrix_nodes, most_multiplier, most_nodes, most_others, most_potential, most_rows, most_scale, most_tour_nodes, most_triples, most_weight, shape_of}
pub use Rattle.tsp_format.specs.Nodes.{IsNode, cell_count_of, is_listed, line_len_of}
unfoldable pub use Rattle.tsp_format.specs.Nodes.{cells, cells_of_line, nodes_to}
pub use Rattle.tsp_format.specs.Place.{place_by_table}
unfoldable pub use Rattle.tsp_format.specs.Place.{place_of}
pub use Rattle.tsp_format.specs.Steps.{Branch, IsFromTo, Leaf, Step, SubsetRow, are_whole, branch_count, change_count, row_size}
pub use Rattle.tsp_format.specs.Words.{IsFirstAsymmetric, IsFirstWithWord, IsSymmetric, coord_kind_found, coord_kind_word, coord_kinds, display_kind_found, display_kind_word, display_kinds, field_found, field_word, fields_in_order, is_blank, kind_found, kind_word, kinds, weight_format_found, weight_format_word, weight_formats, weight_kind_found, weight_kind_word, weight_kinds}
pub use Rattle.tsp_format.specs.declared.keyword.Field.{Field}
pub use Rattle.tsp_format.specs.declared.keyword.Field.TheVariants.{BranchPart, CapacityKey, ColumnPotentialPart, CommentKey, DemandPart, DepotPart, DimensionKey, DisplayDataPart, DisplayDataTypeKey, EdgeWeightFormatKey, EdgeWeightPart, EdgeWeightTypeKey, FamilyPart, FixedEdgePotentialPart, FixedEdgesPart, LoadUnitKey, MemoryPart, NameKey, NodeCoordPart, NodeCoordTypeKey, NodePotentialPart, OtherKey, RowPotentialPart, ScaleKey, SubsetRowPart, TourPart, TypeKey}
pub use Rattle.tsp_format.specs.declared.kinds.WeightFormat.{WeightFormat}
pub use Rattle.tsp_format.specs.declared.kinds.WeightFormat.TheVariants.{ByFunction, Listed}
pub use Rattle.tsp_format.specs.declared.layout.Layout.{Layout}
pub use Rattle.tsp_format.specs.declared.layout.Layout.TheVariants.{FullMatrix, LowerCol, LowerDiagCol, LowerDiagRow, LowerRow, UpperCol, UpperDiagCol, UpperDiagRow, UpperRow}
pub use Rattle.tsp_format.specs.states.TreeSteps.{subset_row_of, subset_rows_of, step_of, steps_of}
pub use Rattle.tsp_io.proofs.Carrying.{carried_all, carried_failed, carried_mapped, carried_next, carried_next_or, carried_node, carried_node_or, carried_nodes, carried_none, carried_then, text_stopped, text_written}
pub use Rattle.tsp_io.specs.states.Output.{Carried, Way, way_of}
pub use Rattle.tsp_number.specs.NumberWord.{spelling}
unfoldable pub use Rattle.tsp_number.specs.NumberWord.{decimals}
pub use Rattle.tsp_number.specs.declared.decimal.Point.{Point}
