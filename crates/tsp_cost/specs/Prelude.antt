-- Names of other crates, passed on to the files of this crate alone. It defines nothing: add or remove names freely;
-- `tests/repository/names` sees that each is imported from here.
pub use Rattle.std.specs.Prelude.{Bool, IfSome, IsSome, IsTrue, List, MatchOption, MatchResult, None, Option, Some, false, length, map, neg_ℤ, pos, slice_index, slice_index_or, true, unsigned_abs, unwrap_or, ℕ, ℤ, []}
pub use Rattle.tsp_file.specs.Cost.{HoldsRouting, UnlistedHaveNoPlace, fixed_of, point_of}
unfoldable pub use Rattle.tsp_file.specs.Cost.{cost, distance, listed_cost}
pub use Rattle.tsp_file.specs.Fields.{Fields, blank_fields, nodes_of}
pub use Rattle.tsp_format.specs.Nodes.{IsNode, is_listed}
unfoldable pub use Rattle.tsp_format.specs.Nodes.{cells, nodes_to}
pub use Rattle.tsp_number.specs.Distances.{euc_2d_of, on_plane, squared}
pub use Rattle.tsp_number.specs.declared.decimal.Point.{Point}
pub use Rattle.tsp_theory.specs.Tour.{IsPlan, IsTour, Problem, RoutingProblem, demand_of, length_of, links_to, sum_int_by}
