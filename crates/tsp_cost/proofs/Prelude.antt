-- Names of other crates, passed on to the files of this crate alone. It defines nothing: add or remove names freely;
-- `tests/repository/names` sees that each is imported from here.
pub use Rattle.std.proofs.Common.{Bool, FitsSigned, List, None, Option, SFits, Some, add-one, ap, append_assoc, ap₂, arith, drop, drop-cons, eqb, false, inl, inr, length, ltb-false, map, negsuc, of_z, refl, rules, subst, suc, sym, take, take-append-drop, to_z, true, w64, zero, ℕ, [], ◌*ℤ◌, ◌*◌, ◌++◌, ◌+◌, ◌-ℤ◌, ◌-◌, ◌<◌, ◌^◌, ◌∙◌, ◌∷◌, ◌≡◌, ◌≢◌, ◌≤ℤ◌, ◌≤◌}
pub use Rattle.std.proofs.lemmas.Int.{ints, to_z-of_z, unsigned_abs-mul}
pub use Rattle.std.specs.Prelude.{IfSome, IsSome, IsTrue, if◌then◌else◌, is_some, nat_le, nat_lt, neg_ℤ, pos, slice_index, slice_index_or, unsigned_abs, unwrap_or, ℤ, ◌+ℤ◌, ◌⊎◌}
pub use Rattle.tsp_file.proofs.Relaid.{cost_of_cell, cost_of_listed, cost_unlisted, diagonal_unlisted, either_way, laid_at, lists, own_costs, same_layout, triangle_even, unlisted_has_no_place, weight_read}
pub use Rattle.tsp_file.specs.Cost.{ListsWeights, UnlistedHaveNoPlace, cost_by, layout_of, origin, point_of}
unfoldable pub use Rattle.tsp_file.specs.Cost.{cost, distance, listed_cost}
pub use Rattle.tsp_file.specs.Fields.{Fields, nodes_of}
pub use Rattle.tsp_format.specs.Nodes.{IsNode, is_listed}
unfoldable pub use Rattle.tsp_format.specs.Nodes.{cells, nodes_to}
pub use Rattle.tsp_number.specs.declared.decimal.Point.{Point}
pub use Rattle.tsp_theory.specs.Tour.{AreNeighbours, Follows, Problem, RoutingProblem, demand_of, length_of, links, links_to}
