-- Names of other crates, passed on to the files of this crate alone. It defines nothing: add or remove names freely;
-- `tests/repository/names` sees that each is imported from here.
pub use Rattle.std.proofs.Common.{List, None, Ok, Option, Some, ap, append-nil, append_assoc, arith, false, get_or, length, map, refl, rules, subst, sym, take, true, ℕ, [], ◌++◌, ◌+◌, ◌<◌, ◌∙◌, ◌∷◌, ◌≡◌}
pub use Rattle.std.proofs.lemmas.Int.{ints, to_z-of_z}
pub use Rattle.std.proofs.lemmas.List.{get_or-map, length-map}
pub use Rattle.std.specs.Fmt.{decimal, signed_decimal}
unfoldable pub use Rattle.std.specs.Fmt.{digits}
pub use Rattle.std.specs.Int.{w128, w64}
pub use Rattle.std.specs.List.{enumerate_from, flat_map}
pub use Rattle.std.specs.Prelude.{FitsSigned, IsTrue, codes, pos, unwrap_or, ℤ, ◌-ℤ◌, ◌==◌}
pub use Rattle.tsp_io.proofs.Carrying.{carried_mapped, carried_next, carried_node, carried_nodes, carried_none, carried_then, text_stopped, text_written}
pub use Rattle.tsp_io.specs.states.Output.{Carried, Way, way_of}
