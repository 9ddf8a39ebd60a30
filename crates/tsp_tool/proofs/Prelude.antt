-- Names of other crates, passed on to the files of this crate alone. It defines nothing: add or remove names freely;
-- `tests/repository/names` sees that each is imported from here.
pub use Rattle.std.proofs.Common.{Bool, Err, IfOk, List, None, Ok, OnOk, Option, Result, Some, ap, ap₂, arith, codes, drop, false, fold, inl, inr, is_some, map, option_map, refl, rules, subst, suc, sym, take, true, unwrap_or, zero, ℕ, [], ◌%◌, ◌++◌, ◌/◌, ◌<◌, ◌==◌, ◌∙◌, ◌∷◌, ◌≡◌, ◌⊎◌}
pub use Rattle.std.proofs.KnownBytes.{Appends-nil, Appends-trans, Keeps-refl}
pub use Rattle.std.specs.Prelude.{Box, decimal, if◌then◌else◌, not, ◌&&◌, ◌||◌}
pub use Rattle.std.specs.String.{string_bytes}
pub use Rattle.clap.proofs.WalkLemmas.{first_value-rows, raw_values-rows, walk_stopped}
pub use Rattle.clap.specs.Words.{App, HasKind, IsAmong, Row, Text, fault_of, found_of, is_simple, kind_of, new_app, rows_of, subcommand_of, subcommand_rows_of, with_rule}
