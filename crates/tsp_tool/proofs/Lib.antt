-- Lemmas on command lines (Subcommands) and on opened files (Openings). No other crate imports them.
mod Prelude
mod Subcommands
mod Openings
