-- Definitions of verdicts and their reasons (Verdicts), of the bytes that are printed for them (Report, Show), and of
-- tasks (Tasks). Every crate that judges or prints builds on these.
pub mod Examples
pub mod Tasks
pub mod Verdicts
pub mod Report
pub mod Show
