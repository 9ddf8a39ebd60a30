-- Definitions of what a call does to a reader or a writer (Streams), of failed writes (Writing), and of how this crate
-- sees a reader and a writer (`states`). The contracts of all runs say by them what is read and written.
pub mod states
pub mod Streams
pub mod Writing
