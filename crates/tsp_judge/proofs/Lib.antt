-- Lemmas on runs, by what they mean (Yeses), by their verb (Bounding, Comparing), and on certificates that may be named
-- (NamedReaders). Proofs in tsp_c use some.
mod Prelude
pub mod Bounding
mod Comparing
mod NamedReaders
pub mod Yeses
