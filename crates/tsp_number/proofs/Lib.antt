-- Lemmas for the functions and laws of this crate, from roots (RoundedRoots, Comparisons) to number words (the others).
-- No contract names one, so only proofs depend on them, here and in tsp_read and tsp_file.
mod Prelude
mod RoundedRoots
mod Comparisons
pub mod NumberGrammar
pub mod Scaling
pub mod Spelled
pub mod WordLaws
mod EightDigits
mod FrontNumbers
