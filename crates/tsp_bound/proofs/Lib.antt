-- Lemmas for Prim's algorithm (GrowingTrees), for rounds (RoundJoins), and for what the rounds search: boxes (Searches,
-- Lowest) and lists (AllPairs). Proofs in tsp_verdict import LoweredWeights and RoundJoins; the other files are for
-- this crate.
mod Prelude
mod GrowingTrees
mod Searches
pub mod RoundJoins
mod AllPairs
pub mod LoweredWeights
mod Lowest
