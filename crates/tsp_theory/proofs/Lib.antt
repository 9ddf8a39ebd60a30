-- The proofs of the theorems, in the order of docs/proof.md: sums, then the exchange and least trees, then cycles; and
-- the law on the first of several things (FirstRanks). Proofs of bounds in crates above import them.
mod Prelude
pub mod Sums
pub mod Neighbours
pub mod Cycles
pub mod Exchange
pub mod Trees
mod SmallTrees
pub mod FirstRanks
