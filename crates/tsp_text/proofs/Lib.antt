-- Lemmas for the laws of this crate: fields of a text without a fault are valid (the files Valid..), and what is
-- settled stays (the files Settled..). Most proofs in tsp_read import some.
mod Prelude
pub mod ValidKeywords
pub mod GroupWords
pub mod SettledItems
pub mod SettledFaults
pub mod ValidRows
pub mod Sections
pub mod ValidItems
pub mod ValidCuts
mod ValidTree
mod ValidMemory
mod EachOnce
