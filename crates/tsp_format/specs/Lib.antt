-- Definitions for everything in TSPLIB 95 that needs no file: words, limits, nodes, cells of a matrix, steps of a tree.
-- Almost every crate above uses some.
pub mod states
pub mod Words
pub mod Nodes
pub mod Limits
pub mod Place
pub mod Steps
pub mod Examples
