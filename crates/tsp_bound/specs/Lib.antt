-- Definitions for this crate's contracts: the weight of a minimum 1-tree, whichever tree it is (Weighed, which tsp_branch
-- uses too), and what the structs contain (states; tsp_branch and tsp_verdict use some). Bounds are defined in tsp_theory.
pub mod Prelude
pub mod states
pub mod Weighed
