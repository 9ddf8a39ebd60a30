-- Definitions for this crate's contracts: the verdict on a branches file for tours (BranchVerdicts, from which
-- tsp_verdict proves its reasons), and rows of weights (states). Bounds are defined in tsp_cases.
pub mod Prelude
pub mod states
pub mod BranchVerdicts
