-- Definitions of what reading returns (Reads, by which tsp_judge and tsp_solution define their runs; Answers) and of
-- the reader's state on the way (`states`).
pub mod Prelude
pub mod states
pub mod Reads
pub mod Answers
