-- Definitions of the problem that an instance is (Problems), by which tsp_verdict and tsp_judge define verdicts, and of
-- how the code keeps its costs (`states`).
pub mod Prelude
pub mod states
pub mod Examples
pub mod Problems
