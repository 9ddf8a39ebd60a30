-- Definitions of tours and plans (Tour), of trees (Tree, Forest), of costs (Costs), of the bounds and theorems on them
-- (Bounds), and of the first of several things (First). Bounds and verdicts in crates above are defined by these.
pub mod states
pub mod Bounds
pub mod Costs
pub mod Tour
pub mod Examples
pub mod First
pub mod Forest
pub mod Tree
