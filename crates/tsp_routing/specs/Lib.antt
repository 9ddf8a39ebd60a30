-- Definitions on routes: plans and the sets that they cross (PlanLinks), bounds by q-routes (QRoutes, PlanBounds,
-- PlanVerdicts), and bounds by runs (Runs, Memories, Starts, KeptStates, RunBounds, RunTrees, RunVerdicts). tsp_verdict
-- and tsp_judge build on the verdicts and on plans.
pub mod Prelude
pub mod states
pub mod PlanLinks
pub mod QRoutes
pub mod PlanBounds
pub mod Runs
pub mod RunBounds
pub mod RunExamples
pub mod KeptStates
pub mod Memories
pub mod Starts
pub mod PlanVerdicts
pub mod RunTrees
pub mod RunVerdicts
pub mod Examples
