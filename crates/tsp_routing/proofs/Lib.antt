-- Lemmas on routes: for the theorems on plans (Plans, CutNeeds, QRoutesBoundPlans, RunsBoundPlans), for the verdict
-- (PlanJudging, JudgedLists, RunJudging, VerdictOfLeaves), for q-routes (QRouteRests, RouteProducts), for runs
-- (MemoryWords, GivenTables, RunSteps, NextEntries, WaysHome, the files Kept.., Floors, LeastRuns), and for the
-- examples (SmallCases). tsp_verdict imports a few on plans.
mod Prelude
pub mod Plans
pub mod CutNeeds
pub mod QRoutesBoundPlans
mod RunsBoundPlans
mod RunJudging
mod JudgedLists
pub mod SmallCases
mod KeptStarts
mod WaysHome
mod MemoryWords
mod RunSteps
mod NextEntries
mod GivenTables
mod KeptLists
mod KeptCounts
mod Floors
mod LeastRuns
mod RouteProducts
mod PlanJudging
mod VerdictOfLeaves
mod QRouteRests
