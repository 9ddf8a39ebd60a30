-- Definitions of families (Crossings, Families), of trees of cases and their bounds (Cases, ListedCases, CaseTrees),
-- and of the judgement on each (Judged..). tsp_branch uses them for tours, and tsp_routing for routes.
pub mod Prelude
pub mod Crossings
pub mod Examples
pub mod states
pub mod Cases
pub mod CaseTrees
pub mod Families
pub mod JudgedLeaves
pub mod ListedCases
pub mod JudgedTrees
