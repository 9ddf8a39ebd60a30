-- Lemmas on families (PartWalks, LeastCycles, Divisions, FamilyCrossings, GoodFamilies, SetSums) and on trees of cases
-- (the others; Solutions has those that hold of any kind of solution). Proofs in tsp_branch, tsp_routing and tsp_verdict import them, too.
mod Prelude
pub mod PartWalks
mod LeastCycles
mod Divisions
mod SmallFamilies
pub mod Solutions
mod CaseLaws
pub mod LeavesBoundCycles
pub mod FamilyCrossings
mod SmallCaseTrees
pub mod SetSums
pub mod OpenCases
pub mod Passes
pub mod TreeBranches
pub mod GoodFamilies
