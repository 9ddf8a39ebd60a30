-- Definitions that look into structs of the code: of potentials and duals (Potentials, Duals, ByNode), of Prim's
-- algorithm (Outside), and of the rounds (Boxes, Components). No circle rests on them, but tsp_branch and tsp_verdict
-- use some in proofs and contracts.
pub mod Outside
pub mod Boxes
pub mod ByNode
pub mod Components
pub mod Duals
pub mod Potentials
