-- Definitions that look into structs of the code: the steps and subset rows of a certificate, for every crate that
-- holds them. No circle rests on them.
pub mod TreeSteps
