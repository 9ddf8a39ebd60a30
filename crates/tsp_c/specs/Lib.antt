-- Definitions of the results of the C calls: texts (Texts, SolutionCall), numbers (NumberCalls, CallResult), and open
-- instances (Opened). No crate is above this one.
pub mod Prelude
pub mod NumberCalls
pub mod Opened
pub mod Texts
pub mod SolutionCall
pub mod CallResult
