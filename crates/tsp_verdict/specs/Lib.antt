-- Definitions of when a reason applies: to a solution (SolutionReasons), to a certificate (Certificates), and by
-- `--strict` (Strict); and of the verdicts that follow (Certified, SolutionVerdict). The runs of tsp_judge and tsp_c
-- are stated by them.
pub mod Prelude
pub mod states
pub mod Certificates
pub mod SolutionReasons
pub mod Certified
pub mod Strict
pub mod SolutionVerdict
pub mod Examples
