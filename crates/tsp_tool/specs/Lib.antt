-- Definitions of a command line (Grammar, JobTasks, SolutionJobs, FormCheck, FormComparison), of the run that it asks
-- for (ProgramRun, RunEnd), and of files that aren't a standard stream (Beside). No circle of docs/trust.md contains
-- one of them.
pub mod Examples
pub mod Grammar
pub mod JobTasks
pub mod SolutionJobs
pub mod FormCheck
pub mod FormComparison
pub mod states
pub mod RunEnd
pub mod ProgramRun
pub mod Beside
