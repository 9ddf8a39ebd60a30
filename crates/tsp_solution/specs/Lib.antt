-- Definitions of the run of `tsp solution` (SolutionRun, SolutionText), and of the words that are printed (Forms,
-- FaultTexts). No circle of docs/trust.md contains one, because a solution that was read is then judged like any other.
pub mod FaultTexts
pub mod Forms
pub mod SolutionRun
pub mod SolutionText
