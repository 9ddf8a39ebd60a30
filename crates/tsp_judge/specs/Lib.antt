-- Definitions of runs (CheckRun, BoundRun, CompareRun, ConvertRun, TaskRun, RunStatus), of open instances (Open), and
-- of what `yes` means (Accepted). tsp_c and tsp_tool state their contracts by them.
pub mod Prelude
pub mod Accepted
pub mod RunStatus
pub mod CheckRun
pub mod BoundRun
pub mod CompareRun
pub mod Open
pub mod ConvertRun
pub mod TaskRun
