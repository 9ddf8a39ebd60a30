-- Why a run has no result, in words, and its exit status. src/run_status.rt promises both; tsp_tool prints the words and
-- exits with the status, and `tsp.h` repeats the numbers. In no circle of docs/trust.md. tsp_c imports it, too.
use Rattle.tsp_judge.specs.Prelude.{ℕ, List, codes, decimal, Bool, true, false, Result, Ok, Err, write_fault_text}
use Rattle.std.specs.Prelude.{◌++◌}
use Rattle.tsp_io.specs.declared.piece.WriteFault.TheVariants as write_faults
use Rattle.tsp_file.specs.Relayout.{relayout_fault_text}
use Rattle.tsp_file.specs.declared.relayout.RelayoutFault.TheVariants as relayout_faults
use Rattle.tsp_text.specs.ParsesTo.{read_fault_text}
use Rattle.tsp_read.specs.declared.ReadFault.TheVariants as read_faults
use Rattle.tsp_judge.specs.declared.run_status.RunFault.{RunFault}
use Rattle.tsp_judge.specs.declared.run_status.RunFault.TheVariants.{File, WrongKind, Write, OutOfMemory, Relayout}
use Rattle.tsp_judge.specs.declared.run_status.RunFault.TheVariants as run_faults
use Rattle.tsp_judge.specs.declared.run_status.Status.{Status}
use Rattle.tsp_judge.specs.declared.run_status.Status.TheVariants as statuses

-- the file's number with its own fault, or what else failed
abbrev pub run_fault_text : RunFault → List ℕ
run_fault_text (File file fault) = codes "file " ++ (decimal file ++ (codes ": " ++ read_fault_text fault))
run_fault_text WrongKind = codes "file 1: wrong kind"
run_fault_text (Write fault) = codes "output: " ++ write_fault_text fault
run_fault_text OutOfMemory = codes "out of memory"
run_fault_text (Relayout fault) = codes "relayout: " ++ relayout_fault_text fault

-- ---- the exit status of a run, by its result

-- the number of a status
abbrev pub status_number : Status → ℕ
status_number statuses.Yes = 0
status_number statuses.No = 1
status_number statuses.NotJudged = 2
status_number statuses.OutOfMemory = 3
status_number statuses.Refused = 4
status_number statuses.Device = 5
status_number statuses.TooSmall = 6

-- the status of a fault: 1 the weights can't have the layout, 2 a file isn't valid or is of the wrong kind, 3 out of
-- memory, 5 a device failed
abbrev pub status_of_fault : RunFault → ℕ
status_of_fault (File file (read_faults.Line line word fault)) = 2
status_of_fault (File file (read_faults.End fault)) = 2
status_of_fault (File file read_faults.TooLong) = 2
status_of_fault (File file read_faults.OutOfMemory) = 3
status_of_fault (File file read_faults.Device) = 5
status_of_fault WrongKind = 2
status_of_fault run_faults.OutOfMemory = 3
status_of_fault (Write write_faults.OutOfMemory) = 3
status_of_fault (Write write_faults.Device) = 5
status_of_fault (Relayout relayout_faults.OutOfMemory) = 3
status_of_fault (Relayout fault) = 1

-- 0 means accepted or done, 1 rejected
abbrev pub status_of : Result Bool RunFault → ℕ
status_of (Ok true) = 0
status_of (Ok false) = 1
status_of (Err fault) = status_of_fault fault
