-- The goals of `faults_are_one_line` in src/laws.rt: what it ensures.
use Rattle.tsp_judge.specs.RunStatus.{run_fault_text}
use Rattle.tsp_tool.proofs.Subcommands.{line_of_run}
use Rattle.tsp_tool.proofs.laws.faults_are_one_line.Goals as goal

-- plan: by the fault: no part of its text has a byte 10, so neither has the text (`line_of_run`)
pub returns-clause-one : goal.returns-clause-one
returns-clause-one c = line_of_run

pub returns-clause-ended : goal.returns-clause-ended
returns-clause-ended c = λ fault old new written. (run_fault_text fault, line_of_run fault, written)
