-- How a run ends: what is printed for help and version, the line on standard error, and the exit status. src/ends.rt
-- promises it, and users' scripts rely on it. In no circle of docs/trust.md.
use Rattle.std.specs.Io.KnownBytes.{Appends, Keeps}
use Rattle.std.specs.List.{list_all}
use Rattle.std.specs.Prelude.{◌≡◌, ◌⊎◌, ◌++◌, List, ℕ, Result, Err, Some, Option, codes, Bool, true, false, [], ◌∷◌, None, Ok, IfSome, not, ◌==◌}
use Rattle.tsp_io.specs.Streams.{Sink, IsUnwritten, Writes}
use Rattle.tsp_io.specs.declared.piece.WriteFault.{WriteFault}
use Rattle.tsp_io.specs.declared.piece.WriteFault.TheVariants.{OutOfMemory}
use Rattle.tsp_judge.specs.RunStatus.{run_fault_text, status_of}
use Rattle.tsp_judge.specs.TaskRun.{is_yes_outcome}
use Rattle.tsp_judge.specs.declared.run_status.RunFault.TheVariants.{Write}
use Rattle.tsp_judge.specs.declared.run_status.RunFault.TheVariants as run_faults
use Rattle.tsp_solution.specs.FaultTexts.{solution_run_fault_text}
use Rattle.tsp_solution.specs.declared.fault.SolutionFault.TheVariants as solution_faults
use Rattle.tsp_solution.specs.declared.solution_writer.SolutionRunFault.{SolutionRunFault}
use Rattle.tsp_solution.specs.declared.solution_writer.SolutionRunFault.TheVariants as solution_ends
use Rattle.tsp_tool.specs.declared.ends.ErrorLine.{ErrorLine}
use Rattle.tsp_tool.specs.declared.ends.ErrorLine.TheVariants as error_lines
use Rattle.tsp_tool.specs.declared.ends.RunEnd.{RunEnd}
use Rattle.tsp_tool.specs.declared.ends.RunEnd.TheVariants.{NoJob, Printed, NoTask, Ended, Compared, Solved}
use Rattle.tsp_tool.specs.declared.job.JobFault.TheVariants as job_faults
use Rattle.tsp_tool.specs.declared.job.TaskFault.TheVariants.{UnknownLayout, MissingPath, TwoCertificates, NoCertificate, NotALength, InputTwice, LineEndInPath, UnknownForm, NotAFirst, NotADepot}
use Rattle.tsp_tool.specs.declared.running.Version.{Version}

-- the line of the version, with the name of the build
abbrev pub version_text : List ℕ → List ℕ
version_text build = codes "tsp 1.1.0 (" ++ build ++ codes ")\n"

-- what `Version` writes
abbrev pub version_written : Version → Option (List ℕ)
version_written version = Some (version_text version.build.now)

-- the result of printing this text; if there is no memory for it, nothing is written
abbrev pub Prints : Sink → List ℕ → Result (Unit {0}) WriteFault → Type 0
Prints sink text printed = Writes sink text printed ⊎ ((printed ≡ Err OutOfMemory) × IsUnwritten sink)

-- the result of printing some text
abbrev pub PrintsSome : Sink → Result (Unit {0}) WriteFault → Type 0
PrintsSome sink printed = (text : List ℕ) × Prints sink text printed

-- ---- the explanations of single solutions of a comparison on standard error

-- without explanations nothing is written, with them some text
abbrev pub MayTell : Bool → Option (List ℕ) → Option (List ℕ) → Type 0
MayTell false old new = new ≡ old
MayTell true old new = (text : List ℕ) × Appends old new text

-- ---- the exit status of a run's end, and the line that it writes to standard error

-- a solution: 0 written; 2 a fault at a word, or else the status of the fault
abbrev pub status_of_solved : Result (Unit {0}) SolutionRunFault → ℕ
status_of_solved (Ok done) = 0
status_of_solved (Err (solution_ends.File file (solution_faults.Place line word fault))) = 2
status_of_solved (Err (solution_ends.File file (solution_faults.File fault))) = status_of (Err (run_faults.File file fault))
status_of_solved (Err (solution_ends.File file solution_faults.OutOfMemory)) = 3
status_of_solved (Err (solution_ends.Write fault)) = status_of (Err (Write fault))

-- words: 3 out of memory, 4 refused; a version or help: 0 printed, otherwise the status of the fault; a task: the
-- status of its result; a comparison: the largest status of its solutions
abbrev pub status_of_run_end : RunEnd → ℕ
status_of_run_end (NoJob (job_faults.Refused refusal)) = 4
status_of_run_end (NoJob job_faults.OutOfMemory) = 3
status_of_run_end (Printed (Ok done)) = 0
status_of_run_end (Printed (Err fault)) = status_of (Err (Write fault))
status_of_run_end (NoTask fault) = 4
status_of_run_end (Ended (Ok outcome)) = status_of (Ok (is_yes_outcome outcome))
status_of_run_end (Ended (Err fault)) = status_of (Err fault)
status_of_run_end (Compared (Ok compared)) = compared.status
status_of_run_end (Compared (Err fault)) = status_of (Err fault)
status_of_run_end (Solved answer) = status_of_solved answer

-- the line of a run's end; a result has none, nor has a printed text, because those are on standard output
abbrev pub IsLineOf : RunEnd → Option ErrorLine → Type 0
IsLineOf (NoJob (job_faults.Refused refusal)) (Some (error_lines.Refusal reported)) = reported.now ≡ refusal
IsLineOf (NoJob job_faults.OutOfMemory) line = line ≡ Some error_lines.OutOfMemory
IsLineOf (Printed (Ok done)) line = line ≡ None
IsLineOf (Printed (Err fault)) line = line ≡ Some (error_lines.Fault (Write fault))
IsLineOf (NoTask fault) line = line ≡ Some (error_lines.NoTask fault)
IsLineOf (Ended (Ok answer)) line = line ≡ None
IsLineOf (Ended (Err fault)) line = line ≡ Some (error_lines.Fault fault)
IsLineOf (Compared (Ok compared)) line = line ≡ None
IsLineOf (Compared (Err fault)) line = line ≡ Some (error_lines.Fault fault)
IsLineOf (Solved (Ok done)) line = line ≡ None
IsLineOf (Solved (Err fault)) line = line ≡ Some (error_lines.Unsolved fault)
IsLineOf (NoJob (job_faults.Refused refusal)) _ = ⊥

-- a line of this program, with its end
abbrev pub ended : List ℕ → Option (List ℕ)
ended text = Some (text ++ 10 ∷ [])

-- the bytes of the line, unless clap writes it; a tip may follow clap's text
abbrev pub line_text : ErrorLine → Option (List ℕ)
line_text (error_lines.Refusal refusal) = None
line_text error_lines.OutOfMemory = ended (codes "out of memory")
line_text (error_lines.NoTask UnknownLayout) = ended (codes "unknown layout")
line_text (error_lines.NoTask MissingPath) = ended (codes "missing path")
line_text (error_lines.NoTask TwoCertificates) = ended (codes "both potentials and branches")
line_text (error_lines.NoTask NoCertificate) = ended (codes "neither potentials nor branches")
line_text (error_lines.NoTask NotALength) = ended (codes "not a length")
line_text (error_lines.NoTask InputTwice) = ended (codes "standard input twice")
line_text (error_lines.NoTask LineEndInPath) = ended (codes "line end in a path")
line_text (error_lines.NoTask UnknownForm) = ended (codes "unknown form")
line_text (error_lines.NoTask NotAFirst) = ended (codes "first is neither 0 nor 1")
line_text (error_lines.NoTask NotADepot) = ended (codes "not a depot")
line_text (error_lines.Fault fault) = ended (run_fault_text fault)
line_text (error_lines.Unsolved fault) = ended (solution_run_fault_text fault)

-- no byte of the text ends a line
abbrev pub is_one_line : List ℕ → Bool
is_one_line text = list_all (λ b. not (b == 10)) text

-- one line is written
abbrev pub WritesLine : Option (List ℕ) → Option (List ℕ) → Type 0
WritesLine old new = (text : List ℕ) × (is_one_line text ≡ true) × Appends old new (text ++ 10 ∷ [])

-- the line of the run's end is written, if it has one
abbrev pub IsWritten : Option ErrorLine → Option (List ℕ) → Option (List ℕ) → Type 0
IsWritten None old new = Keeps old new
IsWritten (Some line) old new = IfSome (line_text line) (Appends old new)

-- the line of the run's end is written
abbrev pub Tells : RunEnd → Option (List ℕ) → Option (List ℕ) → Type 0
Tells run_end old new = (line : Option ErrorLine) × IsLineOf run_end line × IsWritten line old new

-- the same, with an explanation after the line if one is asked for
abbrev pub TellsAfter : Bool → RunEnd → Option (List ℕ) → Option (List ℕ) → Type 0
TellsAfter false run_end old new = Tells run_end old new
TellsAfter true run_end old new = (between : Option (List ℕ)) × (text : List ℕ) × Tells run_end old between
    × Appends between new text

-- the same; a comparison may explain its solutions before, each when its own line was written
abbrev pub TellsAll : Bool → RunEnd → Option (List ℕ) → Option (List ℕ) → Type 0
TellsAll explained (Compared answer) old new = (first : Option (List ℕ)) × MayTell explained old first
    × TellsAfter explained (Compared answer) first new
TellsAll explained run_end old new = TellsAfter explained run_end old new

-- ---- the line on standard error for a user whose terminal is read

-- its bytes
abbrev pub waiting_line : List ℕ
waiting_line = codes "reading standard input; tsp --help tells more\n"
