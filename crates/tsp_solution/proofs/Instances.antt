-- For src/solution_writer.rt: the reader of an instance that may be missing, and how the parts of a run of `tsp
-- solution` make its result.
use Rattle.std.proofs.Common.{ℕ, List, Option, None, Some, Result, Ok, Err, inr}
use Rattle.tsp_io.specs.Streams.{ReadTrace, Sink}
use Rattle.tsp_io.specs.declared.piece.WriteFault.TheVariants as write_faults
use Rattle.tsp_io.specs.declared.watched.Watched.{Watched}
use Rattle.tsp_io.specs.states.Watched.{read_trace_of}
use Rattle.tsp_solution.specs.SolutionRun.{GivesHints, IsReadWhole, IsSolutionRun, TakesInstance, WritesRead}
use Rattle.tsp_solution.specs.declared.hints.Hints.{Hints}
use Rattle.tsp_solution.specs.declared.solution_writer.SolutionRunFault.{SolutionRunFault}
use Rattle.tsp_solution.specs.declared.solution_writer.SolutionRunFault.TheVariants.{File, Write}

-- what holds for the read trace of the instance's reader may be weakened
pub takes_also : {R : Type 0} (remaining : R → Option (List ℕ)) (old new : Option (Watched R)) (P Q : Option ReadTrace → Type 0)
    → ((second : Option ReadTrace) → P second → Q second) → TakesInstance remaining old new P → TakesInstance remaining old new Q
takes_also remaining None None P Q implies took = implies None took
takes_also remaining None (Some new) P Q implies took = absurd took
takes_also remaining (Some old) None P Q implies took = absurd took
takes_also remaining (Some old) (Some new) P Q implies took = (took.0, took.1, implies (Some (read_trace_of remaining old new took.0)) took.2)

-- the result for the text of the solution is that of the run
pub run_of : (hints known : Hints) (first : ReadTrace) (second : Option ReadTrace) (sink : Sink) (answer : Result (Unit {0}) SolutionRunFault)
    → IsReadWhole first → GivesHints hints second (Ok known) → WritesRead known first.given sink answer → IsSolutionRun hints first second sink answer
run_of hints known first second sink (Ok done) whole given written = (written.0, (whole, (known, given, written.1)), written.2)
run_of hints known first second sink (Err (File place fault)) whole given stopped =
    (stopped.2, inr (inr (stopped.0, whole, (known, given, stopped.1))))
run_of hints known first second sink (Err (Write write_faults.Device)) whole given stopped = (stopped.0, (whole, (known, given, stopped.1)), stopped.2)
run_of hints known first second sink (Err (Write write_faults.OutOfMemory)) whole given stopped = absurd stopped
