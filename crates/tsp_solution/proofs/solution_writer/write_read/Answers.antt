-- The goals of `write_read` in src/solution_writer.rt, which writes the solution that a text is: what it ensures.
use Rattle.std.proofs.Common.{◌≡◌, ◌⊎◌, inl, inr, refl, sym, ap, Result, Ok, Err}
use Rattle.std.proofs.KnownBytes.{Keeps-refl}
use Rattle.tsp_file.specs.CanonicalText.{text_of}
use Rattle.tsp_file.specs.Fields.{Fields}
use Rattle.tsp_io.specs.Streams.{Sink, Writes}
use Rattle.tsp_io.specs.declared.piece.WriteFault.{WriteFault}
use Rattle.tsp_io.specs.declared.piece.WriteFault.TheVariants as write_faults
use Rattle.tsp_io.specs.states.Output.{sink_of}
use Rattle.tsp_solution.specs.SolutionRun.{IsReadAs, WritesRead}
use Rattle.tsp_solution.specs.declared.fault.SolutionFault.{SolutionFault}
use Rattle.tsp_solution.specs.declared.fault.SolutionFault.TheVariants as faults
use Rattle.tsp_solution.specs.declared.hints.Hints.{Hints}
use Rattle.tsp_solution.specs.declared.solution_writer.SolutionRunFault.TheVariants as ends
use Rattle.tsp_solution.proofs.solution_writer.write_read.Goals as goal

-- a result that is this file or lacks memory: a fault lacks memory, and a file is this one
lacks : (fault : SolutionFault) (left : Fields) (result : Result Fields SolutionFault) → result ≡ Err fault
    → (result ≡ Ok left) ⊎ (result ≡ Err faults.OutOfMemory) → fault ≡ faults.OutOfMemory
lacks fault left result is (inl same) = cc
lacks fault left result is (inr same) = cc

is_left : (file left : Fields) (result : Result Fields SolutionFault) → result ≡ Ok file
    → (result ≡ Ok left) ⊎ (result ≡ Err faults.OutOfMemory) → file ≡ left
is_left file left result is (inl same) = cc
is_left file left result is (inr same) = cc

-- a writer that fails leaves a prefix
stopped : (known : Hints) (text : _) (sink : Sink) (file : Fields) (fault : WriteFault) → IsReadAs known text file
    → Writes sink (text_of file) (Err fault) → WritesRead known text sink (Err (ends.Write fault))
stopped known text sink file write_faults.Device read left = (file, read, left)
stopped known text sink file write_faults.OutOfMemory read left = absurd left

-- plan: by the text and the writer: a fault (`lacks`), or a file (`is_left`) that is written whole or in part (`stopped`)
pub returns-in-Err : goal.returns-in-Err
returns-in-Err g c =
    (refl, (λ left parses is. lacks c.in-Err.fault left c.solution_of.result c.in-Err.is (c.solution_of.ensures.left left parses is)), (Keeps-refl _, refl))

pub returns-in-Ok-written : goal.returns-in-Ok-written
returns-in-Ok-written g c = (
  c.in-Ok.file,
  (
    (c.write_file-written.ensures.valid, c.in-Ok.ensures.tour),
    λ left parses is. is_left c.in-Ok.file left c.solution_of.result c.in-Ok.is (c.solution_of.ensures.left left parses is),
  ),
  c.in-Ok-written.ensures.written,
)

pub returns-in-Err-written : goal.returns-in-Err-written
returns-in-Err-written g c =
    stopped c.args.known c.args.text.now (sink_of g.W.Takes.contents c.args.out.now c.write_file-written.new.out) c.in-Ok.file c.in-Err-written.fault (
      (c.write_file-written.ensures.valid, c.in-Ok.ensures.tour),
      λ left parses is. is_left c.in-Ok.file left c.solution_of.result c.in-Ok.is (c.solution_of.ensures.left left parses is),
    ) c.in-Err-written.ensures.written
