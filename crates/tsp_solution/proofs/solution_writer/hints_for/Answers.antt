-- The goals of `hints_for` in src/solution_writer.rt, which reads the instance of a solution: what it ensures.
use Rattle.std.proofs.Common.{◌≡◌, Option, None, Some, Result, Ok, Err}
use Rattle.tsp_io.specs.Streams.{ReadTrace}
use Rattle.tsp_file.specs.Fields.{Fields}
use Rattle.tsp_read.specs.Reads.{IsFile}
use Rattle.tsp_text.specs.declared.fault.ReadFault.{ReadFault}
use Rattle.tsp_solution.specs.SolutionRun.{GivesHints, GivesShape, instance_shape_of}
use Rattle.tsp_solution.specs.declared.fault.SolutionFault.{SolutionFault}
use Rattle.tsp_solution.specs.declared.fault.SolutionFault.TheVariants as faults
use Rattle.tsp_solution.specs.declared.hints.Hints.{Hints}
use Rattle.tsp_solution.specs.declared.hints.InstanceShape.{InstanceShape}
use Rattle.tsp_solution.proofs.solution_writer.hints_for.Goals as goal

-- a file without a shape has no other fault than that
no_file : (hints : Hints) (shape : Option InstanceShape) (fault : ReadFault) → GivesShape hints shape (Err (faults.File fault)) → ⊥
no_file hints None fault is = cc
no_file hints (Some found) fault is = is

no_memory : (hints : Hints) (shape : Option InstanceShape) → GivesShape hints shape (Err faults.OutOfMemory) → ⊥
no_memory hints None is = cc
no_memory hints (Some found) is = is

-- the hints of a file that was read
of_file : (hints : Hints) (read_trace : ReadTrace) (file : Fields) (answer : Result Hints SolutionFault) → IsFile read_trace file
    → GivesShape hints (instance_shape_of file) answer → GivesHints hints (Some read_trace) answer
of_file hints read_trace file (Ok known) is given = (file, is, given)
of_file hints read_trace file (Err (faults.Place line word fault)) is given = (file, is, given)
of_file hints read_trace file (Err (faults.File fault)) is given = absurd (no_file hints (instance_shape_of file) fault given)
of_file hints read_trace file (Err faults.OutOfMemory) is given = absurd (no_memory hints (instance_shape_of file) given)

-- plan: the file that was read gives the hints (`of_file`)
pub returns-clause-answer : goal.returns-clause-answer
returns-clause-answer g c =
    let read = c.in-Ok.ensures.answer in
    let shaped = rw c.of-shape.ensures at c.with_shape.ensures in
    rw c.in-Some.is (read.0, read.1, of_file c.args.hints _ c.in-Ok.file c.with_shape.result read.2 shaped)
