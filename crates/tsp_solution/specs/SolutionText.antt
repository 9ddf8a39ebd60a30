-- A solution that is read from a text in memory: the text that `tsp solution` writes for it, or its fault. For
-- src/in_memory.rt, and for the callers in tsp_c and tsp_tool.
use Rattle.std.specs.Prelude.{◌≡◌, ◌⊎◌, ◌<◌, ℕ, List, length, Result, Ok, Err, Option, None, Some, Vec}
use Rattle.tsp_format.specs.Limits.{most_file_bytes}
use Rattle.tsp_file.specs.CanonicalText.{text_of}
use Rattle.tsp_file.specs.Fields.{Fields}
use Rattle.tsp_text.specs.ParsesTo.{ParsesTo}
use Rattle.tsp_text.specs.declared.fault.ReadFault.TheVariants as read_faults
use Rattle.tsp_read.specs.Reads.{Reads}
use Rattle.tsp_solution.specs.SolutionRun.{GivesShape, IsReadAs, IsRefusedText, instance_shape_of}
use Rattle.tsp_solution.specs.declared.fault.SolutionFault.{SolutionFault}
use Rattle.tsp_solution.specs.declared.fault.SolutionFault.TheVariants as faults
use Rattle.tsp_solution.specs.declared.hints.Hints.{Hints}
use Rattle.tsp_solution.specs.declared.solution_writer.SolutionRunFault.{SolutionRunFault}
use Rattle.tsp_solution.specs.declared.solution_writer.SolutionRunFault.TheVariants.{File, Write}

-- The hints with the shape of the instance that a text is, or why there are none. Without an instance they stay.
abbrev pub GivesHintsOf : Hints → Option (List ℕ) → Result Hints SolutionFault → Type 0
GivesHintsOf hints None (Ok known) = known ≡ hints
GivesHintsOf hints None (Err fault) = ⊥
GivesHintsOf hints (Some text) (Ok known) = (instance : Fields) × ParsesTo text instance × GivesShape hints (instance_shape_of instance) (Ok known)
GivesHintsOf hints (Some text) (Err (faults.Place line word fault)) = (instance : Fields) × ParsesTo text instance
    × GivesShape hints (instance_shape_of instance) (Err (faults.Place line word fault))
GivesHintsOf hints (Some text) (Err (faults.File fault)) = Reads text (Err fault)
GivesHintsOf hints (Some text) (Err faults.OutOfMemory) = ⊥

-- The fault of a text: the solution is file 1, the instance file 2. A solution that is left as it is has none, unless
-- memory is lacking.
abbrev pub IsFaultOfText : Hints → List ℕ → Option (List ℕ) → SolutionRunFault → Type 0
IsFaultOfText hints solution instance (File place fault) =
    ((place ≡ 1) × (fault ≡ faults.File read_faults.TooLong) × (most_file_bytes < length solution))
    ⊎ ((place ≡ 2) × GivesHintsOf hints instance (Err fault))
    ⊎ ((place ≡ 1) × ((known : Hints) × GivesHintsOf hints instance (Ok known) × IsRefusedText known solution fault))
IsFaultOfText hints solution instance (Write fault) = ⊥

-- the text that is written for a solution, or the fault of a text
abbrev pub IsSolutionText : {Z : Type 0} → Hints → List ℕ → Option (List ℕ) → Result (Vec ℕ Z) SolutionRunFault → Type 0
IsSolutionText hints solution instance (Ok text) = (known : Hints) × GivesHintsOf hints instance (Ok known)
    × ((file : Fields) × IsReadAs known solution file × (text.items ≡ text_of file))
IsSolutionText hints solution instance (Err fault) = IsFaultOfText hints solution instance fault
