-- How a text is read as a solution, and the run of `tsp solution`. For src/solution_writer.rt. Which tours another form
-- lists is left open here, and tested. tsp_c and tsp_tool import it, too.
use Rattle.std.specs.Prelude.{◌≡◌, ◌⊎◌, ◌<◌, ℕ, Bool, true, List, [], ◌∷◌, length, Result, Ok, Err, Option, None, Some, IfSome, nat_le}
use Rattle.std.specs.List.{list_all}
use Rattle.std.specs.declared.io.Error.{Error}
use Rattle.tsp_io.specs.Streams.{ReadTrace, Gave, IsSound, GaveAll, HasBrokenOff, IsUnread, TakesAtMost, Sink, IsUnwritten, HasWritten, HasStopped}
use Rattle.tsp_io.specs.declared.piece.WriteFault.TheVariants as write_faults
use Rattle.tsp_io.specs.declared.watched.Watched.{Watched}
use Rattle.tsp_io.specs.states.Watched.{read_trace_of}
use Rattle.tsp_format.specs.Limits.{most_file_bytes}
use Rattle.tsp_format.specs.declared.kinds.Kind.{Kind}
use Rattle.tsp_format.specs.declared.kinds.Kind.TheVariants.{Tsp, Atsp, Cvrp, Tour}
use Rattle.tsp_file.specs.Fields.{Fields}
use Rattle.tsp_file.specs.Rules.{fault_of}
use Rattle.tsp_file.specs.CanonicalText.{text_of}
use Rattle.tsp_text.specs.ParsesTo.{ParsesTo}
use Rattle.tsp_text.specs.declared.fault.ReadFault.TheVariants as read_faults
use Rattle.tsp_read.specs.Reads.{IsFile, IsReadOn, StopsAt, most_taken}
use Rattle.tsp_solution.specs.declared.fault.FormFault.TheVariants.{NotAnInstance}
use Rattle.tsp_solution.specs.declared.fault.SolutionFault.{SolutionFault}
use Rattle.tsp_solution.specs.declared.fault.SolutionFault.TheVariants as faults
use Rattle.tsp_solution.specs.declared.form.Form.TheVariants as forms
use Rattle.tsp_solution.specs.declared.hints.Hints.{Hints}
use Rattle.tsp_solution.specs.declared.hints.InstanceShape.{InstanceShape}
use Rattle.tsp_solution.specs.declared.solution_writer.SolutionRunFault.{SolutionRunFault}
use Rattle.tsp_solution.specs.declared.solution_writer.SolutionRunFault.TheVariants.{File, Write}

-- ---- what an instance says of its solutions

-- the first of the listed depots; node 1 if none is listed
abbrev pub first_depot : Option (List ℕ) → ℕ
first_depot None = 1
first_depot (Some []) = 1
first_depot (Some (depot ∷ others)) = depot

-- a number of nodes and, if solutions are routes, a depot
abbrev pub shape : ℕ → Option ℕ → InstanceShape
shape nodes depot = record { nodes = nodes; depot = depot }

-- the shape of an instance with this TYPE, DIMENSION and depots; other files have none
abbrev pub instance_shape_by : Option Kind → Option ℕ → Option (List ℕ) → Option InstanceShape
instance_shape_by (Some Tsp) (Some nodes) depots = Some (shape nodes None)
instance_shape_by (Some Atsp) (Some nodes) depots = Some (shape nodes None)
instance_shape_by (Some Cvrp) (Some nodes) depots = Some (shape nodes (Some (first_depot depots)))
instance_shape_by kind dimension depots = None

-- the shape of a file, if it is an instance
abbrev pub instance_shape_of : Fields → Option InstanceShape
instance_shape_of file = instance_shape_by file.kind file.dimension file.depots

-- The hints with this shape. A file that has none is no instance, which is named at its first word.
abbrev pub GivesShape : Hints → Option InstanceShape → Result Hints SolutionFault → Type 0
GivesShape hints (Some found) (Ok known) = known ≡ record hints { shape = Some found }
GivesShape hints (Some found) (Err fault) = ⊥
GivesShape hints None (Ok known) = ⊥
GivesShape hints None (Err fault) = fault ≡ faults.Place 1 1 NotAnInstance

-- nothing is known
abbrev pub no_hints : Hints
no_hints = record { form = None; numbering = None; depot = None; shape = None }

-- ---- which files of TYPE TOUR are left as they are

-- no tour has a node above this one
abbrev pub are_within : ℕ → List (List ℕ) → Bool
are_within nodes tours = list_all (list_all (λ node. nat_le node nodes)) tours

-- no node of the file's tours is above the instance's, and so none is a copy of the depot; or no instance is known
abbrev pub HasNoCopies : Hints → Fields → Type 0
HasNoCopies hints file = IfSome hints.shape (λ shape. IfSome file.tours (λ tours. are_within shape.nodes tours ≡ true))

-- a file of TYPE TOUR that the hints leave as it is: they name no other form, and it has no copies of the depot
abbrev pub IsLeft : Hints → Fields → Type 0
IsLeft hints file = (file.kind ≡ Some Tour) × ((hints.form ≡ None) ⊎ (hints.form ≡ Some forms.Tour)) × HasNoCopies hints file

-- a valid file of TYPE TOUR
abbrev pub IsSolutionFile : Fields → Type 0
IsSolutionFile file = (fault_of file ≡ None) × (file.kind ≡ Some Tour)

-- ---- what a text is read as. Of a text with another form it is only known that its solution is a valid file.

-- the text is read as this file; if it is one that is left as it is, as that one
abbrev pub IsReadAs : Hints → List ℕ → Fields → Type 0
IsReadAs hints text file = IsSolutionFile file × ((left : Fields) → ParsesTo text left → IsLeft hints left → file ≡ left)

-- the text is refused with this fault; one that is left as it is, only if memory is lacking
abbrev pub IsRefusedText : Hints → List ℕ → SolutionFault → Type 0
IsRefusedText hints text fault = (left : Fields) → ParsesTo text left → IsLeft hints left → fault ≡ faults.OutOfMemory

-- The result for a text. Ok: the canonical text of its file was written. At a fault of the text nothing is written. If
-- the writer fails, a prefix was. Writing takes no memory.
abbrev pub WritesRead : Hints → List ℕ → Sink → Result (Unit {0}) SolutionRunFault → Type 0
WritesRead hints text sink (Ok done) = (file : Fields) × IsReadAs hints text file × HasWritten sink (text_of file)
WritesRead hints text sink (Err (File place fault)) = (place ≡ 1) × IsRefusedText hints text fault × IsUnwritten sink
WritesRead hints text sink (Err (Write write_faults.Device)) = (file : Fields) × IsReadAs hints text file × HasStopped sink (text_of file)
WritesRead hints text sink (Err (Write write_faults.OutOfMemory)) = ⊥

-- ---- the readers

-- the reader delivered all its bytes, without a failure
abbrev pub IsReadWhole : ReadTrace → Type 0
IsReadWhole read_trace = GaveAll read_trace (λ bytes. bytes ≡ read_trace.given)

-- Why the bytes of a reader can't be had: it has failed; there are more than a file may have; or memory was refused.
abbrev pub StopsText : SolutionFault → ReadTrace → Type 0
StopsText (faults.File read_faults.Device) read_trace = HasBrokenOff read_trace
StopsText (faults.File read_faults.TooLong) read_trace = Gave read_trace × IsSound read_trace
    × (most_file_bytes < length read_trace.given)
StopsText faults.OutOfMemory read_trace = Gave read_trace × IsSound read_trace
StopsText other read_trace = ⊥

-- Q holds for the read trace of the instance's reader, or for None if no instance is named
abbrev pub TakesInstance : {R : Type 0} → (R → Option (List ℕ)) → Option (Watched R) → Option (Watched R)
    → (Option ReadTrace → Type 0) → Type 0
TakesInstance remaining None None Q = Q None
TakesInstance remaining (Some old) (Some new) Q = TakesAtMost most_taken (read_trace_of remaining old new) (λ read_trace. Q (Some read_trace))
TakesInstance remaining _ _ Q = ⊥

-- If an instance is named, some reads were asked of its reader, which has failed if the last read has.
abbrev pub IsInstanceReadOn : {R : Type 0} → (R → List ℕ → Result ℕ Error → List ℕ → R → Type 0) → Option (Watched R)
    → Option (Watched R) → Type 0
IsInstanceReadOn gives None None = Unit {0}
IsInstanceReadOn gives (Some old) (Some new) = IsReadOn gives old new
IsInstanceReadOn gives _ _ = ⊥

-- the reader of the instance isn't asked
abbrev pub IsUnreadInstance : Option ReadTrace → Type 0
IsUnreadInstance None = Unit {0}
IsUnreadInstance (Some read_trace) = IsUnread read_trace

-- The hints with the shape of the instance that was read, or why there are none. Without an instance they stay.
abbrev pub GivesHints : Hints → Option ReadTrace → Result Hints SolutionFault → Type 0
GivesHints hints None (Ok known) = known ≡ hints
GivesHints hints None (Err fault) = ⊥
GivesHints hints (Some read_trace) (Ok known) = (instance : Fields) × IsFile read_trace instance
    × GivesShape hints (instance_shape_of instance) (Ok known)
GivesHints hints (Some read_trace) (Err (faults.Place line word fault)) = (instance : Fields) × IsFile read_trace instance
    × GivesShape hints (instance_shape_of instance) (Err (faults.Place line word fault))
GivesHints hints (Some read_trace) (Err (faults.File fault)) = StopsAt fault read_trace
GivesHints hints (Some read_trace) (Err faults.OutOfMemory) = ⊥

-- ---- the run

-- The fault that is named: the bytes of the solution can't be had; or the instance isn't one; or the text of the
-- solution is refused.
abbrev pub IsFaultOfSolution : Hints → ReadTrace → Option ReadTrace → ℕ → SolutionFault → Type 0
IsFaultOfSolution hints first second place fault = ((place ≡ 1) × StopsText fault first × IsUnreadInstance second)
    ⊎ ((place ≡ 2) × IsReadWhole first × GivesHints hints second (Err fault))
    ⊎ ((place ≡ 1) × IsReadWhole first × ((known : Hints) × GivesHints hints second (Ok known) × IsRefusedText known first.given fault))

-- both files were read, and the text of the solution is read as this file
abbrev pub IsSolutionOf : Hints → ReadTrace → Option ReadTrace → Fields → Type 0
IsSolutionOf hints first second file = IsReadWhole first
    × ((known : Hints) × GivesHints hints second (Ok known) × IsReadAs known first.given file)

-- The result of `tsp solution`. Ok: the canonical text of a valid file of TYPE TOUR was written. If the writer fails,
-- a prefix of such a text was. At any other fault nothing is written. Writing takes no memory.
abbrev pub IsSolutionRun : Hints → ReadTrace → Option ReadTrace → Sink → Result (Unit {0}) SolutionRunFault → Type 0
IsSolutionRun hints first second sink (Ok done) = (file : Fields) × IsSolutionOf hints first second file × HasWritten sink (text_of file)
IsSolutionRun hints first second sink (Err (File place fault)) = IsUnwritten sink × IsFaultOfSolution hints first second place fault
IsSolutionRun hints first second sink (Err (Write write_faults.Device)) = (file : Fields) × IsSolutionOf hints first second file
    × HasStopped sink (text_of file)
IsSolutionRun hints first second sink (Err (Write write_faults.OutOfMemory)) = ⊥
