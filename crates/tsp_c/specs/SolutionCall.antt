-- The result of the call that reads a solution in any form (src/solution_call.rt), over the bytes of its texts. In no
-- circle of docs/trust.md: which form a text has is tested, not proved.
use Rattle.tsp_c.specs.Prelude.{ℕ, List, [], Option, None, Some, Ok, Err, Result}
use Rattle.std.specs.Prelude.{◌≡◌, ◌⊎◌, ◌≤◌, ◌<◌, ◌∷◌, ◌++◌, ◌==◌, if◌then◌else◌}
use Rattle.tsp_format.specs.Limits.{most_nodes}
use Rattle.tsp_file.specs.CanonicalText.{text_of}
use Rattle.tsp_file.specs.Fields.{Fields}
use Rattle.tsp_judge.specs.RunStatus.{status_of_fault}
use Rattle.tsp_judge.specs.declared.run_status.RunFault.TheVariants as run_faults
use Rattle.tsp_solution.specs.FaultTexts.{solution_run_fault_text}
use Rattle.tsp_solution.specs.Forms.{all_forms}
use Rattle.tsp_solution.specs.SolutionRun.{IsReadAs}
use Rattle.tsp_solution.specs.SolutionText.{GivesHintsOf, IsFaultOfText}
use Rattle.tsp_solution.specs.declared.fault.SolutionFault.TheVariants as faults
use Rattle.tsp_solution.specs.declared.hints.Hints.{Hints}
use Rattle.tsp_solution.specs.declared.hints.Numbering.{Numbering}
use Rattle.tsp_solution.specs.declared.hints.Numbering.TheVariants.{FromZero, FromOne}
use Rattle.tsp_solution.specs.declared.solution_writer.SolutionRunFault.{SolutionRunFault}
use Rattle.tsp_solution.specs.declared.solution_writer.SolutionRunFault.TheVariants.{File, Write}
use Rattle.tsp_c.specs.NumberCalls.{nth}
use Rattle.tsp_c.specs.Texts.{IsRefusedNumber}

-- ---- what the numbers say

-- how nodes count, by numbers
abbrev pub numberings : List Numbering
numberings = FromZero ∷ FromOne ∷ []

-- the depot, or none for 0
abbrev pub depot_by : ℕ → Option ℕ
depot_by depot = if depot == 0 then None else Some depot

-- what the numbers of a form, of the first node and of a depot say of a solution; 0 says nothing
abbrev pub hints_by : ℕ → ℕ → ℕ → Hints
hints_by form first depot =
    record { form = nth form all_forms; numbering = nth first numberings; depot = depot_by depot; shape = None }

-- an instance without bytes is none
abbrev pub known_instance : List ℕ → Option (List ℕ)
known_instance [] = None
known_instance (b ∷ bytes) = Some (b ∷ bytes)

-- ---- how the call ends

-- the status of a fault: 2 for one of a text, 3 out of memory
abbrev pub status_of_solving : SolutionRunFault → ℕ
status_of_solving (File file (faults.Place line word fault)) = 2
status_of_solving (File file (faults.File fault)) = status_of_fault (run_faults.File file fault)
status_of_solving (File file faults.OutOfMemory) = 3
status_of_solving (Write fault) = status_of_fault (run_faults.Write fault)

-- the line of a fault, as `tsp solution` writes it
abbrev pub solving_line : SolutionRunFault → List ℕ
solving_line fault = solution_run_fault_text fault ++ 10 ∷ []

-- a run that stops at this fault ends with its status and its line, or without memory for the line
abbrev pub EndsSolving : SolutionRunFault → ℕ → List ℕ → Type 0
EndsSolving fault status text = ((status ≡ status_of_solving fault) × (text ≡ solving_line fault)) ⊎ ((status ≡ 3) × (text ≡ []))

-- The text that `tsp solution` writes for a solution, or the fault of a text: the solution is file 1, the instance file 2.
abbrev pub SolvesText : Hints → List ℕ → List ℕ → ℕ → List ℕ → Type 0
SolvesText hints solution instance status text =
    ((status ≡ 0) × ((known : Hints) × GivesHintsOf hints (known_instance instance) (Ok known)
    × ((file : Fields) × IsReadAs known solution file × (text ≡ text_of file))))
    ⊎ ((fault : SolutionRunFault) × IsFaultOfText hints solution (known_instance instance) fault × EndsSolving fault status text)

-- the same by the numbers of the form, of the first node and of the depot; other numbers are refused
abbrev pub SolvesBy : ℕ → ℕ → ℕ → List ℕ → List ℕ → ℕ → List ℕ → Type 0
SolvesBy form first depot solution instance status text =
    (form ≤ 10 → first ≤ 2 → depot ≤ most_nodes → SolvesText (hints_by form first depot) solution instance status text)
    × (10 < form → IsRefusedNumber status text) × (2 < first → IsRefusedNumber status text)
    × (most_nodes < depot → IsRefusedNumber status text)
