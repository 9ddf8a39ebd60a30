-- The run of `tsp solution`: which solution a job asks for, and how the run ends. src/solution_run.rt promises it. In
-- no circle of docs/trust.md.
use Rattle.std.specs.Prelude.{◌≡◌, ◌≢◌, ◌⊎◌, ℕ, List, Option, None, Some, Result, Ok, Err, String, codes, pos, true}
use Rattle.clap.specs.Words.{Text}
use Rattle.tsp_format.specs.Limits.{most_nodes}
use Rattle.std.specs.declared.io.Error.{Error}
use Rattle.tsp_io.specs.Streams.{Sink, HasWritten, HasStopped, TakesAtMost}
use Rattle.tsp_io.specs.declared.piece.WriteFault.TheVariants as write_faults
use Rattle.tsp_number.specs.NumberWord.{ReadsWhole}
use Rattle.tsp_number.specs.declared.number_word.NumberFault.{NumberFault}
use Rattle.tsp_io.specs.states.Watched.{read_trace_of}
use Rattle.tsp_judge.specs.declared.Watched.{Watched}
use Rattle.tsp_read.specs.Reads.{IsReadOn, most_taken}
use Rattle.tsp_solution.specs.Forms.{form_word, forms_table}
use Rattle.tsp_solution.specs.SolutionRun.{IsInstanceReadOn, IsSolutionRun, TakesInstance}
use Rattle.tsp_solution.specs.declared.form.Form.{Form}
use Rattle.tsp_solution.specs.declared.hints.Numbering.{Numbering}
use Rattle.tsp_solution.specs.declared.hints.Numbering.TheVariants.{FromZero, FromOne}
use Rattle.tsp_solution.specs.declared.solution_writer.SolutionRunFault.{SolutionRunFault}
use Rattle.tsp_solution.specs.declared.solution_writer.SolutionRunFault.TheVariants as solution_ends
use Rattle.tsp_tool.specs.Grammar.{text_in}
use Rattle.tsp_tool.specs.JobTasks.{IsInputPathAt, IsInputPathOf}
use Rattle.tsp_tool.specs.declared.job.InputPath.{InputPath}
use Rattle.tsp_tool.specs.declared.job.InputPath.TheVariants.{Input, Path}
use Rattle.tsp_tool.specs.declared.job.Job.{Job}
use Rattle.tsp_tool.specs.declared.job.Verb.TheVariants as verbs
use Rattle.tsp_tool.specs.declared.job.TaskFault.{TaskFault}
use Rattle.tsp_tool.specs.declared.job.TaskFault.TheVariants.{MissingPath, InputTwice, UnknownForm, NotAFirst, NotADepot}
use Rattle.tsp_tool.specs.declared.solution_run.SolutionTask.{SolutionTask}

-- the form with a name, or that no form has it; none if there is no name, or it is `auto`
abbrev pub GivesForm : {Z : Type 0} → Option (String Z) → Result (Option Form) TaskFault → Type 0
GivesForm word (Ok None) = (word ≡ None) ⊎ (text_in word ≡ Some (codes "auto"))
GivesForm word (Ok (Some form)) = text_in word ≡ Some (form_word form)
GivesForm word (Err fault) = (fault ≡ UnknownForm) × ((text : Text) × (text_in word ≡ Some text) × (text ≢ codes "auto")
    × ((form : Form) → text ≢ form_word form))

-- the word of the number with which nodes begin to count
abbrev pub numbering_word : Numbering → Text
numbering_word FromZero = codes "0"
numbering_word FromOne = codes "1"

-- how nodes count, by that word, or that it isn't such a word; None if there is no word
abbrev pub GivesNumbering : {Z : Type 0} → Option (String Z) → Result (Option Numbering) TaskFault → Type 0
GivesNumbering word (Ok None) = word ≡ None
GivesNumbering word (Ok (Some numbering)) = text_in word ≡ Some (numbering_word numbering)
GivesNumbering word (Err fault) = (fault ≡ NotAFirst)
    × ((text : Text) × (text_in word ≡ Some text) × ((numbering : Numbering) → text ≢ numbering_word numbering))

-- the node that a word names, or that it names none; None if there is no word
abbrev pub GivesDepot : {Z : Type 0} → Option (String Z) → Result (Option ℕ) TaskFault → Type 0
GivesDepot word (Ok None) = word ≡ None
GivesDepot word (Ok (Some depot)) = (text : Text) × (text_in word ≡ Some text) × ReadsWhole text (pos 1) (pos most_nodes) (Ok (pos depot))
GivesDepot word (Err fault) = (fault ≡ NotADepot)
    × ((text : Text) × (text_in word ≡ Some text) × ((found : NumberFault) × ReadsWhole text (pos 1) (pos most_nodes) (Err found)))

-- the file of the instance, if a path names one
abbrev pub IsInstanceAt : Option Text → Option InputPath → Type 0
IsInstanceAt path None = path ≡ None
IsInstanceAt path (Some place) = IsInputPathOf path place

-- the solution and its instance, as the job names them, and what its words say
abbrev pub IsSolutionTask : Job → SolutionTask → Type 0
IsSolutionTask job task = IsInputPathOf (text_in job.solution) task.solution × IsInstanceAt (text_in job.file) task.instance
    × GivesForm job.form (Ok task.hints.form) × GivesNumbering job.first (Ok task.hints.numbering)
    × GivesDepot job.depot (Ok task.hints.depot) × (task.hints.shape ≡ None)

-- the solution and its instance are standard input
abbrev pub AreBothInput : SolutionTask → Type 0
AreBothInput task = (task.solution ≡ Input) × (task.instance ≡ Some Input)

-- The solution that a job asks for, or why there is none (if several faults apply, the first): no path, a word that
-- isn't a form, a first number or a depot, and two files that are standard input.
abbrev pub GivesSolution : Job → Result SolutionTask TaskFault → Type 0
GivesSolution job (Ok task) = IsSolutionTask job task × (AreBothInput task → ⊥)
GivesSolution job (Err MissingPath) = job.solution ≡ None
GivesSolution job (Err UnknownForm) = (job.solution ≢ None) × GivesForm job.form (Err UnknownForm)
GivesSolution job (Err NotAFirst) = (job.solution ≢ None) × ((form : Option Form) × GivesForm job.form (Ok form))
    × GivesNumbering job.first (Err NotAFirst)
GivesSolution job (Err NotADepot) = (job.solution ≢ None) × ((form : Option Form) × GivesForm job.form (Ok form))
    × ((numbering : Option Numbering) × GivesNumbering job.first (Ok numbering)) × GivesDepot job.depot (Err NotADepot)
GivesSolution job (Err InputTwice) = (task : SolutionTask) × IsSolutionTask job task × AreBothInput task
GivesSolution job (Err other) = ⊥

-- the result of listing the forms: their table was written, or a prefix of it
abbrev pub Lists : Sink → Result (Unit {0}) SolutionRunFault → Type 0
Lists sink (Ok done) = HasWritten sink forms_table
Lists sink (Err (solution_ends.Write write_faults.Device)) = HasStopped sink forms_table
Lists sink (Err other) = ⊥

-- the reader of the instance is that of its opened file, if one is named; `begins` says which readers a file may have
-- when it is opened
abbrev pub IsInstanceOpened : {F : Type 0} → (InputPath → Watched F → Type 0) → Option InputPath → Option (Watched F) → Type 0
IsInstanceOpened begins None None = Unit {0}
IsInstanceOpened begins (Some place) (Some reader) = begins place reader
IsInstanceOpened begins _ _ = ⊥

-- the solution is read from its opened file and rewritten, by the file of its instance if one is named
abbrev pub IsWrittenAnew : {F : Type 0} → (F → Option (List ℕ)) → (F → List ℕ → Result ℕ Error → List ℕ → F → Type 0)
    → (InputPath → Watched F → Type 0) → SolutionTask → Sink → Result (Unit {0}) SolutionRunFault → Type 0
IsWrittenAnew {F = F} remaining gives begins task sink answer =
    (old new : Watched F) × (instance left : Option (Watched F)) × begins task.solution old
    × IsInstanceOpened begins task.instance instance
    × TakesAtMost most_taken (read_trace_of remaining old new) (λ first.
    TakesInstance remaining instance left (λ second. IsSolutionRun task.hints first second sink answer))
    × IsReadOn gives old new × IsInstanceReadOn gives instance left

-- how a job of the verb `solution` ends: the forms are listed, or the solution is rewritten
abbrev pub IsSolved : {F : Type 0} → (F → Option (List ℕ)) → (F → List ℕ → Result ℕ Error → List ℕ → F → Type 0)
    → (InputPath → Watched F → Type 0) → Job → Sink → Result (Unit {0}) SolutionRunFault → Type 0
IsSolved remaining gives begins job sink answer = (job.verb ≡ Some verbs.Solution) × (((job.forms ≡ true) × Lists sink answer)
    ⊎ ((task : SolutionTask) × GivesSolution job (Ok task) × IsWrittenAnew remaining gives begins task sink answer))
