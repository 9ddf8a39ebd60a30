-- Which task a job asks for, on which files, or why it asks for none. src/job.rt promises it. In no circle of
-- docs/trust.md.
use Rattle.std.specs.Prelude.{◌≡◌, ◌≢◌, ◌⊎◌, ◌≤◌, ◌+◌, ℕ, Bool, true, false, ◌==◌, List, [], Option, None, Some, Result, Ok, Err, String, codes, map, ℤ, pos, negsuc}
use Rattle.std.specs.List.{count_by, list_any, sum_by}
use Rattle.std.specs.Str.{bytes_eq}
use Rattle.std.specs.String.{string_bytes}
use Rattle.clap.specs.Words.{Text}
use Rattle.tsp_number.specs.declared.number_word.NumberFault.{NumberFault}
use Rattle.tsp_number.specs.NumberWord.{ReadsWhole}
use Rattle.tsp_format.specs.declared.layout.Layout.{Layout}
use Rattle.tsp_format.specs.Words.{layout_word}
use Rattle.tsp_report.specs.declared.task.CertificateKind.{CertificateKind}
use Rattle.tsp_report.specs.declared.task.CertificateKind.TheVariants.{Potentials, Branches}
use Rattle.tsp_report.specs.declared.task.Role.{Role}
use Rattle.tsp_report.specs.Tasks.{files_of, files_compared}
use Rattle.tsp_tool.specs.Grammar.{text_in}
use Rattle.tsp_tool.specs.declared.job.Job.{Job}
use Rattle.tsp_tool.specs.declared.job.Verb.TheVariants as verbs
use Rattle.tsp_tool.specs.declared.job.InputPath.{InputPath}
use Rattle.tsp_tool.specs.declared.job.InputPath.TheVariants.{Input, Path}
use Rattle.tsp_report.specs.declared.task.FileTask.{FileTask}
use Rattle.tsp_report.specs.declared.task.FileTask.TheVariants.{Show, Convert, Check, Bound}
use Rattle.tsp_report.specs.declared.task.Comparison.{Comparison}
use Rattle.tsp_report.specs.declared.task.Task.{Task}
use Rattle.tsp_report.specs.declared.task.Task.TheVariants as tasks
use Rattle.tsp_tool.specs.declared.job.TaskFault.{TaskFault}
use Rattle.tsp_tool.specs.declared.job.TaskFault.TheVariants.{UnknownLayout, MissingPath, TwoCertificates, NoCertificate, NotALength, InputTwice, LineEndInPath, UnknownForm, NotAFirst, NotADepot}

-- a path and what it names: standard input for `-`, otherwise the file with this path
abbrev pub IsInputPathAt : Text → InputPath → Type 0
IsInputPathAt path Input = path ≡ codes "-"
IsInputPathAt path (Path text) = (text.now ≡ path) × (path ≢ codes "-")

-- the job has a path, and it names this file
abbrev pub IsInputPathOf : Option Text → InputPath → Type 0
IsInputPathOf path place = (text : Text) × (path ≡ Some text) × IsInputPathAt text place

-- the text is that of this layout; no layout if there is no text
abbrev pub IsLayout : {Z : Type 0} → Option (String Z) → Option Layout → Type 0
IsLayout word None = word ≡ None
IsLayout word (Some layout) = text_in word ≡ Some (layout_word layout)

-- no layout has the word
abbrev pub IsNoLayout : {Z : Type 0} → Option (String Z) → Type 0
IsNoLayout word = (text : Text) × (text_in word ≡ Some text) × ((layout : Layout) → text ≢ layout_word layout)

-- the least length that `--length` takes, which fits 64 bits
abbrev pub least_length : ℤ
least_length = negsuc 9223372036854775807

-- the largest one
abbrev pub most_length : ℤ
most_length = pos 9223372036854775807

-- the text is a number word for this length; no length is claimed if there is no text
abbrev pub IsClaim : {Z : Type 0} → Option (String Z) → Option ℤ → Type 0
IsClaim word None = word ≡ None
IsClaim word (Some claim) = (text : Text) × (text_in word ≡ Some text) × ReadsWhole text least_length most_length (Ok claim)

-- the text is a number word of no such length
abbrev pub IsNoLength : {Z : Type 0} → Option (String Z) → Type 0
IsNoLength word = (text : Text) × (text_in word ≡ Some text)
    × ((fault : NumberFault) × ReadsWhole text least_length most_length (Err fault))

-- the job names this kind of certificate alone, and this is its file
abbrev pub IsNamed : Job → CertificateKind → InputPath → Type 0
IsNamed job Potentials place = IsInputPathOf (text_in job.potentials) place × (job.branches ≡ None)
IsNamed job Branches place = (job.potentials ≡ None) × IsInputPathOf (text_in job.branches) place

-- the job names no certificate
abbrev pub NamesNone : Job → Type 0
NamesNone job = (job.potentials ≡ None) × (job.branches ≡ None)

-- the job names potentials and branches
abbrev pub NamesBoth : Job → Type 0
NamesBoth job = (job.potentials ≢ None) × (job.branches ≢ None)

-- the file that a path names, or that the path is missing
abbrev pub GivesInputPath : Option Text → Result InputPath TaskFault → Type 0
GivesInputPath path (Ok place) = IsInputPathOf path place
GivesInputPath path (Err fault) = (fault ≡ MissingPath) × (path ≡ None)

-- the layout that a word names, or that none has the word
abbrev pub GivesLayout : {Z : Type 0} → Option (String Z) → Result (Option Layout) TaskFault → Type 0
GivesLayout word (Ok layout) = IsLayout word layout
GivesLayout word (Err fault) = (fault ≡ UnknownLayout) × IsNoLayout word

-- the length that a word claims, or that it isn't a length
abbrev pub GivesClaim : {Z : Type 0} → Option (String Z) → Result (Option ℤ) TaskFault → Type 0
GivesClaim word (Ok claimed) = IsClaim word claimed
GivesClaim word (Err fault) = (fault ≡ NotALength) × IsNoLength word

-- the certificate that the job names, if any, or that it names two
abbrev pub GivesCertificate : Job → Result (Option (CertificateKind × InputPath)) TaskFault → Type 0
GivesCertificate job (Ok None) = NamesNone job
GivesCertificate job (Ok (Some named)) = IsNamed job named.0 named.1
GivesCertificate job (Err fault) = (fault ≡ TwoCertificates) × NamesBoth job

-- the verb's task, with the files in the order F, T, and P or B; standard input is shown if there is no verb
abbrev pub IsFileTask : Job → FileTask InputPath → Type 0
IsFileTask job (Show Input) = (job.verb ≡ None) ⊎ ((job.verb ≡ Some verbs.Show) × IsInputPathOf (text_in job.file) Input)
IsFileTask job (Show (Path path)) = (job.verb ≡ Some verbs.Show) × IsInputPathOf (text_in job.file) (Path path)
IsFileTask job (Convert file to) = (job.verb ≡ Some verbs.Convert) × IsInputPathOf (text_in job.file) file × IsLayout job.layout to
IsFileTask job (Check instance solution certificate claimed strict) = (job.verb ≡ Some verbs.Check)
    × IsInputPathOf (text_in job.file) instance × IsInputPathOf (text_in job.solution) solution × IsClaim job.length claimed
    × GivesCertificate job (Ok certificate) × (strict ≡ job.strict)
IsFileTask job (Bound instance certificate strict) = (job.verb ≡ Some verbs.Bound) × IsInputPathOf (text_in job.file) instance
    × IsNamed job certificate.0 certificate.1 × (strict ≡ job.strict)

-- a path contains byte 10, which ends a line
abbrev pub has_line_end : Text → Bool
has_line_end path = list_any (λ b. b == 10) path

-- some path contains byte 10
abbrev pub any_line_end : {Z : Type 0} → List (String Z) → Bool
any_line_end paths = list_any (λ path. has_line_end (string_bytes path)) paths

-- The comparison of these solutions, all those of the job in their order, and one at least. No path has a line end,
-- because the line of its solution ends with it.
abbrev pub IsComparisonOf : Job → Comparison InputPath → Type 0
IsComparisonOf job comparison = (job.verb ≡ Some verbs.Compare) × IsInputPathOf (text_in job.file) comparison.instance
    × GivesCertificate job (Ok comparison.certificate) × (comparison.solutions.now ≡ job.solutions.items)
    × (job.solutions.items ≢ []) × (any_line_end job.solutions.items ≡ false) × (comparison.strict ≡ job.strict)

-- the job asks for this task: one on files, or a comparison
abbrev pub IsTask : Job → Task InputPath → Type 0
IsTask job (tasks.Files task) = IsFileTask job task
IsTask job (tasks.Compare comparison) = IsComparisonOf job comparison

-- The verb takes one certificate at most, and no fault applies that is named before those of certificates.
abbrev pub TakesCertificate : Job → Type 0
TakesCertificate job = ((job.verb ≡ Some verbs.Check) × (job.file ≢ None) × (job.solution ≢ None)
    × ((claimed : Option ℤ) × IsClaim job.length claimed))
    ⊎ (((job.verb ≡ Some verbs.Compare) × (job.file ≢ None) × (job.solutions.items ≢ []))
    ⊎ ((job.verb ≡ Some verbs.Bound) × (job.file ≢ None)))

-- The task, or why there is none; `solution` isn't the verb of a task. Here, several of its files may be standard
-- input. If several faults apply, the first is named: a missing path, a word that isn't a layout, one that isn't a
-- length, two certificates, none, and a path with a line end.
abbrev pub NamesTask : Job → Result (Task InputPath) TaskFault → Type 0
NamesTask job (Ok task) = IsTask job task
NamesTask job (Err MissingPath) = (job.verb ≢ None) × ((job.file ≡ None)
    ⊎ ((job.verb ≡ Some verbs.Check) × (job.solution ≡ None)) ⊎ ((job.verb ≡ Some verbs.Compare) × (job.solutions.items ≡ []))
    ⊎ (job.verb ≡ Some verbs.Solution))
NamesTask job (Err UnknownLayout) = (job.verb ≡ Some verbs.Convert) × (job.file ≢ None) × IsNoLayout job.layout
NamesTask job (Err NotALength) = (job.verb ≡ Some verbs.Check) × (job.file ≢ None) × (job.solution ≢ None)
    × IsNoLength job.length
NamesTask job (Err TwoCertificates) = TakesCertificate job × NamesBoth job
NamesTask job (Err NoCertificate) = (job.verb ≡ Some verbs.Bound) × (job.file ≢ None) × NamesNone job
NamesTask job (Err LineEndInPath) = (job.verb ≡ Some verbs.Compare) × (job.file ≢ None) × (job.solutions.items ≢ [])
    × (NamesBoth job → ⊥) × (any_line_end job.solutions.items ≡ true)
NamesTask job (Err InputTwice) = ⊥
NamesTask job (Err UnknownForm) = ⊥
NamesTask job (Err NotAFirst) = ⊥
NamesTask job (Err NotADepot) = ⊥

-- ---- what one verb asks for; `at` is the file of its instance

-- the task of `check`, or why there is none
abbrev pub NamesCheck : Job → InputPath → Result (FileTask InputPath) TaskFault → Type 0
NamesCheck job at (Ok (Check instance solution certificate claimed strict)) = (instance ≡ at)
    × IsInputPathOf (text_in job.solution) solution × IsClaim job.length claimed × GivesCertificate job (Ok certificate)
    × (strict ≡ job.strict)
NamesCheck job at (Ok other) = ⊥
NamesCheck job at (Err MissingPath) = job.solution ≡ None
NamesCheck job at (Err NotALength) = (job.solution ≢ None) × IsNoLength job.length
NamesCheck job at (Err TwoCertificates) = (job.solution ≢ None) × ((claimed : Option ℤ) × IsClaim job.length claimed)
    × NamesBoth job
NamesCheck job at (Err other) = ⊥

-- the task of `compare`, or why there is none
abbrev pub NamesComparison : Job → InputPath → Result (Comparison InputPath) TaskFault → Type 0
NamesComparison job at (Ok comparison) = (comparison.instance ≡ at) × GivesCertificate job (Ok comparison.certificate)
    × (comparison.solutions.now ≡ job.solutions.items) × (job.solutions.items ≢ []) × (any_line_end job.solutions.items ≡ false)
    × (comparison.strict ≡ job.strict)
NamesComparison job at (Err MissingPath) = job.solutions.items ≡ []
NamesComparison job at (Err TwoCertificates) = (job.solutions.items ≢ []) × NamesBoth job
NamesComparison job at (Err LineEndInPath) = (job.solutions.items ≢ []) × (NamesBoth job → ⊥)
    × (any_line_end job.solutions.items ≡ true)
NamesComparison job at (Err other) = ⊥

-- the task of `bound`, or why there is none
abbrev pub NamesBound : Job → InputPath → Result (FileTask InputPath) TaskFault → Type 0
NamesBound job at (Ok (Bound instance certificate strict)) = (instance ≡ at) × IsNamed job certificate.0 certificate.1
    × (strict ≡ job.strict)
NamesBound job at (Ok other) = ⊥
NamesBound job at (Err NoCertificate) = NamesNone job
NamesBound job at (Err TwoCertificates) = NamesBoth job
NamesBound job at (Err other) = ⊥

-- ---- standard input

-- 1 for standard input, 0 for a path: so a sum counts them
abbrev pub input : InputPath → ℕ
input Input = 1
input (Path path) = 0

-- the same for one file, if there is one
abbrev pub input_at : Option (Option Role × InputPath) → ℕ
input_at None = 0
input_at (Some file) = input file.1

-- how many of these files are standard input
abbrev pub inputs_in : List (Option Role × InputPath) → ℕ
inputs_in files = sum_by (λ file. input file.1) files

-- how many files of a task are
abbrev pub inputs_of : FileTask InputPath → ℕ
inputs_of task = inputs_in (files_of task)

-- whether a path is `-`
abbrev pub is_dash : Text → Bool
is_dash path = bytes_eq path (codes "-")

-- how many of the paths are `-`
abbrev pub inputs_at : {Z : Type 0} → List (String Z) → ℕ
inputs_at paths = count_by (λ path. is_dash (string_bytes path)) paths

-- how many files of a task, or of a comparison, are standard input
abbrev pub inputs_of_task : Task InputPath → ℕ
inputs_of_task (tasks.Files task) = inputs_of task
inputs_of_task (tasks.Compare comparison) = inputs_in (files_compared comparison) + inputs_at comparison.solutions.now

-- The task, or why there is none (if several faults apply, the first); at most one of its files is standard input,
-- because that gives its bytes only once. This fault is named last, if the task has no other.
abbrev pub GivesTask : Job → Result (Task InputPath) TaskFault → Type 0
GivesTask job (Ok task) = IsTask job task × (inputs_of_task task ≤ 1)
GivesTask job (Err InputTwice) = (task : Task InputPath) × IsTask job task × (2 ≤ inputs_of_task task)
GivesTask job (Err UnknownLayout) = NamesTask job (Err UnknownLayout)
GivesTask job (Err NotALength) = NamesTask job (Err NotALength)
GivesTask job (Err TwoCertificates) = NamesTask job (Err TwoCertificates)
GivesTask job (Err NoCertificate) = NamesTask job (Err NoCertificate)
GivesTask job (Err MissingPath) = NamesTask job (Err MissingPath)
GivesTask job (Err LineEndInPath) = NamesTask job (Err LineEndInPath)
GivesTask job (Err UnknownForm) = ⊥
GivesTask job (Err NotAFirst) = ⊥
GivesTask job (Err NotADepot) = ⊥
