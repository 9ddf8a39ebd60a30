-- A task on files: its files in the order in which they are read, the role of each, and the same task on other files.
-- src/task.rt promises it, and tsp_tool opens files by it. In no circle of docs/trust.md.
use Rattle.std.specs.Prelude.{ℕ, List, [], ◌∷◌, ◌-◌, ◌==◌, Option, None, Some, cond, slice_get, ◌≡◌}
use Rattle.tsp_report.specs.declared.task.CertificateKind.{CertificateKind}
use Rattle.tsp_report.specs.declared.task.CertificateKind.TheVariants as certificates
use Rattle.tsp_report.specs.declared.task.Comparison.{Comparison}
use Rattle.tsp_report.specs.declared.task.FileTask.{FileTask}
use Rattle.tsp_report.specs.declared.task.FileTask.TheVariants.{Show, Convert, Check, Bound}
use Rattle.tsp_report.specs.declared.task.Role.{Role}
use Rattle.tsp_report.specs.declared.task.Role.TheVariants.{Potentials, Branches, Instance, Solution}
use Rattle.tsp_report.specs.declared.task.Task.{Task}
use Rattle.tsp_report.specs.declared.task.Task.TheVariants as tasks

-- each kind of certificate has its role
abbrev pub role_by : CertificateKind → Role
role_by certificates.Potentials = Potentials
role_by certificates.Branches = Branches

-- ---- the files of a task in the order in which they are read, each with its role

-- the file of a certificate, if one is named
abbrev pub file_named : {F : Type 0} → Option (CertificateKind × F) → List (Option Role × F)
file_named None = []
file_named (Some named) = (Some (role_by named.0), named.1) ∷ []

-- the files of a task with their roles; a file that is shown or converted has none
abbrev pub files_of : {F : Type 0} → FileTask F → List (Option Role × F)
files_of (Show file) = (None, file) ∷ []
files_of (Convert file to) = (None, file) ∷ []
files_of (Check instance solution certificate claimed strict) = (Some Instance, instance) ∷ (Some Solution, solution)
    ∷ file_named certificate
files_of (Bound instance certificate strict) = (Some Instance, instance) ∷ (Some (role_by certificate.0), certificate.1) ∷ []

-- the files of a comparison, without its solutions
abbrev pub files_compared : {F : Type 0} → Comparison F → List (Option Role × F)
files_compared comparison = (Some Instance, comparison.instance) ∷ file_named comparison.certificate

-- the files of either
abbrev pub files_of_task : {F : Type 0} → Task F → List (Option Role × F)
files_of_task (tasks.Files task) = files_of task
files_of_task (tasks.Compare comparison) = files_compared comparison

-- the element with this number, counted from 1
abbrev pub numbered : {X : Type 0} → ℕ → List X → Option X
numbered number xs = cond (number == 0) None (slice_get xs (number - 1))

-- ---- a task with its files replaced by others, as paths by opened files

-- the same kind of certificate with such a file, or none
abbrev pub IsMappedCertificate : {F G : Type 0} → (F → G → Type 0) → Option (CertificateKind × F) → Option (CertificateKind × G) → Type 0
IsMappedCertificate gives None None = Unit {0}
IsMappedCertificate gives (Some a) (Some x) = (x.0 ≡ a.0) × gives a.1 x.1
IsMappedCertificate gives _ _ = ⊥

-- the same task with such files
abbrev pub IsMapped : {F G : Type 0} → (F → G → Type 0) → FileTask F → FileTask G → Type 0
IsMapped gives (Show a) (Show x) = gives a x
IsMapped gives (Convert a to) (Convert x same) = gives a x × (same ≡ to)
IsMapped gives (Check a b c claimed strict) (Check x y z same also) = gives a x × gives b y × IsMappedCertificate gives c z
    × (same ≡ claimed) × (also ≡ strict)
IsMapped gives (Bound a c strict) (Bound x z same) = gives a x × (z.0 ≡ c.0) × gives c.1 z.1 × (same ≡ strict)
IsMapped gives _ _ = ⊥

-- the same comparison with such an instance and certificate; its solutions stay
abbrev pub IsMappedComparison : {F G : Type 0} → (F → G → Type 0) → Comparison F → Comparison G → Type 0
IsMappedComparison gives old new = gives old.instance new.instance × IsMappedCertificate gives old.certificate new.certificate
    × (new.solutions.now ≡ old.solutions.now) × (new.strict ≡ old.strict)

-- the same for either
abbrev pub IsMappedTask : {F G : Type 0} → (F → G → Type 0) → Task F → Task G → Type 0
IsMappedTask gives (tasks.Files a) (tasks.Files x) = IsMapped gives a x
IsMappedTask gives (tasks.Compare a) (tasks.Compare x) = IsMappedComparison gives a x
IsMappedTask gives _ _ = ⊥
