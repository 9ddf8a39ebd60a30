-- For src/running.rt: what holds of each path of a task also holds of each file that is opened for it (`task_by`,
-- `comparison_by`), and the explanations of single solutions add up (`tells_more`).
use Rattle.tsp_tool.proofs.Prelude.{Option, None, Some, ℕ, zero, suc, Bool, true, false, List, [], ◌++◌, refl, sym, subst, ◌∙◌, Appends-nil, Appends-trans, Result, Ok, Err}
use Rattle.tsp_report.specs.Tasks.{IsMapped, IsMappedCertificate, IsMappedComparison}
use Rattle.tsp_report.specs.declared.task.CertificateKind.{CertificateKind}
use Rattle.tsp_report.specs.declared.task.Comparison.{Comparison}
use Rattle.tsp_report.specs.declared.task.FileTask.{FileTask}
use Rattle.tsp_report.specs.declared.task.FileTask.TheVariants.{Show, Convert, Check, Bound}
use Rattle.tsp_judge.specs.CompareRun.{AreReported, AreAllReported, IsFollowed}
use Rattle.tsp_judge.specs.declared.compare_run.Compared.{Compared}
use Rattle.tsp_judge.specs.declared.run_status.RunFault.{RunFault}
use Rattle.tsp_tool.specs.RunEnd.{MayTell}

certificate_by : {F G : Type 0} (P Q : F → G → Type 0) → ((a : F) (x : G) → P a x → Q a x) → (old : Option (CertificateKind × F)) (new : Option (CertificateKind × G))
    → IsMappedCertificate P old new → IsMappedCertificate Q old new
certificate_by P Q implies None None same = same
certificate_by P Q implies None (Some x) same = absurd same
certificate_by P Q implies (Some a) None same = absurd same
certificate_by P Q implies (Some a) (Some x) same = (same.0, implies a.1 x.1 same.1)

pub task_by : {F G : Type 0} (P Q : F → G → Type 0) → ((a : F) (x : G) → P a x → Q a x) → (old : FileTask F) (new : FileTask G) → IsMapped P old new → IsMapped Q old new
task_by P Q implies (Show a) (Show x) same = implies a x same
task_by P Q implies (Show a) (Convert x to) same = absurd same
task_by P Q implies (Show a) (Check x y z claimed strict) same = absurd same
task_by P Q implies (Show a) (Bound x z strict) same = absurd same
task_by P Q implies (Convert a to) (Show x) same = absurd same
task_by P Q implies (Convert a to) (Convert x kept) same = (implies a x same.0, same.1)
task_by P Q implies (Convert a to) (Check x y z claimed strict) same = absurd same
task_by P Q implies (Convert a to) (Bound x z strict) same = absurd same
task_by P Q implies (Check a b c claimed strict) (Show x) same = absurd same
task_by P Q implies (Check a b c claimed strict) (Convert x to) same = absurd same
task_by P Q implies (Check a b c claimed strict) (Check x y z kept also) same = (implies a x same.0, implies b y same.1, certificate_by P Q implies c z same.2, same.3, same.4)
task_by P Q implies (Check a b c claimed strict) (Bound x z kept) same = absurd same
task_by P Q implies (Bound a c strict) (Show x) same = absurd same
task_by P Q implies (Bound a c strict) (Convert x to) same = absurd same
task_by P Q implies (Bound a c strict) (Check x y z claimed kept) same = absurd same
task_by P Q implies (Bound a c strict) (Bound x z kept) same = (implies a x same.0, same.1, implies c.1 z.1 same.2, same.3)

pub comparison_by : {F G : Type 0} (P Q : F → G → Type 0) → ((a : F) (x : G) → P a x → Q a x) → (old : Comparison F) (new : Comparison G)
    → IsMappedComparison P old new → IsMappedComparison Q old new
comparison_by P Q implies old new same = (implies old.instance new.instance same.0, certificate_by P Q implies old.certificate new.certificate same.1, same.2, same.3)

-- ---- the lines of standard error on solutions, one by one

-- no lines were written
tells_none : (explained : Bool) (at : Option (List ℕ)) → MayTell explained at at
tells_none false at = refl
tells_none true at = ([], Appends-nil at)

-- some lines were written, and then more
pub tells_more : (explained : Bool) (first next last : Option (List ℕ)) → MayTell explained first next → MayTell explained next last
    → MayTell explained first last
tells_more false first next last some more = more ∙ some
tells_more true first next last some more = (some.0 ++ more.0, Appends-trans first next last some.0 more.0 some.1 more.1)

-- what telling of one line may do, if its bytes are these
abbrev pub TellsLine : {E : Type 0} → Bool → (E → Option (List ℕ)) → ℕ → E → E → Type 0
TellsLine explained contents index old new = MayTell explained (contents old) (contents new)

tells_first : {E : Type 0} (explained : Bool) (contents : E → Option (List ℕ)) (count : ℕ) (old new : E) → AreReported (TellsLine explained contents) count old new
    → MayTell explained (contents old) (contents new)
tells_first explained contents zero old new reported = subst (λ e. MayTell explained (contents old) (contents e)) (sym reported) (tells_none explained (contents old))
tells_first explained contents (suc count) old new reported =
    tells_more explained (contents old) (contents reported.0) (contents new) (tells_first explained contents count old reported.0 reported.1) reported.2

tells_all : {E : Type 0} (explained clear : Bool) (contents : E → Option (List ℕ)) (count : ℕ) (old new : E) → AreAllReported clear (TellsLine explained contents) count old new
    → MayTell explained (contents old) (contents new)
tells_all explained true contents count old new reported = tells_first explained contents count old new reported
tells_all explained false contents count old new reported = subst (λ e. MayTell explained (contents old) (contents e)) (sym reported) (tells_none explained (contents old))

-- the lines on all solutions that were compared
pub tells_compared : {E : Type 0} (explained : Bool) (contents : E → Option (List ℕ)) (count : ℕ) (old new : E) (ended : Result Compared RunFault)
    → IsFollowed (TellsLine explained contents) count old new ended → MayTell explained (contents old) (contents new)
tells_compared explained contents count old new (Ok compared) reported = tells_all explained _ contents count old new reported
tells_compared explained contents count old new (Err fault) reported = tells_first explained contents reported.0 old new reported.2
