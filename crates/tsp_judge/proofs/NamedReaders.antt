-- Runs in which a certificate may be named (src/check_run.rt, src/compare_run.rt, src/task_run.rt and src/api.rt): a
-- statement on the certificate's reader follows from a stronger one, and holds if nobody asks the reader.
use Rattle.tsp_judge.proofs.Prelude.{ℕ, List, [], Option, None, Some, Result, refl, Keeps-refl, read_none, CertificateKind}
use Rattle.std.specs.declared.io.Error.{Error}
use Rattle.tsp_io.specs.declared.watched.Watched.{Watched}
use Rattle.tsp_judge.specs.CheckRun.{Given, IsUnreadIn, TakesNamed, IsNamedReadOn}
use Rattle.tsp_judge.proofs.Yeses.{none_taken}

-- a statement on the certificate that is named, by one that implies it
pub named_by : {R : Type 0} (remaining : R → Option (List ℕ)) (old new : Option (CertificateKind × Watched R)) (P Q : Given → Type 0)
    → ((given : Given) → P given → Q given) → TakesNamed remaining old new P → TakesNamed remaining old new Q
named_by remaining None None P Q implies taken = implies None taken
named_by remaining None (Some left) P Q implies taken = absurd taken
named_by remaining (Some named) None P Q implies taken = absurd taken
named_by remaining (Some named) (Some left) P Q implies taken = (taken.0, taken.1, implies _ taken.2)

-- its reader isn't asked
pub named_unread : {R : Type 0} (remaining : R → Option (List ℕ)) (named : Option (CertificateKind × Watched R)) (Q : Given → Type 0)
    → ((given : Given) → IsUnreadIn given → Q given) → TakesNamed remaining named named Q
named_unread remaining None Q implies = implies None tt
named_unread remaining (Some named) Q implies = ([], none_taken, implies _ (Keeps-refl _, refl))

pub named_unasked : {R : Type 0} (gives : R → List ℕ → Result ℕ Error → List ℕ → R → Type 0)
    (named : Option (CertificateKind × Watched R)) → IsNamedReadOn gives named named
named_unasked gives None = tt
named_unasked gives (Some named) = read_none gives named.1

-- no certificate is named
pub unnamed : {R : Type 0} (remaining : R → Option (List ℕ)) (new : Option (CertificateKind × Watched R)) (Q : Given → Type 0)
    → TakesNamed remaining None new Q → Q None
unnamed remaining None Q taken = taken
unnamed remaining (Some left) Q taken = absurd taken
