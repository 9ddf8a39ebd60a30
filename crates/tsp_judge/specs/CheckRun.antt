-- Circle 2 of docs/trust.md.
-- A run of `tsp check`: the files that are read, the verdict, the report, and what its line `yes` means (`SaysYes`).
-- `check_solution` in src/check_run.rt promises `IsRunOf`. Crates above import it, too.
use Rattle.tsp_judge.specs.Prelude.{ℕ, List, Bool, true, false, Result, Ok, Err, Option, None, Some, IsTrue, ℤ, ReadTrace, IsUnread, Sink, IsUnwritten, HasWritten, HasStopped, Fields, IsFile, StopsAt, report_of, is_yes, CertificateKind, Verdict, is_judged, NoneBeforeRepeatsOn, IsVerdictAsked, TakesAtMost, read_trace_of, most_taken, IsReadOn, IsJudgedWhole}
use Rattle.std.specs.Prelude.{◌≡◌, ◌⊎◌}
use Rattle.tsp_io.specs.declared.piece.WriteFault.TheVariants as write_faults
use Rattle.tsp_read.specs.declared.ReadFault.{ReadFault}
use Rattle.tsp_judge.specs.declared.check_run.Judged.{Judged}
use Rattle.tsp_judge.specs.declared.run_status.RunFault.{RunFault}
use Rattle.tsp_judge.specs.declared.run_status.RunFault.TheVariants.{File, WrongKind, Write, OutOfMemory}
use Rattle.std.specs.declared.io.Error.{Error}
use Rattle.tsp_io.specs.declared.watched.Watched.{Watched}
use Rattle.tsp_judge.specs.Accepted.{IsAccepted}

-- ---- the files

-- the bytes that the reader delivered parse to a file
abbrev pub IsSomeFile : ReadTrace → Type 0
IsSomeFile read_trace = (file : Fields) × IsFile read_trace file

-- the file with this number was read; or it isn't valid, and the run ends with its fault
abbrev pub ReadsFile : ℕ → ReadTrace → Result Fields RunFault → Type 0
ReadsFile number read_trace (Ok file) = IsFile read_trace file
ReadsFile number read_trace (Err (File place fault)) = (place ≡ number) × StopsAt fault read_trace
ReadsFile number read_trace (Err other) = ⊥

-- A certificate, if one is given, and the read trace of its reader.
abbrev pub Given : Type 0
Given = Option (CertificateKind × ReadTrace)

-- Q holds for the certificate and the read trace of its reader, or for None if no certificate is named.
abbrev pub TakesNamed : {R : Type 0} → (R → Option (List ℕ)) → Option (CertificateKind × Watched R) → Option (CertificateKind × Watched R)
    → (Given → Type 0) → Type 0
TakesNamed remaining None None Q = Q None
TakesNamed remaining (Some named) (Some left) Q = TakesAtMost most_taken (read_trace_of remaining named.1 left.1)
    (λ read_trace. Q (Some (named.0, read_trace)))
TakesNamed remaining _ _ Q = ⊥

-- If a certificate is named, its reader was asked some reads, and has failed if the last read failed.
abbrev pub IsNamedReadOn : {R : Type 0} → (R → List ℕ → Result ℕ Error → List ℕ → R → Type 0) → Option (CertificateKind × Watched R)
    → Option (CertificateKind × Watched R) → Type 0
IsNamedReadOn gives None None = Unit {0}
IsNamedReadOn gives (Some named) (Some left) = IsReadOn gives named.1 left.1
IsNamedReadOn gives _ _ = ⊥

-- the certificate's reader isn't asked
abbrev pub IsUnreadIn : Given → Type 0
IsUnreadIn None = Unit {0}
IsUnreadIn (Some given) = IsUnread given.1

-- the certificate's reader delivered this file
abbrev pub IsFileIn : Given → Option (CertificateKind × Fields) → Type 0
IsFileIn None None = Unit {0}
IsFileIn None (Some certificate) = ⊥
IsFileIn (Some given) None = ⊥
IsFileIn (Some given) (Some certificate) = (certificate.0 ≡ given.0) × IsFile given.1 certificate.1

-- the certificate, as the file with this number, was read; or it isn't valid, and the run ends with its fault
abbrev pub ReadsGiven : ℕ → Given → Result (Option (CertificateKind × Fields)) RunFault → Type 0
ReadsGiven number given (Ok certificate) = IsFileIn given certificate
ReadsGiven number None (Err fault) = ⊥
ReadsGiven number (Some given) (Err fault) = ReadsFile number given.1 (Err fault)

-- the readers delivered these files
pub record AreRead (given : Given) (first second : ReadTrace) (instance solution : Fields)
    (certificate : Option (CertificateKind × Fields)) : Type 0 where
  pub first_file : IsFile first instance
  pub second_file : IsFile second solution
  pub third_file : IsFileIn given certificate

-- The first file, in order, that isn't valid has this number and this fault. Later ones aren't read.
abbrev pub IsFaultOfRun : Given → ReadTrace → ReadTrace → ℕ → ReadFault → Type 0
IsFaultOfRun given first second file fault = ((file ≡ 1) × StopsAt fault first × IsUnread second × IsUnreadIn given)
    ⊎ ((file ≡ 2) × IsSomeFile first × StopsAt fault second × IsUnreadIn given)
    ⊎ ((third : CertificateKind × ReadTrace) × (given ≡ Some third) × (file ≡ 3) × IsSomeFile first × IsSomeFile second
    × StopsAt fault third.1)

-- ---- the verdict

-- The result for files that were read. Ok: this is the verdict, and the whole report was written. WrongKind: the
-- certificate can't bound solutions of the instance's TYPE. OutOfMemory: no reason applies that is found without
-- memory. In these two cases nothing is written. If the writer fails, a prefix of the report was written. Writing takes
-- no memory.
abbrev pub JudgesFiles : Option (CertificateKind × Fields) → Option ℤ → Bool → Fields → Fields → Sink → Result Verdict RunFault
    → Type 0
JudgesFiles certificate claimed strict instance solution sink (Ok verdict) = IsTrue (is_judged certificate instance.kind)
    × IsVerdictAsked strict certificate claimed instance solution verdict × HasWritten sink (report_of instance verdict)
JudgesFiles certificate claimed strict instance solution sink (Err WrongKind) = (is_judged certificate instance.kind ≡ false)
    × IsUnwritten sink
JudgesFiles certificate claimed strict instance solution sink (Err OutOfMemory) = IsTrue (is_judged certificate instance.kind)
    × NoneBeforeRepeatsOn instance solution × IsUnwritten sink
JudgesFiles certificate claimed strict instance solution sink (Err (Write write_faults.Device)) =
    IsTrue (is_judged certificate instance.kind)
    × ((verdict : Verdict) × IsVerdictAsked strict certificate claimed instance solution verdict
    × HasStopped sink (report_of instance verdict))
JudgesFiles certificate claimed strict instance solution sink (Err other) = ⊥

-- the result of writing a report: the whole of it was written, or a prefix before the writer failed
abbrev pub WritesReport : Sink → List ℕ → Result (Unit {0}) RunFault → Type 0
WritesReport sink report (Ok done) = HasWritten sink report
WritesReport sink report (Err (Write write_faults.Device)) = HasStopped sink report
WritesReport sink report (Err other) = ⊥

-- ---- the run

-- Why a run has no verdict. The first file, in order, that isn't valid ends the run, and then nothing is written.
abbrev pub EndsWithout : Given → Option ℤ → Bool → ReadTrace → ReadTrace → Sink → RunFault → Type 0
EndsWithout given claimed strict first second sink (File file fault) = IsUnwritten sink × IsFaultOfRun given first second file fault
EndsWithout given claimed strict first second sink fault = (instance solution : Fields) × (certificate : Option (CertificateKind × Fields))
    × AreRead given first second instance solution certificate
    × JudgesFiles certificate claimed strict instance solution sink (Err fault)

-- The result of a run: the files that were read, and the verdict on them.
abbrev pub IsRun : Given → Option ℤ → Bool → ReadTrace → ReadTrace → Sink → Result Judged RunFault → Type 0
IsRun given claimed strict first second sink (Ok judged) =
    AreRead given first second judged.instance judged.solution judged.certificate
    × JudgesFiles judged.certificate claimed strict judged.instance judged.solution sink (Ok judged.verdict)
IsRun given claimed strict first second sink (Err fault) = EndsWithout given claimed strict first second sink fault

-- The result of a check: whether the solution is accepted.
abbrev pub IsCheckAnswer : Given → Option ℤ → Bool → ReadTrace → ReadTrace → Sink → Result Bool RunFault → Type 0
IsCheckAnswer given claimed strict first second sink (Ok answer) = (instance solution : Fields)
    × (certificate : Option (CertificateKind × Fields))
    × (verdict : Verdict) × AreRead given first second instance solution certificate
    × JudgesFiles certificate claimed strict instance solution sink (Ok verdict) × (answer ≡ is_yes verdict)
IsCheckAnswer given claimed strict first second sink (Err fault) = EndsWithout given claimed strict first second sink fault

-- whether the solution is accepted, if there is a verdict
abbrev pub acceptance : Result Judged RunFault → Result Bool RunFault
acceptance (Ok judged) = Ok (is_yes judged.verdict)
acceptance (Err fault) = Err fault

-- ---- the meaning of the line `yes`

-- At `yes`, the bytes that were read parse to these files, the whole report was written, and it means that the solution
-- is accepted. With `strict`, the verdict ignores no line of the instance.
pub record SaysYes (given : Given) (claimed : Option ℤ) (strict : Bool) (first second : ReadTrace) (sink : Sink) : Type 0 where
  pub instance : Fields
  pub solution : Fields
  pub certificate : Option (CertificateKind × Fields)
  pub report : List ℕ
  pub read : AreRead given first second instance solution certificate
  pub written : HasWritten sink report
  pub meaning : IsAccepted certificate claimed instance solution report
  pub all_judged : strict ≡ true → IsJudgedWhole instance

-- the result of a check, which is whether the solution is accepted, and what its line `yes` means
abbrev pub IsCheckOf : Given → Option ℤ → Bool → ReadTrace → ReadTrace → Sink → Result Bool RunFault → Type 0
IsCheckOf given claimed strict first second sink result = IsCheckAnswer given claimed strict first second sink result
    × (result ≡ Ok true → SaysYes given claimed strict first second sink)

-- a check without a certificate
abbrev pub IsCheck : ReadTrace → ReadTrace → Sink → Result Bool RunFault → Type 0
IsCheck first second sink result = IsCheckOf None None false first second sink result

-- a check with a certificate, whose file is the third one
abbrev pub IsCheckBy : CertificateKind → ReadTrace → ReadTrace → ReadTrace → Sink → Result Bool RunFault → Type 0
IsCheckBy by first second third sink result = IsCheckOf (Some (by, third)) None false first second sink result

-- the same with the files and the verdict as the result
abbrev pub IsRunOf : Given → Option ℤ → Bool → ReadTrace → ReadTrace → Sink → Result Judged RunFault → Type 0
IsRunOf given claimed strict first second sink result = IsRun given claimed strict first second sink result
    × IsCheckOf given claimed strict first second sink (acceptance result)
