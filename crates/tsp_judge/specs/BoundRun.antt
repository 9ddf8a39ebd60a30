-- Circle 2 of docs/trust.md.
-- A run of `tsp bound`: the files that are read, the bound, the report, and what its line `yes` means (`SaysBound`).
-- `run_bound` in src/bound_run.rt promises `IsBoundRunOf`. tsp_c imports it, too.
use Rattle.tsp_judge.specs.Prelude.{ℕ, List, Bool, true, false, Result, Ok, Err, IsTrue, ReadTrace, IsUnread, Sink, IsUnwritten, HasWritten, HasStopped, Fields, IsFile, StopsAt, bound_report_of, CertificateKind, NoneAgainstInstance, is_bounded, NoneWithoutMemory, IsBoundAsked, IsJudgedWhole, is_ok, BoundVerdict}
use Rattle.std.specs.Prelude.{◌≡◌, ◌⊎◌}
use Rattle.tsp_io.specs.declared.piece.WriteFault.TheVariants as write_faults
use Rattle.tsp_judge.specs.Accepted.{IsAcceptedAlone}
use Rattle.tsp_judge.specs.declared.bound_run.Bounded.{Bounded}
use Rattle.tsp_judge.specs.declared.run_status.RunFault.{RunFault}
use Rattle.tsp_judge.specs.declared.run_status.RunFault.TheVariants.{File, WrongKind, Write, OutOfMemory}
use Rattle.tsp_judge.specs.CheckRun.{IsSomeFile}

-- The result for an instance and a certificate that were read. Ok: this is the bound, or the first reason against them,
-- and the whole report was written. WrongKind: the certificate can't bound solutions of the instance's TYPE.
-- OutOfMemory: no reason applies to the instance, and none that is found without memory applies to the certificate. In
-- these two cases nothing is written. If the writer fails, a prefix of the report was written.
abbrev pub BoundsFiles : CertificateKind → Bool → Fields → Fields → Sink → Result BoundVerdict RunFault → Type 0
BoundsFiles by strict instance certificate sink (Ok found) = IsTrue (is_bounded by instance.kind)
    × IsBoundAsked strict by instance certificate found
    × HasWritten sink (bound_report_of instance found)
BoundsFiles by strict instance certificate sink (Err WrongKind) = (is_bounded by instance.kind ≡ false) × IsUnwritten sink
BoundsFiles by strict instance certificate sink (Err OutOfMemory) = IsTrue (is_bounded by instance.kind) × NoneAgainstInstance instance
    × NoneWithoutMemory by instance certificate × IsUnwritten sink
BoundsFiles by strict instance certificate sink (Err (Write write_faults.Device)) = IsTrue (is_bounded by instance.kind)
    × ((found : BoundVerdict) × IsBoundAsked strict by instance certificate found
    × HasStopped sink (bound_report_of instance found))
BoundsFiles by strict instance certificate sink (Err other) = ⊥

-- Why a run has no bound and no reason. The first file, in order, that isn't valid ends the run, and then nothing is
-- written.
abbrev pub EndsUnbounded : CertificateKind → Bool → ReadTrace → ReadTrace → Sink → RunFault → Type 0
EndsUnbounded by strict first second sink (File file fault) = IsUnwritten sink
    × (((file ≡ 1) × StopsAt fault first × IsUnread second)
    ⊎ ((file ≡ 2) × IsSomeFile first × StopsAt fault second))
EndsUnbounded by strict first second sink fault = (instance certificate : Fields) × IsFile first instance × IsFile second certificate
    × BoundsFiles by strict instance certificate sink (Err fault)

-- The result of a run: the files that were read, and the bound, or the first reason against them.
abbrev pub IsBoundRun : CertificateKind → Bool → ReadTrace → ReadTrace → Sink → Result Bounded RunFault → Type 0
IsBoundRun by strict first second sink (Ok bounded) = IsFile first bounded.instance × IsFile second bounded.certificate
    × BoundsFiles by strict bounded.instance bounded.certificate sink (Ok bounded.found)
IsBoundRun by strict first second sink (Err fault) = EndsUnbounded by strict first second sink fault

-- At `yes`, the bytes that were read parse to these files, the whole report was written, and it means that the bound
-- holds. With `strict`, the verdict ignores no line of the instance.
pub record SaysBound (by : CertificateKind) (strict : Bool) (first second : ReadTrace) (sink : Sink) (found : BoundVerdict) : Type 0 where
  pub instance : Fields
  pub certificate : Fields
  pub report : List ℕ
  pub first_file : IsFile first instance
  pub second_file : IsFile second certificate
  pub written : HasWritten sink report
  pub meaning : IsAcceptedAlone by instance certificate found report
  pub all_judged : strict ≡ true → IsJudgedWhole instance

-- the result of the run, and what its line `yes` means
abbrev pub IsBoundRunOf : CertificateKind → Bool → ReadTrace → ReadTrace → Sink → Result Bounded RunFault → Type 0
IsBoundRunOf by strict first second sink result = IsBoundRun by strict first second sink result
    × ((bounded : Bounded) → result ≡ Ok bounded → is_ok bounded.found ≡ true
    → SaysBound by strict first second sink bounded.found)
