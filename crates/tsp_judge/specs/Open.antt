-- An instance that stays open between calls: the results of opening it, binding a certificate to it, and judging a
-- solution, all given as texts. src/opened.rt promises them, for the handles of tsp_c. In no circle of docs/trust.md.
use Rattle.tsp_judge.specs.Prelude.{ℕ, false, List, Option, None, Some, Result, Ok, Err, IsTrue, ℤ, Fields, Reads, IsProblem, CertificateKind, Verdict, IsBoundVerdict, NoneAgainstInstance, is_bounded, NoneWithoutMemory, is_judged, NoneBeforeRepeatsOn, IsVerdictWith, BoundVerdict}
use Rattle.std.specs.Prelude.{◌≡◌}
use Rattle.tsp_file.specs.Rules.{is_instance}
use Rattle.tsp_text.specs.ParsesTo.{ParsesTo}
use Rattle.tsp_judge.specs.declared.run_status.RunFault.{RunFault}
use Rattle.tsp_judge.specs.declared.run_status.RunFault.TheVariants.{File, WrongKind, OutOfMemory}

-- an instance, and the certificate that is bound to it, if one is
pub record Open : Type 0 where
  pub instance : Fields
  pub certificate : Option (CertificateKind × Fields)

-- ---- a text, with its number in a fault

-- the fault is the first one of the text with this number, or is that memory was refused
abbrev pub IsTextFault : ℕ → List ℕ → RunFault → Type 0
IsTextFault number text (File file found) = (file ≡ number) × Reads text (Err found)
IsTextFault number text other = ⊥

-- the text parses to this file, or has this fault
abbrev pub ReadsText : ℕ → List ℕ → Result Fields RunFault → Type 0
ReadsText number text (Ok file) = ParsesTo text file
ReadsText number text (Err fault) = IsTextFault number text fault

-- ---- opening

-- the text parses to this instance, and no certificate is bound to it
pub record IsOpened (text : List ℕ) (opened : Open) : Type 0 where
  pub spelled : ParsesTo text opened.instance
  pub of_type : IsTrue (is_instance opened.instance.kind)
  pub alone : opened.certificate ≡ None

-- the text isn't valid, or isn't an instance
abbrev pub IsUnopened : List ℕ → RunFault → Type 0
IsUnopened text WrongKind = (file : Fields) × ParsesTo text file × (is_instance file.kind ≡ false)
IsUnopened text fault = IsTextFault 1 text fault

-- ---- binding a certificate

-- the text parses to a certificate, which is now bound to the same instance; `found` is its bound, or the reason
-- against it
pub record IsBoundTo (by : CertificateKind) (text : List ℕ) (old new : Open) (found : BoundVerdict) : Type 0 where
  pub same : new.instance ≡ old.instance
  pub certificate : Fields
  pub spelled : ParsesTo text certificate
  pub held : new.certificate ≡ Some (by, certificate)
  pub of_type : IsTrue (is_bounded by old.instance.kind)
  pub judged : IsBoundVerdict by old.instance certificate found

-- The text isn't valid, its certificate can't bound solutions of the instance's TYPE, or memory was refused.
abbrev pub IsUnbound : CertificateKind → List ℕ → Open → RunFault → Type 0
IsUnbound by text opened WrongKind = (certificate : Fields) × ParsesTo text certificate
    × (is_bounded by opened.instance.kind ≡ false)
IsUnbound by text opened OutOfMemory = (certificate : Fields) × ParsesTo text certificate
    × IsTrue (is_bounded by opened.instance.kind) × NoneAgainstInstance opened.instance
    × NoneWithoutMemory by opened.instance certificate
IsUnbound by text opened fault = IsTextFault 2 text fault

-- ---- judging a solution

-- the verdict on the solution that the text parses to
pub record IsHeldVerdict (text : List ℕ) (claimed : Option ℤ) (opened : Open) (verdict : Verdict) : Type 0 where
  pub solution : Fields
  pub spelled : ParsesTo text solution
  pub of_type : IsTrue (is_judged opened.certificate opened.instance.kind)
  pub judged : IsVerdictWith opened.certificate claimed opened.instance solution verdict
  pub problem : IsProblem opened.instance

-- The text isn't valid; or memory was refused for the verdict.
abbrev pub IsNotJudged : List ℕ → Open → RunFault → Type 0
IsNotJudged text opened OutOfMemory = (solution : Fields) × ParsesTo text solution × NoneBeforeRepeatsOn opened.instance solution
IsNotJudged text opened fault = IsTextFault 2 text fault
