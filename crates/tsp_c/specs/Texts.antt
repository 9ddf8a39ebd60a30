-- Circle 2 of docs/trust.md.
-- The results of the calls on texts, over the bytes of these texts alone: `show`, conversions, checks, bounds and
-- explanations. src/picked_runs.rt and src/explain.rt promise them. `IsAcceptedText` and `IsBoundText` are the meanings
-- of the status 0.
use Rattle.tsp_c.specs.Prelude.{ℕ, Bool, true, false, List, [], Option, None, Some, Ok, Err, IsTrue, ℤ, Fields, fault, ParsesTo, CertificateKind, report_of, bound_report_of, RunFault, File, WrongKind, Write, OutOfMemory, Relayout, IsTextFault, BoundVerdict}
use Rattle.std.specs.Prelude.{◌≡◌, ◌⊎◌, ◌==◌, ◌||◌, if◌then◌else◌, ◌≤◌, ◌<◌, ◌∷◌}
use Rattle.tsp_format.specs.declared.layout.Layout.{Layout}
use Rattle.tsp_format.specs.Words.{layouts}
use Rattle.tsp_file.specs.Rules.{fault_of}
use Rattle.tsp_file.specs.CanonicalText.{text_of}
use Rattle.tsp_io.specs.declared.piece.WriteFault.TheVariants as write_faults
use Rattle.tsp_text.specs.declared.fault.ReadFault.TheVariants as read_faults
use Rattle.tsp_report.specs.declared.task.CertificateKind.TheVariants.{Potentials, Branches}
use Rattle.tsp_report.specs.declared.verdict.Reason.{Reason}
use Rattle.tsp_report.specs.declared.verdict.Verdict.{Verdict}
use Rattle.tsp_report.specs.declared.verdict.Verdict.TheVariants.{No}
use Rattle.tsp_verdict.specs.Certified.{NoneAgainstInstance, is_bounded, NoneWithoutMemory}
use Rattle.tsp_verdict.specs.SolutionVerdict.{is_judged, NoneBeforeRepeatsOn, IsBoundAsked, IsVerdictAsked}
use Rattle.tsp_verdict.specs.Strict.{IsJudgedWhole}
use Rattle.tsp_report.specs.Show.{shown}
use Rattle.tsp_judge.specs.Accepted.{IsAccepted, IsAcceptedAlone}
use Rattle.tsp_judge.specs.ConvertRun.{Becomes}
use Rattle.tsp_c.specs.NumberCalls.{EndsWithText, nth}

-- ---- a number that is refused

-- a number that is refused: the status is 4, and there is no text
abbrev pub IsRefusedNumber : ℕ → List ℕ → Type 0
IsRefusedNumber status text = (status ≡ 4) × (text ≡ [])

-- ---- a text

-- the text parses to a file
abbrev pub IsFileText : List ℕ → Type 0
IsFileText text = (file : Fields) × ParsesTo text file

-- the fault is the first one of the text with this number
abbrev pub IsFaultyText : ℕ → List ℕ → RunFault → Type 0
IsFaultyText number text (File file found) = (file ≡ number) × (fault text ≡ Some found)
IsFaultyText number text other = ⊥

-- ---- the text of `show`, and the canonical text

-- The text isn't valid; or it is, and there is no memory for the text of `show`.
abbrev pub StopsShowing : List ℕ → RunFault → Type 0
StopsShowing one (Write write_faults.OutOfMemory) = IsFileText one
StopsShowing one fault = IsTextFault 1 one fault

-- the result of `show`
abbrev pub ShowsText : List ℕ → ℕ → List ℕ → Type 0
ShowsText one status text = EndsWithText
    (λ out. (file : Fields) × ParsesTo one file × (out ≡ shown file))
    (λ out. ⊥)
    (StopsShowing one) status text

-- the text parses to a file that becomes this valid one in the layout
abbrev pub BecomesFile : Option Layout → List ℕ → Fields → Type 0
BecomesFile to one new = (old : Fields) × ParsesTo one old × Becomes to old (Ok new) × (fault_of new ≡ None)

-- The text isn't valid; or its weights can't have the layout, or there is no memory for that; or there is none for the
-- text of the new file.
abbrev pub StopsConverting : Option Layout → List ℕ → RunFault → Type 0
StopsConverting to one (Relayout refused) = (old : Fields) × ParsesTo one old × Becomes to old (Err refused)
StopsConverting to one (Write write_faults.OutOfMemory) = (new : Fields) × BecomesFile to one new
StopsConverting to one fault = IsTextFault 1 one fault

-- the result of a conversion; the status is 1 if the weights can't have the layout
abbrev pub ConvertsText : Option Layout → List ℕ → ℕ → List ℕ → Type 0
ConvertsText to one status text = EndsWithText
    (λ out. (new : Fields) × BecomesFile to one new × (out ≡ text_of new))
    (λ out. ⊥)
    (StopsConverting to one) status text

-- the same by the number of the layout, counted from 1; 0 leaves a file in its own, and numbers above 9 are refused
abbrev pub ConvertsBy : ℕ → List ℕ → ℕ → List ℕ → Type 0
ConvertsBy number one status text = (number ≤ 9 → ConvertsText (nth number layouts) one status text)
    × (9 < number → IsRefusedNumber status text)

-- ---- a check: the files, and a claimed length

-- the certificates by their numbers
abbrev pub certificates : List CertificateKind
certificates = Potentials ∷ Branches ∷ []

-- A certificate may be given, with its text.
abbrev pub GivenText : Type 0
GivenText = Option (CertificateKind × List ℕ)

-- a certificate with its text, or none
abbrev pub with_certificate : Option CertificateKind → List ℕ → GivenText
with_certificate None three = None
with_certificate (Some by) three = Some (by, three)

-- the certificate's text parses to this file
abbrev pub ParsesToGiven : GivenText → Option (CertificateKind × Fields) → Type 0
ParsesToGiven None None = Unit {0}
ParsesToGiven None (Some certificate) = ⊥
ParsesToGiven (Some given) None = ⊥
ParsesToGiven (Some given) (Some certificate) = (certificate.0 ≡ given.0) × ParsesTo given.1 certificate.1

-- With 0 a check asks for nothing more, with 1 for a length, with 2 for `--strict`, with 3 for both. This is the
-- claimed length, if there is one.
abbrev pub claim_of : ℕ → ℤ → Option ℤ
claim_of has claimed = if has == 1 || has == 3 then Some claimed else None

-- whether a check is strict
abbrev pub strict_of : ℕ → Bool
strict_of has = has == 2 || has == 3

-- the texts parse to these files
pub record AreSpelled (given : GivenText) (one two : List ℕ) (instance solution : Fields)
    (certificate : Option (CertificateKind × Fields)) : Type 0 where
  pub first_file : ParsesTo one instance
  pub second_file : ParsesTo two solution
  pub third_file : ParsesToGiven given certificate

-- ---- a solution that is accepted, and one that isn't

-- The solution is accepted: the meaning of the status 0 of a check, over the texts.
pub record IsAcceptedText (given : GivenText) (claimed : Option ℤ) (strict : Bool) (one two text : List ℕ) : Type 0 where
  pub instance : Fields
  pub solution : Fields
  pub certificate : Option (CertificateKind × Fields)
  pub spelled : AreSpelled given one two instance solution certificate
  pub meaning : IsAccepted certificate claimed instance solution text
  pub all_judged : strict ≡ true → IsJudgedWhole instance

-- the solution is rejected: the text is the report with the first reason against solution or certificate
pub record IsRejected (given : GivenText) (claimed : Option ℤ) (strict : Bool) (one two text : List ℕ) : Type 0 where
  pub instance : Fields
  pub solution : Fields
  pub certificate : Option (CertificateKind × Fields)
  pub spelled : AreSpelled given one two instance solution certificate
  pub of_type : IsTrue (is_judged certificate instance.kind)
  pub reason : Reason
  pub judged : IsVerdictAsked strict certificate claimed instance solution (No reason)
  pub printed : text ≡ report_of instance (No reason)

-- all texts are valid, but the certificate can't bound solutions of the instance's TYPE
abbrev pub IsOfWrongKind : GivenText → List ℕ → List ℕ → Type 0
IsOfWrongKind given one two = (instance solution : Fields) × (certificate : Option (CertificateKind × Fields))
    × AreSpelled given one two instance solution certificate × (is_judged certificate instance.kind ≡ false)

-- the first text, in order, that isn't valid, has this fault
abbrev pub IsUnchecked : GivenText → List ℕ → List ℕ → RunFault → Type 0
IsUnchecked given one two WrongKind = IsOfWrongKind given one two
IsUnchecked given one two fault = IsFaultyText 1 one fault
    ⊎ (IsFileText one × IsFaultyText 2 two fault)
    ⊎ ((third : CertificateKind × List ℕ) × (given ≡ Some third) × IsFileText one × IsFileText two × IsFaultyText 3 third.1 fault)

-- the texts before the one with this number are valid
abbrev pub IsReached : GivenText → List ℕ → List ℕ → ℕ → Type 0
IsReached given one two number = (number ≡ 1)
    ⊎ ((number ≡ 2) × IsFileText one)
    ⊎ ((third : CertificateKind × List ℕ) × (given ≡ Some third) × (number ≡ 3) × IsFileText one × IsFileText two)

-- all texts are valid, and none of the reasons applies that are found without memory
abbrev pub IsUndecided : GivenText → List ℕ → List ℕ → Type 0
IsUndecided given one two = (instance solution : Fields) × (certificate : Option (CertificateKind × Fields))
    × AreSpelled given one two instance solution certificate × NoneBeforeRepeatsOn instance solution

-- the files of the texts have this verdict
abbrev pub HasVerdict : GivenText → Option ℤ → Bool → List ℕ → List ℕ → Verdict → Type 0
HasVerdict given claimed strict one two verdict = (instance solution : Fields) × (certificate : Option (CertificateKind × Fields))
    × AreSpelled given one two instance solution certificate
    × IsTrue (is_judged certificate instance.kind) × IsVerdictAsked strict certificate claimed instance solution verdict

-- Why a check has no result: out of memory for a file, for the verdict or for the report; or a text that isn't valid.
abbrev pub StopsCheck : GivenText → Option ℤ → Bool → List ℕ → List ℕ → RunFault → Type 0
StopsCheck given claimed strict one two (File number read_faults.OutOfMemory) = IsReached given one two number
StopsCheck given claimed strict one two OutOfMemory = IsUndecided given one two
StopsCheck given claimed strict one two (Write write_faults.OutOfMemory) = (verdict : Verdict) × HasVerdict given claimed strict one two verdict
StopsCheck given claimed strict one two fault = IsUnchecked given one two fault

-- the result of a check
abbrev pub ChecksTexts : GivenText → Option ℤ → Bool → List ℕ → List ℕ → ℕ → List ℕ → Type 0
ChecksTexts given claimed strict one two status text = EndsWithText
    (IsAcceptedText given claimed strict one two)
    (IsRejected given claimed strict one two)
    (StopsCheck given claimed strict one two) status text

-- The same by the number of the certificate: 0 for none, 1 for potentials, 2 for branches; and by what `flags` asks
-- for. Other numbers are refused.
abbrev pub ChecksBy : ℕ → ℕ → ℤ → List ℕ → List ℕ → List ℕ → ℕ → List ℕ → Type 0
ChecksBy by flags claimed one two three status text =
    (by ≤ 2 → flags ≤ 3
    → ChecksTexts (with_certificate (nth by certificates) three) (claim_of flags claimed) (strict_of flags) one two status
    text)
    × (2 < by → IsRefusedNumber status text)
    × (3 < flags → IsRefusedNumber status text)

-- ---- a bound without a solution

-- the certificate of a bound by its number, 1 to 4; 3 and 4 are strict
abbrev pub bounds_asked : List (CertificateKind × Bool)
bounds_asked = (Potentials, false) ∷ (Branches, false) ∷ (Potentials, true) ∷ (Branches, true) ∷ []

-- The certificate gives a bound, or shows that there is no solution: the meaning of the status 0 of a bound, over the
-- texts.
pub record IsBoundText (by : CertificateKind) (strict : Bool) (one two text : List ℕ) : Type 0 where
  pub instance : Fields
  pub certificate : Fields
  pub found : BoundVerdict
  pub first_file : ParsesTo one instance
  pub second_file : ParsesTo two certificate
  pub meaning : IsAcceptedAlone by instance certificate found text
  pub all_judged : strict ≡ true → IsJudgedWhole instance

-- the text is the report with the first reason against instance or certificate
pub record IsBoundRejected (by : CertificateKind) (strict : Bool) (one two text : List ℕ) : Type 0 where
  pub instance : Fields
  pub certificate : Fields
  pub first_file : ParsesTo one instance
  pub second_file : ParsesTo two certificate
  pub bounded : IsTrue (is_bounded by instance.kind)
  pub reason : Reason
  pub judged : IsBoundAsked strict by instance certificate (Err reason)
  pub printed : text ≡ bound_report_of instance (Err reason)

-- the first text, in order, that isn't valid, has this fault; or both are valid, and such a certificate bounds no
-- solutions of the instance's TYPE
abbrev pub IsUnbounded : CertificateKind → List ℕ → List ℕ → RunFault → Type 0
IsUnbounded by one two WrongKind = (instance certificate : Fields) × ParsesTo one instance × ParsesTo two certificate
    × (is_bounded by instance.kind ≡ false)
IsUnbounded by one two fault = IsFaultyText 1 one fault ⊎ (IsFileText one × IsFaultyText 2 two fault)

-- both texts are valid, no reason applies to the instance, and none that is found without memory applies to the
-- certificate
abbrev pub IsUndecidedBound : CertificateKind → List ℕ → List ℕ → Type 0
IsUndecidedBound by one two = (instance certificate : Fields) × ParsesTo one instance × ParsesTo two certificate
    × IsTrue (is_bounded by instance.kind) × NoneAgainstInstance instance × NoneWithoutMemory by instance certificate

-- the files of both texts have this verdict
abbrev pub HasBound : CertificateKind → Bool → List ℕ → List ℕ → BoundVerdict → Type 0
HasBound by strict one two found = (instance certificate : Fields) × ParsesTo one instance × ParsesTo two certificate
    × IsTrue (is_bounded by instance.kind) × IsBoundAsked strict by instance certificate found

-- Why there is no bound and no reason: out of memory for a file, for the bound or for the report; or a text that isn't
-- valid.
abbrev pub StopsBound : CertificateKind → Bool → List ℕ → List ℕ → RunFault → Type 0
StopsBound by strict one two (File number read_faults.OutOfMemory) = (number ≡ 1) ⊎ ((number ≡ 2) × IsFileText one)
StopsBound by strict one two OutOfMemory = IsUndecidedBound by one two
StopsBound by strict one two (Write write_faults.OutOfMemory) = (found : BoundVerdict) × HasBound by strict one two found
StopsBound by strict one two fault = IsUnbounded by one two fault

-- the result of a bound without a solution
abbrev pub BoundsTexts : CertificateKind → Bool → List ℕ → List ℕ → ℕ → List ℕ → Type 0
BoundsTexts by strict one two status text = EndsWithText
    (IsBoundText by strict one two)
    (IsBoundRejected by strict one two)
    (StopsBound by strict one two) status text

-- the same by the certificate that a number asks for; a number that asks for none is refused
abbrev pub BoundsBy : Option (CertificateKind × Bool) → List ℕ → List ℕ → ℕ → List ℕ → Type 0
BoundsBy None one two status text = IsRefusedNumber status text
BoundsBy (Some asked) one two status text = BoundsTexts asked.0 asked.1 one two status text

-- ---- an explanation

-- the calls that are explained, by their numbers, with the other numbers that each takes: 0 shows, 1 converts, 2
-- checks, 3 bounds
abbrev pub IsExplained : ℕ → ℕ → ℕ → Type 0
IsExplained call number flags = (call ≡ 0)
    ⊎ ((call ≡ 1) × (number ≤ 9))
    ⊎ ((call ≡ 2) × (number ≤ 2) × (flags ≤ 3))
    ⊎ ((call ≡ 3) × (1 ≤ number) × (number ≤ 4))

-- The words of an explanation have no contract. Out of memory there is none; a call that isn't explained is refused.
abbrev pub ExplainsTexts : ℕ → ℕ → ℕ → ℕ → List ℕ → Type 0
ExplainsTexts call number flags status text =
    (IsExplained call number flags × ((status ≡ 0) ⊎ ((status ≡ 3) × (text ≡ []))))
    ⊎ (¬ IsExplained call number flags × IsRefusedNumber status text)
