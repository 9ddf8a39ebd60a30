-- The results of the C calls on a handle: an open instance, a certificate that may be bound to it, and who owns the
-- box. src/handle.rt and src/handle_calls.rt promise them. In no circle of docs/trust.md: by lemmas, an open instance
-- is judged as its text would be.
use Rattle.tsp_c.specs.Prelude.{ℕ, Bool, List, Option, None, Some, Ok, ℤ, Fields, blank_fields, ParsesTo, is_yes, CertificateKind, status_of, status_of_fault, Open, IsOpened, IsUnopened, IsBoundTo, IsUnbound, IsHeldVerdict, IsNotJudged, RunFault, OutOfMemory, is_ok, BoundVerdict}
use Rattle.std.specs.Coded.{coded_option}
use Rattle.std.specs.Prelude.{◌≡◌, ◌⊎◌, ◌≤◌, ◌<◌}
use base.Fml.{Fml, ftrue}
use base.Stored.{Coded}
use denote.RawPtr.{Ptr}
use Rattle.tsp_report.specs.declared.verdict.Verdict.{Verdict}
use Rattle.tsp_verdict.specs.Strict.{strict_reason, strict_verdict}
use Rattle.tsp_judge.specs.contracts.opened.Opened.{the_row}
use Rattle.std_alloc.specs.Box.Ownership.{box_owns}
use Rattle.std_heap.specs.contracts.GlobalAllocator.TheImpl.{ghosts}
use Rattle.std_heap.specs.declared.Global.{Global}
use Rattle.tsp_c.specs.CallResult.{blank_result, result_of_instance, result_of_verdict, result_of_bound, result_of_fault}
use Rattle.tsp_c.specs.NumberCalls.{section_points, IsSection, EndsPoints}
use Rattle.tsp_c.specs.Texts.{GivenText, ParsesToGiven, ChecksTexts, IsRefusedNumber, claim_of, strict_of}
use Rattle.tsp_c.specs.declared.call_result.CallResult.{CallResult}

-- the instance on which a handle is open, with its certificate; None if it is closed
abbrev pub Held : Type 0
Held = Option Open

-- ---- opening a handle, whatever it was open on

-- The text isn't valid, or is no instance; or it is one, and there is no memory for the handle.
abbrev pub IsNotOpened : List ℕ → RunFault → Type 0
IsNotOpened text OutOfMemory = (opened : Open) × IsOpened text opened
IsNotOpened text fault = IsUnopened text fault

-- 0: the handle is open on the instance that the text parses to. Else it is closed, with a fault and its status.
abbrev pub OpensText : List ℕ → Held → CallResult → ℕ → Type 0
OpensText text held call_result status =
    ((opened : Open) × (held ≡ Some opened) × IsOpened text opened × (call_result ≡ result_of_instance opened.instance) × (status ≡ 0))
    ⊎ ((fault : RunFault) × (held ≡ None) × IsNotOpened text fault × (call_result ≡ result_of_fault fault)
    × (status ≡ status_of_fault fault))

-- ---- binding a certificate to it

-- The certificate is bound, with its bound or the reason against it. Or nothing changes, with a fault and its status.
abbrev pub BindsOpen : CertificateKind → List ℕ → Open → Held → CallResult → ℕ → Type 0
BindsOpen by text opened held call_result status =
    ((new : Open) × (found : BoundVerdict) × (held ≡ Some new) × IsBoundTo by text opened new found
    × (call_result ≡ result_of_bound opened.instance found) × (status ≡ status_of (Ok (is_ok found))))
    ⊎ ((fault : RunFault) × (held ≡ Some opened) × IsUnbound by text opened fault × (call_result ≡ result_of_fault fault)
    × (status ≡ status_of_fault fault))

-- a call that is refused: the status is 4, and all numbers are 0
abbrev pub IsRefusedCall : Held → Held → CallResult → ℕ → Type 0
IsRefusedCall old new call_result status = (status ≡ 4) × (new ≡ old) × (call_result ≡ blank_result)

-- the same, if the caller's number is that of a certificate and the handle is open; otherwise the call is refused
abbrev pub BindsText : Option CertificateKind → List ℕ → Held → Held → CallResult → ℕ → Type 0
BindsText None text old new call_result status = IsRefusedCall old new call_result status
BindsText (Some by) text None new call_result status = IsRefusedCall None new call_result status
BindsText (Some by) text (Some opened) new call_result status = BindsOpen by text opened new call_result status

-- ---- the check of a solution

-- the first text parses to the instance, and the given one to the certificate
abbrev pub IsOpenOn : List ℕ → GivenText → Open → Type 0
IsOpenOn one given opened = ParsesTo one opened.instance × ParsesToGiven given opened.certificate

-- the status and the text are those of a check of such texts, whichever the handle was opened with
abbrev pub ChecksAsTexts : Open → Option ℤ → Bool → List ℕ → ℕ → List ℕ → Type 0
ChecksAsTexts opened claimed strict two status text = (one : List ℕ) (given : GivenText) → IsOpenOn one given opened
    → ChecksTexts given claimed strict one two status text

-- the verdict on the solution that the text parses to, with lines that aren't judged as a reason or not
abbrev pub IsHeldAsked : List ℕ → Option ℤ → Bool → Open → Verdict → Type 0
IsHeldAsked two claimed strict opened verdict = (plain : Verdict) × IsHeldVerdict two claimed opened plain
    × (verdict ≡ strict_verdict (strict_reason strict opened.instance) plain)

-- The numbers of a check, by its status: at 0 and 1 those of the verdict, at 2 those of a fault with this status, at 3
-- all are 0.
pub record TellsJudged (opened : Open) (claimed : Option ℤ) (strict : Bool) (two : List ℕ) (status : ℕ) (call_result : CallResult) : Type 0 where
  pub judged : status ≤ 1 → (verdict : Verdict) × IsHeldAsked two claimed strict opened verdict
      × (call_result ≡ result_of_verdict opened.instance verdict) × (status ≡ status_of (Ok (is_yes verdict)))
  pub faulty : status ≡ 2 → (fault : RunFault) × IsNotJudged two opened fault × (call_result ≡ result_of_fault fault)
      × (status ≡ status_of_fault fault)
  pub refused : status ≡ 3 → call_result ≡ blank_result

-- the status, the text and the numbers of a check on an open handle
abbrev pub ChecksOpen : Open → Option ℤ → Bool → List ℕ → ℕ → List ℕ → CallResult → Type 0
ChecksOpen opened claimed strict two status text call_result = ChecksAsTexts opened claimed strict two status text
    × TellsJudged opened claimed strict two status call_result

-- the same, by what `flags` asks for; numbers above 3 are refused, and so is a closed handle
abbrev pub ChecksHeld : Held → ℕ → ℤ → List ℕ → ℕ → List ℕ → CallResult → Type 0
ChecksHeld None flags claimed two status text call_result = IsRefusedNumber status text × (call_result ≡ blank_result)
ChecksHeld (Some opened) flags claimed two status text call_result =
    (flags ≤ 3 → ChecksOpen opened (claim_of flags claimed) (strict_of flags) two status text call_result)
    × (3 < flags → IsRefusedNumber status text × (call_result ≡ blank_result))

-- ---- numbers of the instance

-- P of the open instance; if the handle is closed, the status is 4, and nothing is filled in
abbrev pub OfHeld : {X : Type 0} → Held → (Fields → Type 0) → X → X → ℕ → Type 0
OfHeld None P old new status = (status ≡ 4) × (new ≡ old)
OfHeld (Some opened) P old new status = P opened.instance

-- the coordinates of the points of a section; 4 if there is no such section
abbrev pub EndsSection : Fields → ℕ → List ℤ → List ℤ → ℕ → Type 0
EndsSection instance section old new status =
    (IsSection section × EndsPoints (section_points section instance) old new status)
    ⊎ ((status ≡ 4) × (new ≡ old) × ¬ IsSection section)

-- ---- the ownership of a handle

-- the box at this pointer is owned, with the open instance; nothing if none is open
abbrev pub held_owns : Global → Ptr → Option Open → Fml
held_owns alloc p None = ftrue
held_owns alloc p (Some x) = box_owns (ghosts.dealloc_token alloc) the_row p x

-- the open instance, if any, as a value in memory
abbrev pub held_coded : Coded (Option Open)
held_coded = coded_option the_row.coded

-- the open instance; a blank one if none is open
abbrev pub open_of : Option Open → Open
open_of None = record { instance = blank_fields; certificate = None }
open_of (Some opened) = opened
