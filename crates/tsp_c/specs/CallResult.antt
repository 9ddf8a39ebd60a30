-- The result of a C call in numbers: the struct of bindings/c/tsp.h. Numbers that don't apply are 0. src/call_result.rt
-- promises them. In no circle of docs/trust.md, but callers in other languages rely on the numbers, so they never
-- change.
use Rattle.tsp_c.specs.Prelude.{ℕ, Bool, List, Option, None, Some, Result, Ok, Err, IsTrue, unwrap_or, ℤ, pos, unsigned_abs, Fields, nodes_of, ParsesTo, CertificateKind, number_of_reason, row_of_reason, is_yes, IsGapSized, RunFault, File, WrongKind, status_of, is_ok, BoundVerdict}
use Rattle.std.specs.Prelude.{◌≡◌, ◌≤◌, ◌<◌, ◌^◌}
use Rattle.std.specs.Int.{int_div_euclid, int_rem_euclid}
use Rattle.tsp_format.specs.declared.kinds.Kind.{Kind}
use Rattle.tsp_format.specs.declared.kinds.Kind.TheVariants as kinds
use Rattle.tsp_format.specs.declared.keyword.Field.{Field}
use Rattle.tsp_format.specs.declared.keyword.Field.TheVariants as fields
use Rattle.tsp_number.specs.declared.number_word.NumberFault.{NumberFault}
use Rattle.tsp_number.specs.declared.number_word.NumberFault.TheVariants as number_faults
use Rattle.tsp_file.specs.declared.rules.EndFault.TheVariants as end_faults
use Rattle.tsp_text.specs.declared.fault.LineFault.{LineFault}
use Rattle.tsp_text.specs.declared.fault.LineFault.TheVariants as line_faults
use Rattle.tsp_text.specs.declared.fault.ReadFault.{ReadFault}
use Rattle.tsp_text.specs.declared.fault.ReadFault.TheVariants as read_faults
use Rattle.tsp_report.specs.declared.verdict.Reason.{Reason}
use Rattle.tsp_report.specs.declared.verdict.Reason.TheVariants.{NotUsed}
use Rattle.tsp_report.specs.declared.verdict.Verdict.{Verdict}
use Rattle.tsp_report.specs.declared.verdict.Verdict.TheVariants as verdicts
use Rattle.tsp_verdict.specs.Certified.{is_bounded}
use Rattle.tsp_verdict.specs.SolutionVerdict.{is_judged, IsBoundAsked, IsVerdictAsked}
use Rattle.tsp_judge.specs.declared.bound_run.Bounded.{Bounded}
use Rattle.tsp_judge.specs.declared.check_run.Judged.{Judged}
use Rattle.tsp_c.specs.declared.call_result.CallResult.{CallResult}
use Rattle.tsp_c.specs.NumberCalls.{nth}
use Rattle.tsp_c.specs.Texts.{GivenText, AreSpelled, IsUnchecked, IsUnbounded, with_certificate, certificates, claim_of, strict_of}

-- no number at all
abbrev pub blank_result : CallResult
blank_result = record {
  kind = 0;
  nodes = 0;
  verdict = 0;
  reason = 0;
  first = pos 0;
  second = pos 0;
  length = pos 0;
  bound_high = pos 0;
  bound_low = 0;
  least = 0;
  has_bound = 0;
  routes = 0;
  fault = 0;
  file = 0;
  line = 0;
  word = 0;
  number = 0;
  field = 0;
}

-- ---- an instance: the number of its TYPE, and how many nodes it has

-- the number of a TYPE of instances; 0 for another TYPE
abbrev pub kind_number : Option Kind → ℕ
kind_number (Some kinds.Tsp) = 1
kind_number (Some kinds.Atsp) = 2
kind_number (Some kinds.Cvrp) = 3
kind_number (Some kinds.Tour) = 0
kind_number (Some kinds.Potentials) = 0
kind_number (Some kinds.Branches) = 0
kind_number None = 0

-- the numbers of an instance alone
abbrev pub result_of_instance : Fields → CallResult
result_of_instance instance = record blank_result { kind = kind_number instance.kind; nodes = nodes_of instance }

-- ---- a bound, in two halves: the first one times 2^64, and the second one

-- the upper 64 bits of a bound, with its sign
abbrev pub high_half : ℤ → ℤ
high_half bound = int_div_euclid bound (pos (2 ^ 64))

-- its lower 64 bits
abbrev pub low_half : ℤ → ℕ
low_half bound = unsigned_abs (int_rem_euclid bound (pos (2 ^ 64)))

-- the numbers with a bound
abbrev pub with_bound : CallResult → ℤ → CallResult
with_bound call_result bound = record call_result { bound_high = high_half bound; bound_low = low_half bound; has_bound = 1 }

-- ---- a field

-- the number of a field: its place in canonical order; LOAD_UNIT, which came later, has the next number
abbrev pub field_number : Field → ℕ
field_number fields.NameKey = 1
field_number fields.TypeKey = 2
field_number fields.CommentKey = 3
field_number fields.OtherKey = 4
field_number fields.DimensionKey = 5
field_number fields.CapacityKey = 6
field_number fields.ScaleKey = 7
field_number fields.EdgeWeightTypeKey = 8
field_number fields.EdgeWeightFormatKey = 9
field_number fields.NodeCoordTypeKey = 10
field_number fields.DisplayDataTypeKey = 11
field_number fields.NodeCoordPart = 12
field_number fields.DisplayDataPart = 13
field_number fields.DemandPart = 14
field_number fields.DepotPart = 15
field_number fields.FixedEdgesPart = 16
field_number fields.EdgeWeightPart = 17
field_number fields.TourPart = 18
field_number fields.NodePotentialPart = 19
field_number fields.RowPotentialPart = 20
field_number fields.ColumnPotentialPart = 21
field_number fields.FixedEdgePotentialPart = 22
field_number fields.FamilyPart = 23
field_number fields.BranchPart = 24
field_number fields.LoadUnitKey = 25
field_number fields.MemoryPart = 26
field_number fields.SubsetRowPart = 27

-- ---- a reason: its number for C, the numbers that it has, and its field

-- the first number of a reason, or 0
abbrev pub first_number : Reason → ℤ
first_number reason = unwrap_or (row_of_reason reason).numbers.0 (pos 0)

-- its second number, or 0
abbrev pub second_number : Reason → ℤ
second_number reason = unwrap_or (row_of_reason reason).numbers.1 (pos 0)

-- the field that isn't used, if that is the reason; otherwise 0
abbrev pub field_of_reason : Reason → ℕ
field_of_reason (NotUsed field) = field_number field
field_of_reason reason = 0

-- the numbers with a reason
abbrev pub with_reason : CallResult → Reason → CallResult
with_reason call_result reason = record call_result {
  verdict = 3;
  reason = number_of_reason reason;
  first = first_number reason;
  second = second_number reason;
  field = field_of_reason reason;
}

-- ---- a verdict: 1 a tour, 2 routes, 3 rejected, 4 a bound, 5 that there is no solution

-- the numbers of a verdict on a solution
abbrev pub result_of_verdict : Fields → Verdict → CallResult
result_of_verdict instance (verdicts.Tour length_is None) =
    record (result_of_instance instance) { verdict = 1; length = length_is }
result_of_verdict instance (verdicts.Tour length_is (Some bound)) =
    record (with_bound (result_of_instance instance) bound) { verdict = 1; length = length_is }
result_of_verdict instance (verdicts.Routes length_is count least_is None) =
    record (result_of_instance instance) { verdict = 2; length = length_is; routes = count; least = least_is }
result_of_verdict instance (verdicts.Routes length_is count least_is (Some bound)) =
    record (with_bound (result_of_instance instance) bound) { verdict = 2; length = length_is; routes = count; least = least_is }
result_of_verdict instance (verdicts.No reason) = with_reason (result_of_instance instance) reason

-- the numbers of a bound without a solution
abbrev pub result_of_bound : Fields → BoundVerdict → CallResult
result_of_bound instance (Ok (Some bound)) = record (with_bound (result_of_instance instance) bound) { verdict = 4 }
result_of_bound instance (Ok None) = record (result_of_instance instance) { verdict = 5 }
result_of_bound instance (Err reason) = with_reason (result_of_instance instance) reason

-- both halves of the bound fit 64 bits
abbrev pub IsSizedBound : BoundVerdict → Type 0
IsSizedBound (Ok bound) = IsGapSized bound
IsSizedBound (Err reason) = Unit {0}

-- ---- a fault: the numbers of it, the text, the line and the word; what is wrong with a number; the incomplete field

-- the number of a fault of a line or a word
abbrev pub line_fault_number : LineFault → ℕ
line_fault_number line_faults.LongLine = 1
line_fault_number line_faults.UnknownLine = 2
line_fault_number line_faults.Repeated = 3
line_fault_number line_faults.Outside = 4
line_fault_number line_faults.BadValue = 5
line_fault_number line_faults.SectionValue = 6
line_fault_number line_faults.SectionEarly = 7
line_fault_number line_faults.TooManyNodes = 8
line_fault_number line_faults.StrayNumber = 9
line_fault_number (line_faults.Number found) = 10
line_fault_number line_faults.RepeatedNode = 11
line_fault_number line_faults.SelfEdge = 12
line_fault_number line_faults.Surplus = 13
line_fault_number line_faults.AfterEnd = 14
line_fault_number line_faults.LateSpace = 15

-- the number of a fault of a text
abbrev pub read_fault_number : ReadFault → ℕ
read_fault_number (read_faults.Line line_is word_is found) = line_fault_number found
read_fault_number (read_faults.End (end_faults.Missing field)) = 16
read_fault_number (read_faults.End (end_faults.Incomplete field)) = 17
read_fault_number (read_faults.End end_faults.WrongFormat) = 18
read_fault_number (read_faults.End end_faults.WrongCount) = 19
read_fault_number read_faults.TooLong = 20
read_fault_number read_faults.OutOfMemory = 0
read_fault_number read_faults.Device = 0

-- what is wrong with a number word
abbrev pub number_fault_number : NumberFault → ℕ
number_fault_number number_faults.LongWord = 1
number_fault_number number_faults.BadNumber = 2
number_fault_number number_faults.TooFine = 3
number_fault_number number_faults.OutOfRange = 4
number_fault_number number_faults.NotWhole = 5

-- the same, if the fault of the line is that of a number; otherwise 0
abbrev pub number_of_fault : LineFault → ℕ
number_of_fault (line_faults.Number found) = number_fault_number found
number_of_fault found = 0

-- the field that is missing or incomplete at the end of a text; otherwise 0
abbrev pub field_of_fault : ReadFault → ℕ
field_of_fault (read_faults.End (end_faults.Missing found)) = field_number found
field_of_fault (read_faults.End (end_faults.Incomplete found)) = field_number found
field_of_fault found = 0

-- The numbers of a fault. Out of memory has none, nor has a device.
abbrev pub result_of_fault : RunFault → CallResult
result_of_fault (File file_is read_faults.OutOfMemory) = blank_result
result_of_fault (File file_is read_faults.Device) = blank_result
result_of_fault (File file_is (read_faults.Line line_is word_is found)) = record blank_result {
  fault = line_fault_number found;
  file = file_is;
  line = line_is;
  word = word_is;
  number = number_of_fault found;
}
result_of_fault (File file_is found) = record blank_result {
  fault = read_fault_number found;
  file = file_is;
  field = field_of_fault found;
}
result_of_fault WrongKind = record blank_result { fault = 21; file = 1 }
result_of_fault other = blank_result

-- ---- the result of a run

-- the numbers of a check
abbrev pub result_of_run : Result Judged RunFault → CallResult
result_of_run (Ok judged) = result_of_verdict judged.instance judged.verdict
result_of_run (Err fault) = result_of_fault fault

-- the numbers of a bound without a solution
abbrev pub result_of_bound_run : Result Bounded RunFault → CallResult
result_of_bound_run (Ok bounded) = result_of_bound bounded.instance bounded.found
result_of_bound_run (Err fault) = result_of_fault fault

-- ---- the numbers of a call on texts: at status 0 and 1 those of the verdict, at 2 those of the fault, at 3 all 0

-- the numbers and the status are those of the verdict on the files that the texts parse to
pub record IsTextVerdict (given : GivenText) (claimed : Option ℤ) (strict : Bool) (one two : List ℕ) (status : ℕ) (call_result : CallResult) : Type 0 where
  pub instance : Fields
  pub solution : Fields
  pub certificate : Option (CertificateKind × Fields)
  pub verdict : Verdict
  pub spelled : AreSpelled given one two instance solution certificate
  pub of_type : IsTrue (is_judged certificate instance.kind)
  pub judged : IsVerdictAsked strict certificate claimed instance solution verdict
  pub numbers : call_result ≡ result_of_verdict instance verdict
  pub status_is : status ≡ status_of (Ok (is_yes verdict))

-- the numbers of a check, by its status
pub record TellsTexts (given : GivenText) (claimed : Option ℤ) (strict : Bool) (one two : List ℕ) (status : ℕ) (call_result : CallResult) : Type 0 where
  pub judged : status ≤ 1 → IsTextVerdict given claimed strict one two status call_result
  pub faulty : status ≡ 2 → (fault : RunFault) × IsUnchecked given one two fault × (call_result ≡ result_of_fault fault)
  pub refused : status ≡ 3 → call_result ≡ blank_result

-- the same, by the numbers of the certificate and of the claim that the caller gave; others are refused, and all
-- numbers are 0
abbrev pub TellsBy : ℕ → ℕ → ℤ → List ℕ → List ℕ → List ℕ → ℕ → CallResult → Type 0
TellsBy by flags claimed one two three status call_result =
    (by ≤ 2 → flags ≤ 3
    → TellsTexts (with_certificate (nth by certificates) three) (claim_of flags claimed) (strict_of flags) one two status call_result)
    × (2 < by → call_result ≡ blank_result)
    × (3 < flags → call_result ≡ blank_result)

-- the numbers and the status are those of the bound, or of the reason, for the files that the texts parse to
pub record IsTextBound (by : CertificateKind) (strict : Bool) (one two : List ℕ) (status : ℕ) (call_result : CallResult) : Type 0 where
  pub instance : Fields
  pub certificate : Fields
  pub found : BoundVerdict
  pub first_file : ParsesTo one instance
  pub second_file : ParsesTo two certificate
  pub of_type : IsTrue (is_bounded by instance.kind)
  pub judged : IsBoundAsked strict by instance certificate found
  pub numbers : call_result ≡ result_of_bound instance found
  pub status_is : status ≡ status_of (Ok (is_ok found))

-- the numbers of a bound without a solution, by its status
pub record TellsBound (by : CertificateKind) (strict : Bool) (one two : List ℕ) (status : ℕ) (call_result : CallResult) : Type 0 where
  pub bounded : status ≤ 1 → IsTextBound by strict one two status call_result
  pub faulty : status ≡ 2 → (fault : RunFault) × IsUnbounded by one two fault × (call_result ≡ result_of_fault fault)
  pub refused : status ≡ 3 → call_result ≡ blank_result

-- the same, by what the caller's number asks for; if it asks nothing, all numbers are 0
abbrev pub TellsBoundBy : Option (CertificateKind × Bool) → List ℕ → List ℕ → ℕ → CallResult → Type 0
TellsBoundBy None one two status call_result = call_result ≡ blank_result
TellsBoundBy (Some asked) one two status call_result = TellsBound asked.0 asked.1 one two status call_result
