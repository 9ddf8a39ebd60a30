-- For src/picked_runs.rt: runs on readers over texts in memory, as statements on these texts, and the status that C
-- gets.
use Rattle.tsp_c.proofs.Prelude.{◌≡◌, ℕ, ◌≤◌, List, [], Bool, true, false, Result, Ok, Err, inl, inr, refl, sym, subst, arith, IsErr, Option, None, Some, IfSome, ℤ, ReadTrace, Sink, HasWritten, Fields, is_yes, CertificateKind, Verdict, status_of_fault, IsSomeFile, IsFileIn, AreRead, JudgesFiles, IsFaultOfRun, EndsWithout, BoundsFiles, EndsUnbounded, SaysBound, IsBoundRunOf, IsTextFault, RunFault, File, WrongKind, Write, OutOfMemory, Relayout, is_ok, BoundVerdict}
use Rattle.std.proofs.lemmas.Bool.{false≢true}
use Rattle.std.specs.Io.KnownBytes.{Appends}
use Rattle.tsp_io.specs.declared.piece.WriteFault.TheVariants as write_faults
use Rattle.tsp_format.specs.declared.layout.Layout.{Layout}
use Rattle.tsp_file.specs.declared.relayout.RelayoutFault.{RelayoutFault}
use Rattle.tsp_file.specs.declared.relayout.RelayoutFault.TheVariants as relayout_faults
use Rattle.tsp_text.specs.ParsesTo.{fault, ParsesTo}
use Rattle.tsp_text.specs.declared.fault.ReadFault.{ReadFault}
use Rattle.tsp_text.specs.declared.fault.ReadFault.TheVariants as read_faults
use Rattle.tsp_read.specs.Reads.{IsFile, HasFault, StopsAt}
use Rattle.tsp_report.specs.declared.verdict.Verdict.TheVariants.{Tour, Routes, No}
use Rattle.tsp_judge.specs.Accepted.{IsAccepted, IsAcceptedAlone}
use Rattle.tsp_judge.specs.CheckRun.{SaysYes, IsCheckOf}
use Rattle.tsp_judge.specs.ConvertRun.{IsShowRun, IsConverted, IsConvertRun}
use Rattle.tsp_judge.specs.declared.bound_run.Bounded.{Bounded}
use Rattle.tsp_c.specs.NumberCalls.{without_devices, IsPrinted, EndsOnTexts, EndsWithText, done, bound_answer}
use Rattle.tsp_c.specs.Texts.{IsFileText, StopsShowing, ShowsText, BecomesFile, StopsConverting, ConvertsText, with_certificate, ParsesToGiven, AreSpelled, IsAcceptedText, IsRejected, IsUnchecked, IsReached, StopsCheck, ChecksTexts, IsBoundText, IsUnbounded, StopsBound, BoundsTexts}
use Rattle.tsp_c.proofs.NamedTexts.{given_by}

-- the status of a fault in memory: 2, 3, or 1 if weights can't go into a layout
pub record FaultStatus (fault : RunFault) (status : ℕ) : Type 0 where
  pub some : 1 ≤ status
  pub most : status ≤ 3
  pub relayout : status ≡ 1 → (refused : RelayoutFault) × (fault ≡ Relayout refused)

other_status : (fault : RunFault) (status : ℕ) → 2 ≤ status → status ≤ 3 → FaultStatus fault status
other_status fault status low high = record { some = omega arith; most = high; relayout = λ one. absurd (omega arith) }

relayout_status : (refused : RelayoutFault) → FaultStatus (Relayout refused) (status_of_fault (Relayout refused))
relayout_status relayout_faults.OutOfMemory = other_status (Relayout relayout_faults.OutOfMemory) 3 (omega arith) (omega arith)
relayout_status relayout_faults.NotExplicit = record { some = omega arith; most = omega arith; relayout = λ one. (relayout_faults.NotExplicit, refl) }
relayout_status (relayout_faults.NotSymmetric i j) =
    record { some = omega arith; most = omega arith; relayout = λ one. (relayout_faults.NotSymmetric i j, refl) }
relayout_status (relayout_faults.DiagonalLost i) =
    record { some = omega arith; most = omega arith; relayout = λ one. (relayout_faults.DiagonalLost i, refl) }

pub fault_status : (fault : RunFault) → FaultStatus fault (status_of_fault (without_devices fault))
fault_status (File file (read_faults.Line line word found)) = other_status _ 2 (omega arith) (omega arith)
fault_status (File file (read_faults.End found)) = other_status _ 2 (omega arith) (omega arith)
fault_status (File file read_faults.TooLong) = other_status _ 2 (omega arith) (omega arith)
fault_status (File file read_faults.OutOfMemory) = other_status _ 3 (omega arith) (omega arith)
fault_status (File file read_faults.Device) = other_status _ 3 (omega arith) (omega arith)
fault_status WrongKind = other_status _ 2 (omega arith) (omega arith)
fault_status OutOfMemory = other_status _ 3 (omega arith) (omega arith)
fault_status (Write write_faults.OutOfMemory) = other_status _ 3 (omega arith) (omega arith)
fault_status (Write write_faults.Device) = other_status _ 3 (omega arith) (omega arith)
fault_status (Relayout refused) = relayout_status refused

-- ---- the end of a run, with the text that it gives

pub yes_ends : {Yes No : List ℕ → Type 0} {Stops : RunFault → Type 0} (written : List ℕ) (status : ℕ) (text : List ℕ) → Yes written
    → EndsOnTexts (Ok true) written status text → EndsWithText Yes No Stops status text
yes_ends {Yes = Yes} written status text accepted e = inl (Ok true, e.0, subst Yes (sym e.1) accepted)

pub no_ends : {Yes No : List ℕ → Type 0} {Stops : RunFault → Type 0} (written : List ℕ) (status : ℕ) (text : List ℕ) → No written
    → EndsOnTexts (Ok false) written status text → EndsWithText Yes No Stops status text
no_ends {No = Ends} written status text rejected e = inl (Ok false, e.0, subst Ends (sym e.1) rejected)

pub fault_ends : {Yes No : List ℕ → Type 0} {Stops : RunFault → Type 0} (fault : RunFault) (written : List ℕ) (status : ℕ)
    (text : List ℕ) → Stops (without_devices fault) → EndsOnTexts (Err fault) written status text
    → EndsWithText Yes No Stops status text
fault_ends fault written status text stops e = elim e [
  | inl reported ↦ inl (Err (without_devices fault), reported.0, (stops, reported.1))
  | inr memory ↦ inr (without_devices fault, stops, memory.0, memory.1)
]

-- ---- how it is printed

pub printed_ends : (answer : Result Bool RunFault) (written : List ℕ) (status : ℕ) (text : List ℕ) → IsPrinted answer written status text
    → EndsOnTexts answer written status text
printed_ends (Ok answer) written status text is = is
printed_ends (Err fault) written status text is = inl is

pub unprinted_ends : (answer : Result Bool RunFault) (written : List ℕ) (status : ℕ) (text : List ℕ) → IsErr answer → status ≡ 3
    → text ≡ [] → EndsOnTexts answer written status text
unprinted_ends (Ok answer) written status text is three none = absurd cc
unprinted_ends (Err fault) written status text is three none = inr (three, none)

-- ---- runs on readers over texts in memory

-- ---- a text

pub spelled : (read_trace : ReadTrace) (text : List ℕ) (file : Fields) → read_trace.known ≡ Some text → IsFile read_trace file → ParsesTo text file
spelled read_trace text file known is = subst (λ (k : Option (List ℕ)). IfSome k (λ xs. ParsesTo xs file)) known is.3

some_file : (read_trace : ReadTrace) (text : List ℕ) → read_trace.known ≡ Some text → IsSomeFile read_trace → IsFileText text
some_file read_trace text known is = (is.0, spelled read_trace text is.0 known is.1)

faulty : (read_trace : ReadTrace) (text : List ℕ) (found : ReadFault) → read_trace.known ≡ Some text → HasFault found read_trace → fault text ≡ Some found
faulty read_trace text found known has = subst (λ (k : Option (List ℕ)). IfSome k (λ xs. fault xs ≡ Some found)) known has.3

-- a text at which a run stops has a fault, if the status is that of a fault of a text
stopped : (read_trace : ReadTrace) (text : List ℕ) (file : ℕ) (found : ReadFault) → read_trace.known ≡ Some text → StopsAt found read_trace
    → status_of_fault (without_devices (File file found)) ≡ 2 → fault text ≡ Some found
stopped read_trace text file (read_faults.Line line word found) known stops two = faulty read_trace text (read_faults.Line line word found) known stops
stopped read_trace text file (read_faults.End found) known stops two = faulty read_trace text (read_faults.End found) known stops
stopped read_trace text file read_faults.TooLong known stops two = faulty read_trace text read_faults.TooLong known stops
stopped read_trace text file read_faults.OutOfMemory known stops two = let n : 3 ≡ 2 = two in absurd (omega arith)
stopped read_trace text file read_faults.Device known stops two = let n : 3 ≡ 2 = two in absurd (omega arith)

-- a file at which a run stops in memory is its text, which has the fault, or there is no memory for it
text_stops : (P : RunFault → Type 0) (read_trace : ReadTrace) (text : List ℕ) (number file : ℕ) (found : ReadFault)
    → ((other : ReadFault) → IsTextFault number text (File file other) → P (File file other)) → read_trace.known ≡ Some text
    → file ≡ number → StopsAt found read_trace → P (without_devices (File file found))
text_stops P read_trace text number file (read_faults.Line line word found) holds known is stops =
    holds (read_faults.Line line word found) (is, faulty read_trace text (read_faults.Line line word found) known stops)
text_stops P read_trace text number file (read_faults.End found) holds known is stops =
    holds (read_faults.End found) (is, faulty read_trace text (read_faults.End found) known stops)
text_stops P read_trace text number file read_faults.TooLong holds known is stops =
    holds read_faults.TooLong (is, faulty read_trace text read_faults.TooLong known stops)
text_stops P read_trace text number file read_faults.OutOfMemory holds known is stops = holds read_faults.OutOfMemory (is, tt)
text_stops P read_trace text number file read_faults.Device holds known is stops = holds read_faults.OutOfMemory (is, tt)

-- the writer of a run on texts was empty before, and holds the written text after
pub record Collects (sink : Sink) (written : List ℕ) : Type 0 where
  pub held : sink.held ≡ Some []
  pub holds : sink.holds ≡ Some written

pub printed_is : (sink : Sink) (written report : List ℕ) → Collects sink written → HasWritten sink report → written ≡ report
printed_is sink written report is has =
    let a : Appends (Some []) sink.holds report = subst (λ (k : Option (List ℕ)). Appends k sink.holds report) is.held has.2 in
    subst (λ (k : Option (List ℕ)). Appends (Some []) k report) is.holds a

-- ---- a text that is shown or converted

pub shows : (read_trace : ReadTrace) (sink : Sink) (ended : Result (Unit {0}) RunFault) (one written : List ℕ) (status : ℕ) (text : List ℕ)
    → IsShowRun read_trace sink ended → read_trace.known ≡ Some one → Collects sink written → EndsOnTexts (done ended) written status text
    → ShowsText one status text
shows read_trace sink (Ok is) one written status text run known collects e =
    yes_ends written status text (run.0, spelled read_trace one run.0 known run.1, printed_is sink written _ collects run.2) e
shows read_trace sink (Err (File file found)) one written status text run known collects e =
    fault_ends (File file found) written status text
    (text_stops (StopsShowing one) read_trace one 1 file found (λ other is. is) known run.0 run.1) e
shows read_trace sink (Err WrongKind) one written status text run known collects e = absurd run
shows read_trace sink (Err OutOfMemory) one written status text run known collects e = absurd run
shows read_trace sink (Err (Relayout refused)) one written status text run known collects e = absurd run
shows read_trace sink (Err (Write write_faults.OutOfMemory)) one written status text run known collects e = absurd run
shows read_trace sink (Err (Write write_faults.Device)) one written status text run known collects e =
    fault_ends (Write write_faults.Device) written status text (run.0, spelled read_trace one run.0 known run.1) e

becomes : (to : Option Layout) (read_trace : ReadTrace) (one : List ℕ) (new : Fields) → read_trace.known ≡ Some one → IsConverted to read_trace new
    → BecomesFile to one new
becomes to read_trace one new known is = (is.old, spelled read_trace one is.old known is.whole, is.becomes, is.valid)

pub converts : (to : Option Layout) (read_trace : ReadTrace) (sink : Sink) (ended : Result (Unit {0}) RunFault) (one written : List ℕ) (status : ℕ)
    (text : List ℕ) → read_trace.known ≡ Some one → Collects sink written → IsConvertRun to read_trace sink ended
    → EndsOnTexts (done ended) written status text → ConvertsText to one status text
converts to read_trace sink (Ok is) one written status text known collects run e =
    yes_ends written status text (run.0, becomes to read_trace one run.0 known run.1, printed_is sink written _ collects run.2) e
converts to read_trace sink (Err (File file found)) one written status text known collects run e =
    fault_ends (File file found) written status text
    (text_stops (StopsConverting to one) read_trace one 1 file found (λ other is. is) known run.0 run.1) e
converts to read_trace sink (Err WrongKind) one written status text known collects run e = absurd run
converts to read_trace sink (Err OutOfMemory) one written status text known collects run e = absurd run
converts to read_trace sink (Err (Relayout refused)) one written status text known collects run e =
    fault_ends (Relayout refused) written status text (run.0, spelled read_trace one run.0 known run.1, run.2) e
converts to read_trace sink (Err (Write write_faults.OutOfMemory)) one written status text known collects run e = absurd run
converts to read_trace sink (Err (Write write_faults.Device)) one written status text known collects run e =
    fault_ends (Write write_faults.Device) written status text (run.0, becomes to read_trace one run.0 known run.1) e

-- ---- the check of texts

-- the three texts that a run may read, and the files that they parse to
pub record Reads3 (first second third : ReadTrace) (one two three : List ℕ) : Type 0 where
  pub first_is : first.known ≡ Some one
  pub second_is : second.known ≡ Some two
  pub third_is : third.known ≡ Some three

spelled_given : (by : Option CertificateKind) (third : ReadTrace) (three : List ℕ) (certificate : Option (CertificateKind × Fields))
    → third.known ≡ Some three → IsFileIn (given_by by third) certificate → ParsesToGiven (with_certificate by three) certificate
spelled_given None third three None known is = is
spelled_given None third three (Some certificate) known is = absurd is
spelled_given (Some by) third three None known is = absurd is
spelled_given (Some by) third three (Some certificate) known is = (is.0, spelled third three certificate.1 known is.1)

pub are_spelled : (by : Option CertificateKind) (first second third : ReadTrace) (one two three : List ℕ) (instance solution : Fields)
    (certificate : Option (CertificateKind × Fields)) → Reads3 first second third one two three
    → AreRead (given_by by third) first second instance solution certificate
    → AreSpelled (with_certificate by three) one two instance solution certificate
are_spelled by first second third one two three instance solution certificate reads read = record {
  first_file = spelled first one instance reads.first_is read.first_file;
  second_file = spelled second two solution reads.second_is read.second_file;
  third_file = spelled_given by third three certificate reads.third_is read.third_file;
}

accepted : (by : Option CertificateKind) (claimed : Option ℤ) (strict : Bool) (first second third : ReadTrace) (sink : Sink) (one two three written : List ℕ)
    → Reads3 first second third one two three → Collects sink written → SaysYes (given_by by third) claimed strict first second sink
    → IsAcceptedText (with_certificate by three) claimed strict one two written
accepted by claimed strict first second third sink one two three written reads collects says = record {
  instance = says.instance;
  solution = says.solution;
  certificate = says.certificate;
  spelled = are_spelled by first second third one two three says.instance says.solution says.certificate reads says.read;
  meaning = subst (IsAccepted says.certificate claimed says.instance says.solution)
      (sym (printed_is sink written says.report collects says.written)) says.meaning;
  all_judged = says.all_judged;
}

rejected : (by : Option CertificateKind) (claimed : Option ℤ) (strict : Bool) (first second third : ReadTrace) (sink : Sink) (one two three written : List ℕ)
    (instance solution : Fields) (certificate : Option (CertificateKind × Fields)) (verdict : Verdict)
    → Reads3 first second third one two three → Collects sink written
    → AreRead (given_by by third) first second instance solution certificate
    → JudgesFiles certificate claimed strict instance solution sink (Ok verdict) → false ≡ is_yes verdict
    → IsRejected (with_certificate by three) claimed strict one two written
rejected by claimed strict first second third sink one two three written instance solution certificate (Tour length_is bound) reads collects read judged e =
    absurd (false≢true e)
rejected by claimed strict first second third sink one two three written instance solution certificate (Routes length_is routes least bound) reads collects read judged e =
    absurd (false≢true e)
rejected by claimed strict first second third sink one two three written instance solution certificate (No reason) reads collects read judged e = record {
  instance = instance;
  solution = solution;
  certificate = certificate;
  spelled = are_spelled by first second third one two three instance solution certificate reads read;
  of_type = judged.0;
  reason = reason;
  judged = judged.1;
  printed = printed_is sink written _ collects judged.2;
}

-- a text of a certificate that is given, at which a run stops
stopped_given : (by : Option CertificateKind) (third : ReadTrace) (three : List ℕ) (given : CertificateKind × ReadTrace) (file : ℕ) (found : ReadFault)
    → given_by by third ≡ Some given → third.known ≡ Some three → StopsAt found given.1
    → status_of_fault (without_devices (File file found)) ≡ 2
    → (text : CertificateKind × List ℕ) × (with_certificate by three ≡ Some text) × (fault text.1 ≡ Some found)
stopped_given None third three given file found is known stops two = absurd cc
stopped_given (Some by) third three given file found is known stops two =
    ((by, three), refl, stopped third three file found known (subst (λ (g : CertificateKind × ReadTrace). StopsAt found g.1) (sym (some_is _ _ is)) stops) two)
  where
    some_is : (a b : CertificateKind × ReadTrace) → Some a ≡ Some b → a ≡ b
    some_is a b e = cc

pub unchecked : (by : Option CertificateKind) (claimed : Option ℤ) (strict : Bool) (first second third : ReadTrace) (sink : Sink) (one two three : List ℕ)
    (fault : RunFault) → Reads3 first second third one two three
    → EndsWithout (given_by by third) claimed strict first second sink fault
    → status_of_fault (without_devices fault) ≡ 2 → IsUnchecked (with_certificate by three) one two fault
unchecked by claimed strict first second third sink one two three (File file found) reads run s = elim run.1 [
  | inl a ↦ inl (a.0, stopped first one file found reads.first_is a.1 s)
  | inr rest ↦ elim rest [
    | inl b ↦ inr (inl (some_file first one reads.first_is b.1, (b.0, stopped second two file found reads.second_is b.2 s)))
    | inr c ↦ let given = stopped_given by third three c.0 file found c.1 reads.third_is c.5 s in inr (inr (
      given.0,
      given.1,
      some_file first one reads.first_is c.3,
      some_file second two reads.second_is c.4,
      (c.2, given.2),
    ))
  ]
]
unchecked by claimed strict first second third sink one two three WrongKind reads run s =
    (run.0, run.1, run.2, are_spelled by first second third one two three run.0 run.1 run.2 reads run.3, run.4.0)
unchecked by claimed strict first second third sink one two three OutOfMemory reads run s = let n : 3 ≡ 2 = s in absurd (omega arith)
unchecked by claimed strict first second third sink one two three (Relayout refused) reads run s = absurd run.4
unchecked by claimed strict first second third sink one two three (Write write_faults.OutOfMemory) reads run s = absurd run.4
unchecked by claimed strict first second third sink one two three (Write write_faults.Device) reads run s = let n : 3 ≡ 2 = s in absurd (omega arith)

pub no_relayout : (by : Option CertificateKind) (claimed : Option ℤ) (strict : Bool) (first second third : ReadTrace) (sink : Sink) (fault : RunFault)
    (refused : RelayoutFault) → fault ≡ Relayout refused → EndsWithout (given_by by third) claimed strict first second sink fault → ⊥
no_relayout by claimed strict first second third sink fault refused is run =
    none (subst (λ (f : RunFault). EndsWithout (given_by by third) claimed strict first second sink f) is run)
  where
    none : EndsWithout (given_by by third) claimed strict first second sink (Relayout refused) → ⊥
    none ended = ended.4

-- the texts before the one at which a run stops are files
reached : (by : Option CertificateKind) (first second third : ReadTrace) (one two three : List ℕ) (file : ℕ) (found : ReadFault)
    → Reads3 first second third one two three → IsFaultOfRun (given_by by third) first second file found
    → IsReached (with_certificate by three) one two file
reached by first second third one two three file found reads run = elim run [
  | inl a ↦ inl a.0
  | inr rest ↦ elim rest [
    | inl b ↦ inr (inl (b.0, some_file first one reads.first_is b.1))
    | inr c ↦ let given = given_is by third three c.0 c.1 in inr (inr (
      given.0,
      given.1,
      c.2,
      some_file first one reads.first_is c.3,
      some_file second two reads.second_is c.4,
    ))
  ]
]
  where
    given_is : (by : Option CertificateKind) (third : ReadTrace) (three : List ℕ) (given : CertificateKind × ReadTrace) → given_by by third ≡ Some given
        → (text : CertificateKind × List ℕ) × (with_certificate by three ≡ Some text)
    given_is None third three given is = absurd cc
    given_is (Some by) third three given is = ((by, three), refl)

-- plan: by the fault: each case is the one of the run, with the texts for the readers (`reached`, `are_spelled`)
stops_check : (by : Option CertificateKind) (claimed : Option ℤ) (strict : Bool) (first second third : ReadTrace) (sink : Sink) (one two three : List ℕ)
    (fault : RunFault) → Reads3 first second third one two three → EndsWithout (given_by by third) claimed strict first second sink fault
    → StopsCheck (with_certificate by three) claimed strict one two (without_devices fault)
stops_check by claimed strict first second third sink one two three (File file (read_faults.Line line word found)) reads run =
    unchecked by claimed strict first second third sink one two three (File file (read_faults.Line line word found)) reads run refl
stops_check by claimed strict first second third sink one two three (File file (read_faults.End found)) reads run =
    unchecked by claimed strict first second third sink one two three (File file (read_faults.End found)) reads run refl
stops_check by claimed strict first second third sink one two three (File file read_faults.TooLong) reads run =
    unchecked by claimed strict first second third sink one two three (File file read_faults.TooLong) reads run refl
stops_check by claimed strict first second third sink one two three (File file read_faults.OutOfMemory) reads run =
    reached by first second third one two three file read_faults.OutOfMemory reads run.1
stops_check by claimed strict first second third sink one two three (File file read_faults.Device) reads run =
    reached by first second third one two three file read_faults.Device reads run.1
stops_check by claimed strict first second third sink one two three WrongKind reads run =
    unchecked by claimed strict first second third sink one two three WrongKind reads run refl
stops_check by claimed strict first second third sink one two three OutOfMemory reads run =
    (run.0, run.1, run.2, are_spelled by first second third one two three run.0 run.1 run.2 reads run.3, run.4.1)
stops_check by claimed strict first second third sink one two three (Relayout refused) reads run = absurd run.4
stops_check by claimed strict first second third sink one two three (Write write_faults.OutOfMemory) reads run = absurd run.4
stops_check by claimed strict first second third sink one two three (Write write_faults.Device) reads run = (
  run.4.1.0,
  (
    run.0,
    run.1,
    run.2,
    are_spelled by first second third one two three run.0 run.1 run.2 reads run.3,
    run.4.0,
    run.4.1.1,
  ),
)

pub checks : (by : Option CertificateKind) (claimed : Option ℤ) (strict : Bool) (first second third : ReadTrace) (sink : Sink) (answer : Result Bool RunFault)
    (one two three written : List ℕ) (status : ℕ) (text : List ℕ) → Reads3 first second third one two three → Collects sink written
    → IsCheckOf (given_by by third) claimed strict first second sink answer → EndsOnTexts answer written status text
    → ChecksTexts (with_certificate by three) claimed strict one two status text
checks by claimed strict first second third sink (Ok true) one two three written status text reads collects check e =
    yes_ends written status text (accepted by claimed strict first second third sink one two three written reads collects (check.1 refl)) e
checks by claimed strict first second third sink (Ok false) one two three written status text reads collects check e =
    let run = check.0 in no_ends written status text
    (rejected by claimed strict first second third sink one two three written run.0 run.1 run.2 run.3 reads collects run.4 run.5 run.6) e
checks by claimed strict first second third sink (Err fault) one two three written status text reads collects check e =
    fault_ends fault written status text (stops_check by claimed strict first second third sink one two three fault reads check.0) e

-- ---- a bound

-- the two texts that a run reads, and the files that they parse to
pub record Reads2 (first second : ReadTrace) (one two : List ℕ) : Type 0 where
  pub first_is : first.known ≡ Some one
  pub second_is : second.known ≡ Some two

bound_says : (by : CertificateKind) (strict : Bool) (first second : ReadTrace) (sink : Sink) (one two written : List ℕ) (found : BoundVerdict)
    → Reads2 first second one two → Collects sink written → SaysBound by strict first second sink found → IsBoundText by strict one two written
bound_says by strict first second sink one two written found reads collects says = record {
  instance = says.instance;
  certificate = says.certificate;
  found = found;
  first_file = spelled first one says.instance reads.first_is says.first_file;
  second_file = spelled second two says.certificate reads.second_is says.second_file;
  meaning = subst (IsAcceptedAlone by says.instance says.certificate found)
      (sym (printed_is sink written says.report collects says.written)) says.meaning;
  all_judged = says.all_judged;
}

bound_found : (by : CertificateKind) (strict : Bool) (first second : ReadTrace) (sink : Sink) (one two written : List ℕ) (status : ℕ) (text : List ℕ)
    (instance certificate : Fields) (found : BoundVerdict) → Reads2 first second one two → Collects sink written
    → IsFile first instance → IsFile second certificate → BoundsFiles by strict instance certificate sink (Ok found)
    → (is_ok found ≡ true → SaysBound by strict first second sink found)
    → EndsOnTexts (Ok (is_ok found)) written status text → BoundsTexts by strict one two status text
bound_found by strict first second sink one two written status text instance certificate (Ok bound) reads collects first_file second_file judged says e =
    yes_ends written status text (bound_says by strict first second sink one two written (Ok bound) reads collects (says refl)) e
bound_found by strict first second sink one two written status text instance certificate (Err reason) reads collects first_file second_file judged says e =
    no_ends written status text (record {
      instance = instance;
      certificate = certificate;
      first_file = spelled first one instance reads.first_is first_file;
      second_file = spelled second two certificate reads.second_is second_file;
      bounded = judged.0;
      reason = reason;
      judged = judged.1;
      printed = printed_is sink written _ collects judged.2;
    }) e

pub unbounded : (by : CertificateKind) (strict : Bool) (first second : ReadTrace) (sink : Sink) (one two : List ℕ) (fault : RunFault)
    → Reads2 first second one two → EndsUnbounded by strict first second sink fault
    → status_of_fault (without_devices fault) ≡ 2 → IsUnbounded by one two fault
unbounded by strict first second sink one two (File file found) reads run s = elim run.1 [
  | inl a ↦ inl (a.0, stopped first one file found reads.first_is a.1 s)
  | inr b ↦ inr (some_file first one reads.first_is b.1, (b.0, stopped second two file found reads.second_is b.2 s))
]
unbounded by strict first second sink one two WrongKind reads run s = (
  run.0,
  run.1,
  spelled first one run.0 reads.first_is run.2,
  spelled second two run.1 reads.second_is run.3,
  run.4.0,
)
unbounded by strict first second sink one two OutOfMemory reads run s = let n : 3 ≡ 2 = s in absurd (omega arith)
unbounded by strict first second sink one two (Relayout refused) reads run s = absurd run.4
unbounded by strict first second sink one two (Write write_faults.OutOfMemory) reads run s = absurd run.4
unbounded by strict first second sink one two (Write write_faults.Device) reads run s = let n : 3 ≡ 2 = s in absurd (omega arith)

pub not_relaid : (by : CertificateKind) (strict : Bool) (first second : ReadTrace) (sink : Sink) (fault : RunFault) (refused : RelayoutFault)
    → fault ≡ Relayout refused → EndsUnbounded by strict first second sink fault → ⊥
not_relaid by strict first second sink fault refused is run = none (subst (λ (f : RunFault). EndsUnbounded by strict first second sink f) is run)
  where
    none : EndsUnbounded by strict first second sink (Relayout refused) → ⊥
    none ended = ended.4

-- plan: by the fault: each case is the one of the run, with the texts for the readers (`some_file`, `spelled`)
stops_bound : (by : CertificateKind) (strict : Bool) (first second : ReadTrace) (sink : Sink) (one two : List ℕ) (fault : RunFault)
    → Reads2 first second one two → EndsUnbounded by strict first second sink fault → StopsBound by strict one two (without_devices fault)
stops_bound by strict first second sink one two (File file (read_faults.Line line word found)) reads run =
    unbounded by strict first second sink one two (File file (read_faults.Line line word found)) reads run refl
stops_bound by strict first second sink one two (File file (read_faults.End found)) reads run =
    unbounded by strict first second sink one two (File file (read_faults.End found)) reads run refl
stops_bound by strict first second sink one two (File file read_faults.TooLong) reads run =
    unbounded by strict first second sink one two (File file read_faults.TooLong) reads run refl
stops_bound by strict first second sink one two (File file read_faults.OutOfMemory) reads run = elim run.1 [
  | inl a ↦ inl a.0
  | inr b ↦ inr (b.0, some_file first one reads.first_is b.1)
]
stops_bound by strict first second sink one two (File file read_faults.Device) reads run = elim run.1 [
  | inl a ↦ inl a.0
  | inr b ↦ inr (b.0, some_file first one reads.first_is b.1)
]
stops_bound by strict first second sink one two WrongKind reads run = unbounded by strict first second sink one two WrongKind reads run refl
stops_bound by strict first second sink one two OutOfMemory reads run = (
  run.0,
  run.1,
  spelled first one run.0 reads.first_is run.2,
  spelled second two run.1 reads.second_is run.3,
  run.4.0,
  run.4.1,
  run.4.2,
)
stops_bound by strict first second sink one two (Relayout refused) reads run = absurd run.4
stops_bound by strict first second sink one two (Write write_faults.OutOfMemory) reads run = absurd run.4
stops_bound by strict first second sink one two (Write write_faults.Device) reads run = (
  run.4.1.0,
  (
    run.0,
    run.1,
    spelled first one run.0 reads.first_is run.2,
    spelled second two run.1 reads.second_is run.3,
    run.4.0,
    run.4.1.1,
  ),
)

pub bounds_texts : (by : CertificateKind) (strict : Bool) (first second : ReadTrace) (sink : Sink) (ended : Result Bounded RunFault) (one two written : List ℕ)
    (status : ℕ) (text : List ℕ) → Reads2 first second one two → Collects sink written → IsBoundRunOf by strict first second sink ended
    → EndsOnTexts (bound_answer ended) written status text → BoundsTexts by strict one two status text
bounds_texts by strict first second sink (Ok bounded) one two written status text reads collects run e =
    let is = run.0 in bound_found by strict first second sink one two written status text bounded.instance bounded.certificate bounded.found
    reads collects is.0 is.1 is.2 (λ yes. run.1 bounded refl yes) e
bounds_texts by strict first second sink (Err fault) one two written status text reads collects run e =
    fault_ends fault written status text (stops_bound by strict first second sink one two fault reads run.0) e
