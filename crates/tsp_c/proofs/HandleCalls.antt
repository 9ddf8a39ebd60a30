-- For src/handle_calls.rt and the calls that fill in numbers: a call on a handle says of an open instance what the call
-- on a text says of its text.
use Rattle.tsp_c.proofs.Prelude.{◌≡◌, ℕ, ◌≤◌, sym, ap, arith, refl, ◌≢◌, ◌+◌, ◌<◌, List, length, ◌∙◌, below_more, get_or-set_same, get_or-set_other, zero, suc, Bool, true, false, cond, ◌∷◌, take, drop, length-drop, drop-cons, add-one, ltb-true, ltb-false, subst, Result, Ok, Err, inl, inr, Option, Some, None, unwrap_or, ℤ, pos, option_map, slice_index_or as get_or, ◌==◌, not, nat_lt, Sink, distance, Fields, is_yes, Verdict, status_of, status_of_fault, Open, IsHeldVerdict, IsNotJudged, RunFault, File, WrongKind, Write, OutOfMemory, Relayout, Bx}
use Rattle.std.proofs.Math.ListN.{set}
use Rattle.std.proofs.lemmas.Bool.{false≢true}
use Rattle.std.proofs.lemmas.List.{length-set, get_or-take, length-take}
use Rattle.std.proofs.lemmas.List.Sums.{prefix_len_passes, sum_by-cons}
use Rattle.std.specs.List.{All, count_by, position, prefix_len}
use denote.Signature.{Slot, plain}
use mathlib.Core.List.{[]}
use mir.Syntax.{impl, tnil, dnil}
use Rattle.tsp_number.specs.declared.decimal.Point.{Point}
use Rattle.tsp_io.specs.declared.piece.WriteFault.TheVariants as write_faults
use Rattle.tsp_format.specs.Nodes.{IsNode}
use Rattle.tsp_format.specs.declared.kinds.WeightKind.{WeightKind}
use Rattle.tsp_file.specs.declared.relayout.RelayoutFault.{RelayoutFault}
use Rattle.tsp_text.specs.declared.fault.ReadFault.TheVariants as read_faults
use Rattle.tsp_report.specs.Report.{report_of, IsSized}
use Rattle.tsp_report.specs.declared.verdict.Reason.{Reason}
use Rattle.tsp_report.specs.declared.verdict.Verdict.TheVariants.{Tour, Routes, No}
use Rattle.tsp_verdict.specs.Strict.{IsJudgedWhole, strict_reason, strict_verdict}
use Rattle.tsp_verdict.proofs.Unjudged.{accepted_before, judged_whole}
use Rattle.tsp_judge.proofs.opened.Opened.TheLaws as opened
use Rattle.tsp_judge.specs.Accepted.{IsAccepted}
use Rattle.tsp_judge.specs.contracts.opened.Opened
use Rattle.std_heap.proofs.Global.TheLaws as heap
use Rattle.std_heap.specs.contracts.Global as Heap
use Rattle.std_heap.specs.contracts.GlobalAllocator.TheImpl.{ghosts, dict}
use Rattle.tsp_c.proofs.PickedRuns.{yes_ends, no_ends, fault_ends, fault_status, Collects, printed_is}
use Rattle.tsp_c.specs.CallResult.{blank_result, result_of_verdict, result_of_fault}
use Rattle.tsp_c.specs.NumberCalls.{IsFilled, lists_in, onto_first_list, without_devices, EndsOnTexts, Reports}
use Rattle.tsp_c.specs.Opened.{IsOpenOn, IsHeldAsked, ChecksAsTexts, TellsJudged}
use Rattle.tsp_c.specs.Texts.{GivenText, AreSpelled, IsAcceptedText, StopsCheck, ChecksTexts}
use Rattle.tsp_c.specs.contracts.handle.BoxParts
use Rattle.tsp_c.specs.contracts.handle.Loose
use Rattle.tsp_c.specs.declared.call_result.CallResult.{CallResult}

abbrev pub E : Bx
E = record { row = Opened.the_row; laws = opened.the_row_laws; al = record { row = Heap.the_row; laws = heap.the_row_laws; g = ghosts; d = dict; drops = impl [] tnil dnil } }

abbrev pub FromParts : Slot 0
FromParts = plain (λ _. BoxParts.the_row Opened.the_row Heap.the_row ghosts)

abbrev pub FromLoose : Slot 0
FromLoose = plain (λ _. Loose.the_row)

abbrev pub FromHeap : Slot 0
FromHeap = plain (λ _. Heap.the_row)

-- ---- the count of nodes of an open instance is that of its text

pub some_count : (dimension : Option ℕ) (count : ℕ) → count ≡ unwrap_or dimension 0 → 1 ≤ count → dimension ≡ Some count
some_count None count is some = absurd (omega (arith, is, some))
some_count (Some nodes) count is some = sym (ap (λ (k : ℕ). Some k) is)

-- ---- the kind that a number means, with the distance of two points by it

-- a kind with its distance, if there is a distance
pub kind_found : (a b : Point) (found : Option WeightKind) (result : ℤ) → Some result ≡ option_map (λ kind. distance kind a b) found
    → (kind : WeightKind) × (found ≡ Some kind) × (result ≡ distance kind a b)
kind_found a b None result is = absurd cc
kind_found a b (Some kind) result is = (kind, refl, ap (λ o. unwrap_or o (pos 0)) is)

-- ---- a buffer of C that has one number more, at its next place

pub one_more : (numbers : ℕ → ℤ) (start now : List ℤ) (place : ℕ) (number : ℤ) → place < length now → number ≡ numbers place
    → IsFilled place numbers start now → IsFilled (place + 1) numbers start (set now place number)
one_more numbers start now place number within is filled = record {
  size = length-set now place number ∙ filled.size;
  filled = below_more (λ k. get_or (set now place number) k (pos 0) ≡ numbers k) place
      (λ k h. let other : k ≢ place = omega arith in get_or-set_other now place k number (pos 0) other ∙ filled.filled k h)
      (get_or-set_same now place number (pos 0) within ∙ is);
  others = λ k h. let other : k ≢ place = omega arith in get_or-set_other now place k number (pos 0) other ∙ filled.others k (omega arith);
}

-- ---- a list of nodes up to its 0, and those behind it, in one list of numbers from C

-- how many nodes the first list has
abbrev first_len : List ℕ → ℕ
first_len nodes = prefix_len (λ node. not (node == 0)) nodes

-- the first list, and the numbers behind its 0
cut_more : (node : ℕ) (nodes : List ℕ) (ends : Bool) → (first_len nodes < length nodes
    → lists_in nodes ≡ take (first_len nodes) nodes ∷ lists_in (drop (first_len nodes + 1) nodes))
    → cond (not ends) (1 + first_len nodes) 0 < length (node ∷ nodes)
    → cond ends ([] ∷ lists_in nodes) (onto_first_list node (lists_in nodes))
    ≡ take (cond (not ends) (1 + first_len nodes) 0) (node ∷ nodes) ∷ lists_in (drop (cond (not ends) (1 + first_len nodes) 0 + 1) (node ∷ nodes))
cut_more node nodes true rest within = refl
cut_more node nodes false rest within =
    let size = first_len nodes in
    let one : suc size ≡ 1 + size = omega arith in
    let two : suc (size + 1) ≡ 1 + size + 1 = omega arith in
    let inside : size < length nodes = omega arith in
    subst (λ (k : ℕ). onto_first_list node (lists_in nodes) ≡ take k (node ∷ nodes) ∷ lists_in (drop (1 + size + 1) (node ∷ nodes))) one
    (subst (λ (k : ℕ). onto_first_list node (lists_in nodes) ≡ take (suc size) (node ∷ nodes) ∷ lists_in (drop k (node ∷ nodes))) two
    (ap (onto_first_list node) (rest inside)))

pub lists_cut : (nodes : List ℕ) → first_len nodes < length nodes
    → lists_in nodes ≡ take (first_len nodes) nodes ∷ lists_in (drop (first_len nodes + 1) nodes)
lists_cut [] within = absurd (omega arith)
lists_cut (node ∷ nodes) within = cut_more node nodes (node == 0) (lists_cut nodes) within

none_more : (node : ℕ) (nodes : List ℕ) (ends : Bool) → (length nodes ≤ first_len nodes → lists_in nodes ≡ [])
    → length (node ∷ nodes) ≤ cond (not ends) (1 + first_len nodes) 0
    → cond ends ([] ∷ lists_in nodes) (onto_first_list node (lists_in nodes)) ≡ []
none_more node nodes true rest all = absurd (omega arith)
none_more node nodes false rest all = ap (onto_first_list node) (rest (omega arith))

pub lists_none : (nodes : List ℕ) → length nodes ≤ first_len nodes → lists_in nodes ≡ []
lists_none [] all = refl
lists_none (node ∷ nodes) all = none_more node nodes (node == 0) (lists_none nodes) all

-- there are as many lists as zeros
counted_more : (node : ℕ) (nodes : List ℕ) (lists : List (List ℕ)) (count : ℕ) (ends : Bool) → count ≡ length lists
    → cond ends 1 0 + count ≡ length (cond ends ([] ∷ lists) (onto_first_list node lists))
counted_more node nodes lists count true e = grind (arith, e)
counted_more node nodes [] count false e = grind (arith, e)
counted_more node nodes (list ∷ lists) count false e = grind (arith, e)

pub lists_counted : (nodes : List ℕ) → count_by (λ node. node == 0) nodes ≡ length (lists_in nodes)
lists_counted [] = refl
lists_counted (node ∷ nodes) =
    sum_by-cons (λ x. cond (x == 0) 1 0) node nodes
    ∙ counted_more node nodes (lists_in nodes) (count_by (λ x. x == 0) nodes) (node == 0) (lists_counted nodes)

-- the item at an index, and those behind it
abbrev first_or : {X : Type 0} → X → List X → X
first_or d [] = d
first_or d (x ∷ xs) = x

abbrev others_of : {X : Type 0} → List X → List X
others_of [] = []
others_of (x ∷ xs) = xs

pub drop_first : {X : Type 0} (xs : List X) (place : ℕ) (d x : X) (rest : List X) → drop place xs ≡ x ∷ rest
    → (get_or xs place d ≡ x) × (drop (place + 1) xs ≡ rest) × (place < length xs)
drop_first xs place d x rest e =
    let long : length (drop place xs) ≡ suc (length rest) = ap length e in
    let within : place < length xs = omega (arith, length-drop place xs) in
    let cut : get_or xs place d ∷ drop (suc place) xs ≡ x ∷ rest = sym (drop-cons xs place d within) ∙ e in
    (ap (first_or d) cut, rw add-one (ap others_of cut), within)

-- ---- where the first 0 is

found_more : (found : Bool) (size len end : ℕ) → nat_lt size len ≡ found → Some end ≡ cond found (Some size) None
    → (end ≡ size) × (size < len)
found_more true size len end e is = (some_is end size is, ltb-true size len e)
  where
    some_is : (a b : ℕ) → Some a ≡ Some b → a ≡ b
    some_is a b is = ap (λ o. unwrap_or o 0) is
found_more false size len end e is = absurd cc

pub end_found : (nodes : List ℕ) (end : ℕ) → Some end ≡ position (λ node. node == 0) nodes
    → (end ≡ first_len nodes) × (first_len nodes < length nodes)
end_found nodes end is = found_more (nat_lt (first_len nodes) (length nodes)) (first_len nodes) (length nodes) end refl is

missing_more : (found : Bool) (size len : ℕ) → nat_lt size len ≡ found → None ≡ cond found (Some size) None → len ≤ size
missing_more true size len e is = absurd cc
missing_more false size len e is = ltb-false size len e

pub end_missing : (nodes : List ℕ) → None ≡ position (λ node. node == 0) nodes → length nodes ≤ first_len nodes
end_missing nodes is = missing_more (nat_lt (first_len nodes) (length nodes)) (first_len nodes) (length nodes) refl is

-- ---- a step of the loop over lists

-- the numbers of a list before its 0 are nodes
pub nodes_before : (count : ℕ) (nodes : List ℕ) → All (λ node. node ≤ count) nodes → first_len nodes < length nodes
    → All (IsNode count) (take (first_len nodes) nodes)
nodes_before count nodes most within = λ k d inside.
    let size = first_len nodes in
    let here : k < size = omega (arith, length-take size nodes, inside) in
    let passes : not (get_or nodes k d == 0) ≡ true = prefix_len_passes (λ node. not (node == 0)) nodes k d here in
    let same : get_or (take size nodes) k d ≡ get_or nodes k d = get_or-take size nodes k d here in
    rw same (some_node (get_or nodes k d) passes, most k d (omega arith))
  where
    some_node : (node : ℕ) → not (node == 0) ≡ true → 1 ≤ node
    some_node zero passes = absurd (false≢true passes)
    some_node (suc node) passes = omega arith

-- the list at a place, and those behind it
pub next_list : (nodes rest : List ℕ) (place end : ℕ) → drop place (lists_in nodes) ≡ lists_in rest → end ≡ first_len rest
    → first_len rest < length rest → (get_or (lists_in nodes) place [] ≡ take end rest)
    × (drop (place + 1) (lists_in nodes) ≡ lists_in (drop (end + 1) rest)) × (place < length (lists_in nodes))
next_list nodes rest place end left is within =
    let cut : drop place (lists_in nodes) ≡ take (first_len rest) rest ∷ lists_in (drop (first_len rest + 1) rest) =
    left ∙ lists_cut rest within in
    rw is (drop_first (lists_in nodes) place [] (take (first_len rest) rest) (lists_in (drop (first_len rest + 1) rest)) cut)

-- ---- the verdict on a solution of an open instance is that on the texts it was opened with

-- ---- a solution that isn't judged

stops_held : (opened : Open) (claimed : Option ℤ) (strict : Bool) (two : List ℕ) (one : List ℕ) (given : GivenText) (fault : RunFault)
    → IsOpenOn one given opened → IsNotJudged two opened fault → StopsCheck given claimed strict one two (without_devices fault)
stops_held opened claimed strict two one given (File file (read_faults.Line line word found)) is ends =
    inr (inl ((opened.instance, is.0), (ends.0, ends.1)))
stops_held opened claimed strict two one given (File file (read_faults.End found)) is ends =
    inr (inl ((opened.instance, is.0), (ends.0, ends.1)))
stops_held opened claimed strict two one given (File file read_faults.TooLong) is ends =
    inr (inl ((opened.instance, is.0), (ends.0, ends.1)))
stops_held opened claimed strict two one given (File file read_faults.OutOfMemory) is ends = inr (inl (ends.0, (opened.instance, is.0)))
stops_held opened claimed strict two one given (File file read_faults.Device) is ends = absurd ends.1
stops_held opened claimed strict two one given WrongKind is ends = absurd ends
stops_held opened claimed strict two one given OutOfMemory is ends = (
  opened.instance,
  ends.0,
  opened.certificate,
  record { first_file = is.0; second_file = ends.1; third_file = is.1 },
  ends.2,
)
stops_held opened claimed strict two one given (Relayout refused) is ends = absurd ends
stops_held opened claimed strict two one given (Write found) is ends = absurd ends

no_relayout : (opened : Open) (two : List ℕ) (fault : RunFault) (refused : RelayoutFault) → fault ≡ Relayout refused
    → IsNotJudged two opened fault → ⊥
no_relayout opened two fault refused is ends = none (subst (λ (f : RunFault). IsNotJudged two opened f) is ends)
  where
    none : IsNotJudged two opened (Relayout refused) → ⊥
    none ended = ended

pub fault_as_texts : (opened : Open) (claimed : Option ℤ) (strict : Bool) (two : List ℕ) (fault : RunFault) (written : List ℕ) (status : ℕ)
    (text : List ℕ) → IsNotJudged two opened fault → EndsOnTexts (Err fault) written status text
    → ChecksAsTexts opened claimed strict two status text
fault_as_texts opened claimed strict two fault written status text ends e one given is =
    fault_ends fault written status text (stops_held opened claimed strict two one given fault is ends) e

-- the status of a fault is neither that of the line `yes` nor that of the line `no`
above_one : (opened : Open) (two : List ℕ) (fault : RunFault) (written : List ℕ) (status : ℕ) (text : List ℕ)
    → IsNotJudged two opened fault → EndsOnTexts (Err fault) written status text → status ≤ 1 → ⊥
above_one opened two fault written status text ends (inl e) low =
    let says = fault_status fault in
    let some : 1 ≤ status_of_fault (without_devices fault) = says.some in
    let is : status ≡ status_of_fault (without_devices fault) = e.0 in
    let one : status_of_fault (without_devices fault) ≡ 1 = omega (arith, some, is, low) in
    let refused = says.relayout one in no_relayout opened two fault refused.0 refused.1 ends
above_one opened two fault written status text ends (inr e) low = let three : status ≡ 3 = e.0 in omega (arith, three, low)

-- no device fails that a text in memory is read from
status_kept : (opened : Open) (two : List ℕ) (fault : RunFault) → IsNotJudged two opened fault
    → status_of_fault (without_devices fault) ≡ status_of_fault fault
status_kept opened two (File file (read_faults.Line line word found)) ends = refl
status_kept opened two (File file (read_faults.End found)) ends = refl
status_kept opened two (File file read_faults.TooLong) ends = refl
status_kept opened two (File file read_faults.OutOfMemory) ends = refl
status_kept opened two (File file read_faults.Device) ends = absurd ends.1
status_kept opened two WrongKind ends = refl
status_kept opened two OutOfMemory ends = refl
status_kept opened two (Relayout refused) ends = absurd ends
status_kept opened two (Write found) ends = absurd ends

-- the status 2 is that of the fault
status_of_it : (opened : Open) (two : List ℕ) (fault : RunFault) (written : List ℕ) (status : ℕ) (text : List ℕ)
    → IsNotJudged two opened fault → EndsOnTexts (Err fault) written status text → status ≡ 2 → status ≡ status_of_fault fault
status_of_it opened two fault written status text ends (inl e) two_is = e.0 ∙ status_kept opened two fault ends
status_of_it opened two fault written status text ends (inr e) two_is =
    let three : status ≡ 3 = e.0 in absurd (omega (arith, three, two_is))

pub fault_in_numbers : (opened : Open) (claimed : Option ℤ) (strict : Bool) (two : List ℕ) (fault : RunFault) (written : List ℕ) (status : ℕ)
    (text : List ℕ) (made call_result : CallResult) → IsNotJudged two opened fault → made ≡ result_of_fault fault
    → (status ≢ 3 → call_result ≡ made) → (status ≡ 3 → call_result ≡ blank_result) → EndsOnTexts (Err fault) written status text
    → TellsJudged opened claimed strict two status call_result
fault_in_numbers opened claimed strict two fault written status text made call_result ends is kept none e = record {
  judged = λ low. absurd (above_one opened two fault written status text ends e low);
  faulty = λ two_is. (
    fault,
    ends,
    kept (λ three. absurd (omega (arith, three, two_is))) ∙ is,
    status_of_it opened two fault written status text ends e two_is,
  );
  refused = none;
}

-- ---- a verdict

are_spelled : (opened : Open) (claimed : Option ℤ) (one two : List ℕ) (given : GivenText) (verdict : Verdict) (is : IsHeldVerdict two claimed opened verdict)
    → IsOpenOn one given opened → AreSpelled given one two opened.instance is.solution opened.certificate
are_spelled opened claimed one two given verdict is texts_are = record {
  first_file = texts_are.0;
  second_file = is.spelled;
  third_file = texts_are.1;
}

-- the meaning of the line `yes` of a report on an open instance
abbrev pub Means : Open → Option ℤ → Bool → Fields → Verdict → Type 0
Means opened claimed strict solution verdict = true ≡ is_yes verdict
    → IsAccepted opened.certificate claimed opened.instance solution (report_of opened.instance verdict)
    × (strict ≡ true → IsJudgedWhole opened.instance)

pub means_asked : (opened : Open) (claimed : Option ℤ) (strict : Bool) (solution : Fields) (plain verdict : Verdict)
    → (true ≡ is_yes plain → IsAccepted opened.certificate claimed opened.instance solution (report_of opened.instance plain))
    → verdict ≡ strict_verdict (strict_reason strict opened.instance) plain → Means opened claimed strict solution verdict
means_asked opened claimed strict solution plain verdict accepts asked agrees =
    let kept = accepted_before (strict_reason strict opened.instance) plain (sym (agrees ∙ ap is_yes asked)) in
    let same : verdict ≡ plain = asked ∙ kept.0 in (
      subst (λ (v : Verdict). IsAccepted opened.certificate claimed opened.instance solution (report_of opened.instance v))
          (sym same) (accepts (agrees ∙ ap is_yes same)),
      judged_whole strict opened.instance kept.1,
    )

pub sized_asked : (strict : Option Reason) (plain verdict : Verdict) → IsSized plain → verdict ≡ strict_verdict strict plain → IsSized verdict
sized_asked strict plain verdict is asked = subst IsSized (sym asked) (kept strict plain is)
  where
    kept : (strict : Option Reason) (plain : Verdict) → IsSized plain → IsSized (strict_verdict strict plain)
    kept None plain is = is
    kept (Some reason) (Tour length_is bound) is = tt
    kept (Some reason) (Routes length_is routes least bound) is = tt
    kept (Some reason) (No other) is = tt

accepted : (opened : Open) (claimed : Option ℤ) (strict : Bool) (one two written : List ℕ) (given : GivenText) (verdict : Verdict)
    (is : IsHeldAsked two claimed strict opened verdict) → Means opened claimed strict is.1.solution verdict
    → written ≡ report_of opened.instance verdict → IsOpenOn one given opened → true ≡ is_yes verdict
    → IsAcceptedText given claimed strict one two written
accepted opened claimed strict one two written given verdict is means printed texts_are agrees = record {
  instance = opened.instance;
  solution = is.1.solution;
  certificate = opened.certificate;
  spelled = are_spelled opened claimed one two given is.0 is.1 texts_are;
  meaning = subst (IsAccepted opened.certificate claimed opened.instance is.1.solution) (sym printed) (means agrees).0;
  all_judged = (means agrees).1;
}

verdict_as_texts : (opened : Open) (claimed : Option ℤ) (strict : Bool) (one two written : List ℕ) (given : GivenText) (verdict : Verdict)
    (status : ℕ) (text : List ℕ) (is : IsHeldAsked two claimed strict opened verdict) → Means opened claimed strict is.1.solution verdict
    → written ≡ report_of opened.instance verdict → IsOpenOn one given opened → EndsOnTexts (Ok (is_yes verdict)) written status text
    → ChecksTexts given claimed strict one two status text
verdict_as_texts opened claimed strict one two written given (Tour length_is bound) status text is means printed texts_are e =
    yes_ends written status text
    (accepted opened claimed strict one two written given (Tour length_is bound) is means printed texts_are refl) e
verdict_as_texts opened claimed strict one two written given (Routes length_is routes least bound) status text is means printed texts_are e =
    yes_ends written status text
    (accepted opened claimed strict one two written given (Routes length_is routes least bound) is means printed texts_are refl) e
verdict_as_texts opened claimed strict one two written given (No reason) status text is means printed texts_are e =
    no_ends written status text (record {
      instance = opened.instance;
      solution = is.1.solution;
      certificate = opened.certificate;
      spelled = are_spelled opened claimed one two given is.0 is.1 texts_are;
      of_type = is.1.of_type;
      reason = reason;
      judged = (is.0, is.1.judged, is.2);
      printed = printed;
    }) e

-- a writer into memory fails only if it is out of memory
unwritten : (fault : RunFault) (written : List ℕ) (status : ℕ) (text : List ℕ)
    → fault ≡ Write write_faults.Device → EndsOnTexts (Err fault) written status text → status ≡ 3
unwritten fault written status text is (inl e) = e.0 ∙ ap (λ (f : RunFault). status_of_fault (without_devices f)) is
unwritten fault written status text is (inr e) = e.0

pub reported_as_texts : (opened : Open) (claimed : Option ℤ) (strict : Bool) (two : List ℕ) (verdict : Verdict) (sink : Sink) (answer : Result Bool RunFault)
    (written : List ℕ) (status : ℕ) (text : List ℕ) (is : IsHeldAsked two claimed strict opened verdict) → Means opened claimed strict is.1.solution verdict
    → Collects sink written → Reports sink (report_of opened.instance verdict) (is_yes verdict) answer
    → EndsOnTexts answer written status text → ChecksAsTexts opened claimed strict two status text
reported_as_texts opened claimed strict two verdict sink (Ok answer) written status text is means collects reports e one given texts_are =
    verdict_as_texts opened claimed strict one two written given verdict status text is means
    (printed_is sink written (report_of opened.instance verdict) collects reports.0) texts_are
    (subst (λ (b : Bool). EndsOnTexts (Ok b) written status text) reports.1 e)
reported_as_texts opened claimed strict two verdict sink (Err fault) written status text is means collects reports e one given texts_are =
    fault_ends fault written status text
    (subst (λ (f : RunFault). StopsCheck given claimed strict one two (without_devices f)) (sym reports) (
      verdict,
      (
        opened.instance,
        is.1.solution,
        opened.certificate,
        are_spelled opened claimed one two given is.0 is.1 texts_are,
        is.1.of_type,
        (is.0, is.1.judged, is.2),
      ),
    )) e

pub not_two : (answer : Bool) (status : ℕ) → status ≡ status_of (Ok answer) → status ≡ 2 → ⊥
not_two true status is two = let zero : status ≡ 0 = is in omega (arith, zero, two)
not_two false status is two = let one : status ≡ 1 = is in omega (arith, one, two)

pub reported_in_numbers : (opened : Open) (claimed : Option ℤ) (strict : Bool) (two : List ℕ) (verdict : Verdict) (sink : Sink) (answer : Result Bool RunFault)
    (written : List ℕ) (status : ℕ) (text : List ℕ) (made call_result : CallResult) → IsHeldAsked two claimed strict opened verdict
    → made ≡ result_of_verdict opened.instance verdict → (status ≢ 3 → call_result ≡ made) → (status ≡ 3 → call_result ≡ blank_result) → Reports sink (report_of opened.instance verdict) (is_yes verdict) answer
    → EndsOnTexts answer written status text → TellsJudged opened claimed strict two status call_result
reported_in_numbers opened claimed strict two verdict sink (Ok answer) written status text made call_result is numbers_are kept none reports e = record {
  judged = λ low. (verdict, is, kept (λ three. absurd (omega (arith, three, low))) ∙ numbers_are, e.0 ∙ ap (λ (b : Bool). status_of (Ok b)) reports.1);
  faulty = λ two_is. absurd (not_two answer status e.0 two_is);
  refused = none;
}
reported_in_numbers opened claimed strict two verdict sink (Err fault) written status text made call_result is numbers_are kept none reports e =
    let three : status ≡ 3 = unwritten fault written status text reports e in record {
      judged = λ low. absurd (omega (arith, three, low));
      faulty = λ two_is. absurd (omega (arith, three, two_is));
      refused = none;
    }
