-- For src/compare_run.rt: what a comparison has written after each solution; and for src/laws.rt, what its lines mean.
use Rattle.tsp_judge.proofs.Prelude.{◌≡◌, ◌||◌, ℕ, suc, ◌+◌, ◌<◌, ◌≤◌, List, [], ◌∷◌, ◌++◌, length, take, Option, true, false, Bool, refl, sym, ap, subst, ◌∙◌, append_assoc, append-nil, arith, inl, inr, add-one, ◌⊎◌, Appends-nil, Appends-trans, Appends-kept, max, Result, Ok, Err, IfOk, slice_index_or, Some, None, ℤ, IsTrue, ReadTrace, Sink, IsUnwritten, HasWritten, HasStopped, Writes, output_failed, sink_of, writer_of, read_trace_of, watched, has_failed, Fields, HasReads, IsReadOn, IsFile, most_taken, ReadFault, IsProblem, problem_of, routing_of, solution_line, IsSized, report_of, head_of, is_clear, is_yes, CertificateKind, AppliesToTouring, AppliesToRouting, AppliesToInstanceBy, AppliesToCertificate, HasNoSolutionBy, IsCertifiedTourVerdict, IsCertifiedRoutesVerdict, IsCertifiedVerdictBy, IsCertifiedVerdict, IsKnownBound, IsVerdictFrom, IsJudgedWhole, strict_reason, IsKnownBoundAsked, IsFoundWith, IsVerdictBy, IsVerdictWith}
use Rattle.std.proofs.lemmas.Bool.{false≢true}
use Rattle.std.specs.Io.KnownBytes.{Appends}
use Rattle.std.specs.declared.alloc.AllocError.{AllocError}
use Rattle.std.specs.declared.io.Error.{Error}
use Rattle.tsp_io.specs.declared.piece.WriteFault.{WriteFault}
use Rattle.tsp_io.specs.declared.piece.WriteFault.TheVariants as write_faults
use Rattle.tsp_io.specs.declared.watched.Output.{Output}
use Rattle.tsp_io.specs.declared.watched.Watched.{Watched}
use Rattle.tsp_format.specs.declared.kinds.Kind.{Kind}
use Rattle.tsp_format.specs.declared.kinds.Kind.TheVariants as kinds
use Rattle.tsp_theory.specs.Tour.{BoundsTours, HasNoTour}
use Rattle.tsp_routing.specs.PlanLinks.{BoundsPlans, HasNoPlan}
use Rattle.tsp_report.specs.declared.verdict.KnownBound.{KnownBound}
use Rattle.tsp_report.specs.declared.verdict.Reason.{Reason}
use Rattle.tsp_report.specs.declared.verdict.Verdict.{Verdict}
use Rattle.tsp_report.specs.declared.verdict.Verdict.TheVariants as verdicts
use Rattle.tsp_verdict.specs.SolutionReasons.{tours_of}
use Rattle.tsp_judge.proofs.Yeses.{sized, accepted, IsTspOrAtsp, type_of_tours, one_tour, only_routes}
use Rattle.tsp_verdict.proofs.KnownBounds.{against_tour, against_routes}
use Rattle.tsp_verdict.proofs.Unjudged.{clear_before, judged_whole}
use Rattle.tsp_judge.specs.Accepted.{IsAccepted, IsBoundedTour, AreBoundedRoutes}
use Rattle.tsp_judge.specs.CheckRun.{Given, IsUnreadIn, IsFileIn, ReadsFile, ReadsGiven}
use Rattle.tsp_judge.specs.CompareRun.{IsReadTraceAt, IsFoundIn, Finds, result_of, status_of_found, ComparesOne, AreFound, all_solution_lines, largest_status, ComparesAll, ComparesBy, ComparesOn, LacksKnownBound, AreReadOnce, EndsCompare, AreReported, most_reported}
use Rattle.tsp_judge.specs.declared.compare_run.ComparisonContext.{ComparisonContext}
use Rattle.tsp_judge.specs.declared.compare_run.Found.{Found}
use Rattle.tsp_judge.specs.declared.run_status.RunFault.{RunFault}
use Rattle.tsp_judge.specs.declared.run_status.RunFault.TheVariants.{File, WrongKind, Write, OutOfMemory, Relayout}

-- ---- one text after another

take-append-add : (xs ys : List ℕ) (n : ℕ) → take (length xs + n) (xs ++ ys) ≡ xs ++ take n ys
take-append-add [] ys n = let e : 0 + n ≡ n = omega arith in ap (λ k. take k ys) e
take-append-add (x ∷ xs) ys n =
    let e : suc (length xs) + n ≡ suc (length xs + n) = omega arith in
    ap (λ k. take k (x ∷ (xs ++ ys))) e ∙ ap (λ l. x ∷ l) (take-append-add xs ys n)

-- a text was written, and then another
pub written_then : {W : Type 0} {T : _} (contents : W → Option (List ℕ)) (a b c : Output W T) (x y : List ℕ) → HasWritten (sink_of contents a b) x → HasWritten (sink_of contents b c) y
    → HasWritten (sink_of contents a c) (x ++ y)
written_then contents a b c x y h k = (h.0, k.1, Appends-trans _ _ _ x y h.2 k.2)

-- a text was written, and then a prefix of another
pub stopped_then : {W : Type 0} {T : _} (contents : W → Option (List ℕ)) (a b c : Output W T) (x y : List ℕ) → HasWritten (sink_of contents a b) x → HasStopped (sink_of contents b c) y
    → HasStopped (sink_of contents a c) (x ++ y)
stopped_then contents a b c x y h k = (
  k.0,
  (λ had. absurd (false≢true (sym h.0 ∙ had))),
  (length x + k.2.0, subst (λ t. Appends (contents (writer_of a)) (contents (writer_of c)) t) (sym (take-append-add x y k.2.0)) (Appends-trans (contents (writer_of a)) (contents (writer_of b)) (contents (writer_of c)) x (take k.2.0 y) h.2 k.2.1)),
)

-- a text was written, and then nothing
pub unwritten_then : {W : Type 0} {T : _} (contents : W → Option (List ℕ)) (a b c : Output W T) (x : List ℕ) → HasWritten (sink_of contents a b) x → IsUnwritten (sink_of contents b c)
    → HasWritten (sink_of contents a c) x
unwritten_then contents a b c x h k = (h.0, k.1 ∙ h.1, Appends-kept _ _ _ x h.2 k.0)

-- ---- one solution

-- the read trace of a reader that was opened, and has not failed before
pub read_trace_at : {R : Type 0} (remaining : R → Option (List ℕ)) (gives : R → List ℕ → Result ℕ Error → List ℕ → R → Type 0) (opens : ℕ → Result R AllocError → Type 0) (place : ℕ) (reader : R)
    (old new : Watched R) (given : List ℕ) → opens place (Ok reader) → watched old ≡ reader → has_failed old ≡ false → IsReadOn gives old new → length given ≤ most_taken
    → IsReadTraceAt remaining gives opens place (Some (read_trace_of remaining old new given))
read_trace_at remaining gives opens place reader old new given opened is sound on few =
    let failed : has_failed new ≡ on.1 = on.3 ∙ ap (λ b. b || on.1) sound in record {
      reader = reader;
      opened = opened;
      known = ap remaining is;
      sound = sound;
      asked = (
        on.0,
        watched new,
        subst (λ r. HasReads gives on.0 r (watched new) (has_failed new)) is
            (subst (λ (b : Bool). HasReads gives on.0 (watched old) (watched new) b) (sym failed) on.2),
      );
      few = few;
    }

-- the verdict from what is known of all is that of a check
pub found_judged : (common : ComparisonContext) (read_trace : ReadTrace) (solution : Fields) (verdict : Verdict) → IsProblem common.instance → IsKnownBound common.certificate common.instance common.known_bound
    → IsFile read_trace solution → IsVerdictFrom common.known_bound None common.instance solution verdict → IsFoundIn common read_trace (Ok verdict)
found_judged common read_trace solution verdict problem known_bound file v =
    let checked = v.1 common.certificate known_bound in
    (solution, file, checked, v.0, λ yes. accepted common.certificate None common.instance solution verdict problem known_bound.0 checked (sym yes))

pub found_sized : (common : ComparisonContext) (read_trace : ReadTrace) (found : Result Verdict ReadFault) → IsFoundIn common read_trace found → IfOk found IsSized
found_sized common read_trace (Ok verdict) h = sized common.certificate None common.instance h.0 verdict h.2
found_sized common read_trace (Err fault) h = tt

pub one_refused : (IsReadTrace : ℕ → Option ReadTrace → Type 0) (paths : List (List ℕ)) (common : ComparisonContext) (place : ℕ) (sink : Sink) (read_trace : ReadTrace) (fault : RunFault) → IsReadTrace place (Some read_trace)
    → Finds common read_trace (Err fault) → IsUnwritten sink → ComparesOne IsReadTrace paths common place sink (Err fault)
one_refused IsReadTrace paths common place sink read_trace OutOfMemory is refused unwritten = ((Some read_trace, is, refused), unwritten)
one_refused IsReadTrace paths common place sink read_trace (Write fault) is refused unwritten = absurd refused
one_refused IsReadTrace paths common place sink read_trace WrongKind is refused unwritten = absurd refused
one_refused IsReadTrace paths common place sink read_trace (File file fault) is refused unwritten = absurd refused
one_refused IsReadTrace paths common place sink read_trace (Relayout fault) is refused unwritten = absurd refused

pub one_stopped : (IsReadTrace : ℕ → Option ReadTrace → Type 0) (paths : List (List ℕ)) (common : ComparisonContext) (place : ℕ) (sink : Sink) (read_trace : ReadTrace) (found : Result Verdict ReadFault) (fault : WriteFault)
    → IsReadTrace place (Some read_trace) → IsFoundIn common read_trace found → Writes sink (solution_line found (slice_index_or paths place [])) (Err fault)
    → ComparesOne IsReadTrace paths common place sink (Err (Write fault))
one_stopped IsReadTrace paths common place sink read_trace found write_faults.Device is finds writes = (read_trace, is, (found, finds, writes))
one_stopped IsReadTrace paths common place sink read_trace found write_faults.OutOfMemory is finds writes = absurd writes

-- ---- one solution after another

abbrev pub IsOneOf : (ℕ → Option ReadTrace → Type 0) → ComparisonContext → ℕ → Result Verdict ReadFault → Type 0
IsOneOf IsReadTrace common place found = (read_trace : ReadTrace) × IsReadTrace place (Some read_trace) × IsFoundIn common read_trace found

pub found_next : (IsReadTrace : ℕ → Option ReadTrace → Type 0) (common : ComparisonContext) (place : ℕ) (found : List (Result Verdict ReadFault)) (next : Result Verdict ReadFault)
    → AreFound IsReadTrace common place found → IsOneOf IsReadTrace common (place + length found) next → AreFound IsReadTrace common place (found ++ next ∷ [])
found_next IsReadTrace common place [] next h k = (subst (λ p. IsOneOf IsReadTrace common p next) (omega arith) k, tt)
found_next IsReadTrace common place (first ∷ rest) next h k =
    (h.0, found_next IsReadTrace common (suc place) rest next h.1 (subst (λ p. IsOneOf IsReadTrace common p next) (omega arith) k))

pub lines_next : (found : List (Result Verdict ReadFault)) (paths : List (List ℕ)) (next : Result Verdict ReadFault) → length found < length paths
    → all_solution_lines found paths ++ solution_line next (slice_index_or paths (length found) []) ≡ all_solution_lines (found ++ next ∷ []) paths
lines_next [] [] next more = absurd (omega (arith, more))
lines_next [] (path ∷ paths) next more = sym (append-nil (solution_line next path))
lines_next (first ∷ rest) [] next more = absurd (omega (arith, more))
lines_next (first ∷ rest) (path ∷ paths) next more =
    append_assoc (solution_line first path) (all_solution_lines rest paths) (solution_line next (slice_index_or paths (length rest) []))
    ∙ ap (λ t. solution_line first path ++ t) (lines_next rest paths next (omega (arith, more)))

pub status_next : (found : List (Result Verdict ReadFault)) (next : Result Verdict ReadFault)
    → max (status_of_found next) (largest_status found) ≡ largest_status (found ++ next ∷ [])
status_next [] next = refl
status_next (first ∷ rest) next =
    let more : max (status_of_found next) (largest_status rest) ≡ largest_status (rest ++ next ∷ []) = status_next rest next in
    omega (arith, more)

pub length_next : (found : List (Result Verdict ReadFault)) (next : Result Verdict ReadFault) → length (found ++ next ∷ []) ≡ length found + 1
length_next [] next = refl
length_next (first ∷ rest) next = let more : length (rest ++ next ∷ []) ≡ length rest + 1 = length_next rest next in omega (arith, more)

-- What has come of the first solutions, as many as this, of which the largest status is known.
pub record HasCompared (IsReadTrace : ℕ → Option ReadTrace → Type 0) (paths : List (List ℕ)) (common : ComparisonContext) (sink : Sink) (count status : ℕ) : Type 0 where
  pub found : List (Result Verdict ReadFault)
  pub are : AreFound IsReadTrace common 0 found
  pub counted : length found ≡ count
  pub written : HasWritten sink (all_solution_lines found paths)
  pub largest : status ≡ largest_status found

pub compared_none : {W : Type 0} {T : _} (contents : W → Option (List ℕ)) (a : Output W T) (IsReadTrace : ℕ → Option ReadTrace → Type 0) (paths : List (List ℕ)) (common : ComparisonContext) → output_failed a ≡ false
    → HasCompared IsReadTrace paths common (sink_of contents a a) 0 0
compared_none contents a IsReadTrace paths common sound = record {
  found = [];
  are = tt;
  counted = refl;
  written = (sound, sound, Appends-nil (contents (writer_of a)));
  largest = refl;
}

pub compared_next : {W : Type 0} {T : _} (contents : W → Option (List ℕ)) (a b c : Output W T) (IsReadTrace : ℕ → Option ReadTrace → Type 0) (paths : List (List ℕ)) (common : ComparisonContext) (count status : ℕ) (found : Found)
    → HasCompared IsReadTrace paths common (sink_of contents a b) count status → count < length paths → ComparesOne IsReadTrace paths common count (sink_of contents b c) (Ok found)
    → HasCompared IsReadTrace paths common (sink_of contents a c) (count + 1) (max (status_of_found (result_of found)) status)
compared_next contents a b c IsReadTrace paths common count status found h more k =
    let next = result_of found in
    let line = subst (λ n. HasWritten (sink_of contents b c) (solution_line next (slice_index_or paths n []))) (sym h.counted) k.3 in
    record {
      found = h.found ++ next ∷ [];
      are = found_next IsReadTrace common 0 h.found next h.are (k.0, subst (λ n. IsReadTrace n (Some k.0)) (sym h.counted ∙ omega arith) k.1, k.2);
      counted = length_next h.found next ∙ ap (λ n. n + 1) h.counted;
      written = subst (HasWritten (sink_of contents a c)) (lines_next h.found paths next (omega (arith, h.counted, more)))
          (written_then contents a b c (all_solution_lines h.found paths) _ h.written line);
      largest = ap (λ s. max (status_of_found next) s) h.largest ∙ status_next h.found next;
    }

-- one solution ends the comparison
pub compared_ends : {W : Type 0} {T : _} (contents : W → Option (List ℕ)) (a b c : Output W T) (IsReadTrace : ℕ → Option ReadTrace → Type 0) (paths : List (List ℕ)) (common : ComparisonContext) (count status : ℕ) (fault : RunFault)
    → HasCompared IsReadTrace paths common (sink_of contents a b) count status → count < length paths → ComparesOne IsReadTrace paths common count (sink_of contents b c) (Err fault)
    → ComparesAll IsReadTrace paths common [] (sink_of contents a c) (Err fault)
compared_ends contents a b c IsReadTrace paths common count status OutOfMemory h more k = (
  h.found,
  h.are,
  omega (arith, h.counted, more),
  (k.0.0, subst (λ n. IsReadTrace n k.0.0) (sym h.counted) k.0.1, k.0.2),
  unwritten_then contents a b c (all_solution_lines h.found paths) h.written k.1,
)
compared_ends contents a b c IsReadTrace paths common count status (Write write_faults.Device) h more k =
    let next = k.2.0 in
    let line = subst (λ n. HasStopped (sink_of contents b c) (solution_line next (slice_index_or paths n []))) (sym h.counted) k.2.2 in (
      h.found ++ next ∷ [],
      found_next IsReadTrace common 0 h.found next h.are (k.0, subst (λ n. IsReadTrace n (Some k.0)) (sym h.counted ∙ omega arith) k.1, k.2.1),
      omega (arith, length_next h.found next, h.counted, more),
      subst (HasStopped (sink_of contents a c)) (lines_next h.found paths next (omega (arith, h.counted, more)))
          (stopped_then contents a b c (all_solution_lines h.found paths) _ h.written line),
    )
compared_ends contents a b c IsReadTrace paths common count status (Write write_faults.OutOfMemory) h more k = absurd k
compared_ends contents a b c IsReadTrace paths common count status WrongKind h more k = absurd k
compared_ends contents a b c IsReadTrace paths common count status (File file fault) h more k = absurd k
compared_ends contents a b c IsReadTrace paths common count status (Relayout fault) h more k = absurd k

pub compared_all : {W : Type 0} {T : _} (contents : W → Option (List ℕ)) (a b : Output W T) (IsReadTrace : ℕ → Option ReadTrace → Type 0) (paths : List (List ℕ)) (common : ComparisonContext) (count status : ℕ)
    → HasCompared IsReadTrace paths common (sink_of contents a b) count status → count ≡ length paths → ComparesAll IsReadTrace paths common [] (sink_of contents a b) (Ok status)
compared_all contents a b IsReadTrace paths common count status h all = (h.found, h.are, h.counted ∙ all, h.written, h.largest)

-- ---- the head before them

pub after_head : {W : Type 0} {T : _} (contents : W → Option (List ℕ)) (a b c : Output W T) (IsReadTrace : ℕ → Option ReadTrace → Type 0) (paths : List (List ℕ)) (common : ComparisonContext) (head : List ℕ) (ended : Result ℕ RunFault)
    → HasWritten (sink_of contents a b) head → ComparesAll IsReadTrace paths common [] (sink_of contents b c) ended → ComparesAll IsReadTrace paths common head (sink_of contents a c) ended
after_head contents a b c IsReadTrace paths common head (Ok status) h k = (k.0, k.1, k.2, written_then contents a b c head (all_solution_lines k.0 paths) h k.3, k.4)
after_head contents a b c IsReadTrace paths common head (Err OutOfMemory) h k = (k.0, k.1, k.2, k.3, written_then contents a b c head (all_solution_lines k.0 paths) h k.4)
after_head contents a b c IsReadTrace paths common head (Err (Write write_faults.Device)) h k = (k.0, k.1, k.2, stopped_then contents a b c head (all_solution_lines k.0 paths) h k.3)
after_head contents a b c IsReadTrace paths common head (Err (Write write_faults.OutOfMemory)) h k = absurd k
after_head contents a b c IsReadTrace paths common head (Err WrongKind) h k = absurd k
after_head contents a b c IsReadTrace paths common head (Err (File file fault)) h k = absurd k
after_head contents a b c IsReadTrace paths common head (Err (Relayout fault)) h k = absurd k

-- the writer fails at the head
pub head_stopped : (clear : Bool) (IsReadTrace : ℕ → Option ReadTrace → Type 0) (paths : List (List ℕ)) (common : ComparisonContext) (sink : Sink) (fault : WriteFault)
    → Writes sink (head_of common.instance common.known_bound) (Err fault) → ComparesBy clear IsReadTrace paths common sink (Err (Write fault))
head_stopped true IsReadTrace paths common sink write_faults.Device stops =
    ([], tt, omega arith, subst (HasStopped sink) (sym (append-nil (head_of common.instance common.known_bound))) stops)
head_stopped false IsReadTrace paths common sink write_faults.Device stops = stops
head_stopped true IsReadTrace paths common sink write_faults.OutOfMemory stops = absurd stops
head_stopped false IsReadTrace paths common sink write_faults.OutOfMemory stops = absurd stops

-- ---- the files that are read once

pub compare_first_stops : (strict : Bool) (IsReadTrace : ℕ → Option ReadTrace → Type 0) (paths : List (List ℕ)) (given : Given) (first : ReadTrace) (sink : Sink) (fault : RunFault) → ReadsFile 1 first (Err fault)
    → IsUnreadIn given → IsUnwritten sink → EndsCompare strict IsReadTrace paths given first sink fault
compare_first_stops strict IsReadTrace paths given first sink (File place fault) stops two unwritten = (unwritten, inl (stops.0, stops.1, two))
compare_first_stops strict IsReadTrace paths given first sink WrongKind stops two unwritten = absurd stops
compare_first_stops strict IsReadTrace paths given first sink (Write fault) stops two unwritten = absurd stops
compare_first_stops strict IsReadTrace paths given first sink OutOfMemory stops two unwritten = absurd stops
compare_first_stops strict IsReadTrace paths given first sink (Relayout fault) stops two unwritten = absurd stops

pub compare_second_stops : (strict : Bool) (IsReadTrace : ℕ → Option ReadTrace → Type 0) (paths : List (List ℕ)) (given : Given) (first : ReadTrace) (instance : Fields) (sink : Sink) (fault : RunFault) → IsFile first instance
    → ReadsGiven 2 given (Err fault) → IsUnwritten sink → EndsCompare strict IsReadTrace paths given first sink fault
compare_second_stops strict IsReadTrace paths None first instance sink fault one stops unwritten = absurd stops
compare_second_stops strict IsReadTrace paths (Some second) first instance sink (File place fault) one stops unwritten =
    (unwritten, inr (second, refl, stops.0, (instance, one), stops.1))
compare_second_stops strict IsReadTrace paths (Some second) first instance sink WrongKind one stops unwritten = absurd stops
compare_second_stops strict IsReadTrace paths (Some second) first instance sink (Write fault) one stops unwritten = absurd stops
compare_second_stops strict IsReadTrace paths (Some second) first instance sink OutOfMemory one stops unwritten = absurd stops
compare_second_stops strict IsReadTrace paths (Some second) first instance sink (Relayout fault) one stops unwritten = absurd stops

-- ---- a comparison that ends early

pub ends_lacking : (strict : Bool) (IsReadTrace : ℕ → Option ReadTrace → Type 0) (paths : List (List ℕ)) (given : Given) (first : ReadTrace) (instance : Fields) (certificate : Option (CertificateKind × Fields)) (sink : Sink)
    (fault : RunFault) → IsFile first instance → IsFileIn given certificate → LacksKnownBound certificate instance fault → IsUnwritten sink → EndsCompare strict IsReadTrace paths given first sink fault
ends_lacking strict IsReadTrace paths given first instance certificate sink (File place fault) one two lacks unwritten = absurd lacks
ends_lacking strict IsReadTrace paths given first instance certificate sink WrongKind one two lacks unwritten = inl (instance, certificate, one, two, lacks, unwritten)
ends_lacking strict IsReadTrace paths given first instance certificate sink (Write fault) one two lacks unwritten = absurd lacks
ends_lacking strict IsReadTrace paths given first instance certificate sink OutOfMemory one two lacks unwritten = inl (instance, certificate, one, two, lacks, unwritten)
ends_lacking strict IsReadTrace paths given first instance certificate sink (Relayout fault) one two lacks unwritten = absurd lacks

no_file : (opened : Bool) (IsReadTrace : ℕ → Option ReadTrace → Type 0) (paths : List (List ℕ)) (common : ComparisonContext) (sink : Sink) (place : ℕ) (fault : ReadFault)
    → ComparesBy opened IsReadTrace paths common sink (Err (File place fault)) → ⊥
no_file true IsReadTrace paths common sink place fault c = c
no_file false IsReadTrace paths common sink place fault c = c

pub ends_comparing : (strict : Bool) (IsReadTrace : ℕ → Option ReadTrace → Type 0) (paths : List (List ℕ)) (given : Given) (first : ReadTrace) (common : ComparisonContext) (sink : Sink) (fault : RunFault) → AreReadOnce given first common
    → ComparesOn strict IsReadTrace paths common sink (Err fault) → EndsCompare strict IsReadTrace paths given first sink fault
ends_comparing strict IsReadTrace paths given first common sink (File place fault) read c = absurd (no_file _ IsReadTrace paths common sink place fault c.1)
ends_comparing strict IsReadTrace paths given first common sink WrongKind read c = inr (common, read, c)
ends_comparing strict IsReadTrace paths given first common sink (Write fault) read c = inr (common, read, c)
ends_comparing strict IsReadTrace paths given first common sink OutOfMemory read c = inr (common, read, c)
ends_comparing strict IsReadTrace paths given first common sink (Relayout fault) read c = inr (common, read, c)

-- if solutions are judged one by one, the known bound is the one without a look at lines that aren't judged
pub clear_known_bound : (strict : Bool) (given : Option (CertificateKind × Fields)) (instance : Fields) (known_bound : KnownBound) → IsKnownBoundAsked strict given instance known_bound
    → is_clear known_bound ≡ true → IsKnownBound given instance known_bound
clear_known_bound strict given instance known_bound asked clear =
    subst (IsKnownBound given instance) (sym (asked.2 ∙ (clear_before (strict_reason strict instance) asked.0 (subst (λ b. is_clear b ≡ true) asked.2 clear)).0)) asked.1

-- ---- the follower of a comparison is called once for each solution, in order

pub reported_next : {E : Type 0} (tells : ℕ → E → E → Type 0) (count : ℕ) (first next last : E) → AreReported tells count first next → tells count next last
    → AreReported tells (count + 1) first last
reported_next tells count first next last some more = rw (add-one count) (next, some, more)

-- of those before the solution that ends the comparison
pub reported_before : (IsReadTrace : ℕ → Option ReadTrace → Type 0) (paths : List (List ℕ)) (common : ComparisonContext) (place : ℕ) (sink : Sink) (fault : RunFault) (count : ℕ) → place < count
    → ComparesOne IsReadTrace paths common place sink (Err fault) → place ≤ most_reported fault count
reported_before IsReadTrace paths common place sink OutOfMemory count more k = omega (arith, more)
reported_before IsReadTrace paths common place sink (Write fault) count more k = omega (arith, more)
reported_before IsReadTrace paths common place sink WrongKind count more k = absurd k
reported_before IsReadTrace paths common place sink (File file fault) count more k = absurd k
reported_before IsReadTrace paths common place sink (Relayout fault) count more k = absurd k

-- ---- what the lines of a comparison mean

-- ---- a tour with a bound

bounded_in : (by : CertificateKind) (instance solution certificate : Fields) (length bound : ℤ) → IsProblem instance → IsTspOrAtsp instance.kind
    → IsCertifiedTourVerdict by instance solution certificate (verdicts.Tour length (Some bound)) → IsBoundedTour instance solution length bound
bounded_in by instance solution certificate length bound problem type v =
    let b = v.1 in
    let same : b.least ≡ bound = some_same bound b.least b.bound_is in
    record {
      problem = problem_of instance;
      of_instance = problem.of_tours type;
      tour = b.tour;
      only = one_tour solution b.tour b.only;
      is_tour = b.tour_of;
      measured = b.measured;
      below_tours = subst (λ low. BoundsTours (problem_of instance) low) same b.below_tours;
    }
  where
    some_same : (x y : ℤ) → Some x ≡ Some y → y ≡ x
    some_same x y e = cc

-- plan: by the solution that is accepted: a tour is of a TYPE whose problem has tours; no tour is a verdict on routes
bounded_tour : (by : CertificateKind) (instance solution certificate : Fields) (length bound : ℤ) (report : List ℕ) → IsProblem instance
    → IsCertifiedVerdict by instance solution certificate (verdicts.Tour length (Some bound))
    → IsAccepted (Some (by, certificate)) None instance solution report → IsBoundedTour instance solution length bound
bounded_tour by instance solution certificate length bound report problem v (inl accepted) =
    of_tours (type_of_tours accepted.problem.directed instance.kind accepted.only_tour.of_instance.type)
  where
    of_tours : IsTspOrAtsp instance.kind → IsBoundedTour instance solution length bound
    of_tours (inl tsp) = bounded_in by instance solution certificate length bound problem (inl tsp)
        (subst (λ k. IsCertifiedVerdictBy k by instance solution certificate (verdicts.Tour length (Some bound))) tsp v)
    of_tours (inr atsp) = bounded_in by instance solution certificate length bound problem (inr atsp)
        (subst (λ k. IsCertifiedVerdictBy k by instance solution certificate (verdicts.Tour length (Some bound))) atsp v)
bounded_tour by instance solution certificate length bound report problem v (inr accepted) =
    absurd (subst (λ k. IsCertifiedVerdictBy k by instance solution certificate (verdicts.Tour length (Some bound))) accepted.only_routes.of_instance.type v)

pub bounded_line : (common : ComparisonContext) (read_trace : ReadTrace) (by : CertificateKind) (certificate : Fields) (length bound : ℤ) → IsProblem common.instance
    → common.certificate ≡ Some (by, certificate) → IsFoundIn common read_trace (Ok (verdicts.Tour length (Some bound)))
    → (solution : Fields) × IsFile read_trace solution × IsBoundedTour common.instance solution length bound
bounded_line common read_trace by certificate length bound problem is found = (
  found.0,
  found.1,
  bounded_tour by common.instance found.0 certificate length bound (report_of common.instance (verdicts.Tour length (Some bound))) problem
      (subst (λ given. IsVerdictWith given None common.instance found.0 (verdicts.Tour length (Some bound))) is found.2)
      (subst (λ given. IsAccepted given None common.instance found.0 (report_of common.instance (verdicts.Tour length (Some bound)))) is (found.4 refl)),
)

-- plan: the same of routes; no plan is a verdict on a tour
bounded_plan : (by : CertificateKind) (instance solution certificate : Fields) (length bound : ℤ) (count least : ℕ) → IsProblem instance → instance.kind ≡ Some kinds.Cvrp
    → IsCertifiedRoutesVerdict by instance solution certificate (verdicts.Routes length count least (Some bound)) → AreBoundedRoutes instance solution length bound
bounded_plan by instance solution certificate length bound count least problem type v =
    let b = v.1 in
    let only = only_routes None instance solution length count least problem type (λ reason applies. v.0 reason (inl applies)) b.planned tt in
    let same : b.least ≡ bound = some_same bound b.least b.bound_is in
    record {
      problem = routing_of instance;
      of_instance = only.of_instance;
      routes = tours_of solution;
      all = only.all;
      filled = record { plan = b.planned.plan_of; each = b.planned.filled };
      measured = b.planned.measured;
      below_plans = subst (λ low. BoundsPlans (routing_of instance) low) same b.below_plans;
    }
  where
    some_same : (x y : ℤ) → Some x ≡ Some y → y ≡ x
    some_same x y e = cc

bounded_routes : (by : CertificateKind) (instance solution certificate : Fields) (length bound : ℤ) (count least : ℕ) (report : List ℕ) → IsProblem instance
    → IsCertifiedVerdict by instance solution certificate (verdicts.Routes length count least (Some bound))
    → IsAccepted (Some (by, certificate)) None instance solution report → AreBoundedRoutes instance solution length bound
bounded_routes by instance solution certificate length bound count least report problem v (inl accepted) =
    of_tours (type_of_tours accepted.problem.directed instance.kind accepted.only_tour.of_instance.type)
  where
    of_tours : IsTspOrAtsp instance.kind → AreBoundedRoutes instance solution length bound
    of_tours (inl tsp) = absurd (subst (λ k. IsCertifiedVerdictBy k by instance solution certificate (verdicts.Routes length count least (Some bound))) tsp v)
    of_tours (inr atsp) = absurd (subst (λ k. IsCertifiedVerdictBy k by instance solution certificate (verdicts.Routes length count least (Some bound))) atsp v)
bounded_routes by instance solution certificate length bound count least report problem v (inr accepted) =
    let type = accepted.only_routes.of_instance.type in
    bounded_plan by instance solution certificate length bound count least problem type
    (subst (λ k. IsCertifiedVerdictBy k by instance solution certificate (verdicts.Routes length count least (Some bound))) type v)

pub bounded_line_of_routes : (common : ComparisonContext) (read_trace : ReadTrace) (by : CertificateKind) (certificate : Fields) (length bound : ℤ) (count least : ℕ)
    → IsProblem common.instance → common.certificate ≡ Some (by, certificate) → IsFoundIn common read_trace (Ok (verdicts.Routes length count least (Some bound)))
    → (solution : Fields) × IsFile read_trace solution × AreBoundedRoutes common.instance solution length bound
bounded_line_of_routes common read_trace by certificate length bound count least problem is found = (
  found.0,
  found.1,
  bounded_routes by common.instance found.0 certificate length bound count least (report_of common.instance (verdicts.Routes length count least (Some bound))) problem
      (subst (λ given. IsVerdictWith given None common.instance found.0 (verdicts.Routes length count least (Some bound))) is found.2)
      (subst (λ given. IsAccepted given None common.instance found.0 (report_of common.instance (verdicts.Routes length count least (Some bound)))) is (found.4 refl)),
)

-- ---- lines that aren't judged as a reason against all solutions

-- if all solutions are judged, so is every line of the instance
pub all_judged : (given : Option (CertificateKind × Fields)) (instance : Fields) (known_bound : KnownBound) → IsKnownBoundAsked true given instance known_bound
    → is_clear known_bound ≡ true → IsJudgedWhole instance
all_judged given instance known_bound asked is =
    judged_whole true instance (clear_before (strict_reason true instance) asked.0 (sym (ap is_clear asked.2) ∙ is)).1 refl

-- and if none is judged, the head is the whole text
pub none_judged : (clear : Bool) (IsReadTrace : ℕ → Option ReadTrace → Type 0) (paths : List (List ℕ)) (common : ComparisonContext) (sink : Sink) (status : ℕ)
    → (clear ≡ true → ⊥) → ComparesBy clear IsReadTrace paths common sink (Ok status)
    → HasWritten sink (head_of common.instance common.known_bound) × (status ≡ 1)
none_judged true IsReadTrace paths common sink status not by = absurd (not refl)
none_judged false IsReadTrace paths common sink status not by = by

-- ---- the answer of a check

-- the first reason applies, and none if the solution is accepted
by_type : (kind : Option Kind) (instance solution : Fields) (accepted : Verdict) (reason : Reason) → is_yes accepted ≡ true → IsVerdictBy kind instance solution accepted
    → IsVerdictBy kind instance solution (verdicts.No reason) → ⊥
by_type (Some kinds.Tsp) instance solution (verdicts.Tour length bound) reason is v refused = v.0 reason refused.applies
by_type (Some kinds.Tsp) instance solution (verdicts.Routes length routes least bound) reason is v refused = absurd v
by_type (Some kinds.Atsp) instance solution (verdicts.Tour length bound) reason is v refused = v.0 reason refused.applies
by_type (Some kinds.Atsp) instance solution (verdicts.Routes length routes least bound) reason is v refused = absurd v
by_type (Some kinds.Cvrp) instance solution (verdicts.Tour length bound) reason is v refused = absurd v
by_type (Some kinds.Cvrp) instance solution (verdicts.Routes length routes least bound) reason is v refused = v.0 reason refused.applies
by_type (Some kinds.Tour) instance solution accepted reason is v refused = refused
by_type (Some kinds.Potentials) instance solution accepted reason is v refused = refused
by_type (Some kinds.Branches) instance solution accepted reason is v refused = refused
by_type None instance solution accepted reason is v refused = refused
by_type kind instance solution (verdicts.No other) reason is v refused = absurd (false≢true is)

tours_both : (by : CertificateKind) (instance solution certificate : Fields) (accepted : Verdict) (reason : Reason) → is_yes accepted ≡ true
    → IsCertifiedTourVerdict by instance solution certificate accepted → IsCertifiedTourVerdict by instance solution certificate (verdicts.No reason) → ⊥
tours_both by instance solution certificate (verdicts.Tour length bound) reason is v refused = v.0 reason refused.applies
tours_both by instance solution certificate (verdicts.Routes length routes least bound) reason is v refused = absurd v
tours_both by instance solution certificate (verdicts.No other) reason is v refused = absurd (false≢true is)

certified_both : (kind : Option Kind) (by : CertificateKind) (instance solution certificate : Fields) (accepted : Verdict) (reason : Reason) → is_yes accepted ≡ true
    → IsCertifiedVerdictBy kind by instance solution certificate accepted → IsCertifiedVerdictBy kind by instance solution certificate (verdicts.No reason) → ⊥
certified_both (Some kinds.Cvrp) by instance solution certificate (verdicts.Routes length routes least bound) reason is v refused = v.0 reason refused.applies
certified_both (Some kinds.Cvrp) by instance solution certificate (verdicts.Tour length bound) reason is v refused = absurd v
certified_both (Some kinds.Cvrp) by instance solution certificate (verdicts.No other) reason is v refused = absurd (false≢true is)
certified_both (Some kinds.Tsp) by instance solution certificate accepted reason is v refused = tours_both by instance solution certificate accepted reason is v refused
certified_both (Some kinds.Atsp) by instance solution certificate accepted reason is v refused = tours_both by instance solution certificate accepted reason is v refused
certified_both (Some kinds.Tour) by instance solution certificate accepted reason is v refused = tours_both by instance solution certificate accepted reason is v refused
certified_both (Some kinds.Potentials) by instance solution certificate accepted reason is v refused = tours_both by instance solution certificate accepted reason is v refused
certified_both (Some kinds.Branches) by instance solution certificate accepted reason is v refused = tours_both by instance solution certificate accepted reason is v refused
certified_both None by instance solution certificate accepted reason is v refused = tours_both by instance solution certificate accepted reason is v refused

not_both : (given : Option (CertificateKind × Fields)) (instance solution : Fields) (accepted : Verdict) (reason : Reason) → is_yes accepted ≡ true
    → IsVerdictWith given None instance solution accepted → IsVerdictWith given None instance solution (verdicts.No reason) → ⊥
not_both None instance solution accepted reason is v refused = by_type instance.kind instance solution accepted reason is v refused
not_both (Some given) instance solution accepted reason is v refused =
    certified_both instance.kind given.0 instance solution given.1 accepted reason is v refused

pub one_answer : (given : Option (CertificateKind × Fields)) (instance solution : Fields) (a b : Verdict) → IsVerdictWith given None instance solution a
    → IsVerdictWith given None instance solution b → is_yes b ≡ is_yes a
one_answer given instance solution (verdicts.No reason) (verdicts.No other) v w = refl
one_answer given instance solution (verdicts.No reason) (verdicts.Tour length bound) v w = absurd (not_both given instance solution (verdicts.Tour length bound) reason refl w v)
one_answer given instance solution (verdicts.No reason) (verdicts.Routes length routes least bound) v w =
    absurd (not_both given instance solution (verdicts.Routes length routes least bound) reason refl w v)
one_answer given instance solution (verdicts.Tour length bound) (verdicts.No reason) v w = absurd (not_both given instance solution (verdicts.Tour length bound) reason refl v w)
one_answer given instance solution (verdicts.Routes length routes least bound) (verdicts.No reason) v w =
    absurd (not_both given instance solution (verdicts.Routes length routes least bound) reason refl v w)
one_answer given instance solution (verdicts.Tour length bound) (verdicts.Tour length_b bound_b) v w = refl
one_answer given instance solution (verdicts.Tour length bound) (verdicts.Routes length_b routes least bound_b) v w = refl
one_answer given instance solution (verdicts.Routes length routes least bound) (verdicts.Tour length_b bound_b) v w = refl
one_answer given instance solution (verdicts.Routes length routes least bound) (verdicts.Routes length_b routes_b least_b bound_b) v w = refl

-- ---- a reason that applies whatever the solution

none_alone : (kind : Option Kind) (instance solution : Fields) (reason : Reason) (verdict : Verdict) → AppliesToInstanceBy kind instance reason
    → IsVerdictBy kind instance solution verdict → is_yes verdict ≡ false
none_alone (Some kinds.Tsp) instance solution reason (verdicts.Tour length bound) applies v = absurd (v.0 reason (against_tour instance solution reason applies))
none_alone (Some kinds.Tsp) instance solution reason (verdicts.Routes length routes least bound) applies v = absurd v
none_alone (Some kinds.Atsp) instance solution reason (verdicts.Tour length bound) applies v = absurd (v.0 reason (against_tour instance solution reason applies))
none_alone (Some kinds.Atsp) instance solution reason (verdicts.Routes length routes least bound) applies v = absurd v
none_alone (Some kinds.Cvrp) instance solution reason (verdicts.Tour length bound) applies v = absurd v
none_alone (Some kinds.Cvrp) instance solution reason (verdicts.Routes length routes least bound) applies v = absurd (v.0 reason (against_routes instance solution reason applies))
none_alone (Some kinds.Tour) instance solution reason verdict applies v = absurd v
none_alone (Some kinds.Potentials) instance solution reason verdict applies v = absurd v
none_alone (Some kinds.Branches) instance solution reason verdict applies v = absurd v
none_alone None instance solution reason verdict applies v = absurd v
none_alone kind instance solution reason (verdicts.No other) applies v = refl

-- with a certificate, by the TYPE: the reason applies to each tour or to all routes, or to the certificate
of_tours : (kind : Option Kind) (by : CertificateKind) (instance solution certificate : Fields) (reason : Reason) (verdict : Verdict)
    → ((applies : AppliesToInstanceBy kind instance reason) → AppliesToTouring instance reason)
    → AppliesToInstanceBy kind instance reason ⊎ AppliesToCertificate by instance certificate reason
    → IsCertifiedTourVerdict by instance solution certificate verdict → is_yes verdict ≡ false
of_tours kind by instance solution certificate reason (verdicts.Tour length bound) same (inl applies) v = absurd (v.0 reason (inl (against_tour instance solution reason (same applies))))
of_tours kind by instance solution certificate reason (verdicts.Tour length bound) same (inr applies) v = absurd (v.0 reason (inr applies))
of_tours kind by instance solution certificate reason (verdicts.Routes length routes least bound) same applies v = absurd v
of_tours kind by instance solution certificate reason (verdicts.No other) same applies v = refl

of_routes : (by : CertificateKind) (instance solution certificate : Fields) (reason : Reason) (verdict : Verdict)
    → AppliesToRouting instance reason ⊎ AppliesToCertificate by instance certificate reason
    → IsCertifiedRoutesVerdict by instance solution certificate verdict → is_yes verdict ≡ false
of_routes by instance solution certificate reason (verdicts.Routes length routes least bound) (inl applies) v = absurd (v.0 reason (inl (against_routes instance solution reason applies)))
of_routes by instance solution certificate reason (verdicts.Routes length routes least bound) (inr applies) v = absurd (v.0 reason (inr applies))
of_routes by instance solution certificate reason (verdicts.Tour length bound) applies v = absurd v
of_routes by instance solution certificate reason (verdicts.No other) applies v = refl

none_certified : (kind : Option Kind) (by : CertificateKind) (instance solution certificate : Fields) (reason : Reason) (verdict : Verdict)
    → AppliesToInstanceBy kind instance reason ⊎ AppliesToCertificate by instance certificate reason
    → IsCertifiedVerdictBy kind by instance solution certificate verdict → is_yes verdict ≡ false
none_certified (Some kinds.Cvrp) by instance solution certificate reason verdict applies v = of_routes by instance solution certificate reason verdict applies v
none_certified (Some kinds.Tsp) by instance solution certificate reason verdict applies v = of_tours (Some kinds.Tsp) by instance solution certificate reason verdict (λ s. s) applies v
none_certified (Some kinds.Atsp) by instance solution certificate reason verdict applies v = of_tours (Some kinds.Atsp) by instance solution certificate reason verdict (λ s. s) applies v
none_certified (Some kinds.Tour) by instance solution certificate reason verdict applies v = of_tours (Some kinds.Tour) by instance solution certificate reason verdict (λ s. s) applies v
none_certified (Some kinds.Potentials) by instance solution certificate reason verdict applies v = of_tours (Some kinds.Potentials) by instance solution certificate reason verdict (λ s. s) applies v
none_certified (Some kinds.Branches) by instance solution certificate reason verdict applies v = of_tours (Some kinds.Branches) by instance solution certificate reason verdict (λ s. s) applies v
none_certified None by instance solution certificate reason verdict applies v = of_tours None by instance solution certificate reason verdict (λ s. s) applies v

against_all : (given : Option (CertificateKind × Fields)) (instance solution : Fields) (reason : Reason) (verdict : Verdict)
    → IsFoundWith given instance (Some (Err reason)) → IsVerdictWith given None instance solution verdict → is_yes verdict ≡ false
against_all None instance solution reason verdict b v = none_alone instance.kind instance solution reason verdict b.applies v
against_all (Some given) instance solution reason verdict b v =
    none_certified instance.kind given.0 instance solution given.1 reason verdict b.applies v

pub none_accepted : (given : Option (CertificateKind × Fields)) (instance solution : Fields) (known_bound : KnownBound) (reason : Reason)
    (verdict : Verdict) → IsKnownBound given instance known_bound → known_bound.found ≡ Some (Err reason)
    → IsVerdictWith given None instance solution verdict → is_yes verdict ≡ false
none_accepted given instance solution known_bound reason verdict b is v =
    against_all given instance solution reason verdict (subst (IsFoundWith given instance) is b.1.1) v

-- ---- an instance without tours

tours_without : (by : CertificateKind) (instance solution certificate : Fields) (verdict : Verdict) → HasNoTour (problem_of instance)
    → IsCertifiedTourVerdict by instance solution certificate verdict → is_yes verdict ≡ false
tours_without by instance solution certificate (verdicts.Tour length bound) none v = absurd (none v.1.tour v.1.tour_of)
tours_without by instance solution certificate (verdicts.Routes length routes least bound) none v = absurd v
tours_without by instance solution certificate (verdicts.No other) none v = refl

routes_without : (by : CertificateKind) (instance solution certificate : Fields) (verdict : Verdict) → HasNoPlan (routing_of instance)
    → IsCertifiedRoutesVerdict by instance solution certificate verdict → is_yes verdict ≡ false
routes_without by instance solution certificate (verdicts.Routes length routes least bound) none v =
    absurd (none (tours_of solution) (record { plan = v.1.planned.plan_of; each = v.1.planned.filled }))
routes_without by instance solution certificate (verdicts.Tour length bound) none v = absurd v
routes_without by instance solution certificate (verdicts.No other) none v = refl

without_by : (kind : Option Kind) (by : CertificateKind) (instance solution certificate : Fields) (verdict : Verdict) → HasNoSolutionBy kind instance
    → IsCertifiedVerdictBy kind by instance solution certificate verdict → is_yes verdict ≡ false
without_by (Some kinds.Cvrp) by instance solution certificate verdict none v = routes_without by instance solution certificate verdict none v
without_by (Some kinds.Tsp) by instance solution certificate verdict none v = tours_without by instance solution certificate verdict none v
without_by (Some kinds.Atsp) by instance solution certificate verdict none v = tours_without by instance solution certificate verdict none v
without_by (Some kinds.Tour) by instance solution certificate verdict none v = tours_without by instance solution certificate verdict none v
without_by (Some kinds.Potentials) by instance solution certificate verdict none v = tours_without by instance solution certificate verdict none v
without_by (Some kinds.Branches) by instance solution certificate verdict none v = tours_without by instance solution certificate verdict none v
without_by None by instance solution certificate verdict none v = tours_without by instance solution certificate verdict none v

without_all : (given : Option (CertificateKind × Fields)) (instance solution : Fields) (verdict : Verdict)
    → IsFoundWith given instance (Some (Ok None)) → IsVerdictWith given None instance solution verdict → is_yes verdict ≡ false
without_all None instance solution verdict b v = absurd b
without_all (Some given) instance solution verdict b v =
    without_by instance.kind given.0 instance solution given.1 verdict b.2 v

pub none_without_tours : (given : Option (CertificateKind × Fields)) (instance solution : Fields) (known_bound : KnownBound) (verdict : Verdict)
    → IsKnownBound given instance known_bound → known_bound.found ≡ Some (Ok None)
    → IsVerdictWith given None instance solution verdict → is_yes verdict ≡ false
none_without_tours given instance solution known_bound verdict b is v =
    without_all given instance solution verdict (subst (IsFoundWith given instance) is b.1.1) v
