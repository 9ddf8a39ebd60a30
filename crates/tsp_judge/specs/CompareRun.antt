-- A run of `tsp compare`: an instance and a certificate that are read once, solutions that are opened, judged and
-- reported one after the other, and the lines that a follower gets. src/compare_run.rt promises it. In no circle of
-- docs/trust.md: what `optimal` in a line means is in Accepted.antt, and laws tie the two. tsp_tool imports it, too.
use Rattle.tsp_judge.specs.Prelude.{ℕ, suc, max, Bool, true, false, List, [], length, Option, None, Some, Result, Ok, Err, IsTrue, slice_index_or, zero, ReadTrace, Sink, IsUnwritten, HasWritten, HasStopped, Fields, HasReads, IsFile, StopsAt, most_taken, IsProblem, head_of, solution_line, report_of, is_yes, is_clear, CertificateKind, Verdict, NoneOfKnownBoundWithoutMemory, HasKnownBound, is_judged, NoneBeforeRepeatsOn, IsVerdictWith, IsKnownBoundAsked}
use Rattle.std.specs.Prelude.{◌≡◌, ◌≢◌, ◌⊎◌, ◌<◌, ◌≤◌, ◌∷◌, ◌++◌, ◌-◌}
use Rattle.std.specs.declared.alloc.AllocError.{AllocError}
use Rattle.std.specs.declared.io.Error.{Error}
use Rattle.tsp_io.specs.declared.piece.WriteFault.TheVariants as write_faults
use Rattle.tsp_read.specs.declared.ReadFault.{ReadFault}
use Rattle.tsp_read.specs.declared.ReadFault.TheVariants as read_faults
use Rattle.tsp_judge.specs.Accepted.{IsAccepted}
use Rattle.tsp_judge.specs.CheckRun.{Given, IsUnreadIn, IsFileIn, IsSomeFile}
use Rattle.tsp_judge.specs.RunStatus.{status_of}
use Rattle.tsp_judge.specs.declared.compare_run.ComparisonContext.{ComparisonContext}
use Rattle.tsp_judge.specs.declared.compare_run.Compared.{Compared}
use Rattle.tsp_judge.specs.declared.compare_run.Found.{Found}
use Rattle.tsp_judge.specs.declared.compare_run.Found.TheVariants as founds
use Rattle.tsp_judge.specs.declared.run_status.RunFault.{RunFault}
use Rattle.tsp_judge.specs.declared.run_status.RunFault.TheVariants.{File, WrongKind, Write, OutOfMemory}

-- ---- the instance and the certificate

-- The first of instance and certificate that isn't valid has this number and this fault. After such an instance the
-- certificate isn't read.
abbrev pub IsFaultOfCompare : Given → ReadTrace → ℕ → ReadFault → Type 0
IsFaultOfCompare given first file fault = ((file ≡ 1) × StopsAt fault first × IsUnreadIn given)
    ⊎ ((second : CertificateKind × ReadTrace) × (given ≡ Some second) × (file ≡ 2) × IsSomeFile first × StopsAt fault second.1)

-- ---- one solution

-- the read trace of a reader that was opened for the solution at this place, counted from 0; the reader has failed if
-- its last read returned an error
pub record IsOpenedReadTraceAt {R : Type 0} (remaining : R → Option (List ℕ)) (gives : R → List ℕ → Result ℕ Error → List ℕ → R → Type 0)
    (opens : ℕ → Result R AllocError → Type 0) (place : ℕ) (read_trace : ReadTrace)
    : Type 0 where
  pub reader : R
  pub opened : opens place (Ok reader)
  pub known : read_trace.known ≡ remaining reader
  pub sound : read_trace.had_failed ≡ false
  pub asked : (count : ℕ) × (after : R) × HasReads gives count reader after read_trace.failed
  pub few : length read_trace.given ≤ most_taken

-- the read trace of the solution at this place, or None if memory was refused for opening it
abbrev pub IsReadTraceAt : {R : Type 0} → (R → Option (List ℕ)) → (R → List ℕ → Result ℕ Error → List ℕ → R → Type 0)
    → (ℕ → Result R AllocError → Type 0) → ℕ → Option ReadTrace → Type 0
IsReadTraceAt remaining gives opens place (Some read_trace) = IsOpenedReadTraceAt remaining gives opens place read_trace
IsReadTraceAt remaining gives opens place None = (refused : AllocError) × opens place (Err refused)

-- What is found about the solution that a reader delivers: the verdict of a check of the three files, and its meaning
-- if the solution is accepted; or the fault of the file.
abbrev pub IsFoundIn : ComparisonContext → ReadTrace → Result Verdict ReadFault → Type 0
IsFoundIn common read_trace (Ok verdict) = (solution : Fields) × IsFile read_trace solution
    × IsVerdictWith common.certificate None common.instance solution verdict × HasKnownBound verdict common.known_bound
    × (is_yes verdict ≡ true → IsAccepted common.certificate None common.instance solution (report_of common.instance verdict))
IsFoundIn common read_trace (Err fault) = StopsAt fault read_trace × (fault ≢ read_faults.OutOfMemory)

-- Memory is refused for opening the solution, for reading it, or for judging it; then no reason applies that is found
-- without memory.
abbrev pub IsRefusedIn : ComparisonContext → Option ReadTrace → Type 0
IsRefusedIn common None = Unit {0}
IsRefusedIn common (Some read_trace) = StopsAt read_faults.OutOfMemory read_trace
    ⊎ ((solution : Fields) × IsFile read_trace solution × NoneBeforeRepeatsOn common.instance solution)

-- the verdict or the fault alone
abbrev pub result_of : Found → Result Verdict ReadFault
result_of (founds.Solution verdict solution) = Ok verdict
result_of (founds.Fault fault) = Err fault

-- what is found, or that memory is refused
abbrev pub Finds : ComparisonContext → ReadTrace → Result Found RunFault → Type 0
Finds common read_trace (Ok found) = IsFoundIn common read_trace (result_of found)
Finds common read_trace (Err OutOfMemory) = IsRefusedIn common (Some read_trace)
Finds common read_trace (Err other) = ⊥

-- the exit status of a check of that solution, which is its second file
abbrev pub status_of_found : Result Verdict ReadFault → ℕ
status_of_found (Ok verdict) = status_of (Ok (is_yes verdict))
status_of_found (Err fault) = status_of (Err (File 2 fault))

-- the result for the solution at a place: its line was written, or a prefix of it, or memory is refused
abbrev pub ComparesOne : (ℕ → Option ReadTrace → Type 0) → List (List ℕ) → ComparisonContext → ℕ → Sink → Result Found RunFault → Type 0
ComparesOne IsReadTrace paths common place sink (Ok found) = (read_trace : ReadTrace) × IsReadTrace place (Some read_trace)
    × IsFoundIn common read_trace (result_of found)
    × HasWritten sink (solution_line (result_of found) (slice_index_or paths place []))
ComparesOne IsReadTrace paths common place sink (Err OutOfMemory) = ((read_trace : Option ReadTrace) × IsReadTrace place read_trace × IsRefusedIn common read_trace)
    × IsUnwritten sink
ComparesOne IsReadTrace paths common place sink (Err (Write write_faults.Device)) = (read_trace : ReadTrace) × IsReadTrace place (Some read_trace)
    × ((found : Result Verdict ReadFault) × IsFoundIn common read_trace found
    × HasStopped sink (solution_line found (slice_index_or paths place [])))
ComparesOne IsReadTrace paths common place sink (Err other) = ⊥

-- ---- all solutions

-- These were found, in order, of the solutions from this place on; each reader was opened for its place.
abbrev pub AreFound : (ℕ → Option ReadTrace → Type 0) → ComparisonContext → ℕ → List (Result Verdict ReadFault) → Type 0
AreFound IsReadTrace common place [] = Unit {0}
AreFound IsReadTrace common place (found ∷ rest) = ((read_trace : ReadTrace) × IsReadTrace place (Some read_trace) × IsFoundIn common read_trace found)
    × AreFound IsReadTrace common (suc place) rest

-- the lines of what was found, each with its solution's path
abbrev pub all_solution_lines : List (Result Verdict ReadFault) → List (List ℕ) → List ℕ
all_solution_lines [] paths = []
all_solution_lines (found ∷ rest) [] = []
all_solution_lines (found ∷ rest) (path ∷ paths) = solution_line found path ++ all_solution_lines rest paths

-- the largest exit status of a solution
abbrev pub largest_status : List (Result Verdict ReadFault) → ℕ
largest_status [] = 0
largest_status (found ∷ rest) = max (status_of_found found) (largest_status rest)

-- The result for the solutions with these paths; `before` is the text before their lines. Ok: the line of each was
-- written, and the result is the largest status. OutOfMemory: the lines of the solutions before were written, and
-- nothing else. If the writer fails, a prefix of such a text was written.
abbrev pub ComparesAll : (ℕ → Option ReadTrace → Type 0) → List (List ℕ) → ComparisonContext → List ℕ → Sink → Result ℕ RunFault → Type 0
ComparesAll IsReadTrace paths common before sink (Ok status) = (found : List (Result Verdict ReadFault))
    × AreFound IsReadTrace common 0 found × (length found ≡ length paths) × HasWritten sink (before ++ all_solution_lines found paths)
    × (status ≡ largest_status found)
ComparesAll IsReadTrace paths common before sink (Err OutOfMemory) = (found : List (Result Verdict ReadFault))
    × AreFound IsReadTrace common 0 found × (length found < length paths)
    × ((read_trace : Option ReadTrace) × IsReadTrace (length found) read_trace × IsRefusedIn common read_trace)
    × HasWritten sink (before ++ all_solution_lines found paths)
ComparesAll IsReadTrace paths common before sink (Err (Write write_faults.Device)) = (found : List (Result Verdict ReadFault))
    × AreFound IsReadTrace common 0 found × (length found ≤ length paths) × HasStopped sink (before ++ all_solution_lines found paths)
ComparesAll IsReadTrace paths common before sink (Err other) = ⊥

-- If a reason applies to every solution, the head of the comparison is the whole text.
abbrev pub ComparesNone : List ℕ → Sink → Result ℕ RunFault → Type 0
ComparesNone head sink (Ok status) = HasWritten sink head × (status ≡ 1)
ComparesNone head sink (Err (Write write_faults.Device)) = HasStopped sink head
ComparesNone head sink (Err other) = ⊥

-- the result for all solutions: each is judged, or none is
abbrev pub ComparesBy : Bool → (ℕ → Option ReadTrace → Type 0) → List (List ℕ) → ComparisonContext → Sink → Result ℕ RunFault → Type 0
ComparesBy true IsReadTrace paths common sink ended =
    ComparesAll IsReadTrace paths common (head_of common.instance common.known_bound) sink ended
ComparesBy false IsReadTrace paths common sink ended = ComparesNone (head_of common.instance common.known_bound) sink ended

-- the same; the known bound is that of the instance and the certificate, with or without `strict`
abbrev pub ComparesOn : Bool → (ℕ → Option ReadTrace → Type 0) → List (List ℕ) → ComparisonContext → Sink → Result ℕ RunFault → Type 0
ComparesOn strict IsReadTrace paths common sink ended = IsKnownBoundAsked strict common.certificate common.instance common.known_bound
    × ComparesBy (is_clear common.known_bound) IsReadTrace paths common sink ended

-- ---- the run

-- the certificate can't bound solutions of the instance's TYPE, or memory is refused for the bound
abbrev pub LacksKnownBound : Option (CertificateKind × Fields) → Fields → RunFault → Type 0
LacksKnownBound certificate instance WrongKind = is_judged certificate instance.kind ≡ false
LacksKnownBound certificate instance OutOfMemory = IsTrue (is_judged certificate instance.kind)
    × NoneOfKnownBoundWithoutMemory certificate instance
LacksKnownBound certificate instance other = ⊥

-- the readers delivered this instance and this certificate, and the instance is one problem
abbrev pub AreReadOnce : Given → ReadTrace → ComparisonContext → Type 0
AreReadOnce given first common = IsFile first common.instance × IsFileIn given common.certificate × IsProblem common.instance

-- the instance and the certificate were read, but have no known bound, and nothing is written
abbrev pub EndsLacking : Given → ReadTrace → Sink → RunFault → Type 0
EndsLacking given first sink fault = (instance : Fields) × (certificate : Option (CertificateKind × Fields))
    × IsFile first instance × IsFileIn given certificate × LacksKnownBound certificate instance fault × IsUnwritten sink

-- why a comparison ends early: a file that isn't valid, no known bound, or a solution at which memory or the writer failed
abbrev pub EndsCompare : Bool → (ℕ → Option ReadTrace → Type 0) → List (List ℕ) → Given → ReadTrace → Sink → RunFault → Type 0
EndsCompare strict IsReadTrace paths given first sink (File file fault) = IsUnwritten sink × IsFaultOfCompare given first file fault
EndsCompare strict IsReadTrace paths given first sink fault = EndsLacking given first sink fault
    ⊎ ((common : ComparisonContext) × AreReadOnce given first common × ComparesOn strict IsReadTrace paths common sink (Err fault))

-- The result of a comparison of the solutions with these paths, each of a reader that was opened for its place.
abbrev pub IsComparison : Bool → (ℕ → Option ReadTrace → Type 0) → List (List ℕ) → Given → ReadTrace → Sink → Result Compared RunFault → Type 0
IsComparison strict IsReadTrace paths given first sink (Ok compared) = AreReadOnce given first compared.common
    × ComparesOn strict IsReadTrace paths compared.common sink (Ok compared.status)
IsComparison strict IsReadTrace paths given first sink (Err fault) = EndsCompare strict IsReadTrace paths given first sink fault

-- The same for readers of type R: what each has left, gives at a read, and is opened for.
abbrev pub IsCompareRun : {R : Type 0} → Bool → (R → Option (List ℕ)) → (R → List ℕ → Result ℕ Error → List ℕ → R → Type 0)
    → (ℕ → Result R AllocError → Type 0) → List (List ℕ) → Given → ReadTrace → Sink → Result Compared RunFault → Type 0
IsCompareRun strict remaining gives opens paths given first sink result =
    IsComparison strict (IsReadTraceAt remaining gives opens) paths given first sink result

-- ---- which lines of a comparison its follower gets while they are written

-- of the first lines, as many as this, each once and in their order
abbrev pub AreReported : {E : Type 0} → (ℕ → E → E → Type 0) → ℕ → E → E → Type 0
AreReported tells zero old new = new ≡ old
AreReported {E = E} tells (suc count) old new = (next : E) × AreReported tells count old next × tells count next new

-- of all lines, or of none if a reason applies whatever the solution
abbrev pub AreAllReported : {E : Type 0} → Bool → (ℕ → E → E → Type 0) → ℕ → E → E → Type 0
AreAllReported true tells count old new = AreReported tells count old new
AreAllReported false tells count old new = new ≡ old

-- How many lines the follower gets at most if the comparison ends early. The line at which the writer fails, or
-- memory is refused, isn't among them. At another fault no solution is compared.
abbrev pub most_reported : RunFault → ℕ → ℕ
most_reported (Write fault) count = count - 1
most_reported OutOfMemory count = count - 1
most_reported other count = 0

-- of all lines, as far as the comparison came
abbrev pub IsFollowedBy : {E : Type 0} → Bool → (ℕ → E → E → Type 0) → ℕ → E → E → Result ℕ RunFault → Type 0
IsFollowedBy clear tells count old new (Ok status) = AreAllReported clear tells count old new
IsFollowedBy clear tells count old new (Err fault) = (reported : ℕ) × (reported ≤ most_reported fault count) × AreReported tells reported old new

-- by the result of a comparison of as many solutions as this
abbrev pub IsFollowed : {E : Type 0} → (ℕ → E → E → Type 0) → ℕ → E → E → Result Compared RunFault → Type 0
IsFollowed tells count old new (Ok compared) = AreAllReported (is_clear compared.common.known_bound) tells count old new
IsFollowed tells count old new (Err fault) = (reported : ℕ) × (reported ≤ most_reported fault count) × AreReported tells reported old new
