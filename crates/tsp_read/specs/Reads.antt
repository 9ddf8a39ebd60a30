-- Circle 2 of docs/trust.md.
-- The result of reading a text, from memory, from a reader or in pieces: its file or its first fault, the same each
-- way. Also how much is read at most, so that a reader is asked for no piece more than its text needs. src/api.rt
-- promises it, and tsp_judge and tsp_solution define their runs by it. Crates above import it, too.
use Rattle.tsp_read.specs.Prelude.{ℕ, zero, suc, Bool, false, List, Result, is_err, Some, Ok, Err, true, not, length, Option, None, is_some, take, most_file_bytes, Fields, Item, has_end_line, fault, ParsesTo, is_too_long, part, settled_part, settled_fault, ReadFault}
use Rattle.std.specs.Io.KnownBytes.{IsAtEnd}
use Rattle.std.specs.Prelude.{◌≡◌, ◌||◌, ◌+◌, ◌≤◌, ◌&&◌, ◌-◌, ◌⊎◌}
use Rattle.std.specs.declared.io.Error.{Error}
use Rattle.tsp_io.specs.Streams.{ReadTrace, Gave, IsSound, GaveAll, HasBrokenOff, TakesAtMost}
use Rattle.tsp_io.specs.declared.watched.Watched.{Watched}
use Rattle.tsp_io.specs.states.Watched.{watched, has_failed}
use Rattle.tsp_text.specs.declared.fault.ReadFault.TheVariants as faults
use Rattle.tsp_read.specs.declared.feed.Feed.{Feed}
use Rattle.tsp_read.specs.declared.feed.Stage.{Stage}
use Rattle.tsp_read.specs.declared.feed.Stage.TheVariants.{Going, Ended, Refused}
use Rattle.tsp_read.specs.declared.reading.FinishFault.TheVariants as finishes
use Rattle.tsp_read.specs.declared.reading.Reading.{Reading}
use Rattle.tsp_read.specs.states.Holds.{Finishes, Holds}
use Rattle.tsp_read.specs.states.Onward.{is_bare, IsPaused}

-- `new` is the reader after `count` reads, each of which gave what the reader may give. It has failed if the last of
-- them returned an error, and no read follows an error.
abbrev pub HasReads : {R : Type 0} → (R → List ℕ → Result ℕ Error → List ℕ → R → Type 0) → ℕ → R → R → Bool → Type 0
HasReads gives zero old new failed = (new ≡ old) × (failed ≡ false)
HasReads {R = R} gives (suc count) old new failed = (between : R) × HasReads gives count old between false
    × ((room filled : List ℕ) × (answer : Result ℕ Error) × gives between room answer filled new × (failed ≡ is_err answer))

-- A call asked some reads of a watched reader. It has failed if it had before, or if the last of these reads
-- returned an error.
abbrev pub IsReadOn : {R : Type 0} → (R → List ℕ → Result ℕ Error → List ℕ → R → Type 0) → Watched R → Watched R → Type 0
IsReadOn gives old new = (count : ℕ) × (failed : Bool) × HasReads gives count (watched old) (watched new) failed
    × (has_failed new ≡ (has_failed old || failed))

-- ---- the result of reading a whole text: its file, or its first fault

-- The text parses to this file, or this is its first fault. Out of memory says nothing.
abbrev pub Reads : List ℕ → Result Fields ReadFault → Type 0
Reads bytes (Ok file) = ParsesTo bytes file
Reads bytes (Err (faults.Line line word found)) = fault bytes ≡ Some (faults.Line line word found)
Reads bytes (Err (faults.End found)) = fault bytes ≡ Some (faults.End found)
Reads bytes (Err faults.OutOfMemory) = Unit {0}
Reads bytes (Err faults.Device) = ⊥
Reads bytes (Err faults.TooLong) = fault bytes ≡ Some faults.TooLong

-- The file of these items, or the fault at their end; the items themselves have no fault.
abbrev pub Completes : List Item → Result Fields ReadFault → Type 0
Completes items (Ok file) = Finishes items (Ok file)
Completes items (Err (faults.Line line word found)) = ⊥
Completes items (Err (faults.End found)) = Finishes items (Err (finishes.End found))
Completes items (Err faults.OutOfMemory) = Unit {0}
Completes items (Err faults.Device) = ⊥
Completes items (Err faults.TooLong) = ⊥

-- ---- a reader

-- how many bytes are taken from a reader at most: 4,096 more than a file may have
abbrev pub most_taken : ℕ
most_taken = most_file_bytes + 4096

-- the bytes that the reader delivered parse to the file, and so do all its bytes, if these are known
abbrev pub IsFile : ReadTrace → Fields → Type 0
IsFile read_trace file = GaveAll read_trace (λ bytes. ParsesTo bytes file)

-- the bytes that the reader delivered have this first fault, and so do all its bytes, if these are known
abbrev pub HasFault : ReadFault → ReadTrace → Type 0
HasFault found read_trace = GaveAll read_trace (λ bytes. fault bytes ≡ Some found)

-- Reading ended without a file: by the first fault of the bytes; or memory was refused, and the reader hasn't failed;
-- or it has failed.
abbrev pub StopsAt : ReadFault → ReadTrace → Type 0
StopsAt (faults.Line line word found) read_trace = HasFault (faults.Line line word found) read_trace
StopsAt (faults.End found) read_trace = HasFault (faults.End found) read_trace
StopsAt faults.OutOfMemory read_trace = Gave read_trace × IsSound read_trace
StopsAt faults.Device read_trace = HasBrokenOff read_trace
StopsAt faults.TooLong read_trace = HasFault faults.TooLong read_trace

-- The file of a reader, or why it has none; no more bytes than that are taken.
abbrev pub ReadsFrom : (List ℕ → ReadTrace) → Result Fields ReadFault → Type 0
ReadsFrom read_trace (Ok file) = TakesAtMost most_taken read_trace (λ whole. IsFile whole file)
ReadsFrom read_trace (Err found) = TakesAtMost most_taken read_trace (StopsAt found)

-- ---- a text that comes in pieces: which bytes a `Feed` (src/feed.rt) has taken so far

-- the text goes on: of these bytes all lines and words were taken that are settled, and these have no fault and no end
-- line
pub record IsGoing (feed : Feed) (bytes : List ℕ) : Type 0 where
  pub count : feed.count ≡ length bytes
  pub short : length bytes ≤ most_file_bytes
  pub paused : IsPaused feed.intake feed.begun bytes

-- these bytes have a settled end line, and the lines and words up to it were taken
pub record IsEnded (reading : Reading) (bytes : List ℕ) : Type 0 where
  pub holds : Holds reading (settled_part bytes)
  pub ended : has_end_line (settled_part bytes) ≡ true

-- the settled fault of these bytes is that one; out of memory is no fault of a text
abbrev pub HasSettled : ReadFault → List ℕ → Type 0
HasSettled (faults.Line line word found) bytes = settled_fault bytes ≡ Some (faults.Line line word found)
HasSettled (faults.End found) bytes = ⊥
HasSettled faults.OutOfMemory bytes = ⊥
HasSettled faults.Device bytes = ⊥
HasSettled faults.TooLong bytes = settled_fault bytes ≡ Some faults.TooLong

-- the feed has taken these bytes, by its stage
abbrev pub HasTakenBy : Stage → Feed → List ℕ → Type 0
HasTakenBy Going feed bytes = IsGoing feed bytes
HasTakenBy Ended feed bytes = IsEnded feed.intake.reading bytes
HasTakenBy (Refused found) feed bytes = HasSettled found bytes

-- the feed has taken these bytes
abbrev pub HasTaken : Feed → List ℕ → Type 0
HasTaken feed bytes = HasTakenBy feed.stage feed bytes

-- the fault of a refused text
abbrev pub refused_by : Stage → Option ReadFault
refused_by Going = None
refused_by Ended = None
refused_by (Refused found) = Some found

-- the fault of the text, once it is refused
abbrev pub refusal : Feed → Option ReadFault
refusal feed = refused_by feed.stage

-- The answer for the bytes so far: they have no settled fault, or this one. Blanks and line ends alone take no memory.
abbrev pub Feeds : List ℕ → Feed → Result (Unit {0}) ReadFault → Type 0
Feeds bytes new (Ok done) = HasTaken new bytes × (settled_fault bytes ≡ None)
Feeds bytes new (Err (faults.Line line word found)) = HasTaken new bytes × HasSettled (faults.Line line word found) bytes
Feeds bytes new (Err (faults.End found)) = ⊥
Feeds bytes new (Err faults.OutOfMemory) = is_bare bytes ≡ false
Feeds bytes new (Err faults.Device) = ⊥
Feeds bytes new (Err faults.TooLong) = HasTaken new bytes × HasSettled faults.TooLong bytes

-- the same answer, by the stage that is reached
abbrev pub ComesTo : Stage → Feed → List ℕ → Type 0
ComesTo Going new bytes = IsGoing new bytes
ComesTo Ended new bytes = IsEnded new.intake.reading bytes
ComesTo (Refused (faults.Line line word found)) new bytes = HasSettled (faults.Line line word found) bytes
ComesTo (Refused (faults.End found)) new bytes = ⊥
ComesTo (Refused faults.OutOfMemory) new bytes = is_bare bytes ≡ false
ComesTo (Refused faults.Device) new bytes = ⊥
ComesTo (Refused faults.TooLong) new bytes = HasSettled faults.TooLong bytes

-- the text has ended: all its lines and words that count were taken, and it isn't too long
pub record SpellsWhole (reading : Reading) (bytes : List ℕ) : Type 0 where
  pub holds : Holds reading (part bytes)
  pub short : (is_too_long bytes && not (has_end_line (part bytes))) ≡ false

-- if the end line was settled, no section is open, so that the end of the text takes no memory
abbrev pub EndsClosed : Result Reading ReadFault → Type 0
EndsClosed (Ok reading) = is_some reading.opened ≡ false
EndsClosed (Err found) = ⊥

-- the answer at the end of a text: all was taken, or this fault
abbrev pub EndsReading : List ℕ → Result Reading ReadFault → Type 0
EndsReading bytes (Ok reading) = SpellsWhole reading bytes
EndsReading bytes (Err found) = Reads bytes (Err found) × (found ≡ faults.OutOfMemory → is_bare bytes ≡ false)

-- ---- that a reader is asked for no piece more than its text needs

-- the bytes without the last 4,096, which are one piece
abbrev pub before_last : List ℕ → List ℕ
before_last bytes = take (length bytes - 4096) bytes

-- before the last piece nothing was settled that ends the reading: neither a fault nor an end line
pub record IsTimely (bytes : List ℕ) : Type 0 where
  pub no_fault : settled_fault (before_last bytes) ≡ None
  pub no_end : has_end_line (settled_part (before_last bytes)) ≡ false

-- blanks and line ends alone take no memory
abbrev pub HasCause : ReadFault → List ℕ → Type 0
HasCause found bytes = found ≡ faults.OutOfMemory → is_bare bytes ≡ false

-- whether a feed at this stage takes more bytes
abbrev pub may_go_on : Stage → Bool
may_go_on Going = true
may_go_on Ended = false
may_go_on (Refused found) = false

-- a feed has taken all bytes of the reader, or needs no more
pub record IsFedFrom (read_trace : ReadTrace) (feed : Feed) : Type 0 where
  pub gave : Gave read_trace
  pub sound : IsSound read_trace
  pub held : HasTaken feed read_trace.given
  pub no_fault : settled_fault read_trace.given ≡ None
  pub timely : IsTimely read_trace.given
  pub over : IsAtEnd read_trace.left ⊎ (may_go_on feed.stage ≡ false)

-- The feed after all pieces of a reader, or why reading ended.
abbrev pub FeedsAll : (List ℕ → ReadTrace) → Feed → Result (Unit {0}) ReadFault → Type 0
FeedsAll read_trace feed (Ok done) = TakesAtMost most_taken read_trace (λ whole. IsFedFrom whole feed)
FeedsAll read_trace feed (Err found) =
    TakesAtMost most_taken read_trace (λ whole. StopsAt found whole × IsTimely whole.given × HasCause found whole.given)

-- The file of a reader, or why it has none; no piece more than needed is taken, and memory only for more than blanks
-- and line ends.
abbrev pub ReadsInTime : (List ℕ → ReadTrace) → Result Fields ReadFault → Type 0
ReadsInTime read_trace (Ok file) = TakesAtMost most_taken read_trace (λ whole. IsFile whole file × IsTimely whole.given)
ReadsInTime read_trace (Err found) =
    TakesAtMost most_taken read_trace (λ whole. StopsAt found whole × IsTimely whole.given × HasCause found whole.given)
