-- Circle 2 of docs/trust.md.
-- A reader (`ReadTrace`) and a writer (`Sink`) before and after a call: the bytes that were delivered or taken, and
-- whether it failed. The contract of every run says by these what was read and written. Crates above import it, too.
use Rattle.std.specs.Io.KnownBytes.{Keeps, Consumes, Appends}
use Rattle.std.specs.Prelude.{◌≡◌, ℕ, ◌≤◌, Bool, true, false, List, length, Option, IfSome, take, Result, Ok, Err, codes}
use Rattle.tsp_io.specs.declared.piece.WriteFault.{WriteFault}
use Rattle.tsp_io.specs.declared.piece.WriteFault.TheVariants.{Device, OutOfMemory}
use Rattle.tsp_io.specs.declared.piece.WriteFault.TheVariants as write_faults

-- A read trace: the bytes that a reader had left before a call and after it, if they are known, the bytes that it
-- delivered, and whether it had failed before the call and has failed after it.
pub record ReadTrace : Type 0 where
  pub known : Option (List ℕ)
  pub left : Option (List ℕ)
  pub given : List ℕ
  pub had_failed : Bool
  pub failed : Bool

-- the reader delivered these bytes
abbrev pub Gave : ReadTrace → Type 0
Gave read_trace = Consumes read_trace.known read_trace.left read_trace.given

-- it had not failed before, and hasn't failed
abbrev pub IsSound : ReadTrace → Type 0
IsSound read_trace = (read_trace.had_failed ≡ false) × (read_trace.failed ≡ false)

-- It delivered bytes for which P holds, without a failure. If its bytes are known, P holds for all of them, too:
-- reading didn't stop too early.
abbrev pub GaveAll : ReadTrace → (List ℕ → Type 0) → Type 0
GaveAll read_trace P = Gave read_trace × IsSound read_trace × P read_trace.given × IfSome read_trace.known P

-- It has failed, in this call or before. A reader that had failed before is not read.
abbrev pub HasBrokenOff : ReadTrace → Type 0
HasBrokenOff read_trace = Gave read_trace × (read_trace.failed ≡ true)
    × (read_trace.had_failed ≡ true → Keeps read_trace.known read_trace.left)

-- the reader was not asked
abbrev pub IsUnread : ReadTrace → Type 0
IsUnread read_trace = Keeps read_trace.known read_trace.left × (read_trace.failed ≡ read_trace.had_failed)

-- for some bytes that the reader delivered, at most `most` of them, P holds for the read trace
abbrev pub TakesAtMost : ℕ → (List ℕ → ReadTrace) → (ReadTrace → Type 0) → Type 0
TakesAtMost most read_trace P = (given : List ℕ) × (length given ≤ most) × P (read_trace given)

-- ---- a writer before and after a call

-- The bytes that a writer has before the call and after it, if these are known, and whether it had failed before and
-- has failed after it.
pub record Sink : Type 0 where
  pub held : Option (List ℕ)
  pub holds : Option (List ℕ)
  pub had_failed : Bool
  pub failed : Bool

-- nothing was written
abbrev pub IsUnwritten : Sink → Type 0
IsUnwritten sink = Keeps sink.held sink.holds × (sink.failed ≡ sink.had_failed)

-- the whole text was written to a writer that had not failed before and has not failed
abbrev pub HasWritten : Sink → List ℕ → Type 0
HasWritten sink text = (sink.had_failed ≡ false) × (sink.failed ≡ false) × Appends sink.held sink.holds text

-- A prefix of the text was written, and nothing else, before the writer failed. A writer that had failed gets nothing.
abbrev pub HasStopped : Sink → List ℕ → Type 0
HasStopped sink text = (sink.failed ≡ true) × (sink.had_failed ≡ true → Keeps sink.held sink.holds)
    × ((count : ℕ) × Appends sink.held sink.holds (take count text))

-- The result of writing a text. It takes no memory, so the result isn't `OutOfMemory`.
abbrev pub Writes : Sink → List ℕ → Result (Unit {0}) WriteFault → Type 0
Writes sink text (Ok done) = HasWritten sink text
Writes sink text (Err write_faults.Device) = HasStopped sink text
Writes sink text (Err write_faults.OutOfMemory) = ⊥

-- ---- the text of each fault of a writer

abbrev pub write_fault_text : WriteFault → List ℕ
write_fault_text Device = codes "device"
write_fault_text OutOfMemory = codes "out of memory"
