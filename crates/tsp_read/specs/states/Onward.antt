-- The reader's state while a text comes in pieces: the items that were taken, the line or word that the end of a piece
-- has cut in two, and what holds whatever bytes follow. `src/items.rt` and `src/feed.rt` promise it. Of all this,
-- `specs/Reads.antt` shows callers nothing but `IsPaused` and `is_bare`; the rest may follow the code.
use Rattle.tsp_read.specs.Prelude.{list_all, ℕ, Bool, true, false, nat_lt, List, length, reverse, Option, None, Some, Result, Ok, Err, [], most_word_bytes, most_line_bytes, most_file_bytes, row_of, Item, Line, NumberWord, LineEnd, settled_items, is_end_line, has_end_line, to_end_line, line_number, words_before, is_not_empty, items_of, fault_in, settled_part, ReadFault}
use Rattle.std.specs.Prelude.{◌≡◌, ◌∷◌, ◌++◌, ◌+◌, ◌≤◌}
use Rattle.tsp_text.specs.declared.fault.ReadFault.TheVariants as faults
use Rattle.tsp_read.specs.declared.feed.Stage.{Stage}
use Rattle.tsp_read.specs.declared.feed.Stage.TheVariants.{Going, Ended, Refused}
use Rattle.tsp_read.specs.declared.items.Begun.{Begun}
use Rattle.tsp_read.specs.declared.items.Intake.{Intake}
use Rattle.tsp_read.specs.declared.items.Token.{Token}
use Rattle.tsp_read.specs.declared.step_fault.StepFault.{StepFault}
use Rattle.tsp_read.specs.declared.step_fault.StepFault.TheVariants as steps
use Rattle.tsp_read.specs.declared.reading.Reading.{Reading}
use Rattle.tsp_read.specs.states.Holds.{Holds}
use Rattle.tsp_read.specs.states.Left.{items_left, ends_word, from, token_at, ends_token}

-- blanks and line ends alone
abbrev pub is_bare : List ℕ → Bool
is_bare bytes = list_all ends_word bytes

-- the item is a line's end
abbrev pub is_line_end : Item → Bool
is_line_end (Line key line) = false
is_line_end (NumberWord word) = false
is_line_end LineEnd = true

-- the item is longer than any of its sort may be
abbrev pub is_over_long : Item → Bool
is_over_long (Line key line) = nat_lt most_line_bytes line.size
is_over_long (NumberWord word) = nat_lt most_word_bytes (length word)
is_over_long LineEnd = false

-- whatever bytes follow `text`, its next item is this one, and then `rest` is left
abbrev pub GivesNext : Bool → List ℕ → Item → Bool → List ℕ → Type 0
GivesNext inside text item after rest = (goes_on : Bool) (more : List ℕ)
    → items_left goes_on inside (text ++ more) ≡ item ∷ items_left goes_on after (rest ++ more)

-- whatever bytes follow, they begin with these items, the last one first, and then `rest` is left
abbrev pub GoesOn : List ℕ → List Item → Bool → List ℕ → Type 0
GoesOn bytes earlier inside rest = (goes_on : Bool) (more : List ℕ)
    → items_left goes_on false (bytes ++ more) ≡ reverse earlier ++ items_left goes_on inside (rest ++ more)

-- ---- the state while a text comes: which items of the bytes so far were taken

-- these items were taken, the last one first, and the numbers of lines and words are theirs
pub record HasTakenItems (intake : Intake) (earlier : List Item) : Type 0 where
  pub holds : Holds intake.reading earlier
  pub line_is : intake.line ≡ line_number earlier
  pub words_are : intake.words ≡ words_before earlier

-- an item is taken, and whether it is an end line; or it has the first fault; or memory was refused, which can't be at
-- a line's end
abbrev pub TakesNext : List Item → Item → Intake → Result Bool ReadFault → Type 0
TakesNext earlier item new (Ok ended) = HasTakenItems new (item ∷ earlier) × (ended ≡ is_end_line item)
TakesNext earlier item new (Err (faults.Line line word found)) = fault_in (item ∷ earlier) ≡ Some (faults.Line line word found)
TakesNext earlier item new (Err (faults.End found)) = ⊥
TakesNext earlier item new (Err faults.OutOfMemory) = is_line_end item ≡ false
TakesNext earlier item new (Err faults.Device) = ⊥
TakesNext earlier item new (Err faults.TooLong) = ⊥

-- Of the bytes so far the items before `rest` were taken, none of them an end line, whatever bytes follow.
pub record IsReadTo (intake : Intake) (bytes rest : List ℕ) : Type 0 where
  pub earlier : List Item
  pub stands : HasTakenItems intake earlier
  pub going : has_end_line earlier ≡ false
  pub parts : GoesOn bytes earlier intake.inside rest

-- the items that count, the last one first, of a text that goes on
abbrev pub settled_so_far : List ℕ → List Item
settled_so_far bytes = reverse (to_end_line (settled_items bytes))

-- an end line has come, and the items up to it were taken
pub record HasEnded (reading : Reading) (bytes : List ℕ) : Type 0 where
  pub holds : Holds reading (settled_so_far bytes)
  pub ended : has_end_line (settled_so_far bytes) ≡ true

-- the first fault is settled; or memory was refused, which blanks and line ends never need
abbrev pub IsStoppedBy : List ℕ → ReadFault → Type 0
IsStoppedBy bytes (faults.Line line word found) = fault_in (settled_so_far bytes) ≡ Some (faults.Line line word found)
IsStoppedBy bytes (faults.End found) = ⊥
IsStoppedBy bytes faults.OutOfMemory = is_bare bytes ≡ false
IsStoppedBy bytes faults.Device = ⊥
IsStoppedBy bytes faults.TooLong = ⊥

-- the result of reading the bytes so far: an end line, or a place with P, or a fault
abbrev pub ReadsOn : {X : Type 0} → List ℕ → Reading → (X → Type 0) → Result (Option X) ReadFault → Type 0
ReadsOn bytes reading P (Ok None) = HasEnded reading bytes
ReadsOn bytes reading P (Ok (Some x)) = P x
ReadsOn bytes reading P (Err found) = IsStoppedBy bytes found

-- ---- a line or a word that begins in one piece of a text and ends in a later one

-- the bytes of a line or word, from its first byte that isn't blank, without its end
pub record HasBegunToken (inside : Bool) (token : Token) (bytes : List ℕ) : Type 0 where
  pub first : ℕ
  pub others : List ℕ
  pub parts : bytes ≡ first ∷ others
  pub token_is : token ≡ token_at inside first
  pub no_end : from (ends_token token) bytes ≡ []

-- no bytes, or those of such a line or word
abbrev pub HasBegun : Bool → Token → List ℕ → Type 0
HasBegun inside token [] = Unit {0}
HasBegun inside token (b ∷ bytes) = HasBegunToken inside token (b ∷ bytes)

-- the bytes that are kept of the line or word
abbrev pub kept : Begun → List ℕ
kept begun = begun.bytes.items

-- Of the bytes so far the lines and words before the kept bytes were taken; after the kept bytes `rest` is left.
pub record IsFedTo (intake : Intake) (begun : Begun) (bytes rest : List ℕ) : Type 0 where
  pub read : IsReadTo intake bytes (kept begun ++ rest)
  pub begins : HasBegun intake.inside begun.token begun.bytes.items

-- The same; and while bytes are kept, nothing is left after them, and they don't have their end.
pub record IsJoinedTo (intake : Intake) (begun : Begun) (bytes rest : List ℕ) : Type 0 where
  pub fed : IsFedTo intake begun bytes rest
  pub none_kept : is_not_empty rest ≡ true → kept begun ≡ []
  pub unsettled : is_not_empty rest ≡ false → items_left true intake.inside (kept begun) ≡ []

-- how large the number of lines can become, with the kept bytes and `more` bytes after them
abbrev pub most_lines : Intake → Begun → ℕ → ℕ
most_lines intake begun more = intake.line + length (kept begun) + more

-- how large the number of words of a line can become
abbrev pub most_words : Intake → Begun → ℕ → ℕ
most_words intake begun more = intake.words + length (kept begun) + more

-- neither of these limits has grown
abbrev pub KeepRoom : Intake → Begun → ℕ → Intake → Begun → ℕ → Type 0
KeepRoom old begun more new begun_new left = (most_lines new begun_new left ≤ most_lines old begun more)
    × (most_words new begun_new left ≤ most_words old begun more)

-- ---- the items of a text, divided into those that were taken and those that are left

-- `earlier` were taken, the last one first, and `later` are left. No end line was taken.
pub record Walked (items earlier later : List Item) : Type 0 where
  pub parts : items ≡ reverse earlier ++ later
  pub going : has_end_line earlier ≡ false

-- ---- the reader's state after one item more, or after all items of a text

-- the state has the item too, and whether it is an end line; or the item has this fault
abbrev pub TakesItem : List Item → Item → Reading → Result Bool StepFault → Type 0
TakesItem earlier item new (Ok ended) = Holds new (item ∷ earlier) × (ended ≡ is_end_line item)
TakesItem earlier item new (Err (steps.Memory refused)) = Unit {0}
TakesItem earlier item new (Err (steps.Fault fault)) = row_of earlier item ≡ Some fault

-- the state has all items that count, and whether an end line is among them; or they have this first fault
abbrev pub ReadsItems : List Item → Result (Reading × Bool) ReadFault → Type 0
ReadsItems items (Ok read) = Holds read.0 (reverse (to_end_line items)) × (read.1 ≡ has_end_line (reverse (to_end_line items)))
ReadsItems items (Err (faults.Line line word fault)) = fault_in (reverse (to_end_line items)) ≡ Some (faults.Line line word fault)
ReadsItems items (Err (faults.End fault)) = ⊥
ReadsItems items (Err faults.OutOfMemory) = Unit {0}
ReadsItems items (Err faults.Device) = ⊥
ReadsItems items (Err faults.TooLong) = ⊥

-- ---- the state between two pieces of a text: all settled items were taken

-- of the bytes so far all settled items were taken, and the other bytes are kept
pub record IsPaused (intake : Intake) (begun : Begun) (bytes : List ℕ) : Type 0 where
  pub fed : IsFedTo intake begun bytes []
  pub unsettled : items_left true intake.inside (kept begun) ≡ []

-- the result of a piece: whether an end line has come, or the settled fault
abbrev pub FeedsOn : List ℕ → Intake → Begun → Result Bool ReadFault → Type 0
FeedsOn bytes intake begun (Ok true) = HasEnded intake.reading bytes
FeedsOn bytes intake begun (Ok false) = IsPaused intake begun bytes
FeedsOn bytes intake begun (Err found) = IsStoppedBy bytes found

-- the result at the end of the text: whether an end line is among its items, or their first fault
abbrev pub TakesAll : List ℕ → Reading → Result Bool ReadFault → Type 0
TakesAll bytes reading (Ok ended) = ReadsItems (items_of bytes) (Ok (reading, ended))
TakesAll bytes reading (Err (faults.Line line word found)) = ReadsItems (items_of bytes) (Err (faults.Line line word found))
TakesAll bytes reading (Err (faults.End found)) = ⊥
TakesAll bytes reading (Err faults.OutOfMemory) = is_bare bytes ≡ false
TakesAll bytes reading (Err faults.Device) = ⊥
TakesAll bytes reading (Err faults.TooLong) = ⊥

-- the stage after a piece, by its result, and by whether all of the piece could be read
abbrev pub stage_after : Bool → Result Bool ReadFault → Stage
stage_after all (Ok true) = Ended
stage_after true (Ok false) = Going
stage_after false (Ok false) = Refused faults.TooLong
stage_after all (Err found) = Refused found

-- the answer at a stage
abbrev pub outcome_of : Stage → Result (Unit {0}) ReadFault
outcome_of Going = Ok tt
outcome_of Ended = Ok tt
outcome_of (Refused found) = Err found

-- while a text goes on, no more lines and words are counted than bytes have come
abbrev pub HasRoom : Stage → Intake → Begun → ℕ → Type 0
HasRoom stage intake begun count = stage ≡ Going → (most_lines intake begun 0 ≤ count + 1) × (most_words intake begun 0 ≤ count)

-- there are `count` bytes that were taken so far; of a refused text nothing is said
abbrev pub HasBytes : Stage → Intake → Begun → ℕ → Type 0
HasBytes Going intake begun count =
    (bytes : List ℕ) × (count ≡ length bytes) × (length bytes ≤ most_file_bytes) × IsPaused intake begun bytes
HasBytes Ended intake begun count =
    (bytes : List ℕ) × Holds intake.reading (settled_part bytes) × (has_end_line (settled_part bytes) ≡ true)
HasBytes (Refused found) intake begun count = Unit {0}
