-- A run of plain numbers that is read in a single pass leaves the same state as its words read one by one (`RunsTo`).
-- Only `src/plain_numbers.rt` uses it. These contracts are why its fast path affects nothing but speed; you may change
-- the steps with the code.
use Rattle.tsp_read.specs.Prelude.{ℕ, List, length, Option, None, Some, Bool, true, [], is_blank, ends_line, without_start, NumberWord}
use Rattle.std.specs.Prelude.{◌+◌, ◌≤◌, ◌<◌, ◌≡◌, ◌∷◌, ◌⊎◌}
use Rattle.tsp_format.specs.declared.keyword.Field.{Field}
use Rattle.tsp_file.specs.declared.draft.Draft.{Draft}
use Rattle.tsp_read.specs.declared.items.Intake.{Intake}
use Rattle.tsp_read.specs.declared.section_builder.SectionBuilder.{SectionBuilder}
use Rattle.tsp_read.specs.declared.reading.Reading.{Reading}
use Rattle.tsp_read.specs.declared.plain_numbers.Count.{Count}
use Rattle.tsp_read.specs.declared.plain_numbers.End.{End}
use Rattle.tsp_read.specs.declared.plain_numbers.End.TheVariants.{Blank, Line}
use Rattle.tsp_read.specs.states.Left.{ends_word, up_to_first}
use Rattle.tsp_read.specs.states.Onward.{IsReadTo, GivesNext}

-- the intake with this state and these counts
abbrev pub counted : Reading → Count → Intake
counted reading count = record { reading = reading; line = count.line; words = count.words; inside = count.inside }

-- the same if the state has these fields and this part of the open section
abbrev pub in_run : Draft → Option Field → Field → SectionBuilder → Count → Intake
in_run draft incomplete field part count =
    counted (record { draft = draft; incomplete = incomplete; opened = Some (record { field = field; part = part }) }) count

-- Whatever the fields and the bytes so far are: if they were read with the old part and counts, and `text` is left,
-- the new part and counts have read them on, and `rest` is left.
abbrev pub TakesRun : SectionBuilder → Count → List ℕ → SectionBuilder → Count → List ℕ → Type 0
TakesRun old before text new after rest = (draft : Draft) (incomplete : Option Field) (field : Field) (bytes : List ℕ)
    → IsReadTo (in_run draft incomplete field old before) bytes text
    → IsReadTo (in_run draft incomplete field new after) bytes rest

-- a run from `text` to `rest`, in which no more lines and words are counted than bytes are read
pub record RunsTo (old : SectionBuilder) (before : Count) (text : List ℕ) (new : SectionBuilder) (after : Count) (rest : List ℕ) : Type 0 where
  pub read : TakesRun old before text new after rest
  pub line : after.line + length rest ≤ before.line + length text
  pub words : after.words + length rest ≤ before.words + length text
  pub shorter : length rest ≤ length text

-- One step of a run. Some: what is left after it, which is shorter. None: nothing was taken.
abbrev pub StepsTo : SectionBuilder → Count → List ℕ → SectionBuilder → Count → Option (List ℕ) → Type 0
StepsTo old before text new after None = RunsTo old before text new after text
StepsTo old before text new after (Some rest) = RunsTo old before text new after rest × (length rest < length text)

-- ---- the word at the beginning of a text, and what is left after it

-- the bytes of the word: from the first that isn't blank to the first blank or byte 10
abbrev pub front_word : List ℕ → List ℕ
front_word text = up_to_first ends_word (without_start text)

-- what is left after a word that ends here: the bytes after a blank, or those from byte 10 on
abbrev pub LeavesEnd : List ℕ → List ℕ → Type 0
LeavesEnd [] left = ⊥
LeavesEnd (b ∷ later) left = ((is_blank b ≡ true) × (left ≡ later)) ⊎ ((ends_line b ≡ true) × (left ≡ b ∷ later))

-- the same, by the end that code found
abbrev pub left_from : End → List ℕ
left_from (Blank later) = later.now
left_from (Line later) = 10 ∷ later.now

-- The word at the beginning is the next item, whether or not an item of the line was taken before. `Reads` says what it
-- is read as, and `left` is shorter than the text.
pub record IsFrontWord (text : List ℕ) (Reads : Type 0) (left : List ℕ) : Type 0 where
  pub word : (inside : Bool) → GivesNext inside text (NumberWord (front_word text)) true left
  pub reads : Reads
  pub shorter : length left < length text
