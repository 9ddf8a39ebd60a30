-- The reader's state after some items of a text (`Holds`): the items have no fault, and their values are in the draft
-- and in the list of the open section. Also what each line does to that state, for the contracts of `src/reading.rt`
-- and `src/line.rt`. `specs/Reads.antt` tells callers by `Holds` and `Finishes` what reading returns, so a change to
-- these two reaches the callers.
use Rattle.tsp_read.specs.Prelude.{find, option_map, option_map_or, ℕ, Bool, List, Some, false, not, [], Option, None, is_some, Result, Ok, Err, nat_lt, ℤ, true, is_none, unwrap_or, length, nat_le, whole_of, shape_of, most_line_bytes, most_comments, most_others, Fields, with_numbers, with_points, fields_of, has_line, open_section, is_open, words_of, spatial_after, dimension_in, named, is_left_out, same_field, row_of, when, first_row, is_too_long_to_keep, numbers_by_node, points_by_node, space_points_by_node, depots_in, fixed_in, fixed_triples_in, whole_families, whole_memories, whole_rows, WordLine, Item, Line, AreCut, is_not_empty, first_word, tours_in, whole_steps, weights_in, IsClean, fields_by, is_incomplete, sections_in_order, first_incomplete, opening_rows, spelled, fault_at_end}
use Rattle.std.specs.Prelude.{◌≡◌, ◌&&◌, ◌∷◌, ◌≤ℤ◌, ◌++◌, ◌||◌}
use Rattle.std.specs.Result.{result_err}
use Rattle.tsp_number.specs.declared.number_word.NumberFault.{NumberFault}
use Rattle.tsp_format.specs.declared.keyword.Field.{Field}
use Rattle.tsp_format.specs.declared.keyword.Field.TheVariants.{NameKey, TypeKey, DimensionKey, CapacityKey, ScaleKey, LoadUnitKey, EdgeWeightTypeKey, EdgeWeightFormatKey, NodeCoordTypeKey, DisplayDataTypeKey}
use Rattle.tsp_format.specs.declared.keyword.Keyword.TheVariants.{Known, Unknown}
use Rattle.tsp_format.specs.declared.keyword.Shape.{Shape}
use Rattle.tsp_format.specs.declared.keyword.Shape.TheVariants.{Numbers, Points, SpacePoints, Depots, Pairs, Weights, Tours, Triples, Families, Memories, SubsetRows, Steps}
use Rattle.tsp_file.specs.Rules.{standing_of, end_fault}
use Rattle.tsp_file.specs.declared.rules.EndFault.{EndFault}
use Rattle.tsp_text.specs.declared.fault.LineFault.{LineFault}
use Rattle.tsp_text.specs.declared.fault.LineFault.TheVariants as row
use Rattle.tsp_read.specs.declared.line.CutLine.{CutLine}
use Rattle.tsp_read.specs.declared.step_fault.StepFault.{StepFault}
use Rattle.tsp_read.specs.declared.step_fault.StepFault.TheVariants as steps
use Rattle.tsp_read.specs.declared.reading.FinishFault.{FinishFault}
use Rattle.tsp_read.specs.declared.reading.FinishFault.TheVariants as faults
use Rattle.tsp_read.specs.declared.reading.OpenSection.{OpenSection}
use Rattle.tsp_read.specs.declared.reading.Reading.{Reading}
use Rattle.tsp_read.specs.states.HeldParts.{shape_by, HoldsPart}

-- the part is of the section's shape, in a spatial file or another, and has these words; n is the number of nodes
abbrev pub HoldsSection : Bool → OpenSection → ℕ → List (List ℕ) → Type 0
HoldsSection in_space section n words = (shape_of in_space section.field ≡ Some (shape_by section.part))
    × HoldsPart section.part n words

-- ---- the reader's state after some items of a text, the last one first

-- the section has begun and is no longer open
abbrev pub is_closed : List Item → Field → Bool
is_closed earlier field = not (is_open field (open_section earlier)) && has_line field earlier

-- the section is no longer open, and is incomplete
abbrev pub is_closed_incomplete : List Item → Field → Bool
is_closed_incomplete earlier field = not (is_open field (open_section earlier)) && is_incomplete earlier field

-- which keywords have a value among the fields
abbrev pub fields_there : Fields → List Bool
fields_there fields = is_some fields.name ∷ is_some fields.kind ∷ is_some fields.dimension ∷ is_some fields.capacity
    ∷ is_some fields.scale ∷ is_some fields.load_unit
    ∷ is_some fields.weight_kind ∷ is_some fields.weight_format ∷ is_some fields.coord_kind ∷ is_some fields.display_kind ∷ []

-- which of these keywords the items have
abbrev pub keywords_there : List Item → List Bool
keywords_there earlier = has_line NameKey earlier ∷ has_line TypeKey earlier ∷ has_line DimensionKey earlier
    ∷ has_line CapacityKey earlier ∷ has_line ScaleKey earlier ∷ has_line LoadUnitKey earlier
    ∷ has_line EdgeWeightTypeKey earlier ∷ has_line EdgeWeightFormatKey earlier ∷ has_line NodeCoordTypeKey earlier
    ∷ has_line DisplayDataTypeKey earlier ∷ []

-- the fields have a keyword's value exactly if the items have the keyword
abbrev pub KeywordsStand : Fields → List Item → Type 0
KeywordsStand fields earlier = fields_there fields ≡ keywords_there earlier

-- the open section is that of the items, and its part has its words
abbrev pub OpenHolds : Option OpenSection → List Item → Type 0
OpenHolds None earlier = open_section earlier ≡ None
OpenHolds (Some section) earlier = (open_section earlier ≡ Some section.field)
    × HoldsSection (spatial_after earlier) section (dimension_in earlier) (words_of section.field earlier)

-- the items have no fault; the draft has their fields, without those of the open section; and that section's part has
-- its words
pub record Holds (reading : Reading) (earlier : List Item) : Type 0 where
  pub clean : IsClean earlier
  pub stand : KeywordsStand (fields_of reading.draft) earlier
  pub spelled : fields_of reading.draft ≡ fields_by (is_closed earlier) earlier
  pub incomplete : reading.incomplete ≡ find (is_closed_incomplete earlier) sections_in_order
  pub part : OpenHolds reading.opened earlier

-- the same if no section is open: the draft has all fields of the items
pub record Closed (reading : Reading) (earlier : List Item) : Type 0 where
  pub clean : IsClean earlier
  pub stand : KeywordsStand (fields_of reading.draft) earlier
  pub spelled : fields_of reading.draft ≡ fields_by (λ field. has_line field earlier) earlier
  pub incomplete : reading.incomplete ≡ first_incomplete earlier
  pub part : reading.opened ≡ None

-- the state was read from some items, which are cut as those of a text
abbrev pub IsReadFrom : Reading → Type 0
IsReadFrom reading = ∥ ((earlier : List Item) × Holds reading earlier × AreCut earlier) ∥₁

-- What a step returns for an item: its fault, or none and the state holds that item too.
abbrev pub AnswersItem : List Item → Item → Reading → Result (Unit {0}) StepFault → Type 0
AnswersItem earlier item new (Ok done) = Holds new (item ∷ earlier)
AnswersItem earlier item new (Err (steps.Memory refused)) = Unit {0}
AnswersItem earlier item new (Err (steps.Fault fault)) = row_of earlier item ≡ Some fault

-- the answer for the line of a known keyword, from a state if no section is open; the line isn't too long
abbrev pub LineAnswers : Reading → Field → WordLine → Reading → Result (Unit {0}) StepFault → Type 0
LineAnswers old field line new result = (earlier : List Item) → Closed old earlier → nat_lt most_line_bytes line.size ≡ false
    → AnswersItem earlier (Line (Known field) line) new result

-- the same for the line of an unknown keyword
abbrev pub OtherAnswers : Reading → WordLine → Reading → Result (Unit {0}) StepFault → Type 0
OtherAnswers old line new result = (earlier : List Item) → Closed old earlier → nat_lt most_line_bytes line.size ≡ false
    → AnswersItem earlier (Line Unknown line) new result

-- ---- a word line that is cut into keyword and value, and the faults of a value

-- the word line, as the definitions of tsp_text have it
abbrev pub seen : CutLine → WordLine
seen line = record { size = line.size; keyword = line.keyword.now; has_colon = line.has_colon; value = line.value.now }

-- the item that it is
abbrev pub cut_item : CutLine → Item
cut_item line = Line line.key (seen line)

-- the rows of a keyword with a list of accepted words
abbrev pub word_rows : {V : Type 0} → (V → List ℕ) → List V → Field → List ℕ → Option LineFault
word_rows text values field word =
    first_row (when (is_left_out field word) row.Outside ∷ when (is_none (named text values word)) row.BadValue ∷ [])

-- the value that a word names among the accepted ones, or the fault of the line
abbrev pub NamesValue : {V : Type 0} → (V → List ℕ) → List V → Field → List ℕ → Result V LineFault → Type 0
NamesValue text values field word (Ok v) = (is_left_out field word ≡ false) × (named text values word ≡ Some v)
NamesValue text values field word (Err fault) = word_rows text values field word ≡ Some fault

-- ---- a line that opens a section

-- whether a section may be opened, with n nodes, or the fault of its line
abbrev pub MayOpen : Shape → Bool → List ℕ → Option ℕ → Result ℕ LineFault → Type 0
MayOpen shape stands value dimension (Ok n) = (n ≡ unwrap_or dimension 0)
    × (opening_rows shape stands value (is_some dimension) n ≡ None)
MayOpen shape stands value dimension (Err fault) =
    opening_rows shape stands value (is_some dimension) (unwrap_or dimension 0) ≡ Some fault

-- ---- a field of the draft that a line sets

-- the rows of such a keyword, with those that need earlier lines
abbrev pub named_rows : {V : Type 0} → Bool → Bool → Option V → Bool → Option LineFault
named_rows stands out found late = first_row (when stands row.Repeated ∷ when out row.Outside ∷ when (is_none found) row.BadValue
    ∷ when late row.LateSpace ∷ [])

-- The field has the named value now, or the line has this fault; `late` says whether the value comes too late.
abbrev pub SetsNamed : {V : Type 0} → (V → List ℕ) → List V → Field → List ℕ → Bool → Option V → Option V
    → Result (Unit {0}) StepFault → Type 0
SetsNamed text values field word late old new (Ok done) = (is_some old ≡ false) × (is_left_out field word ≡ false)
    × (named text values word ≡ new) × (is_some new ≡ true) × (late ≡ false)
SetsNamed text values field word late old new (Err (steps.Memory refused)) = ⊥
SetsNamed text values field word late old new (Err (steps.Fault fault)) = (new ≡ old)
    × (named_rows (is_some old) (is_left_out field word) (named text values word) late ≡ Some fault)

-- the rows of a keyword with a number
abbrev pub numbered_rows : Bool → List ℕ → Result ℤ NumberFault → Option LineFault
numbered_rows stands value reading = first_row (when stands row.Repeated ∷ when (not (is_not_empty value)) row.BadValue
    ∷ option_map (λ fault. row.Number fault) (result_err reading) ∷ [])

-- the number of a keyword that no earlier line has, or the fault of the line
abbrev pub GivesNumber : Bool → ℤ → ℤ → List ℕ → Result ℤ LineFault → Type 0
GivesNumber stands low high value (Ok z) = (stands ≡ false) × (is_not_empty value ≡ true)
    × (whole_of (first_word value) low high ≡ Ok z) × (low ≤ℤ z) × (z ≤ℤ high)
GivesNumber stands low high value (Err fault) =
    numbered_rows stands value (whole_of (first_word value) low high) ≡ Some fault

-- the field has the name now, or the line has this fault
abbrev pub SetsName : WordLine → Option (List ℕ) → Option (List ℕ) → Result (Unit {0}) StepFault → Type 0
SetsName line old new (Ok done) = (is_some old ≡ false) × (is_too_long_to_keep line ≡ false) × (new ≡ Some line.value)
SetsName line old new (Err (steps.Memory refused)) = new ≡ old
SetsName line old new (Err (steps.Fault fault)) = (new ≡ old)
    × (first_row (when (is_some old) row.Repeated ∷ when (is_too_long_to_keep line) row.BadValue ∷ []) ≡ Some fault)

-- the value is the last comment now, or the line has this fault
abbrev pub AddsComment : WordLine → List (List ℕ) → List (List ℕ) → Result (Unit {0}) StepFault → Type 0
AddsComment line old new (Ok done) = (is_too_long_to_keep line ≡ false) × (nat_le most_comments (length old) ≡ false)
    × (new ≡ old ++ line.value ∷ [])
AddsComment line old new (Err (steps.Memory refused)) = new ≡ old
AddsComment line old new (Err (steps.Fault fault)) = (new ≡ old)
    × (first_row (when (is_too_long_to_keep line) row.BadValue ∷ when (nat_le most_comments (length old)) row.Surplus ∷ [])
    ≡ Some fault)

-- the line is the last one of unknown keywords now, or has this fault
abbrev pub AddsOther : WordLine → List (List ℕ × List ℕ) → List (List ℕ × List ℕ) → Result (Unit {0}) StepFault → Type 0
AddsOther line old new (Ok done) = (line.has_colon ≡ true) × (is_too_long_to_keep line ≡ false)
    × (nat_le most_others (length old) ≡ false) × (new ≡ old ++ (line.keyword, line.value) ∷ [])
AddsOther line old new (Err (steps.Memory refused)) = new ≡ old
AddsOther line old new (Err (steps.Fault fault)) = (new ≡ old)
    × (first_row (when (not line.has_colon) row.UnknownLine ∷ when (is_too_long_to_keep line) row.BadValue
    ∷ when (nat_le most_others (length old)) row.Surplus ∷ []) ≡ Some fault)

-- ---- the result of the reader at the end of a text

-- The file of the items, or the fault at their end; or memory was refused.
abbrev pub Finishes : List Item → Result Fields FinishFault → Type 0
Finishes items (Ok file) = IsClean items × (fault_at_end items ≡ None) × (file ≡ spelled items)
Finishes items (Err (faults.Memory refused)) = Unit {0}
Finishes items (Err (faults.End fault)) = IsClean items × (fault_at_end items ≡ Some fault)

-- The file of these fields, if this is the first incomplete section; or the fault of the end table.
abbrev pub FileOf : Fields → Option Field → Result Fields EndFault → Type 0
FileOf fields incomplete (Ok file) = (end_fault (standing_of fields) incomplete ≡ None) × (file ≡ fields)
FileOf fields incomplete (Err fault) = end_fault (standing_of fields) incomplete ≡ Some fault

-- ---- the first closed section that is incomplete, after one more section was closed

-- the field is that section, if there is one
abbrev pub is_it : Field → Option Field → Bool
is_it field None = false
is_it field (Some other) = same_field field other

-- the field is the closed section or the other one
abbrev pub is_either : Field → Option Field → Field → Bool
is_either section other field = same_field field section || is_it field other

-- the first of some fields that is either
abbrev pub first_of : Field → Option Field → List Field → Option Field
first_of section other fields = find (is_either section other) fields

-- ---- the fields of a draft after a section is closed: its words become its value

-- the fields with the value of these words, for a section of this shape; n is the number of nodes
abbrev pub with_words : Shape → Field → ℕ → List (List ℕ) → Fields → Fields
with_words (Numbers low high) field n words fields = with_numbers field (numbers_by_node low high n words) fields
with_words Points field n words fields = with_points field (points_by_node n words) fields
with_words SpacePoints field n words fields = with_points field (space_points_by_node n words) fields
with_words Depots field n words fields = record fields { depots = Some (depots_in n words) }
with_words Pairs field n words fields = record fields { fixed = Some (fixed_in n words) }
with_words Weights field n words fields = record fields { weights = Some (weights_in words) }
with_words Tours field n words fields = record fields { tours = Some (tours_in words) }
with_words Triples field n words fields = record fields { fixed_potentials = Some (fixed_triples_in n words) }
with_words Families field n words fields = record fields { families = Some (whole_families n words) }
with_words Memories field n words fields = record fields { memories = Some (whole_memories n words) }
with_words SubsetRows field n words fields = record fields { subset_rows = Some (whole_rows n words) }
with_words Steps field n words fields = record fields { branches = Some (whole_steps n words) }

-- the same for a section, in a spatial file or another
abbrev pub with_section : Bool → Field → ℕ → List (List ℕ) → Fields → Fields
with_section in_space field n words fields =
    option_map_or (λ shape. with_words shape field n words fields) (shape_of in_space field) fields
