-- What `Intake` in src/items.rt has read after one more item of a piece: the item (`read_further`), the end of the text
-- (`read_to_end`) or a fault (`read_to_fault`); and that the end of a line changes nothing (`line_ends`).
use Rattle.tsp_read.proofs.Prelude.{◌≡◌, ℕ, Bool, true, false, List, [], ◌∷◌, ◌++◌, reverse, refl, sym, ap, subst, ◌∙◌, Option, Some, None, Ok, Err, append-nil, append_assoc, true≢false, false≢true, eqb-true, and_parts, or_from, none-some, list_all, ◌||◌, cond, is_some, take, most_file_bytes, is_blank, Field, Known, EdgeDataFormat, EdgeDataSection, Eof, Unknown, long_row, long_fault, same_fault, clean_more, rows_of_word, long_line, clean_parts, open_section, words_of, spatial_after, place_in, dimension_in, row_of, ends_line, Item, Line, NumberWord, LineEnd, settled_items, is_end_line, has_end_line, words_before, word_number, to_end_line, IsClean, part, settled_part, LineFault, ReadFault}
use Rattle.tsp_text.specs.declared.fault.LineFault.TheVariants as row
use Rattle.tsp_text.specs.declared.fault.ReadFault.TheVariants as faults
use Rattle.tsp_read.proofs.LeftSteps.{all_settled, left_blank, left_end, left_none}
use Rattle.tsp_read.proofs.Onwards.{walked_to_end, walked_found, on_end}
use Rattle.tsp_read.specs.Reads.{IsEnded}
use Rattle.tsp_read.specs.declared.items.Intake.{Intake}
use Rattle.tsp_read.specs.declared.items.Next.{Next}
use Rattle.tsp_read.specs.declared.items.Next.TheVariants as next
use Rattle.tsp_read.specs.declared.reading.OpenSection.{OpenSection}
use Rattle.tsp_read.specs.declared.reading.Reading.{Reading}
use Rattle.tsp_read.specs.states.Holds.{Holds, OpenHolds}
use Rattle.tsp_read.specs.states.Left.{items_left, ends_word, item_next}
use Rattle.tsp_read.specs.states.Onward.{Walked, is_bare, is_line_end, is_over_long, GivesNext, GoesOn, HasTakenItems, TakesNext, IsReadTo, settled_so_far, HasEnded, IsStoppedBy, TakesItem}

-- ---- an item that is too long has a row

abbrev HasRow : List Item → Item → Type 0
HasRow earlier item = (fault : LineFault) × (row_of earlier item ≡ Some fault)

long_word_row : (earlier : List Item) (word : List ℕ) (opened : Option Field) → open_section earlier ≡ opened
    → is_over_long (NumberWord word) ≡ true → HasRow earlier (NumberWord word)
long_word_row earlier word None e long = (row.StrayNumber, rw e refl)
long_word_row earlier word (Some f) e long =
    let place = place_in (spatial_after earlier) f (dimension_in earlier) (words_of f earlier) in
    (long_row place, rows_of_word earlier word f e ∙ long_fault (dimension_in earlier) place word long)

long_has_row : (earlier : List Item) (item : Item) → is_over_long item ≡ true → HasRow earlier item
long_has_row earlier (Line key line) long = (row.LongLine, long_line key line earlier long)
long_has_row earlier (NumberWord word) long = long_word_row earlier word (open_section earlier) refl long
long_has_row earlier LineEnd long = absurd (false≢true long)

-- so one without a fault isn't too long
pub clean_is_short : (earlier : List Item) (item : Item) → IsClean (item ∷ earlier) → is_over_long item ≡ false
clean_is_short earlier item clean = by_case (is_over_long item) refl
  where
    by_case : (b : Bool) → is_over_long item ≡ b → is_over_long item ≡ false
    by_case true e = let found = long_has_row earlier item e in absurd (none-some found.0 (sym (clean_parts earlier item clean).1 ∙ found.1))
    by_case false e = e

-- ---- blanks and line ends alone

or_second : (a b : Bool) → a ≡ false → (a || b) ≡ true → b ≡ true
or_second true b e h = absurd cc
or_second false b e h = h

abbrev pub AllEnds : List Item → Type 0
AllEnds items = list_all is_line_end items ≡ true

bare_step : (goes_on inside : Bool) (b : ℕ) (bytes : List ℕ) (k : Bool) → is_blank b ≡ k → is_bare (b ∷ bytes) ≡ true
    → ((within : Bool) → AllEnds (items_left goes_on within bytes)) → AllEnds (items_left goes_on inside (b ∷ bytes))
bare_step goes_on inside b bytes true e bare rest = ap (list_all is_line_end) (left_blank goes_on inside b bytes e) ∙ rest inside
bare_step goes_on inside b bytes false e bare rest =
    let ten : b ≡ 10 = eqb-true b 10 (or_second (is_blank b) (ends_line b) e (and_parts (ends_word b) (is_bare bytes) bare).0) in
    ap (λ (c : ℕ). list_all is_line_end (items_left goes_on inside (c ∷ bytes))) ten ∙ ap (list_all is_line_end) (left_end goes_on inside bytes) ∙ rest false

pub bare_ends : (goes_on inside : Bool) (bytes : List ℕ) → is_bare bytes ≡ true → AllEnds (items_left goes_on inside bytes)
bare_ends goes_on inside [] bare = ap (list_all is_line_end) (left_none goes_on inside)
bare_ends goes_on inside (b ∷ bytes) bare =
    bare_step goes_on inside b bytes (is_blank b) refl bare (λ within. bare_ends goes_on within bytes (and_parts (ends_word b) (is_bare bytes) bare).1)

all_after : (xs ys : List Item) → AllEnds (xs ++ ys) → AllEnds ys
all_after [] ys h = h
all_after (x ∷ xs) ys h = all_after xs ys (and_parts (is_line_end x) (list_all is_line_end (xs ++ ys)) h).1

-- ---- the items of the bytes so far

pub read_parts : (intake : Intake) (bytes rest : List ℕ) (h : IsReadTo intake bytes rest) (goes_on : Bool)
    → items_left goes_on false bytes ≡ reverse h.earlier ++ items_left goes_on intake.inside rest
read_parts intake bytes rest h goes_on =
    ap (items_left goes_on false) (sym (append-nil bytes)) ∙ h.parts goes_on [] ∙ ap (λ (xs : List ℕ). reverse h.earlier ++ items_left goes_on intake.inside xs) (append-nil rest)

pub walked_so_far : (intake : Intake) (bytes rest : List ℕ) (h : IsReadTo intake bytes rest)
    → Walked (settled_items bytes) h.earlier (items_left true intake.inside rest)
walked_so_far intake bytes rest h =
    record { parts = sym (all_settled bytes) ∙ read_parts intake bytes rest h true; going = h.going }

-- an item that isn't a line's end is none of blanks and line ends
pub not_bare : (intake : Intake) (bytes rest : List ℕ) (goes_on : Bool) (item : Item) (later : List Item)
    → IsReadTo intake bytes rest
    → items_left goes_on intake.inside rest ≡ item ∷ later → is_line_end item ≡ false → is_bare bytes ≡ false
not_bare intake bytes rest goes_on item later h next other = by_case (is_bare bytes) refl
  where
    by_case : (b : Bool) → is_bare bytes ≡ b → is_bare bytes ≡ false
    by_case true e =
        let ends : AllEnds (reverse h.earlier ++ item ∷ later) =
        ap (list_all is_line_end) (ap (λ (xs : List Item). reverse h.earlier ++ xs) (sym next) ∙ sym (read_parts intake bytes rest h goes_on)) ∙ bare_ends goes_on false bytes e in
        let here = (and_parts (is_line_end item) (list_all is_line_end later) (all_after (reverse h.earlier) (item ∷ later) ends)).0 in
        absurd (true≢false (sym here ∙ other))
    by_case false e = e

-- ---- one item more

goes_further : (bytes rest after : List ℕ) (earlier : List Item) (item : Item) (inside next : Bool)
    → GoesOn bytes earlier inside rest → GivesNext inside rest item next after
    → GoesOn bytes (item ∷ earlier) next after
goes_further bytes rest after earlier item inside next parts gives goes_on more =
    parts goes_on more
    ∙ ap (λ (xs : List Item). reverse earlier ++ xs) (gives goes_on more)
    ∙ sym (append_assoc (reverse earlier) (item ∷ []) (items_left goes_on next (after ++ more)))
    ∙ ap (λ (xs : List Item). xs ++ items_left goes_on next (after ++ more)) (sym (on_end item earlier))

-- an item that isn't an end line was taken
pub read_further : (old new : Intake) (bytes rest after : List ℕ) (item : Item) (next ended : Bool) → ended ≡ false
    → IsReadTo old bytes rest
    → ((earlier : List Item) → HasTakenItems old earlier → TakesNext earlier item new (Ok ended)) → new.inside ≡ next
    → (is_over_long item ≡ false → GivesNext old.inside rest item next after) → IsReadTo new bytes after
read_further old new bytes rest after item next ended goes h taken inside gives =
    let got = taken h.earlier h.stands in
    let further = goes_further bytes rest after h.earlier item old.inside next h.parts (gives (clean_is_short h.earlier item got.0.holds.clean)) in
    record {
      earlier = item ∷ h.earlier;
      stands = got.0;
      going = or_from (is_end_line item) (has_end_line h.earlier) (sym got.1 ∙ goes) h.going;
      parts = subst (λ (i : Bool). GoesOn bytes (item ∷ h.earlier) i after) (sym inside) further;
    }

-- the item is an end line
pub read_to_end : (old new : Intake) (bytes rest : List ℕ) (item : Item) (later : List Item) (ended : Bool) → ended ≡ true
    → IsReadTo old bytes rest
    → items_left true old.inside rest ≡ item ∷ later
    → ((earlier : List Item) → HasTakenItems old earlier → TakesNext earlier item new (Ok ended)) → HasEnded new.reading bytes
read_to_end old new bytes rest item later ended ends h next taken =
    let got = taken h.earlier h.stands in
    let walked = subst (λ (xs : List Item). Walked (settled_items bytes) h.earlier xs) next (walked_so_far old bytes rest h) in
    let all : settled_so_far bytes ≡ item ∷ h.earlier = walked_to_end (settled_items bytes) h.earlier later item walked (sym got.1 ∙ ends) in
    record {
      holds = subst (λ (xs : List Item). Holds new.reading xs) (sym all) got.0.holds;
      ended = ap has_end_line all ∙ ap (λ b. b || has_end_line h.earlier) (sym got.1 ∙ ends);
    }

-- the item has a fault, or memory was refused
pub read_to_fault : (old new : Intake) (bytes rest : List ℕ) (item : Item) (later : List Item) (found : ReadFault)
    → IsReadTo old bytes rest
    → items_left true old.inside rest ≡ item ∷ later
    → ((earlier : List Item) → HasTakenItems old earlier → TakesNext earlier item new (Err found)) → IsStoppedBy bytes found
read_to_fault old new bytes rest item later (faults.Line line word fault) h next taken =
    let walked = subst (λ (xs : List Item). Walked (settled_items bytes) h.earlier xs) next (walked_so_far old bytes rest h) in
    walked_found (settled_items bytes) h.earlier later item (faults.Line line word fault) walked (taken h.earlier h.stands)
read_to_fault old new bytes rest item later (faults.End fault) h next taken = taken h.earlier h.stands
read_to_fault old new bytes rest item later faults.OutOfMemory h next taken =
    not_bare old bytes rest true item later h next (taken h.earlier h.stands)
read_to_fault old new bytes rest item later faults.Device h next taken = taken h.earlier h.stands
read_to_fault old new bytes rest item later faults.TooLong h next taken = taken h.earlier h.stands

-- ---- words that are too long

-- words that are too long have the same fault, whatever their bytes are
pub same_long : (earlier : List Item) (long word : List ℕ) (new : Intake) (found : ReadFault)
    → is_over_long (NumberWord long) ≡ true → is_over_long (NumberWord word) ≡ true
    → TakesNext earlier (NumberWord long) new (Err found) → TakesNext earlier (NumberWord word) new (Err found)
same_long earlier long word new (faults.Line line number fault) a b taken =
    same_fault earlier (NumberWord word) (NumberWord long) (b, a) ∙ taken
same_long earlier long word new (faults.End fault) a b taken = taken
same_long earlier long word new faults.OutOfMemory a b taken = refl
same_long earlier long word new faults.Device a b taken = taken
same_long earlier long word new faults.TooLong a b taken = taken

-- words that are too long are never taken
pub never_long : (earlier : List Item) (item : Item) (new : Intake) (ended : Bool) → is_over_long item ≡ true
    → TakesNext earlier item new (Ok ended) → ⊥
never_long earlier item new ended long taken = true≢false (sym long ∙ clean_is_short earlier item taken.0.holds.clean)

-- ---- one item that the reader takes

-- ---- one item

still_open : (part : Option OpenSection) (earlier : List Item) → OpenHolds part earlier → OpenHolds part (LineEnd ∷ earlier)
still_open None earlier h = h
still_open (Some part) earlier h = h

-- a line's end changes nothing
pub line_ends : (reading : Reading) (earlier : List Item) → Holds reading earlier → Holds reading (LineEnd ∷ earlier)
line_ends reading earlier h = record {
  clean = clean_more earlier LineEnd h.clean refl;
  stand = h.stand;
  spelled = h.spelled;
  incomplete = h.incomplete;
  part = still_open reading.opened earlier h.part;
}

pub line_ended : (reading : Reading) (earlier : List Item) (item : Next) → item ≡ next.LineEnd → Holds reading earlier
    → TakesItem earlier (item_next item) reading (Ok false)
line_ended reading earlier item is h =
    let P : Next → Type 0 = λ i. TakesItem earlier (item_next i) reading (Ok false) in
    subst P (sym is) (line_ends reading earlier h, refl)

pub word_taken : (new : Reading) (earlier : List Item) (item : Next) (word : List ℕ) → item_next item ≡ NumberWord word
    → Holds new (NumberWord word ∷ earlier)
    → TakesItem earlier (item_next item) new (Ok false)
word_taken new earlier item word is h = let P : Item → Type 0 = λ i. TakesItem earlier i new (Ok false) in subst P (sym is) (h, refl)

pub takes_ok : (earlier : List Item) (cut item : Item) (new : Reading) (ended : Bool) → cut ≡ item → Holds new (cut ∷ earlier)
    → ended ≡ is_end_line cut → TakesItem earlier item new (Ok ended)
takes_ok earlier cut item new ended same h e = let P : Item → Type 0 = λ i. TakesItem earlier i new (Ok ended) in subst P same (h, e)

-- ---- counts

-- after an item the line has as many words as the number of that item
pub words_next : (earlier : List Item) (item : Item) → word_number earlier item ≡ words_before (item ∷ earlier)
words_next earlier (Line key line) = refl
words_next earlier (NumberWord word) = refl
words_next earlier LineEnd = refl

-- ---- after an end line, as EOF, no section is open

end_opens_none : (item : Item) (earlier : List Item) → is_end_line item ≡ true → open_section (item ∷ earlier) ≡ None
end_opens_none (Line (Known field) line) earlier e = absurd (false≢true e)
end_opens_none (Line EdgeDataFormat line) earlier e = absurd (false≢true e)
end_opens_none (Line EdgeDataSection line) earlier e = absurd (false≢true e)
end_opens_none (Line Eof line) earlier e = refl
end_opens_none (Line Unknown line) earlier e = absurd (false≢true e)
end_opens_none (NumberWord word) earlier e = absurd (false≢true e)
end_opens_none LineEnd earlier e = absurd (false≢true e)

any_behind : (first all front : Bool) → (all ≡ true → front ≡ true) → (first || all) ≡ true → (first || front) ≡ true
any_behind true all front back any = refl
any_behind false all front back any = back any

-- a test that the last element fails is passed before it
any_front : (items : List Item) (last : Item) → is_end_line last ≡ false → has_end_line (items ++ last ∷ []) ≡ true
    → has_end_line items ≡ true
any_front [] last fails any = absurd (false≢true (ap (λ b. b || false) (sym fails) ∙ any))
any_front (item ∷ items) last fails any =
    any_behind (is_end_line item) (has_end_line (items ++ last ∷ [])) (has_end_line items) (any_front items last fails) any

-- the text behind a line doesn't count
front_decides : (items : List Item) (last : Item) → has_end_line items ≡ true
    → open_section (items ++ last ∷ []) ≡ open_section items
front_decides [] last any = absurd (false≢true any)
front_decides (Line key line ∷ items) last any = refl
front_decides (NumberWord word ∷ items) last any = front_decides items last any
front_decides (LineEnd ∷ items) last any = front_decides items last any

closed_by_end : (items : List Item) → has_end_line (reverse (to_end_line items)) ≡ true
    → open_section (reverse (to_end_line items)) ≡ None
closed_by_end [] any = absurd (false≢true any)
closed_by_end (item ∷ items) any = by_case (is_end_line item) refl (closed_by_end items)
  where
    by_case : (b : Bool) → is_end_line item ≡ b → (has_end_line (reverse (to_end_line items)) ≡ true → open_section (reverse (to_end_line items)) ≡ None)
        → open_section (reverse (to_end_line (item ∷ items))) ≡ None
    by_case true e rest = ap (λ b. open_section (reverse (item ∷ cond b [] (to_end_line items)))) e ∙ end_opens_none item [] e
    by_case false e rest =
        let same : reverse (to_end_line (item ∷ items)) ≡ reverse (to_end_line items) ++ item ∷ [] =
        ap (λ b. reverse (item ∷ cond b [] (to_end_line items))) e ∙ on_end item (to_end_line items) in
        let before : has_end_line (reverse (to_end_line items)) ≡ true =
        any_front (reverse (to_end_line items)) item e (sym (ap has_end_line same) ∙ any) in
        ap open_section same ∙ front_decides (reverse (to_end_line items)) item before ∙ rest before

no_part : (opened : Option OpenSection) (items : List Item) → OpenHolds opened items → open_section items ≡ None
    → is_some opened ≡ false
no_part None items h none = refl
no_part (Some p) items h none = absurd (none-some p.field (sym none ∙ h.0))

pub ended_none : (reading : Reading) (bytes : List ℕ) → IsEnded reading bytes → is_some reading.opened ≡ false
ended_none reading bytes h =
    no_part reading.opened (settled_part bytes) h.holds.part (closed_by_end (settled_items (take most_file_bytes bytes)) h.ended)
