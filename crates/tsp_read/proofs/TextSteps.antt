-- What `Reading` in src/reading.rt has after one more item: a line that opens or closes a section (`opened_fields`), a
-- word of the open section (`word_answer`), or the end of the text (`end_is`).
use Rattle.tsp_read.proofs.Prelude.{◌≡◌, Bool, true, false, cond, List, [], ◌∷◌, refl, sym, ap, ◌∙◌, Option, Some, None, subst, ◌++◌, Result, Ok, Err, set, get_or, length, false≢true, find, filter, option_map_or, option_map, not, ◌&&◌, ◌||◌, is_some, ℕ, nat_lt, nat_le, is_section_field, shape_of, most_line_bytes, most_comments, most_others, Field, NodeCoordPart, NameKey, CommentKey, OtherKey, Known, EdgeDataFormat, EdgeDataSection, Eof, Unknown, Shape, Points, SpacePoints, Fields, fields_of, clean_more, same_field_is, same_self, rows_of_word, words_more, same_field, has_line, open_section, words_of, spatial_after, dimension_in, place_by, place_in, values_at, others_in, word_fault, row_of, when, first_row, is_too_long_to_keep, coords_by_node, Item, AreCut, WordLine, Line, NumberWord, PastEnd, spelled, fault_at_end, fields_by, is_incomplete, sections_in_order, LineFault}
use Rattle.std.proofs.Math.Logic.{∥∥₁_elim}
use mathlib.Core.Bool.{Bool-set}
use Rattle.tsp_format.proofs.Pairs.{found_passes}
use Rattle.tsp_file.specs.Rules.{standing_of, end_fault, fault_of}
use Rattle.tsp_file.specs.declared.rules.DraftFault.{DraftFault}
use Rattle.tsp_text.proofs.Sections.{by_section, section_of}
use Rattle.tsp_text.proofs.ValidItems.{is_file}
use Rattle.tsp_text.specs.declared.fault.LineFault.TheVariants as row
use Rattle.tsp_read.proofs.KeywordSteps.{still_none}
use Rattle.tsp_read.specs.declared.step_fault.StepFault.{StepFault}
use Rattle.tsp_read.specs.declared.step_fault.StepFault.TheVariants as steps
use Rattle.tsp_read.specs.declared.reading.OpenSection.{OpenSection}
use Rattle.tsp_read.specs.declared.reading.Reading.{Reading}
use Rattle.tsp_read.specs.states.HeldParts.{shape_by, HoldsPart, HoldsShape}
use Rattle.tsp_read.specs.states.Holds.{is_it, first_of, Holds, Closed, IsReadFrom, is_closed, is_closed_incomplete, fields_there, keywords_there, with_words, with_section, OpenHolds, AnswersItem, SetsName, AddsComment, AddsOther, LineAnswers, OtherAnswers}
use Rattle.tsp_read.specs.states.Parts.{Takes}

-- the same test finds the same
found_alike : {A : Type 0} (p q : A → Bool) (xs : List A) → ((x : A) → p x ≡ q x) → find p xs ≡ find q xs
found_alike p q [] same = refl
found_alike p q (x ∷ xs) same =
    ap (λ b. cond b (Some x) (find p xs)) (same x) ∙ ap (λ o. cond (q x) (Some x) o) (found_alike p q xs same)

-- among the elements that pass p the first is that of all, if others aren't found
found_among : {A : Type 0} (p q : A → Bool) (xs : List A) → ((x : A) → q x ≡ true → p x ≡ true) → find q (filter p xs) ≡ find q xs
found_among p q [] only = refl
found_among p q (x ∷ xs) only = by_case (p x) (q x) refl refl (found_among p q xs only)
  where
    by_case : (b c : Bool) → p x ≡ b → q x ≡ c → find q (filter p xs) ≡ find q xs → find q (cond b (x ∷ filter p xs) (filter p xs)) ≡ cond c (Some x) (find q xs)
    by_case true c is passes rest = ap (λ d. cond d (Some x) (find q (filter p xs))) passes ∙ ap (λ o. cond c (Some x) o) rest
    by_case false true is passes rest = absurd (false≢true (sym is ∙ only x passes))
    by_case false false is passes rest = rest

-- what is found among the elements that pass p passes it
among_passes : {A : Type 0} (p q : A → Bool) (xs : List A) (y : A) → find q (filter p xs) ≡ Some y → p y ≡ true
among_passes p q [] y e = cc
among_passes p q (x ∷ xs) y e = by_case (p x) (q x) refl refl (among_passes p q xs y) e
  where
    by_case : (b c : Bool) → p x ≡ b → q x ≡ c → (find q (filter p xs) ≡ Some y → p y ≡ true) → find q (cond b (x ∷ filter p xs) (filter p xs)) ≡ Some y → p y ≡ true
    by_case true true is passes rest e =
        let found : Some x ≡ Some y = ap (λ d. cond d (Some x) (find q (filter p xs))) (sym passes) ∙ e in
        let same : x ≡ y = cc in
        ap p (sym same) ∙ is
    by_case true false is passes rest e = rest (ap (λ d. cond d (Some x) (find q (filter p xs))) (sym passes) ∙ e)
    by_case false c is passes rest e = rest e

-- ---- one field more may pass

-- the test at all fields but one
abbrev pub but : Field → (Field → Bool) → Field → Bool
but f test = λ x. not (same_field x f) && test x

-- if that one doesn't pass, nothing changes
pub first_without : (test : Field → Bool) (f : Field) (xs : List Field) → test f ≡ false → find (but f test) xs ≡ find test xs
first_without test f xs fails = found_alike (but f test) test xs each
  where
    by_case : (x : Field) (b : Bool) → same_field x f ≡ b → (not b && test x) ≡ test x
    by_case x true e = sym (ap test (same_field_is x f e) ∙ fails)
    by_case x false e = refl

    each : (x : Field) → but f test x ≡ test x
    each x = by_case x (same_field x f) refl

not_it : (x : Field) (test : Field → Bool) (o : Option Field) → ((y : Field) → o ≡ Some y → test y ≡ true) → test x ≡ false
    → is_it x o ≡ false
not_it x test None passes fails = refl
not_it x test (Some y) passes fails = by_case (same_field x y) refl
  where
    by_case : (b : Bool) → same_field x y ≡ b → b ≡ false
    by_case true e = sym (passes y refl) ∙ ap test (sym (same_field_is x y e)) ∙ fails
    by_case false e = refl

-- if it passes, the first is the one of it and the first of the others that comes first
first_with : (test : Field → Bool) (f : Field) (xs : List Field) → test f ≡ true
    → find test xs ≡ first_of f (find (but f test) xs) xs
first_with test f [] passes = refl
first_with test f (x ∷ xs) passes = by_case (same_field x f) (test x) refl refl (first_with test f xs passes)
  where
    others : List Field → Option Field
    others ys = find (but f test) ys

    by_case : (b c : Bool) → same_field x f ≡ b → test x ≡ c → find test xs ≡ first_of f (others xs) xs
        → cond c (Some x) (find test xs) ≡ (let o = cond (not b && c) (Some x) (others xs) in cond (b || is_it x o) (Some x) (first_of f o xs))
    by_case true true same is rest = refl
    by_case true false same is rest = absurd (false≢true (sym is ∙ ap test (same_field_is x f same) ∙ passes))
    by_case false true same is rest = ap (λ d. cond d (Some x) (first_of f (Some x) xs)) (sym (same_self x))
    by_case false false same is rest =
        let fails : but f test x ≡ false = rw (same, is) refl in
        let away : is_it x (others xs) ≡ false = not_it x (but f test) (others xs) (found_passes (but f test) xs) fails in
        rest ∙ ap (λ d. cond d (Some x) (first_of f (others xs) xs)) (sym away)

-- the same of the elements that pass p, as this one does, found among all
pub first_more : (p test : Field → Bool) (f : Field) (xs : List Field) → p f ≡ true → test f ≡ true
    → first_of f (find (but f test) (filter p xs)) xs ≡ find test (filter p xs)
first_more p test f xs there passes =
    sym (first_with test f (filter p xs) passes ∙ found_among p (λ x. same_field x f || is_it x (find (but f test) (filter p xs))) xs only)
  where
    others : Option Field
    others = find (but f test) (filter p xs)

    second : (x : Field) (o : Option Field) → others ≡ o → is_it x o ≡ true → p x ≡ true
    second x None e it = cc
    second x (Some y) e it = ap p (same_field_is x y it) ∙ among_passes p (but f test) xs y e

    by_case : (x : Field) (b : Bool) → same_field x f ≡ b → (b || is_it x others) ≡ true → p x ≡ true
    by_case x true same e = ap p (same_field_is x f same) ∙ there
    by_case x false same e = second x others refl e

    only : (x : Field) → (same_field x f || is_it x others) ≡ true → p x ≡ true
    only x e = by_case x (same_field x f) refl e

-- ---- at the end of a text the draft has the fault that the items have

-- the end table over the draft is that over the items
pub end_is : (reading : Reading) (items : List Item) → Closed reading items
    → end_fault (standing_of (fields_of reading.draft)) reading.incomplete ≡ fault_at_end items
end_is reading items h =
    ap (λ (fields : Fields). end_fault (standing_of fields) reading.incomplete) h.spelled
    ∙ ap (λ (o : Option Field). end_fault (standing_of (spelled items)) o) h.incomplete

-- a draft that was read has no fault if the end table has none
is_valid : (reading : Reading) (items : List Item) → Closed reading items → AreCut items
    → end_fault (standing_of (fields_of reading.draft)) reading.incomplete ≡ None
    → is_some (fault_of (fields_of reading.draft)) ≡ false
is_valid reading items h cut ended =
    ap is_some (ap fault_of h.spelled ∙ is_file items cut h.clean (sym (end_is reading items h) ∙ ended))

none_of : (found : Option DraftFault) → is_some found ≡ false → found ≡ None
none_of None is = refl
none_of (Some fault) is = absurd (false≢true (sym is))

pub valid_draft : (old new : Reading) → IsReadFrom old → ((earlier : List Item) → Holds old earlier → Closed new earlier)
    → end_fault (standing_of (fields_of new.draft)) new.incomplete ≡ None → fault_of (fields_of new.draft) ≡ None
valid_draft old new read closed ended =
    none_of (fault_of (fields_of new.draft)) (∥∥₁_elim read (Bool-set _ _) (λ there. is_valid new there.0 (closed there.0 there.1) there.2 ended))

-- ---- the fields of the closed sections

-- ---- a line that opens a section

-- the fields of the closed sections are those from before
pub opened_fields : (earlier : List Item) (line : WordLine) (f : Field) → is_section_field f ≡ true → has_line f earlier ≡ false
    → fields_by (λ field. has_line field earlier) earlier
    ≡ fields_by (is_closed (Line (Known f) line ∷ earlier)) (Line (Known f) line ∷ earlier)
opened_fields earlier line = by_section (λ f. has_line f earlier ≡ false → fields_by (λ field. has_line field earlier) earlier
    ≡ fields_by (is_closed (Line (Known f) line ∷ earlier)) (Line (Known f) line ∷ earlier))
    (λ none. rw none refl) (λ none. rw none refl) (λ none. rw none refl) (λ none. rw none refl) (λ none. rw none refl)
    (λ none. rw none refl) (λ none. rw none refl) (λ none. rw none refl) (λ none. rw none refl) (λ none. rw none refl)
    (λ none. rw none refl) (λ none. rw none refl) (λ none. rw none refl) (λ none. rw none refl) (λ none. rw none refl)

-- the first closed section that is incomplete is the one from before
pub opened_first : (earlier : List Item) (line : WordLine) (f : Field) → is_section_field f ≡ true → has_line f earlier ≡ false
    → find (is_incomplete earlier) sections_in_order ≡ find (is_closed_incomplete (Line (Known f) line ∷ earlier)) sections_in_order
opened_first earlier line = by_section (λ f. has_line f earlier ≡ false
    → find (is_incomplete earlier) sections_in_order ≡ find (is_closed_incomplete (Line (Known f) line ∷ earlier)) sections_in_order)
    (λ none. rw none refl) (λ none. rw none refl) (λ none. rw none refl) (λ none. rw none refl) (λ none. rw none refl)
    (λ none. rw none refl) (λ none. rw none refl) (λ none. rw none refl) (λ none. rw none refl) (λ none. rw none refl)
    (λ none. rw none refl) (λ none. rw none refl) (λ none. rw none refl) (λ none. rw none refl) (λ none. rw none refl)

-- what the keywords say stays
pub keywords_stay : (earlier : List Item) (line : WordLine) (f : Field) → is_section_field f ≡ true
    → keywords_there (Line (Known f) line ∷ earlier) ≡ keywords_there earlier
keywords_stay earlier line = by_section (λ f. keywords_there (Line (Known f) line ∷ earlier) ≡ keywords_there earlier)
    refl refl refl refl refl refl refl refl refl refl refl refl refl refl refl

-- ---- a word of the open section: the closed ones stay

pub word_fields : (earlier : List Item) (word : List ℕ) (f : Field) → is_section_field f ≡ true → open_section earlier ≡ Some f
    → fields_by (is_closed (NumberWord word ∷ earlier)) (NumberWord word ∷ earlier) ≡ fields_by (is_closed earlier) earlier
word_fields earlier word = by_section (λ f. open_section earlier ≡ Some f
    → fields_by (is_closed (NumberWord word ∷ earlier)) (NumberWord word ∷ earlier) ≡ fields_by (is_closed earlier) earlier)
    (λ o. rw o refl) (λ o. rw o refl) (λ o. rw o refl) (λ o. rw o refl) (λ o. rw o refl)
    (λ o. rw o refl) (λ o. rw o refl) (λ o. rw o refl) (λ o. rw o refl) (λ o. rw o refl)
    (λ o. rw o refl) (λ o. rw o refl) (λ o. rw o refl) (λ o. rw o refl) (λ o. rw o refl)

pub word_first : (earlier : List Item) (word : List ℕ) (f : Field) → is_section_field f ≡ true → open_section earlier ≡ Some f
    → find (is_closed_incomplete (NumberWord word ∷ earlier)) sections_in_order ≡ find (is_closed_incomplete earlier) sections_in_order
word_first earlier word = by_section (λ f. open_section earlier ≡ Some f
    → find (is_closed_incomplete (NumberWord word ∷ earlier)) sections_in_order ≡ find (is_closed_incomplete earlier) sections_in_order)
    (λ o. rw o refl) (λ o. rw o refl) (λ o. rw o refl) (λ o. rw o refl) (λ o. rw o refl)
    (λ o. rw o refl) (λ o. rw o refl) (λ o. rw o refl) (λ o. rw o refl) (λ o. rw o refl)
    (λ o. rw o refl) (λ o. rw o refl) (λ o. rw o refl) (λ o. rw o refl) (λ o. rw o refl)

-- ---- the open section is closed

-- the points of nodes go to their field in a spatial file as in another
points_stored : (in_space : Bool) (n : ℕ) (words : List (List ℕ)) (fields : Fields)
    → with_words (cond in_space SpacePoints Points) NodeCoordPart n words fields ≡ record fields { coords = Some (coords_by_node in_space n words) }
points_stored true n words fields = refl
points_stored false n words fields = refl

pub closed_fields : (earlier : List Item) (f : Field) → is_section_field f ≡ true → open_section earlier ≡ Some f
    → has_line f earlier ≡ true
    → with_section (spatial_after earlier) f (dimension_in earlier) (words_of f earlier) (fields_by (is_closed earlier) earlier) ≡ fields_by (λ field. has_line field earlier) earlier
closed_fields earlier = by_section (λ f. open_section earlier ≡ Some f → has_line f earlier ≡ true
    → with_section (spatial_after earlier) f (dimension_in earlier) (words_of f earlier) (fields_by (is_closed earlier) earlier) ≡ fields_by (λ field. has_line field earlier) earlier)
    (λ o there. points_stored (spatial_after earlier) (dimension_in earlier) (words_of NodeCoordPart earlier) (fields_by (is_closed earlier) earlier)
    ∙ rw (o, there) refl) (λ o there. rw (o, there) refl) (λ o there. rw (o, there) refl) (λ o there. rw (o, there) refl) (λ o there. rw (o, there) refl)
    (λ o there. rw (o, there) refl) (λ o there. rw (o, there) refl) (λ o there. rw (o, there) refl) (λ o there. rw (o, there) refl) (λ o there. rw (o, there) refl)
    (λ o there. rw (o, there) refl) (λ o there. rw (o, there) refl) (λ o there. rw (o, there) refl) (λ o there. rw (o, there) refl) (λ o there. rw (o, there) refl)

-- what the keywords say stays
pub stored_keywords : (in_space : Bool) (n : ℕ) (words : List (List ℕ)) (fields : Fields) (f : Field) → is_section_field f ≡ true
    → fields_there (with_section in_space f n words fields) ≡ fields_there fields
stored_keywords in_space n words fields =
    by_section (λ f. fields_there (with_section in_space f n words fields) ≡ fields_there fields)
    (ap fields_there (points_stored in_space n words fields)) refl refl refl refl
    refl refl refl refl refl
    refl refl refl refl refl

-- ---- a word of the open section: nothing changes but the words of that section

-- the open section after the word
open_more : (section after : OpenSection) (earlier : List Item) (word : List ℕ) → open_section earlier ≡ Some section.field
    → shape_of (spatial_after earlier) section.field ≡ Some (shape_by section.part) → after.field ≡ section.field
    → HoldsShape (shape_by section.part) after.part (dimension_in earlier) (words_of section.field earlier ++ word ∷ [])
    → OpenHolds (Some after) (NumberWord word ∷ earlier)
open_more section after earlier word o shape same h =
    let words : words_of after.field (NumberWord word ∷ earlier) ≡ words_of section.field earlier ++ word ∷ [] =
    ap (λ f. words_of f (NumberWord word ∷ earlier)) same ∙ words_more earlier word section.field o in (
      o ∙ ap (λ f. Some f) (sym same),
      (ap (shape_of (spatial_after earlier)) same ∙ shape ∙ ap (λ s. Some s) (sym h.0), subst (λ (ws : List (List ℕ)). HoldsPart after.part (dimension_in earlier) ws) (sym words) h.1),
    )

-- what the part of the open section returns
abbrev pub SectionTakes : OpenSection → OpenSection → List ℕ → Result (Unit {0}) StepFault → Type 0
SectionTakes section after word r = (n : ℕ) (words : List (List ℕ)) → HoldsPart section.part n words
    → Takes n (place_by (shape_by section.part) n words) word (HoldsShape (shape_by section.part) after.part n (words ++ word ∷ [])) r

place_is : (in_space : Bool) (field : Field) (shape : Shape) (n : ℕ) (words : List (List ℕ))
    → shape_of in_space field ≡ Some shape
    → place_in in_space field n words ≡ place_by shape n words
place_is in_space field shape n words is = ap (λ o. option_map_or (λ shape. place_by shape n words) o PastEnd) is

-- What the part returns is what the reader returns. The new state is the old one with the part after the word.
pub word_answer : (old new : Reading) (section after : OpenSection) (word : List ℕ) (r : Result (Unit {0}) StepFault) (earlier : List Item)
    → old.opened ≡ Some section → after.field ≡ section.field → new.draft ≡ old.draft → new.incomplete ≡ old.incomplete
    → new.opened ≡ Some after
    → SectionTakes section after word r → Holds old earlier → AnswersItem earlier (NumberWord word) new r
word_answer old new section after word (Ok done) earlier there same same_draft same_first is step h =
    let held : OpenHolds (Some section) earlier = rw there at h.part in
    let f = section.field in
    let kind : is_section_field f ≡ true = section_of (spatial_after earlier) f (shape_by section.part) held.1.0 in
    let next = step (dimension_in earlier) (words_of f earlier) held.1.1 in
    record {
      clean = clean_more earlier (NumberWord word) h.clean (rows_of_word earlier word f held.0
          ∙ ap (λ p. word_fault (dimension_in earlier) p word) (place_is (spatial_after earlier) f (shape_by section.part) (dimension_in earlier) (words_of f earlier) held.1.0) ∙ next.0);
      stand = rw same_draft h.stand;
      spelled = rw same_draft (h.spelled ∙ sym (word_fields earlier word f kind held.0));
      incomplete = same_first ∙ h.incomplete ∙ sym (word_first earlier word f kind held.0);
      part = rw is (open_more section after earlier word held.0 held.1.0 same next.1);
    }
word_answer old new section after word (Err (steps.Memory refused)) earlier there same same_draft same_first is step h = tt
word_answer old new section after word (Err (steps.Fault fault)) earlier there same same_draft same_first is step h =
    let held : OpenHolds (Some section) earlier = rw there at h.part in
    rows_of_word earlier word section.field held.0
    ∙ ap (λ p. word_fault (dimension_in earlier) p word) (place_is (spatial_after earlier) section.field (shape_by section.part) (dimension_in earlier) (words_of section.field earlier) held.1.0)
    ∙ step (dimension_in earlier) (words_of section.field earlier) held.1.1

-- nothing changes if a word isn't taken
pub kept_answer : (old new : Reading) (section after : OpenSection) (earlier : List Item)
    → old.opened ≡ Some section → after.field ≡ section.field → new.draft ≡ old.draft → new.incomplete ≡ old.incomplete
    → new.opened ≡ Some after
    → ((n : ℕ) (words : List (List ℕ)) → HoldsPart section.part n words → HoldsShape (shape_by section.part) after.part n words)
    → Holds old earlier → Holds new earlier
kept_answer old new section after earlier there same same_draft same_first is step h =
    let held : OpenHolds (Some section) earlier = rw there at h.part in
    let kept = step (dimension_in earlier) (words_of section.field earlier) held.1.1 in
    record {
      clean = h.clean;
      stand = rw same_draft h.stand;
      spelled = rw same_draft h.spelled;
      incomplete = same_first ∙ h.incomplete;
      part = rw is (
        held.0 ∙ ap (λ f. Some f) (sym same),
        (
          ap (shape_of (spatial_after earlier)) same ∙ held.1.0 ∙ ap (λ s. Some s) (sym kept.0),
          subst (λ f. HoldsPart after.part (dimension_in earlier) (words_of f earlier)) (sym same) kept.1,
        ),
      );
    }

-- ---- lines of NAME, COMMENT and unknown keywords, whose values are kept as they are

-- two rows and three rows that don't apply
pub two_none : (a b : Bool) (f g : LineFault) → a ≡ false → b ≡ false → first_row (when a f ∷ when b g ∷ []) ≡ None
two_none a b f g x y = rw (x, y) refl

pub three_none : (a b c : Bool) (f g h : LineFault) → a ≡ false → b ≡ false → c ≡ false
    → first_row (when a f ∷ when b g ∷ when c h ∷ []) ≡ None
three_none a b c f g h x y z = rw (x, y, z) refl

-- ---- NameKey

name_rows : (earlier : List Item) (line : WordLine) → nat_lt most_line_bytes line.size ≡ false
    → row_of earlier (Line (Known NameKey) line) ≡ first_row (when (has_line NameKey earlier) row.Repeated ∷ when (is_too_long_to_keep line) row.BadValue ∷ [])
name_rows earlier line short = rw short refl

pub name_line : (old new : Reading) (line : WordLine) (slot : Option (List ℕ)) (r : Result (Unit {0}) StepFault)
    → SetsName line (option_map (λ v. v.items) old.draft.name) slot r
    → fields_of new.draft ≡ (let fields = fields_of old.draft in record fields { name = slot }) → new.incomplete ≡ old.incomplete → new.opened ≡ old.opened
    → LineAnswers old NameKey line new r
name_line old new line slot (Ok done) sets is same_first same_part earlier h short =
    let there : is_some (fields_of old.draft).name ≡ has_line NameKey earlier = ap (λ (xs : List Bool). get_or xs 0 false) h.stand in
    let filled : is_some slot ≡ true = ap (λ (o : Option (List ℕ)). is_some o) sets.2 in
    record {
      clean = clean_more earlier (Line (Known NameKey) line) h.clean
          (name_rows earlier line short ∙ two_none (has_line NameKey earlier) (is_too_long_to_keep line) row.Repeated row.BadValue (sym there ∙ sets.0) sets.1);
      stand = ap fields_there is ∙ ap (λ (b : Bool). set (fields_there (fields_of old.draft)) 0 b) filled ∙ ap (λ (xs : List Bool). set xs 0 true) h.stand;
      spelled = is ∙ ap (λ (fields : Fields). record fields { name = slot }) h.spelled
          ∙ ap (λ (k : Option (List ℕ)). let fields = fields_by (λ field. has_line field earlier) earlier in record fields { name = k }) sets.2;
      incomplete = same_first ∙ h.incomplete;
      part = still_none old new (Line (Known NameKey) line ∷ earlier) refl same_part h.part;
    }
name_line old new line slot (Err (steps.Memory refused)) sets is same_first same_part earlier h short = tt
name_line old new line slot (Err (steps.Fault fault)) sets is same_first same_part earlier h short =
    let there : is_some (fields_of old.draft).name ≡ has_line NameKey earlier = ap (λ (xs : List Bool). get_or xs 0 false) h.stand in
    name_rows earlier line short ∙ ap (λ (b : Bool). first_row (when b row.Repeated ∷ when (is_too_long_to_keep line) row.BadValue ∷ [])) (sym there) ∙ sets.1

-- ---- CommentKey

comment_rows : (earlier : List Item) (line : WordLine) → nat_lt most_line_bytes line.size ≡ false
    → row_of earlier (Line (Known CommentKey) line)
    ≡ first_row (when (is_too_long_to_keep line) row.BadValue ∷ when (nat_le most_comments (length (values_at CommentKey earlier))) row.Surplus ∷ [])
comment_rows earlier line short = rw short refl

pub comment_line : (old new : Reading) (line : WordLine) (comments : List (List ℕ)) (r : Result (Unit {0}) StepFault)
    → AddsComment line (fields_of old.draft).comments comments r
    → fields_of new.draft ≡ (let fields = fields_of old.draft in record fields { comments = comments }) → new.incomplete ≡ old.incomplete → new.opened ≡ old.opened
    → LineAnswers old CommentKey line new r
comment_line old new line comments (Ok done) adds is same_first same_part earlier h short =
    let same : (fields_of old.draft).comments ≡ values_at CommentKey earlier = ap (λ (fields : Fields). fields.comments) h.spelled in
    let few : nat_le most_comments (length (values_at CommentKey earlier)) ≡ false = ap (λ (xs : List (List ℕ)). nat_le most_comments (length xs)) (sym same) ∙ adds.1 in
    record {
      clean = clean_more earlier (Line (Known CommentKey) line) h.clean
          (comment_rows earlier line short ∙ two_none (is_too_long_to_keep line) (nat_le most_comments (length (values_at CommentKey earlier))) row.BadValue row.Surplus adds.0 few);
      stand = ap fields_there is ∙ h.stand;
      spelled = is ∙ ap (λ (xs : List (List ℕ)). let fields = fields_of old.draft in record fields { comments = xs }) adds.2
          ∙ ap (λ (fields : Fields). record fields { comments = fields.comments ++ line.value ∷ [] }) h.spelled;
      incomplete = same_first ∙ h.incomplete;
      part = still_none old new (Line (Known CommentKey) line ∷ earlier) refl same_part h.part;
    }
comment_line old new line comments (Err (steps.Memory refused)) adds is same_first same_part earlier h short = tt
comment_line old new line comments (Err (steps.Fault fault)) adds is same_first same_part earlier h short =
    let same : (fields_of old.draft).comments ≡ values_at CommentKey earlier = ap (λ (fields : Fields). fields.comments) h.spelled in
    comment_rows earlier line short
    ∙ ap (λ (xs : List (List ℕ)). first_row (when (is_too_long_to_keep line) row.BadValue ∷ when (nat_le most_comments (length xs)) row.Surplus ∷ [])) (sym same) ∙ adds.1

-- ---- unknown keywords

other_rows : (earlier : List Item) (line : WordLine) → nat_lt most_line_bytes line.size ≡ false
    → row_of earlier (Line Unknown line)
    ≡ first_row (when (not line.has_colon) row.UnknownLine ∷ when (is_too_long_to_keep line) row.BadValue ∷ when (nat_le most_others (length (others_in earlier))) row.Surplus ∷ [])
other_rows earlier line short = rw short refl

pub other_line : (old new : Reading) (line : WordLine) (others : List (List ℕ × List ℕ)) (r : Result (Unit {0}) StepFault)
    → AddsOther line (fields_of old.draft).others others r
    → fields_of new.draft ≡ (let fields = fields_of old.draft in record fields { others = others }) → new.incomplete ≡ old.incomplete → new.opened ≡ old.opened
    → OtherAnswers old line new r
other_line old new line others (Ok done) adds is same_first same_part earlier h short =
    let same : (fields_of old.draft).others ≡ others_in earlier = ap (λ (fields : Fields). fields.others) h.spelled in
    let few : nat_le most_others (length (others_in earlier)) ≡ false = ap (λ (xs : List (List ℕ × List ℕ)). nat_le most_others (length xs)) (sym same) ∙ adds.2 in
    record {
      clean = clean_more earlier (Line Unknown line) h.clean
          (other_rows earlier line short ∙ three_none (not line.has_colon) (is_too_long_to_keep line) (nat_le most_others (length (others_in earlier)))
          row.UnknownLine row.BadValue row.Surplus (ap not adds.0) adds.1 few);
      stand = ap fields_there is ∙ h.stand;
      spelled = is ∙ ap (λ (xs : List (List ℕ × List ℕ)). let fields = fields_of old.draft in record fields { others = xs }) adds.3
          ∙ ap (λ (fields : Fields). record fields { others = fields.others ++ (line.keyword, line.value) ∷ [] }) h.spelled;
      incomplete = same_first ∙ h.incomplete;
      part = still_none old new (Line Unknown line ∷ earlier) refl same_part h.part;
    }
other_line old new line others (Err (steps.Memory refused)) adds is same_first same_part earlier h short = tt
other_line old new line others (Err (steps.Fault fault)) adds is same_first same_part earlier h short =
    let same : (fields_of old.draft).others ≡ others_in earlier = ap (λ (fields : Fields). fields.others) h.spelled in
    other_rows earlier line short
    ∙ ap (λ (xs : List (List ℕ × List ℕ)). first_row (when (not line.has_colon) row.UnknownLine ∷ when (is_too_long_to_keep line) row.BadValue
    ∷ when (nat_le most_others (length xs)) row.Surplus ∷ [])) (sym same) ∙ adds.1

-- ---- Line Eof line: nothing is given

pub end_line : (reading : Reading) (line : WordLine) (earlier : List Item) → nat_lt most_line_bytes line.size ≡ false
    → Closed reading earlier → Holds reading (Line Eof line ∷ earlier)
end_line reading line earlier short h = record {
  clean = clean_more earlier (Line Eof line) h.clean (rw short refl);
  stand = h.stand;
  spelled = h.spelled;
  incomplete = h.incomplete;
  part = still_none reading reading (Line Eof line ∷ earlier) refl refl h.part;
}

-- ---- Line (Known OtherKey) line: nothing is given

pub unnamed_line : (reading : Reading) (line : WordLine) (earlier : List Item) → nat_lt most_line_bytes line.size ≡ false
    → Closed reading earlier
    → Holds reading (Line (Known OtherKey) line ∷ earlier)
unnamed_line reading line earlier short h = record {
  clean = clean_more earlier (Line (Known OtherKey) line) h.clean (rw short refl);
  stand = h.stand;
  spelled = h.spelled;
  incomplete = h.incomplete;
  part = still_none reading reading (Line (Known OtherKey) line ∷ earlier) refl refl h.part;
}

pub unnamed_field : (reading : Reading) (field : Field) (line : WordLine) (earlier : List Item) → field ≡ OtherKey
    → nat_lt most_line_bytes line.size ≡ false
    → Closed reading earlier → Holds reading (Line (Known field) line ∷ earlier)
unnamed_field reading field line earlier is short h =
    subst (λ (f : Field). Holds reading (Line (Known f) line ∷ earlier)) (sym is) (unnamed_line reading line earlier short h)

-- ---- lines that are refused

pub format_line : (line : WordLine) (earlier : List Item) → nat_lt most_line_bytes line.size ≡ false
    → row_of earlier (Line EdgeDataFormat line) ≡ Some row.Outside
format_line line earlier short = rw short refl

pub data_line : (line : WordLine) (earlier : List Item) → nat_lt most_line_bytes line.size ≡ false
    → row_of earlier (Line EdgeDataSection line) ≡ Some row.Outside
data_line line earlier short = rw short refl
