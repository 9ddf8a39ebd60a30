-- What lines, keywords and words in front of a text add to its items: each canonical section is read back in this way.
use Rattle.tsp_read.proofs.Prelude.{◌≡◌, ℕ, suc, ◌+◌, ◌-◌, Bool, true, false, cond, List, [], ◌∷◌, ◌++◌, length, get_or, map, reverse, refl, sym, ap, ◌∙◌, arith, append_assoc, subst, append-nil, None, Some, ◌≤◌, length-append, take, drop, false≢true, and_from, and_parts, true≢false, leb-true, le-ltb, lt-leb, not-true, false_from_ne_true, nat_tests, take_at, drop_at, reverse-reverse, get_or-reverse, reverse-append, list_all-append, list_all, prefix_len, fold, flat_map, option_and_then, not, slice_index, is_some, ◌||◌, ◌&&◌, ◌==◌, nat_le, nat_lt, result_err, keyword_of, most_line_bytes, most_kept_bytes, most_comments, is_unknown, most_others, is_blank, is_letter, is_keyword_byte, field_word, Field, NameKey, CommentKey, DimensionKey, CapacityKey, ScaleKey, LoadUnitKey, Known, EdgeDataFormat, EdgeDataSection, Eof, Unknown, blank_before, value_line, keyword_line, other_line, is_kept, is_unknown_keyword, is_other, clean_more, same_field_is, rows_of_word, words_more, is_key, has_line, value_at, values_at, others_in, open_section, is_open, words_of, spatial_after, place_in, dimension_in, same_field, read_as, word_fault, row_of, may_repeat, is_too_long_to_keep, ends_line, without_start, without_end, begins, is_word_line, keyword_in, after_keyword, is_colon, has_colon, value_in, words_in, WordLine, Item, Line, NumberWord, LineEnd, word_line_of, line_item, items_in, items_of, has_no_line_end, has_end_line, to_end_line, is_end_line, is_not_empty, Place, IsClean}
use Rattle.std.proofs.Math.Numerals.{one-add}
use Rattle.tsp_format.specs.declared.keyword.Keyword.{Keyword}
use Rattle.tsp_file.proofs.FieldLengths.{blank_short}
use Rattle.tsp_read.proofs.LeftSteps.{letter_filled}
use Rattle.tsp_read.proofs.Text.{Writes, line_written, all_such, number_words, are_numbers, nothing_written, both_written}

-- ---- blanks

start_kept : (bytes : List ℕ) → is_blank (slice_index bytes 0) ≡ false → without_start bytes ≡ bytes
start_kept [] e = refl
start_kept (b ∷ bytes) e = ap (λ blank. drop (cond blank (1 + prefix_len is_blank bytes) 0) (b ∷ bytes)) e

last_first : (bytes : List ℕ) → slice_index (reverse bytes) 0 ≡ slice_index bytes (length bytes - 1)
last_first [] = refl
last_first (b ∷ bytes) = get_or-reverse (b ∷ bytes) 0 0 (omega arith) ∙ ap (λ n. get_or (b ∷ bytes) n 0) (omega arith)

end_kept : (bytes : List ℕ) → is_blank (slice_index bytes (length bytes - 1)) ≡ false → without_end bytes ≡ bytes
end_kept bytes e = ap reverse (start_kept (reverse bytes) (ap is_blank (last_first bytes) ∙ e)) ∙ reverse-reverse bytes

blank_gone : (value : List ℕ) → is_blank (slice_index value 0) ≡ false → without_start (blank_before value) ≡ value
blank_gone [] e = refl
blank_gone (b ∷ value) e = ap (λ blank. drop (1 + cond blank (1 + prefix_len is_blank value) 0) (32 ∷ b ∷ value)) e

-- ---- the keyword

prefix_is : (p : ℕ → Bool) (front : List ℕ) (y : ℕ) (rest : List ℕ) → list_all p front ≡ true → p y ≡ false
    → prefix_len p (front ++ y ∷ rest) ≡ length front
prefix_is p [] y rest all e = ap (λ b. cond b (1 + prefix_len p rest) 0) e
prefix_is p (x ∷ front) y rest all e =
    let both = and_parts (p x) (list_all p front) all in
    ap (λ b. cond b (1 + prefix_len p (front ++ y ∷ rest)) 0) both.0 ∙ one-add (prefix_len p (front ++ y ∷ rest)) ∙ ap suc (prefix_is p front y rest both.1 e)

-- the text of a keyword and its value
abbrev pub value_text : List ℕ → List ℕ → List ℕ
value_text keyword value = keyword ++ 32 ∷ 58 ∷ blank_before value

keyword_is : (keyword value : List ℕ) → list_all is_keyword_byte keyword ≡ true → keyword_in (value_text keyword value) ≡ keyword
keyword_is keyword value all =
    ap (λ n. take n (value_text keyword value)) (prefix_is is_keyword_byte keyword 32 (58 ∷ blank_before value) all refl) ∙ take_at keyword (32 ∷ 58 ∷ blank_before value) (length keyword) refl

after_is : (keyword value : List ℕ) → list_all is_keyword_byte keyword ≡ true
    → after_keyword (value_text keyword value) ≡ 58 ∷ blank_before value
after_is keyword value all =
    ap without_start (ap (λ n. drop n (value_text keyword value)) (prefix_is is_keyword_byte keyword 32 (58 ∷ blank_before value) all refl)
    ∙ drop_at keyword (32 ∷ 58 ∷ blank_before value) (length keyword) refl)

-- a value that is kept as it is written
pub record IsWhole (value : List ℕ) : Type 0 where
  pub one_line : has_no_line_end value ≡ true
  pub begins_filled : is_blank (slice_index value 0) ≡ false
  pub ends_filled : is_blank (slice_index value (length value - 1)) ≡ false

-- a keyword that is found whole
pub record IsKeyword (keyword : List ℕ) : Type 0 where
  pub letter_first : is_letter (slice_index keyword 0) ≡ true
  pub bytes : list_all is_keyword_byte keyword ≡ true

abbrev pub written_line : List ℕ → List ℕ → WordLine
written_line keyword value =
    record { size = length (value_text keyword value); keyword = keyword; has_colon = true; value = value }

value_found : (text value : List ℕ) → after_keyword text ≡ 58 ∷ blank_before value → IsWhole value → value_in text ≡ value
value_found text value after whole =
    ap (λ (rest : List ℕ). without_end (without_start (drop (cond (begins is_colon rest) 1 0) rest))) after
    ∙ ap without_end (blank_gone value whole.begins_filled) ∙ end_kept value whole.ends_filled

same_line : (size : ℕ) (a b : List ℕ) (colon : Bool) (v w : List ℕ) → a ≡ b → colon ≡ true → v ≡ w
    → (let one : WordLine = record { size = size; keyword = a; has_colon = colon; value = v } in let other : WordLine = record { size = size; keyword = b; has_colon = true; value = w } in one ≡ other)
same_line size a b colon v w e f g = cc

line_found : (keyword value : List ℕ) → IsKeyword keyword → IsWhole value
    → line_item (value_text keyword value) ≡ Line (keyword_of keyword) (written_line keyword value)
line_found keyword value key whole =
    let text = value_text keyword value in
    let found : keyword_in text ≡ keyword = keyword_is keyword value key.bytes in
    let after : after_keyword text ≡ 58 ∷ blank_before value = after_is keyword value key.bytes in
    let colon : has_colon text ≡ true = ap (begins is_colon) after in
    let line : word_line_of text ≡ written_line keyword value =
    same_line (length text) (keyword_in text) keyword (has_colon text) (value_in text) value found colon (value_found text value after whole) in
    ap (λ (word : List ℕ). Line (keyword_of word) (word_line_of text)) found ∙ ap (λ (l : WordLine). Line (keyword_of keyword) l) line

first_letter : (keyword rest : List ℕ) → is_letter (slice_index keyword 0) ≡ true
    → (without_start (keyword ++ rest) ≡ keyword ++ rest) × (begins is_letter (keyword ++ rest) ≡ true)
first_letter [] rest e = absurd (false≢true e)
first_letter (b ∷ keyword) rest e = (start_kept (b ∷ (keyword ++ rest)) (letter_filled b e), e)

key_line : (b : ℕ) → is_keyword_byte b ≡ true → not (ends_line b) ≡ true
key_line b e = grind (arith, nat_tests)

one_line_after : (value : List ℕ) → has_no_line_end value ≡ true → has_no_line_end (blank_before value) ≡ true
one_line_after [] one = refl
one_line_after (b ∷ value) one = one

items_of_value : (keyword value : List ℕ) → IsKeyword keyword → IsWhole value
    → items_in (value_text keyword value) ≡ Line (keyword_of keyword) (written_line keyword value) ∷ []
items_of_value keyword value key whole =
    let text = value_text keyword value in
    let start = first_letter keyword (32 ∷ 58 ∷ blank_before value) key.letter_first in
    let word : is_word_line text ≡ true = ap (begins is_letter) start.0 ∙ start.1 in
    ap (λ b. cond b (line_item (without_start text) ∷ []) (map (λ w. NumberWord w) (words_in text))) word
    ∙ ap (λ (t : List ℕ). line_item t ∷ []) start.0 ∙ ap (λ (item : Item). item ∷ []) (line_found keyword value key whole)

pub value_written : (keyword value : List ℕ) → IsKeyword keyword → IsWhole value
    → Writes (value_line keyword value) (Line (keyword_of keyword) (written_line keyword value) ∷ LineEnd ∷ [])
value_written keyword value key whole rest =
    let text = value_text keyword value in
    let one : has_no_line_end text ≡ true =
    list_all-append (λ b. not (ends_line b)) keyword (32 ∷ 58 ∷ blank_before value)
    ∙ and_from (has_no_line_end keyword) (has_no_line_end (blank_before value)) (all_such is_keyword_byte (λ b. not (ends_line b)) key_line keyword key.bytes) (one_line_after value whole.one_line) in
    ap (λ (t : List ℕ). items_of (t ++ rest)) (sym (append_assoc keyword (32 ∷ 58 ∷ blank_before value) (10 ∷ [])))
    ∙ line_written text one rest
    ∙ ap (λ (items : List Item). (items ++ LineEnd ∷ []) ++ items_of rest) (items_of_value keyword value key whole)

-- ---- the words of a section, each of which is taken at its place, after the words before it

-- each word is taken at its place, one after the other
abbrev pub AllTaken : ℕ → (List (List ℕ) → Place) → List (List ℕ) → List (List ℕ) → Type 0
AllTaken n place before [] = Unit {0}
AllTaken n place before (word ∷ words) = (word_fault n (place before) word ≡ None) × AllTaken n place (before ++ word ∷ []) words

pub taken-append : (n : ℕ) (place : List (List ℕ) → Place) (before xs ys : List (List ℕ)) → AllTaken n place before xs
    → AllTaken n place (before ++ xs) ys → AllTaken n place before (xs ++ ys)
taken-append n place before [] ys first second = subst (λ (ws : List (List ℕ)). AllTaken n place ws ys) (append-nil before) second
taken-append n place before (x ∷ xs) ys first second =
    (first.0, taken-append n place (before ++ x ∷ []) xs ys first.1 (subst (λ (ws : List (List ℕ)). AllTaken n place ws ys) (sym (append_assoc before (x ∷ []) xs)) second))

-- ---- where the contents after some words are a fold

-- the same from a state on
abbrev pub AreTaken : {S : Type 0} → ℕ → (S → List ℕ → S) → (S → Place) → S → List (List ℕ) → Type 0
AreTaken n step place state [] = Unit {0}
AreTaken n step place state (word ∷ words) =
    (word_fault n (place state) word ≡ None) × AreTaken n step place (step state word) words

-- the words are taken, and lead from one state to the other
pub record Runs {S : Type 0} (n : ℕ) (step : S → List ℕ → S) (place : S → Place) (start : S) (words : List (List ℕ)) (last : S) : Type 0 where
  pub taken : AreTaken n step place start words
  pub gives : fold step start words ≡ last

pub fold_both : {S : Type 0} (step : S → List ℕ → S) (state : S) (xs ys : List (List ℕ))
    → fold step state (xs ++ ys) ≡ fold step (fold step state xs) ys
fold_both step state [] ys = refl
fold_both step state (x ∷ xs) ys = fold_both step (step state x) xs ys

taken_both : {S : Type 0} (n : ℕ) (step : S → List ℕ → S) (place : S → Place) (state : S) (xs ys : List (List ℕ))
    → AreTaken n step place state xs → AreTaken n step place (fold step state xs) ys
    → AreTaken n step place state (xs ++ ys)
taken_both n step place state [] ys first second = second
taken_both n step place state (x ∷ xs) ys first second = (first.0, taken_both n step place (step state x) xs ys first.1 second)

pub runs_none : {S : Type 0} (n : ℕ) (step : S → List ℕ → S) (place : S → Place) (state : S) → Runs n step place state [] state
runs_none n step place state = record { taken = tt; gives = refl }

pub runs_one : {S : Type 0} (n : ℕ) (step : S → List ℕ → S) (place : S → Place) (start : S) (word : List ℕ) (last : S)
    → word_fault n (place start) word ≡ None → step start word ≡ last
    → Runs n step place start (word ∷ []) last
runs_one n step place start word last taken gives = record { taken = (taken, tt); gives = gives }

pub runs_then : {S : Type 0} (n : ℕ) (step : S → List ℕ → S) (place : S → Place) (start middle last : S) (xs ys : List (List ℕ))
    → Runs n step place start xs middle → Runs n step place middle ys last → Runs n step place start (xs ++ ys) last
runs_then {S} n step place start middle last xs ys first second = record {
  taken = taken_both n step place start xs ys first.taken (subst (λ (s : S). AreTaken n step place s ys) (sym first.gives) second.taken);
  gives = fold_both step start xs ys ∙ ap (λ (s : S). fold step s ys) first.gives ∙ second.gives;
}

-- all words from the first state on
pub all_taken : {S : Type 0} (n : ℕ) (step : S → List ℕ → S) (place : S → Place) (start : S) (before words : List (List ℕ))
    → AreTaken n step place (fold step start before) words
    → AllTaken n (λ earlier. place (fold step start earlier)) before words
all_taken n step place start before [] taken = tt
all_taken {S} n step place start before (word ∷ words) taken =
    (taken.0, all_taken n step place start (before ++ word ∷ []) words (subst (λ (s : S). AreTaken n step place s words) (sym (fold_both step start before (word ∷ []))) taken.1))

-- ---- items that are read after earlier ones, the last one first in the list

-- the items in reverse, before the earlier ones
abbrev pub onto : List Item → List Item → List Item
onto [] earlier = earlier
onto (item ∷ items) earlier = onto items (item ∷ earlier)

pub onto-append : (xs ys earlier : List Item) → onto (xs ++ ys) earlier ≡ onto ys (onto xs earlier)
onto-append [] ys earlier = refl
onto-append (x ∷ xs) ys earlier = onto-append xs ys (x ∷ earlier)

pub onto_reversed : (items earlier : List Item) → onto items earlier ≡ reverse items ++ earlier
onto_reversed [] earlier = refl
onto_reversed (x ∷ items) earlier =
    onto_reversed items (x ∷ earlier) ∙ sym (ap (λ (xs : List Item). xs ++ earlier) (reverse-append (x ∷ []) items) ∙ append_assoc (reverse items) (x ∷ []) earlier)

-- ---- a line of a field is present exactly if it has a value

pub has_value : (field : Field) (items : List Item) → has_line field items ≡ is_some (value_at field items)
has_value field [] = refl
has_value field (Line key line ∷ earlier) = by_case (is_key field key) (has_value field earlier)
  where
    by_case : (b : Bool) → has_line field earlier ≡ is_some (value_at field earlier) → cond b true (has_line field earlier) ≡ is_some (cond b (Some line.value) (value_at field earlier))
    by_case true later = refl
    by_case false later = later
has_value field (NumberWord word ∷ earlier) = has_value field earlier
has_value field (LineEnd ∷ earlier) = has_value field earlier

-- ---- number items

pub value_kept : (field : Field) (items earlier : List Item) → are_numbers items ≡ true
    → value_at field (onto items earlier) ≡ value_at field earlier
value_kept field [] earlier numbers = refl
value_kept field (Line key line ∷ items) earlier numbers = absurd (false≢true numbers)
value_kept field (NumberWord word ∷ items) earlier numbers = value_kept field items (NumberWord word ∷ earlier) numbers
value_kept field (LineEnd ∷ items) earlier numbers = value_kept field items (LineEnd ∷ earlier) numbers

pub values_kept : (field : Field) (items earlier : List Item) → are_numbers items ≡ true
    → values_at field (onto items earlier) ≡ values_at field earlier
values_kept field [] earlier numbers = refl
values_kept field (Line key line ∷ items) earlier numbers = absurd (false≢true numbers)
values_kept field (NumberWord word ∷ items) earlier numbers = values_kept field items (NumberWord word ∷ earlier) numbers
values_kept field (LineEnd ∷ items) earlier numbers = values_kept field items (LineEnd ∷ earlier) numbers

pub others_kept : (items earlier : List Item) → are_numbers items ≡ true → others_in (onto items earlier) ≡ others_in earlier
others_kept [] earlier numbers = refl
others_kept (Line key line ∷ items) earlier numbers = absurd (false≢true numbers)
others_kept (NumberWord word ∷ items) earlier numbers = others_kept items (NumberWord word ∷ earlier) numbers
others_kept (LineEnd ∷ items) earlier numbers = others_kept items (LineEnd ∷ earlier) numbers

pub no_end_line : (items : List Item) → are_numbers items ≡ true → has_end_line items ≡ false
no_end_line [] numbers = refl
no_end_line (Line key line ∷ items) numbers = absurd (false≢true numbers)
no_end_line (NumberWord word ∷ items) numbers = no_end_line items numbers
no_end_line (LineEnd ∷ items) numbers = no_end_line items numbers

-- the words of another section
pub other_words : (field : Field) (items earlier : List Item) → are_numbers items ≡ true
    → is_open field (open_section earlier) ≡ false → words_of field (onto items earlier) ≡ words_of field earlier
other_words field [] earlier numbers closed = refl
other_words field (Line key line ∷ items) earlier numbers closed = absurd (false≢true numbers)
other_words field (NumberWord word ∷ items) earlier numbers closed =
    other_words field items (NumberWord word ∷ earlier) numbers closed ∙ ap (λ b. cond b (words_of field earlier ++ word ∷ []) (words_of field earlier)) closed
other_words field (LineEnd ∷ items) earlier numbers closed = other_words field items (LineEnd ∷ earlier) numbers closed

-- the words of the open section
pub section_words : (field : Field) (items earlier : List Item) → are_numbers items ≡ true → open_section earlier ≡ Some field
    → words_of field (onto items earlier) ≡ words_of field earlier ++ number_words items
section_words field [] earlier numbers opened = sym (append-nil (words_of field earlier))
section_words field (Line key line ∷ items) earlier numbers opened = absurd (false≢true numbers)
section_words field (NumberWord word ∷ items) earlier numbers opened =
    section_words field items (NumberWord word ∷ earlier) numbers opened
    ∙ ap (λ (ws : List (List ℕ)). ws ++ number_words items) (words_more earlier word field opened)
    ∙ append_assoc (words_of field earlier) (word ∷ []) (number_words items)
section_words field (LineEnd ∷ items) earlier numbers opened = section_words field items (LineEnd ∷ earlier) numbers opened

-- ---- no row applies to the words

pub words_clean : (field : Field) (n : ℕ) (items earlier : List Item) → are_numbers items ≡ true → IsClean earlier
    → open_section earlier ≡ Some field → dimension_in earlier ≡ n
    → AllTaken n (place_in (spatial_after earlier) field n) (words_of field earlier) (number_words items)
    → IsClean (onto items earlier)
words_clean field n [] earlier numbers clean opened nodes taken = clean
words_clean field n (Line key line ∷ items) earlier numbers clean opened nodes taken = absurd (false≢true numbers)
words_clean field n (NumberWord word ∷ items) earlier numbers clean opened nodes taken =
    let row : row_of earlier (NumberWord word) ≡ None =
    rows_of_word earlier word field opened ∙ ap (λ m. word_fault m (place_in (spatial_after earlier) field m (words_of field earlier)) word) nodes ∙ taken.0 in
    words_clean field n items (NumberWord word ∷ earlier) numbers (clean_more earlier (NumberWord word) clean row) opened nodes
    (subst (λ (ws : List (List ℕ)). AllTaken n (place_in (spatial_after earlier) field n) ws (number_words items)) (sym (words_more earlier word field opened)) taken.1)
words_clean field n (LineEnd ∷ items) earlier numbers clean opened nodes taken =
    words_clean field n items (LineEnd ∷ earlier) numbers (clean_more earlier LineEnd clean refl) opened nodes taken

-- ---- up to the end line

pub ended_at : (items : List Item) (last : Item) (rest : List Item) → has_end_line items ≡ false → is_end_line last ≡ true
    → to_end_line (items ++ last ∷ rest) ≡ items ++ last ∷ []
ended_at [] last rest none ends = ap (λ b. last ∷ cond b [] (to_end_line rest)) ends
ended_at (item ∷ items) last rest none ends = by_case (is_end_line item) none (ended_at items last rest)
  where
    by_case : (b : Bool) → (b || has_end_line items) ≡ false → (has_end_line items ≡ false → is_end_line last ≡ true → to_end_line (items ++ last ∷ rest) ≡ items ++ last ∷ [])
        → item ∷ cond b [] (to_end_line (items ++ last ∷ rest)) ≡ item ∷ (items ++ last ∷ [])
    by_case true e later = absurd (false≢true (sym e))
    by_case false e later = ap (λ (xs : List Item). item ∷ xs) (later e ends)

-- ---- kept values as they are written: names, comments and unknown keywords

-- ---- kept values

-- what it says that a value is kept
pub record Kept (keyword value : List ℕ) : Type 0 where
  pub whole : IsWhole value
  pub short : nat_lt most_line_bytes (length (value_text keyword value)) ≡ false
  pub room : nat_lt most_kept_bytes (length keyword + length value) ≡ false

pub text_length : (keyword value : List ℕ) (most : ℕ) → length keyword + length value ≤ most → most ≤ 4000
    → nat_lt most_line_bytes (length (value_text keyword value)) ≡ false
text_length keyword value most few limit =
    le-ltb most_line_bytes (length (value_text keyword value)) (omega (arith, length-append keyword (32 ∷ 58 ∷ blank_before value), blank_short value))

pub kept : (keyword value : List ℕ) → is_kept keyword value ≡ true → Kept keyword value
kept keyword value e =
    let few = nat_le (length keyword + length value) most_kept_bytes in
    let one = list_all (λ b. not (b == 10)) value in
    let first = not (is_blank (slice_index value 0)) in
    let last = not (is_blank (slice_index value (length value - 1))) in
    let a = and_parts (few && one && first) last e in
    let b = and_parts (few && one) first a.0 in
    let c = and_parts few one b.0 in
    let le = leb-true (length keyword + length value) most_kept_bytes c.0 in
    record {
      whole = record { one_line = c.1; begins_filled = not-true (is_blank (slice_index value 0)) b.1; ends_filled = not-true (is_blank (slice_index value (length value - 1))) a.1 };
      short = text_length keyword value most_kept_bytes le (omega arith);
      room = le-ltb most_kept_bytes (length keyword + length value) le;
    }

-- ---- the lines of NAME and of numbers

pub name_row : (earlier : List Item) (value : List ℕ) → has_line NameKey earlier ≡ false → Kept (field_word NameKey) value
    → row_of earlier (Line (Known NameKey) (written_line (field_word NameKey) value)) ≡ None
name_row earlier value unseen k =
    let short = k.short in
    let room = k.room in
    name_line_row earlier (written_line (field_word NameKey) value) unseen short room
  where
    name_line_row : (earlier : List Item) (line : WordLine) → has_line NameKey earlier ≡ false → nat_lt most_line_bytes line.size ≡ false
        → is_too_long_to_keep line ≡ false → row_of earlier (Line (Known NameKey) line) ≡ None
    name_line_row earlier line unseen short room = rw (short, unseen, room) refl

pub dimension_row : (earlier : List Item) (line : WordLine) → has_line DimensionKey earlier ≡ false
    → nat_lt most_line_bytes line.size ≡ false → is_not_empty line.value ≡ true
    → option_and_then result_err (read_as DimensionKey line.value) ≡ None → row_of earlier (Line (Known DimensionKey) line) ≡ None
dimension_row earlier line unseen short filled read = rw (short, unseen, filled, read) refl

pub capacity_row : (earlier : List Item) (line : WordLine) → has_line CapacityKey earlier ≡ false
    → nat_lt most_line_bytes line.size ≡ false → is_not_empty line.value ≡ true
    → option_and_then result_err (read_as CapacityKey line.value) ≡ None → row_of earlier (Line (Known CapacityKey) line) ≡ None
capacity_row earlier line unseen short filled read = rw (short, unseen, filled, read) refl

pub scale_row : (earlier : List Item) (line : WordLine) → has_line ScaleKey earlier ≡ false
    → nat_lt most_line_bytes line.size ≡ false → is_not_empty line.value ≡ true
    → option_and_then result_err (read_as ScaleKey line.value) ≡ None → row_of earlier (Line (Known ScaleKey) line) ≡ None
scale_row earlier line unseen short filled read = rw (short, unseen, filled, read) refl

pub load_unit_row : (earlier : List Item) (line : WordLine) → has_line LoadUnitKey earlier ≡ false
    → nat_lt most_line_bytes line.size ≡ false → is_not_empty line.value ≡ true
    → option_and_then result_err (read_as LoadUnitKey line.value) ≡ None → row_of earlier (Line (Known LoadUnitKey) line) ≡ None
load_unit_row earlier line unseen short filled read = rw (short, unseen, filled, read) refl

-- ---- comments

comment_row : (earlier : List Item) (line : WordLine) → nat_lt most_line_bytes line.size ≡ false
    → is_too_long_to_keep line ≡ false
    → nat_le most_comments (length (values_at CommentKey earlier)) ≡ false
    → row_of earlier (Line (Known CommentKey) line) ≡ None
comment_row earlier line short room few = rw (short, room, few) refl

pub no_comment : (g : Field) → may_repeat g ≡ false → same_field g CommentKey ≡ false
no_comment g once =
    false_from_ne_true (same_field g CommentKey) (λ e. true≢false (sym (ap may_repeat (same_field_is g CommentKey e)) ∙ once))

-- the lines of some comments after these items
pub record CommentRun (comments : List (List ℕ)) (earlier : List Item) : Type 0 where
  pub items : List Item
  pub written : Writes (flat_map (keyword_line CommentKey) comments) items
  pub no_end : has_end_line items ≡ false
  pub clean : IsClean (onto items earlier)
  pub comments_are : values_at CommentKey (onto items earlier) ≡ values_at CommentKey earlier ++ comments
  pub values : (g : Field) → may_repeat g ≡ false → value_at g (onto items earlier) ≡ value_at g earlier
  pub words : (g : Field) → words_of g (onto items earlier) ≡ words_of g earlier
  pub others : others_in (onto items earlier) ≡ others_in earlier

comment_keyword : IsKeyword (field_word CommentKey)
comment_keyword = record { letter_first = refl; bytes = refl }

-- plan: by induction over the comments: each line has no fault (`comment_row`) and adds its value (`value_written`)
pub comments_run : (comments : List (List ℕ)) (earlier : List Item) → IsClean earlier
    → length (values_at CommentKey earlier) + length comments ≤ most_comments
    → list_all (is_kept (field_word CommentKey)) comments ≡ true → CommentRun comments earlier
comments_run [] earlier clean room all = record {
  items = [];
  written = nothing_written;
  no_end = refl;
  clean = clean;
  comments_are = sym (append-nil (values_at CommentKey earlier));
  values = λ g once. refl;
  words = λ g. refl;
  others = refl;
}
comments_run (value ∷ comments) earlier clean room all =
    let both = and_parts (is_kept (field_word CommentKey) value) (list_all (is_kept (field_word CommentKey)) comments) all in
    let k = kept (field_word CommentKey) value both.0 in
    let line = written_line (field_word CommentKey) value in
    let row : row_of earlier (Line (Known CommentKey) line) ≡ None =
    comment_row earlier line k.short k.room (lt-leb most_comments (length (values_at CommentKey earlier)) (omega arith)) in
    let next = LineEnd ∷ Line (Known CommentKey) line ∷ earlier in
    let next_clean : IsClean next = clean_more (Line (Known CommentKey) line ∷ earlier) LineEnd (clean_more earlier (Line (Known CommentKey) line) clean row) refl in
    let count : length (values_at CommentKey earlier ++ value ∷ []) ≡ length (values_at CommentKey earlier) + 1 = length-append (values_at CommentKey earlier) (value ∷ []) in
    let rest = comments_run comments next next_clean (omega (arith, count)) both.1 in
    record {
      items = Line (Known CommentKey) line ∷ LineEnd ∷ rest.items;
      written = both_written (keyword_line CommentKey value) (flat_map (keyword_line CommentKey) comments) (Line (Known CommentKey) line ∷ LineEnd ∷ [])
          rest.items (value_written (field_word CommentKey) value comment_keyword k.whole) rest.written;
      no_end = rest.no_end;
      clean = rest.clean;
      comments_are = rest.comments_are ∙ append_assoc (values_at CommentKey earlier) (value ∷ []) comments;
      values = λ g once. rest.values g once ∙ ap (λ b. cond b (Some value) (value_at g earlier)) (no_comment g once);
      words = λ g. rest.words g;
      others = rest.others;
    }

-- ---- the lines of unknown keywords as they are written: each has no fault

unknown_is : (key : Keyword) → is_unknown key ≡ true → key ≡ Unknown
unknown_is (Known field) e = absurd (false≢true e)
unknown_is EdgeDataFormat e = absurd (false≢true e)
unknown_is EdgeDataSection e = absurd (false≢true e)
unknown_is Eof e = absurd (false≢true e)
unknown_is Unknown e = refl

other_row : (earlier : List Item) (line : WordLine) → line.has_colon ≡ true → nat_lt most_line_bytes line.size ≡ false
    → is_too_long_to_keep line ≡ false
    → nat_le most_others (length (others_in earlier)) ≡ false
    → row_of earlier (Line Unknown line) ≡ None
other_row earlier line colon short room few = rw (colon, short, room, few) refl

-- the lines of some unknown keywords after these items
pub record OtherRun (others : List (List ℕ × List ℕ)) (earlier : List Item) : Type 0 where
  pub items : List Item
  pub written : Writes (flat_map other_line others) items
  pub no_end : has_end_line items ≡ false
  pub clean : IsClean (onto items earlier)
  pub others_are : others_in (onto items earlier) ≡ others_in earlier ++ others
  pub values : (g : Field) → value_at g (onto items earlier) ≡ value_at g earlier
  pub words : (g : Field) → words_of g (onto items earlier) ≡ words_of g earlier
  pub comments : values_at CommentKey (onto items earlier) ≡ values_at CommentKey earlier

-- plan: by induction over the lines: each has no fault (`other_row`) and adds its value (`value_written`)
pub others_run : (others : List (List ℕ × List ℕ)) (earlier : List Item) → IsClean earlier
    → length (others_in earlier) + length others ≤ most_others
    → list_all is_other others ≡ true → OtherRun others earlier
others_run [] earlier clean room all = record {
  items = [];
  written = nothing_written;
  no_end = refl;
  clean = clean;
  others_are = sym (append-nil (others_in earlier));
  values = λ g. refl;
  words = λ g. refl;
  comments = refl;
}
others_run (other ∷ others) earlier clean room all =
    let both = and_parts (is_other other) (list_all is_other others) all in
    let parts = and_parts (is_unknown_keyword other.0) (is_kept other.0 other.1) both.0 in
    let word = and_parts (is_letter (slice_index other.0 0) && list_all is_keyword_byte other.0) (is_unknown (keyword_of other.0)) parts.0 in
    let bytes = and_parts (is_letter (slice_index other.0 0)) (list_all is_keyword_byte other.0) word.0 in
    let keyword : IsKeyword other.0 = record { letter_first = bytes.0; bytes = bytes.1 } in
    let k = kept other.0 other.1 parts.1 in
    let line = written_line other.0 other.1 in
    let key : keyword_of other.0 ≡ Unknown = unknown_is (keyword_of other.0) word.1 in
    let written : Writes (other_line other) (Line Unknown line ∷ LineEnd ∷ []) =
    λ rest. value_written other.0 other.1 keyword k.whole rest ∙ ap (λ key. Line key line ∷ LineEnd ∷ items_of rest) key in
    let row : row_of earlier (Line Unknown line) ≡ None = other_row earlier line refl k.short k.room (lt-leb most_others (length (others_in earlier)) (omega arith)) in
    let next = LineEnd ∷ Line Unknown line ∷ earlier in
    let next_clean : IsClean next = clean_more (Line Unknown line ∷ earlier) LineEnd (clean_more earlier (Line Unknown line) clean row) refl in
    let count : length (others_in earlier ++ other ∷ []) ≡ length (others_in earlier) + 1 = length-append (others_in earlier) (other ∷ []) in
    let rest = others_run others next next_clean (omega (arith, count)) both.1 in
    record {
      items = Line Unknown line ∷ LineEnd ∷ rest.items;
      written = both_written (other_line other) (flat_map other_line others) (Line Unknown line ∷ LineEnd ∷ []) rest.items written rest.written;
      no_end = rest.no_end;
      clean = rest.clean;
      others_are = rest.others_are ∙ append_assoc (others_in earlier) (other ∷ []) others;
      values = λ g. rest.values g;
      words = λ g. rest.words g;
      comments = rest.comments;
    }
