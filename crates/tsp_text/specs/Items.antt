-- Circle 2 of docs/trust.md.
-- The first step from bytes to meaning: the lines of a text, cut into items, which are word lines, words of number
-- lines, and line ends. All other definitions of this crate are about items, and src/items.rt in tsp_read cuts a text
-- into them.
use Rattle.tsp_text.specs.Prelude.{filter, slice_split, prefix_len, take_while, before_first, list_any, list_all, AllByRecursion, ℕ, Bool, true, false, cond, List, [], drop, reverse, nat_lt, length, map, not, slice_index, keyword_of, most_word_bytes, most_line_bytes}
use Rattle.std.specs.Prelude.{◌==◌, ◌∷◌, ◌+◌, ◌++◌, ◌≡◌, ◌-◌}
use Rattle.tsp_format.specs.Words.{is_blank, is_letter, is_keyword_byte}
use Rattle.tsp_format.specs.declared.keyword.Keyword.{Keyword}
use Rattle.tsp_format.specs.declared.keyword.Keyword.TheVariants.{Known, EdgeDataFormat, EdgeDataSection, Eof, Unknown}

-- byte 10 ends a line
abbrev pub ends_line : ℕ → Bool
ends_line b = b == 10

-- the lines of a text are its pieces between bytes 10
abbrev pub lines_of : List ℕ → List (List ℕ)
lines_of bytes = slice_split ends_line bytes

abbrev pub is_not_empty : {A : Type 0} → List A → Bool
is_not_empty [] = false
is_not_empty (x ∷ xs) = true

-- the words of a line are its longest runs of bytes that aren't blank
abbrev pub words_in : List ℕ → List (List ℕ)
words_in line = filter is_not_empty (slice_split is_blank line)

-- without the blanks at the beginning
abbrev pub without_start : List ℕ → List ℕ
without_start bytes = drop (prefix_len is_blank bytes) bytes

-- without the blanks at the end
abbrev pub without_end : List ℕ → List ℕ
without_end bytes = reverse (without_start (reverse bytes))

-- the first byte passes the test
abbrev pub begins : (ℕ → Bool) → List ℕ → Bool
begins test [] = false
begins test (b ∷ bytes) = test b

-- a word line: its first byte that isn't blank is a letter
abbrev pub is_word_line : List ℕ → Bool
is_word_line line = begins is_letter (without_start line)

-- ---- the parts of a word line, in its bytes from the first that isn't blank on

-- the keyword: the longest run of bytes that are neither blank nor a colon
abbrev pub keyword_in : List ℕ → List ℕ
keyword_in text = take_while is_keyword_byte text

-- the bytes after the keyword and the blanks that follow it
abbrev pub after_keyword : List ℕ → List ℕ
after_keyword text = without_start (drop (prefix_len is_keyword_byte text) text)

abbrev pub is_colon : ℕ → Bool
is_colon b = b == 58

-- a colon follows the keyword
abbrev pub has_colon : List ℕ → Bool
has_colon text = begins is_colon (after_keyword text)

-- the value: the bytes after the colon, or after the keyword if there is none, without blanks at either end
abbrev pub value_in : List ℕ → List ℕ
value_in text = without_end (without_start (drop (cond (has_colon text) 1 0) (after_keyword text)))

-- the first word of a value; of an empty value nothing
abbrev pub first_word : List ℕ → List ℕ
first_word value = before_first is_blank value

-- ---- a text as items, in order: its word lines, the words of its number lines

-- a word line: how many bytes it has from the first that isn't blank, its keyword, whether a colon follows, its value
pub record WordLine : Type 0 where
  pub size : ℕ
  pub keyword : List ℕ
  pub has_colon : Bool
  pub value : List ℕ

-- a word line with its keyword, a word of a number line, or the end of a line
pub data Item : Type 0 where
  Line : (key : Keyword) (line : WordLine) → Item
  NumberWord : (word : List ℕ) → Item
  LineEnd : Item

-- ---- the items of a whole text

-- the word line with these bytes from the first that isn't blank on
abbrev pub word_line_of : List ℕ → WordLine
word_line_of text = record { size = length text; keyword = keyword_in text; has_colon = has_colon text; value = value_in text }

-- the item of that word line
abbrev pub line_item : List ℕ → Item
line_item text = Line (keyword_of (keyword_in text)) (word_line_of text)

-- the items of a line
abbrev pub items_in : List ℕ → List Item
items_in line = cond (is_word_line line) (line_item (without_start line) ∷ []) (map (λ word. NumberWord word) (words_in line))

-- the items of lines; `last` gives those of the last line
abbrev pub items_by : (List ℕ → List Item) → List (List ℕ) → List Item
items_by last [] = []
items_by last (line ∷ []) = last line
items_by last (line ∷ next ∷ lines) = items_in line ++ LineEnd ∷ items_by last (next ∷ lines)

-- the items of a whole text
abbrev pub items_of : List ℕ → List Item
items_of bytes = items_by items_in (lines_of bytes)

-- ---- the items that are settled, whatever bytes follow

-- the pieces of a line between blanks that another piece follows, and the last one if it is longer than any number
-- word
abbrev pub settled_pieces : List (List ℕ) → List (List ℕ)
settled_pieces [] = []
settled_pieces (piece ∷ []) = cond (nat_lt most_word_bytes (length piece)) (piece ∷ []) []
settled_pieces (piece ∷ next ∷ pieces) = piece ∷ settled_pieces (next ∷ pieces)

-- the settled words of a number line that goes on
abbrev pub settled_words : List ℕ → List (List ℕ)
settled_words line = filter is_not_empty (settled_pieces (slice_split is_blank line))

-- a word line that goes on is settled if it is longer than any word line
abbrev pub settled_line : List ℕ → List Item
settled_line text = cond (nat_lt most_line_bytes (length text)) (line_item text ∷ []) []

-- the settled items of a line that goes on
abbrev pub settled_in : List ℕ → List Item
settled_in line = cond (is_word_line line) (settled_line (without_start line))
    (map (λ word. NumberWord word) (settled_words line))

-- the settled items of a text that goes on
abbrev pub settled_items : List ℕ → List Item
settled_items bytes = items_by settled_in (lines_of bytes)

-- ---- the end line

-- the EOF line, which ends the file
abbrev pub is_end_line : Item → Bool
is_end_line (Line (Known field) line) = false
is_end_line (Line EdgeDataFormat line) = false
is_end_line (Line EdgeDataSection line) = false
is_end_line (Line Eof line) = true
is_end_line (Line Unknown line) = false
is_end_line (NumberWord word) = false
is_end_line LineEnd = false

abbrev pub has_end_line : List Item → Bool
has_end_line items = list_any is_end_line items

-- the items up to and with the first EOF line; items after it don't count
abbrev pub to_end_line : List Item → List Item
to_end_line [] = []
to_end_line (item ∷ items) = item ∷ cond (is_end_line item) [] (to_end_line items)

-- ---- the line and the word of an item, after these earlier items (the last one first)

-- the number of the line, from 1 on
abbrev pub line_number : List Item → ℕ
line_number [] = 1
line_number (Line key line ∷ earlier) = line_number earlier
line_number (NumberWord word ∷ earlier) = line_number earlier
line_number (LineEnd ∷ earlier) = line_number earlier + 1

-- how many words the line has so far
abbrev pub words_before : List Item → ℕ
words_before [] = 0
words_before (Line key line ∷ earlier) = 0
words_before (NumberWord word ∷ earlier) = words_before earlier + 1
words_before (LineEnd ∷ earlier) = 0

-- the number of the word, from 1 on; 0 for a word line
abbrev pub word_number : List Item → Item → ℕ
word_number earlier (Line key line) = 0
word_number earlier (NumberWord word) = words_before earlier + 1
word_number earlier LineEnd = 0

-- ---- what holds for every item that is cut from a text

-- no byte ends a line
abbrev pub has_no_line_end : List ℕ → Bool
has_no_line_end bytes = list_all (λ b. not (ends_line b)) bytes

-- a word line: the keyword begins with a letter, and the value has no byte 10 and no blank at either end
pub record IsCutLine (key : Keyword) (line : WordLine) : Type 0 where
  pub of_keyword : key ≡ keyword_of line.keyword
  pub letter_first : is_letter (slice_index line.keyword 0) ≡ true
  pub keyword_bytes : list_all is_keyword_byte line.keyword ≡ true
  pub one_line : has_no_line_end line.value ≡ true
  pub begins_filled : is_blank (slice_index line.value 0) ≡ false
  pub ends_filled : is_blank (slice_index line.value (length line.value - 1)) ≡ false

-- an item; words and line ends can be any
abbrev pub IsCut : Item → Type 0
IsCut (Line key line) = IsCutLine key line
IsCut (NumberWord word) = Unit {0}
IsCut LineEnd = Unit {0}

-- all of these items
abbrev pub AreCut : List Item → Type 0
AreCut items = AllByRecursion IsCut items
