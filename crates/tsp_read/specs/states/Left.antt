-- The items of the part of a text that hasn't been taken yet, and where the next line or word in it ends.
-- `src/items.rt` cuts lines and words by them, and `specs/states/Onward.antt` and `specs/states/PlainNumbers.antt`
-- build on them. You may change them with the code, because `items_of` defines the items of a whole text.
use Rattle.tsp_read.specs.Prelude.{position_or_len, ℕ, Bool, true, false, not, nat_lt, List, [], length, map, take, drop, cond, most_word_bytes, most_line_bytes, is_blank, is_letter, lines_of, words_in, ends_line, is_not_empty, Item, NumberWord, LineEnd, line_item, items_in, items_by, settled_words, settled_in}
use Rattle.std.specs.Prelude.{◌||◌, ◌∷◌, ◌++◌, ◌&&◌}
use Rattle.tsp_read.specs.declared.items.Next.{Next}
use Rattle.tsp_read.specs.declared.items.Next.TheVariants as next
use Rattle.tsp_read.specs.declared.items.Token.{Token}
use Rattle.tsp_read.specs.declared.items.Token.TheVariants.{Line, Word}

-- ---- the items of the rest of a text

-- the items of the rest of a line that another line follows; after a word the line has words alone
abbrev pub items_of_rest : Bool → List ℕ → List Item
items_of_rest true line = map (λ word. NumberWord word) (words_in line)
items_of_rest false line = items_in line

-- the same for the last line, which may go on
abbrev pub last_items : Bool → Bool → List ℕ → List Item
last_items false inside line = items_of_rest inside line
last_items true true line = map (λ word. NumberWord word) (settled_words line)
last_items true false line = settled_in line

-- the items of lines, the first of which is the rest of a line
abbrev pub items_left_by : Bool → Bool → List (List ℕ) → List Item
items_left_by goes_on inside [] = []
items_left_by goes_on inside (line ∷ []) = last_items goes_on inside line
items_left_by goes_on inside (line ∷ next ∷ lines) = items_of_rest inside line ++ LineEnd
    ∷ items_by (λ last. last_items goes_on false last) (next ∷ lines)

-- The items of the rest of a text: all of them, or the settled ones if the text goes on. After an item of a line the
-- rest of it has words alone.
abbrev pub items_left : Bool → Bool → List ℕ → List Item
items_left goes_on inside bytes = items_left_by goes_on inside (lines_of bytes)

-- ---- the next item

-- the item that was cut
abbrev pub item_next : Next → Item
item_next (next.Line text) = line_item text.now
item_next (next.Word word) = NumberWord word.now
item_next next.LineEnd = LineEnd

-- whether the next item is in the same line
abbrev pub is_in_line : Next → Bool
is_in_line (next.Line text) = true
is_in_line (next.Word word) = true
is_in_line next.LineEnd = false

-- ---- where a line and a word end

-- the byte is a blank or a line's end
abbrev pub ends_word : ℕ → Bool
ends_word b = is_blank b || ends_line b

-- the bytes before the first one that passes the test
abbrev pub up_to_first : (ℕ → Bool) → List ℕ → List ℕ
up_to_first test text = take (position_or_len test text) text

-- the bytes from that one on
abbrev pub from : (ℕ → Bool) → List ℕ → List ℕ
from test text = drop (position_or_len test text) text

-- A line or word at the beginning is settled: something follows it, the text ends, or it is longer than any of its sort
-- may be.
abbrev pub is_settled : ℕ → Bool → List ℕ → List ℕ → Bool
is_settled most goes_on piece rest = is_not_empty rest || not goes_on || nat_lt most (length piece)

-- ---- a word line, or a word of a number line: which byte begins it

-- a letter that is the first of its line begins a word line; every other byte that isn't blank begins a word
abbrev pub token_at : Bool → ℕ → Token
token_at inside first = cond (not inside && is_letter first) Line Word

-- the bytes that end it
abbrev pub ends_token : Token → (ℕ → Bool)
ends_token Line = ends_line
ends_token Word = ends_word

-- how long it may be
abbrev pub most_bytes : Token → ℕ
most_bytes Line = most_line_bytes
most_bytes Word = most_word_bytes

-- the item that it is
abbrev pub token_item : Token → List ℕ → Item
token_item Line line = line_item line
token_item Word word = NumberWord word
