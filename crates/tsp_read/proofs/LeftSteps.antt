-- The items of the rest of a text, by what it begins with: a blank, the end of a line, a word line or a word. For
-- src/items.rt and the lemmas on its steps.
use Rattle.tsp_read.proofs.Prelude.{◌≡◌, ℕ, ◌+◌, Bool, true, false, cond, List, [], ◌∷◌, ◌++◌, length, map, take, drop, refl, sym, ap, subst, ◌∙◌, arith, append-nil, take-append-drop, not, ◌||◌, ◌&&◌, nat_lt, slice_split, onto_first, position_or_len, filter, eqb-true, ne_eqb, or_parts, nat_tests, is_blank, is_letter, most_word_bytes, most_line_bytes, lines_of, words_in, ends_line, is_not_empty, without_start, begins, Item, NumberWord, LineEnd, line_item, items_in, items_by, items_of, settled_pieces, settled_words, settled_line, settled_in, settled_items, start_blank, start_filled, words_blank as settled_blank}
use Rattle.std.proofs.Math.Numerals.{one-add}
use Rattle.tsp_read.specs.states.Left.{items_of_rest, last_items, items_left_by, items_left, ends_word, up_to_first, from, is_settled}

-- ---- pieces

-- no element passes
abbrev pub FreeOf : {X : Type 0} → (X → Bool) → List X → Type 0
FreeOf p [] = Unit {0}
FreeOf p (x ∷ xs) = (p x ≡ false) × FreeOf p xs

-- nothing, or the first element passes
abbrev pub StopsAt : {X : Type 0} → (X → Bool) → List X → Type 0
StopsAt p [] = Unit {0}
StopsAt p (x ∷ xs) = p x ≡ true

-- there is a first piece always
record Front {X : Type 0} (p : X → Bool) (xs : List X) : Type 0 where
  head : List X
  others : List (List X)
  pieces : slice_split p xs ≡ head ∷ others

front_at : {X : Type 0} (p : X → Bool) (x : X) (xs : List X) (b : Bool) → p x ≡ b → Front p xs → Front p (x ∷ xs)
front_at p x xs true e f = record { head = []; others = slice_split p xs; pieces = rw e refl }
front_at p x xs false e f = record { head = x ∷ f.head; others = f.others; pieces = rw e (rw f.pieces refl) }

front : {X : Type 0} (p : X → Bool) (xs : List X) → Front p xs
front p [] = record { head = []; others = []; pieces = refl }
front p (x ∷ xs) = front_at p x xs (p x) refl (front p xs)

-- elements that don't pass go onto the first piece
split_onto : {X : Type 0} (p : X → Bool) (w r : List X) (head : List X) (others : List (List X)) → FreeOf p w
    → slice_split p r ≡ head ∷ others → slice_split p (w ++ r) ≡ (w ++ head) ∷ others
split_onto p [] r head others free e = e
split_onto p (x ∷ w) r head others free e =
    ap (λ b. cond b ([] ∷ slice_split p (w ++ r)) (onto_first x (slice_split p (w ++ r)))) free.0
    ∙ ap (onto_first x) (split_onto p w r head others free.1 e)

split_whole : {X : Type 0} (p : X → Bool) (w : List X) → FreeOf p w → slice_split p w ≡ w ∷ []
split_whole p [] free = refl
split_whole p (x ∷ w) free =
    ap (λ b. cond b ([] ∷ slice_split p w) (onto_first x (slice_split p w))) free.0
    ∙ ap (onto_first x) (split_whole p w free.1)

split_yes : {X : Type 0} (p : X → Bool) (x : X) (xs : List X) → p x ≡ true → slice_split p (x ∷ xs) ≡ [] ∷ slice_split p xs
split_yes p x xs e = ap (λ b. cond b ([] ∷ slice_split p xs) (onto_first x (slice_split p xs))) e

split_no : {X : Type 0} (p : X → Bool) (x : X) (xs : List X) → p x ≡ false
    → slice_split p (x ∷ xs) ≡ onto_first x (slice_split p xs)
split_no p x xs e = ap (λ b. cond b ([] ∷ slice_split p xs) (onto_first x (slice_split p xs))) e

split_cut : {X : Type 0} (p : X → Bool) (w : List X) (x : X) (xs : List X) → FreeOf p w → p x ≡ true
    → slice_split p (w ++ x ∷ xs) ≡ w ∷ slice_split p xs
split_cut p w x xs free e =
    split_onto p w (x ∷ xs) [] (slice_split p xs) free (split_yes p x xs e) ∙ ap (λ v. v ∷ slice_split p xs) (append-nil w)

-- ---- before and from the first place that passes

not_cond : (b : Bool) (n : ℕ) → b ≡ true → cond (not b) n 0 ≡ 0
not_cond b n e = ap (λ c. cond (not c) n 0) e

not_cond_no : (b : Bool) (n : ℕ) → b ≡ false → cond (not b) n 0 ≡ n
not_cond_no b n e = ap (λ c. cond (not c) n 0) e

free_at : {X : Type 0} (p : X → Bool) (x : X) (xs : List X) (b : Bool) → p x ≡ b → FreeOf p (take (position_or_len p xs) xs)
    → FreeOf p (take (position_or_len p (x ∷ xs)) (x ∷ xs))
free_at p x xs true e rest = rw (not_cond (p x) (1 + position_or_len p xs) e) tt
free_at {X} p x xs false e rest = rw (not_cond_no (p x) (1 + position_or_len p xs) e, one-add (position_or_len p xs)) (e, rest)

pub free : {X : Type 0} (p : X → Bool) (xs : List X) → FreeOf p (take (position_or_len p xs) xs)
free p [] = tt
free p (x ∷ xs) = free_at p x xs (p x) refl (free p xs)

stops_at : {X : Type 0} (p : X → Bool) (x : X) (xs : List X) (b : Bool) → p x ≡ b → StopsAt p (drop (position_or_len p xs) xs)
    → StopsAt p (drop (position_or_len p (x ∷ xs)) (x ∷ xs))
stops_at p x xs true e rest = rw (not_cond (p x) (1 + position_or_len p xs) e) e
stops_at p x xs false e rest = rw (not_cond_no (p x) (1 + position_or_len p xs) e, one-add (position_or_len p xs)) rest

pub stops : {X : Type 0} (p : X → Bool) (xs : List X) → StopsAt p (drop (position_or_len p xs) xs)
stops p [] = tt
stops p (x ∷ xs) = stops_at p x xs (p x) refl (stops p xs)

-- ---- kinds of bytes

true≢false : (b : Bool) → b ≡ true → b ≡ false → ⊥
true≢false b t f = let e : true ≡ false = sym t ∙ f in absurd cc

pub blank_goes_on : (b : ℕ) → is_blank b ≡ true → ends_line b ≡ false
blank_goes_on b e = ne_eqb b 10 (λ z. true≢false (is_blank b) e (ap is_blank z))

pub letter_filled : (b : ℕ) → is_letter b ≡ true → is_blank b ≡ false
letter_filled b e = grind (arith, nat_tests)

free_of_ends : (w : List ℕ) → FreeOf ends_word w → FreeOf is_blank w × FreeOf ends_line w
free_of_ends [] free = (tt, tt)
free_of_ends (b ∷ w) free =
    let here = or_parts (is_blank b) (ends_line b) free.0 in
    let rest = free_of_ends w free.1 in
    ((here.0, rest.0), (here.1, rest.1))

-- ---- the start of a line

abbrev pub Filled : List ℕ → Type 0
Filled [] = Unit {0}
Filled (b ∷ bytes) = is_blank b ≡ false

start_at : (b : ℕ) (bytes : List ℕ) (c : Bool) → is_blank b ≡ c → Filled (without_start bytes)
    → Filled (without_start (b ∷ bytes))
start_at b bytes true e rest = rw (start_blank b bytes e) rest
start_at b bytes false e rest = rw (start_filled b bytes e) e

pub start_is_filled : (bytes : List ℕ) → Filled (without_start bytes)
start_is_filled [] = tt
start_is_filled (b ∷ bytes) = start_at b bytes (is_blank b) refl (start_is_filled bytes)

-- ---- the words of what is left of a line

words_blank : (b : ℕ) (line : List ℕ) → is_blank b ≡ true → words_in (b ∷ line) ≡ words_in line
words_blank b line e = ap (filter is_not_empty) (split_yes is_blank b line e)

-- a line's items by its start and its words
abbrev by_start : (List ℕ → List Item) → List ℕ → List (List ℕ) → List Item
by_start whole text words = cond (begins is_letter text) (whole text) (map (λ word. NumberWord word) words)

line_blank : (inside : Bool) (b : ℕ) (line : List ℕ) → is_blank b ≡ true → items_of_rest inside (b ∷ line) ≡ items_of_rest inside line
line_blank true b line e = ap (map (λ word. NumberWord word)) (words_blank b line e)
line_blank false b line e =
    ap (λ text. by_start (λ text. line_item text ∷ []) text (words_in (b ∷ line))) (start_blank b line e)
    ∙ ap (by_start (λ text. line_item text ∷ []) (without_start line)) (words_blank b line e)

last_blank : (goes_on inside : Bool) (b : ℕ) (line : List ℕ) → is_blank b ≡ true
    → last_items goes_on inside (b ∷ line) ≡ last_items goes_on inside line
last_blank false inside b line e = line_blank inside b line e
last_blank true true b line e = ap (map (λ word. NumberWord word)) (settled_blank b line e)
last_blank true false b line e =
    ap (λ text. by_start settled_line text (settled_words (b ∷ line))) (start_blank b line e)
    ∙ ap (by_start settled_line (without_start line)) (settled_blank b line e)

-- ---- blanks are passed over

-- what follows the first line
abbrev after_line : Bool → List ℕ → List (List ℕ) → List Item
after_line goes_on next lines = LineEnd ∷ items_by (λ last. last_items goes_on false last) (next ∷ lines)

by_blank : (goes_on inside : Bool) (b : ℕ) (head : List ℕ) (others : List (List ℕ)) → is_blank b ≡ true
    → items_left_by goes_on inside ((b ∷ head) ∷ others) ≡ items_left_by goes_on inside (head ∷ others)
by_blank goes_on inside b head [] e = last_blank goes_on inside b head e
by_blank goes_on inside b head (next ∷ others) e = ap (λ xs. xs ++ after_line goes_on next others) (line_blank inside b head e)

pub left_blank : (goes_on inside : Bool) (b : ℕ) (bytes : List ℕ) → is_blank b ≡ true
    → items_left goes_on inside (b ∷ bytes) ≡ items_left goes_on inside bytes
left_blank goes_on inside b bytes e =
    let f = front ends_line bytes in
    ap (items_left_by goes_on inside) (split_no ends_line b bytes (blank_goes_on b e) ∙ ap (onto_first b) f.pieces)
    ∙ by_blank goes_on inside b f.head f.others e
    ∙ ap (items_left_by goes_on inside) (sym f.pieces)

left_start_at : (goes_on inside : Bool) (b : ℕ) (bytes : List ℕ) (c : Bool) → is_blank b ≡ c
    → items_left goes_on inside (without_start bytes) ≡ items_left goes_on inside bytes
    → items_left goes_on inside (without_start (b ∷ bytes)) ≡ items_left goes_on inside (b ∷ bytes)
left_start_at goes_on inside b bytes true e rest =
    ap (items_left goes_on inside) (start_blank b bytes e) ∙ rest ∙ sym (left_blank goes_on inside b bytes e)
left_start_at goes_on inside b bytes false e rest = ap (items_left goes_on inside) (start_filled b bytes e)

pub left_start : (goes_on inside : Bool) (bytes : List ℕ)
    → items_left goes_on inside (without_start bytes) ≡ items_left goes_on inside bytes
left_start goes_on inside [] = refl
left_start goes_on inside (b ∷ bytes) = left_start_at goes_on inside b bytes (is_blank b) refl (left_start goes_on inside bytes)

-- ---- the end, and a line's end

pub left_none : (goes_on inside : Bool) → items_left goes_on inside [] ≡ []
left_none true true = refl
left_none true false = refl
left_none false true = refl
left_none false false = refl

line_none : (inside : Bool) → items_of_rest inside [] ≡ []
line_none true = refl
line_none false = refl

from_start : (goes_on : Bool) (lines : List (List ℕ))
    → items_by (λ last. last_items goes_on false last) lines ≡ items_left_by goes_on false lines
from_start goes_on [] = refl
from_start goes_on (line ∷ []) = refl
from_start goes_on (line ∷ next ∷ lines) = refl

-- the line that is left ends here
pub left_cut : (goes_on inside : Bool) (w r : List ℕ) → FreeOf ends_line w
    → items_left goes_on inside (w ++ 10 ∷ r) ≡ items_of_rest inside w ++ LineEnd ∷ items_left goes_on false r
left_cut goes_on inside w r no_end =
    let f = front ends_line r in
    ap (items_left_by goes_on inside) (split_cut ends_line w 10 r no_end refl ∙ ap (λ lines. w ∷ lines) f.pieces)
    ∙ ap (λ xs. items_of_rest inside w ++ LineEnd ∷ xs) (from_start goes_on (f.head ∷ f.others) ∙ ap (items_left_by goes_on false) (sym f.pieces))

pub left_end : (goes_on inside : Bool) (r : List ℕ) → items_left goes_on inside (10 ∷ r) ≡ LineEnd ∷ items_left goes_on false r
left_end goes_on inside r =
    left_cut goes_on inside [] r tt ∙ ap (λ xs. xs ++ LineEnd ∷ items_left goes_on false r) (line_none inside)

-- ---- a word line

line_letter : (b : ℕ) (line : List ℕ) → is_letter b ≡ true → items_in (b ∷ line) ≡ line_item (b ∷ line) ∷ []
line_letter b line e =
    ap (λ text. by_start (λ text. line_item text ∷ []) text (words_in (b ∷ line))) (start_filled b line (letter_filled b e))
    ∙ ap (λ c. cond c (line_item (b ∷ line) ∷ []) (map (λ word. NumberWord word) (words_in (b ∷ line)))) e

settled_letter : (b : ℕ) (line : List ℕ) → is_letter b ≡ true → settled_in (b ∷ line) ≡ settled_line (b ∷ line)
settled_letter b line e =
    ap (λ text. by_start settled_line text (settled_words (b ∷ line))) (start_filled b line (letter_filled b e))
    ∙ ap (λ c. cond c (settled_line (b ∷ line)) (map (λ word. NumberWord word) (settled_words (b ∷ line)))) e

-- nothing follows the first line
left_whole : (goes_on inside : Bool) (w : List ℕ) → FreeOf ends_line w
    → items_left goes_on inside (w ++ []) ≡ last_items goes_on inside w
left_whole goes_on inside w free = ap (items_left_by goes_on inside) (ap lines_of (append-nil w) ∙ split_whole ends_line w free)

line_found : (goes_on : Bool) (b : ℕ) (w r : List ℕ) → is_letter b ≡ true → FreeOf ends_line (b ∷ w) → StopsAt ends_line r
    → is_settled most_line_bytes goes_on (b ∷ w) r ≡ true
    → items_left goes_on false ((b ∷ w) ++ r) ≡ line_item (b ∷ w) ∷ items_left goes_on true r
line_found false b w [] e free stop settled = left_whole false false (b ∷ w) free ∙ line_letter b w e
line_found true b w [] e free stop settled =
    left_whole true false (b ∷ w) free ∙ settled_letter b w e ∙ ap (λ c. cond c (line_item (b ∷ w) ∷ []) []) settled
line_found goes_on b w (c ∷ r) e free stop settled =
    ap (λ d. items_left goes_on false ((b ∷ w) ++ d ∷ r)) (eqb-true c 10 stop)
    ∙ left_cut goes_on false (b ∷ w) r free
    ∙ ap (λ xs. xs ++ LineEnd ∷ items_left goes_on false r) (line_letter b w e)
    ∙ ap (λ xs. line_item (b ∷ w) ∷ xs) (sym (left_end goes_on true r) ∙ ap (λ d. items_left goes_on true (d ∷ r)) (sym (eqb-true c 10 stop)))

line_missing : (goes_on : Bool) (b : ℕ) (w r : List ℕ) → is_letter b ≡ true → FreeOf ends_line (b ∷ w)
    → is_settled most_line_bytes goes_on (b ∷ w) r ≡ false → items_left goes_on false ((b ∷ w) ++ r) ≡ []
line_missing false b w [] e free settled = absurd cc
line_missing true b w [] e free settled =
    left_whole true false (b ∷ w) free ∙ settled_letter b w e ∙ ap (λ c. cond c (line_item (b ∷ w) ∷ []) []) settled
line_missing goes_on b w (c ∷ r) e free settled = absurd cc

-- ---- a word

words_one : (b : ℕ) (w : List ℕ) → FreeOf is_blank (b ∷ w) → words_in (b ∷ w) ≡ (b ∷ w) ∷ []
words_one b w free = ap (filter is_not_empty) (split_whole is_blank (b ∷ w) free)

settled_one : (b : ℕ) (w : List ℕ) → FreeOf is_blank (b ∷ w)
    → settled_words (b ∷ w) ≡ filter is_not_empty (cond (nat_lt most_word_bytes (length (b ∷ w))) ((b ∷ w) ∷ []) [])
settled_one b w free = ap (λ pieces. filter is_not_empty (settled_pieces pieces)) (split_whole is_blank (b ∷ w) free)

words_first : (b : ℕ) (w : List ℕ) (c : ℕ) (line : List ℕ) → FreeOf is_blank (b ∷ w) → is_blank c ≡ true
    → words_in ((b ∷ w) ++ c ∷ line) ≡ (b ∷ w) ∷ words_in line
words_first b w c line free e = ap (filter is_not_empty) (split_cut is_blank (b ∷ w) c line free e)

settled_first : (b : ℕ) (w : List ℕ) (c : ℕ) (line : List ℕ) → FreeOf is_blank (b ∷ w) → is_blank c ≡ true
    → settled_words ((b ∷ w) ++ c ∷ line) ≡ (b ∷ w) ∷ settled_words line
settled_first b w c line free e =
    let f = front is_blank line in
    ap (λ pieces. filter is_not_empty (settled_pieces pieces)) (split_cut is_blank (b ∷ w) c line free e ∙ ap (λ pieces. (b ∷ w) ∷ pieces) f.pieces)
    ∙ ap (λ pieces. (b ∷ w) ∷ filter is_not_empty (settled_pieces pieces)) (sym f.pieces)

by_word : (goes_on : Bool) (b : ℕ) (w : List ℕ) (c : ℕ) (head : List ℕ) (others : List (List ℕ)) → FreeOf is_blank (b ∷ w)
    → is_blank c ≡ true
    → items_left_by goes_on true (((b ∷ w) ++ c ∷ head) ∷ others) ≡ NumberWord (b ∷ w) ∷ items_left_by goes_on true (head ∷ others)
by_word false b w c head [] free e = ap (map (λ word. NumberWord word)) (words_first b w c head free e)
by_word true b w c head [] free e = ap (map (λ word. NumberWord word)) (settled_first b w c head free e)
by_word goes_on b w c head (next ∷ others) free e =
    ap (λ words. map (λ word. NumberWord word) words ++ after_line goes_on next others) (words_first b w c head free e)

-- a blank follows the word
word_blank : (goes_on : Bool) (b : ℕ) (w : List ℕ) (c : ℕ) (r : List ℕ) → FreeOf is_blank (b ∷ w) → FreeOf ends_line (b ∷ w)
    → is_blank c ≡ true
    → items_left goes_on true ((b ∷ w) ++ c ∷ r) ≡ NumberWord (b ∷ w) ∷ items_left goes_on true (c ∷ r)
word_blank goes_on b w c r free no_end e =
    let f = front ends_line r in
    let first : lines_of (c ∷ r) ≡ (c ∷ f.head) ∷ f.others = split_no ends_line c r (blank_goes_on c e) ∙ ap (onto_first c) f.pieces in
    ap (items_left_by goes_on true) (split_onto ends_line (b ∷ w) (c ∷ r) (c ∷ f.head) f.others no_end first)
    ∙ by_word goes_on b w c f.head f.others free e
    ∙ ap (λ xs. NumberWord (b ∷ w) ∷ xs) (ap (items_left_by goes_on true) (sym f.pieces) ∙ sym (left_blank goes_on true c r e))

-- a line's end follows the word
word_end : (goes_on : Bool) (b : ℕ) (w : List ℕ) (r : List ℕ) → FreeOf is_blank (b ∷ w) → FreeOf ends_line (b ∷ w)
    → items_left goes_on true ((b ∷ w) ++ 10 ∷ r) ≡ NumberWord (b ∷ w) ∷ items_left goes_on true (10 ∷ r)
word_end goes_on b w r free no_end =
    left_cut goes_on true (b ∷ w) r no_end
    ∙ ap (λ words. map (λ word. NumberWord word) words ++ LineEnd ∷ items_left goes_on false r) (words_one b w free)
    ∙ ap (λ xs. NumberWord (b ∷ w) ∷ xs) (sym (left_end goes_on true r))

word_by : (goes_on : Bool) (b : ℕ) (w : List ℕ) (c : ℕ) (r : List ℕ) (t : Bool) → is_blank c ≡ t → FreeOf is_blank (b ∷ w)
    → FreeOf ends_line (b ∷ w) → ends_word c ≡ true
    → items_left goes_on true ((b ∷ w) ++ c ∷ r) ≡ NumberWord (b ∷ w) ∷ items_left goes_on true (c ∷ r)
word_by goes_on b w c r true e free no_end stop = word_blank goes_on b w c r free no_end e
word_by goes_on b w c r false e free no_end stop =
    let ends : ends_line c ≡ true = sym (ap (λ t. t || ends_line c) e) ∙ stop in
    subst (λ d. items_left goes_on true ((b ∷ w) ++ d ∷ r) ≡ NumberWord (b ∷ w) ∷ items_left goes_on true (d ∷ r)) (sym (eqb-true c 10 ends)) (word_end goes_on b w r free no_end)

word_found : (goes_on : Bool) (b : ℕ) (w r : List ℕ) → FreeOf is_blank (b ∷ w) → FreeOf ends_line (b ∷ w) → StopsAt ends_word r
    → is_settled most_word_bytes goes_on (b ∷ w) r ≡ true
    → items_left goes_on true ((b ∷ w) ++ r) ≡ NumberWord (b ∷ w) ∷ items_left goes_on true r
word_found false b w [] free no_end stop settled =
    left_whole false true (b ∷ w) no_end ∙ ap (map (λ word. NumberWord word)) (words_one b w free)
word_found true b w [] free no_end stop settled =
    left_whole true true (b ∷ w) no_end
    ∙ ap (map (λ word. NumberWord word)) (settled_one b w free ∙ ap (λ c. filter is_not_empty (cond c ((b ∷ w) ∷ []) [])) settled)
word_found goes_on b w (c ∷ r) free no_end stop settled = word_by goes_on b w c r (is_blank c) refl free no_end stop

word_missing : (goes_on : Bool) (b : ℕ) (w r : List ℕ) → FreeOf is_blank (b ∷ w) → FreeOf ends_line (b ∷ w)
    → is_settled most_word_bytes goes_on (b ∷ w) r ≡ false → items_left goes_on true ((b ∷ w) ++ r) ≡ []
word_missing false b w [] free no_end settled = absurd cc
word_missing true b w [] free no_end settled =
    left_whole true true (b ∷ w) no_end
    ∙ ap (map (λ word. NumberWord word)) (settled_one b w free ∙ ap (λ c. filter is_not_empty (cond c ((b ∷ w) ∷ []) [])) settled)
word_missing goes_on b w (c ∷ r) free no_end settled = absurd cc

-- ---- words of a line that begins with no letter

line_inside : (b : ℕ) (line : List ℕ) → is_blank b ≡ false → is_letter b ≡ false
    → items_in (b ∷ line) ≡ map (λ word. NumberWord word) (words_in (b ∷ line))
line_inside b line filled other =
    ap (λ text. by_start (λ text. line_item text ∷ []) text (words_in (b ∷ line))) (start_filled b line filled)
    ∙ ap (λ c. cond c (line_item (b ∷ line) ∷ []) (map (λ word. NumberWord word) (words_in (b ∷ line)))) other

settled_inside : (b : ℕ) (line : List ℕ) → is_blank b ≡ false → is_letter b ≡ false
    → settled_in (b ∷ line) ≡ map (λ word. NumberWord word) (settled_words (b ∷ line))
settled_inside b line filled other =
    ap (λ text. by_start settled_line text (settled_words (b ∷ line))) (start_filled b line filled)
    ∙ ap (λ c. cond c (settled_line (b ∷ line)) (map (λ word. NumberWord word) (settled_words (b ∷ line)))) other

by_inside : (goes_on : Bool) (b : ℕ) (head : List ℕ) (others : List (List ℕ)) → is_blank b ≡ false → is_letter b ≡ false
    → items_left_by goes_on false ((b ∷ head) ∷ others) ≡ items_left_by goes_on true ((b ∷ head) ∷ others)
by_inside false b head [] filled other = line_inside b head filled other
by_inside true b head [] filled other = settled_inside b head filled other
by_inside goes_on b head (next ∷ others) filled other =
    ap (λ xs. xs ++ after_line goes_on next others) (line_inside b head filled other)

left_inside : (goes_on inside : Bool) (b : ℕ) (bytes : List ℕ) → is_blank b ≡ false → ends_line b ≡ false
    → (not inside && is_letter b) ≡ false
    → items_left goes_on inside (b ∷ bytes) ≡ items_left goes_on true (b ∷ bytes)
left_inside goes_on true b bytes filled more other = refl
left_inside goes_on false b bytes filled more other =
    let f = front ends_line bytes in
    let first : lines_of (b ∷ bytes) ≡ (b ∷ f.head) ∷ f.others = split_no ends_line b bytes more ∙ ap (onto_first b) f.pieces in
    ap (items_left_by goes_on false) first ∙ by_inside goes_on b f.head f.others filled other ∙ ap (items_left_by goes_on true) (sym first)

-- ---- by the part before the end of a line or a word, and the part from it on

pub before_on : (test : ℕ → Bool) (b : ℕ) (bytes : List ℕ) → test b ≡ false
    → up_to_first test (b ∷ bytes) ≡ b ∷ up_to_first test bytes
before_on test b bytes e =
    ap (λ n. take n (b ∷ bytes)) (not_cond_no (test b) (1 + position_or_len test bytes) e ∙ one-add (position_or_len test bytes))

pub from_on : (test : ℕ → Bool) (b : ℕ) (bytes : List ℕ) → test b ≡ false → from test (b ∷ bytes) ≡ from test bytes
from_on test b bytes e =
    ap (λ n. drop n (b ∷ bytes)) (not_cond_no (test b) (1 + position_or_len test bytes) e ∙ one-add (position_or_len test bytes))

cut_here : (test : ℕ → Bool) (b : ℕ) (bytes : List ℕ) → b ∷ bytes ≡ (b ∷ up_to_first test bytes) ++ from test bytes
cut_here test b bytes = ap (λ xs. b ∷ xs) (sym (take-append-drop (position_or_len test bytes) bytes))

pub line_taken : (goes_on : Bool) (b : ℕ) (bytes piece rest : List ℕ) → is_letter b ≡ true → ends_line b ≡ false
    → piece ≡ up_to_first ends_line (b ∷ bytes) → rest ≡ from ends_line (b ∷ bytes)
    → is_settled most_line_bytes goes_on piece rest ≡ true
    → items_left goes_on false (b ∷ bytes) ≡ line_item piece ∷ items_left goes_on true rest
line_taken goes_on b bytes piece rest letter more p r settled =
    let piece_is : piece ≡ b ∷ up_to_first ends_line bytes = p ∙ before_on ends_line b bytes more in
    let rest_is : rest ≡ from ends_line bytes = r ∙ from_on ends_line b bytes more in
    let whole : is_settled most_line_bytes goes_on (b ∷ up_to_first ends_line bytes) (from ends_line bytes) ≡ true =
    ap (λ xs. is_settled most_line_bytes goes_on xs (from ends_line bytes)) (sym piece_is) ∙ ap (is_settled most_line_bytes goes_on piece) (sym rest_is) ∙ settled in
    ap (items_left goes_on false) (cut_here ends_line b bytes)
    ∙ line_found goes_on b (up_to_first ends_line bytes) (from ends_line bytes) letter (more, free ends_line bytes) (stops ends_line bytes) whole
    ∙ ap (λ xs. line_item xs ∷ items_left goes_on true (from ends_line bytes)) (sym piece_is)
    ∙ ap (λ xs. line_item piece ∷ items_left goes_on true xs) (sym rest_is)

pub line_not_taken : (goes_on : Bool) (b : ℕ) (bytes : List ℕ) → is_letter b ≡ true → ends_line b ≡ false
    → is_settled most_line_bytes goes_on (up_to_first ends_line (b ∷ bytes)) (from ends_line (b ∷ bytes)) ≡ false
    → items_left goes_on false (b ∷ bytes) ≡ []
line_not_taken goes_on b bytes letter more settled =
    let whole : is_settled most_line_bytes goes_on (b ∷ up_to_first ends_line bytes) (from ends_line bytes) ≡ false =
    ap (λ xs. is_settled most_line_bytes goes_on xs (from ends_line bytes)) (sym (before_on ends_line b bytes more))
    ∙ ap (is_settled most_line_bytes goes_on (up_to_first ends_line (b ∷ bytes))) (sym (from_on ends_line b bytes more)) ∙ settled in
    ap (items_left goes_on false) (cut_here ends_line b bytes)
    ∙ line_missing goes_on b (up_to_first ends_line bytes) (from ends_line bytes) letter (more, free ends_line bytes) whole

pub word_taken : (goes_on inside : Bool) (b : ℕ) (bytes piece rest : List ℕ) → is_blank b ≡ false → ends_line b ≡ false
    → (not inside && is_letter b) ≡ false
    → piece ≡ up_to_first ends_word (b ∷ bytes) → rest ≡ from ends_word (b ∷ bytes)
    → is_settled most_word_bytes goes_on piece rest ≡ true
    → items_left goes_on inside (b ∷ bytes) ≡ NumberWord piece ∷ items_left goes_on true rest
word_taken goes_on inside b bytes piece rest filled more other p r settled =
    let on : ends_word b ≡ false = ap (λ t. t || ends_line b) filled ∙ more in
    let piece_is : piece ≡ b ∷ up_to_first ends_word bytes = p ∙ before_on ends_word b bytes on in
    let rest_is : rest ≡ from ends_word bytes = r ∙ from_on ends_word b bytes on in
    let frees = free_of_ends (b ∷ up_to_first ends_word bytes) (on, free ends_word bytes) in
    let whole : is_settled most_word_bytes goes_on (b ∷ up_to_first ends_word bytes) (from ends_word bytes) ≡ true =
    ap (λ xs. is_settled most_word_bytes goes_on xs (from ends_word bytes)) (sym piece_is) ∙ ap (is_settled most_word_bytes goes_on piece) (sym rest_is) ∙ settled in
    left_inside goes_on inside b bytes filled more other
    ∙ ap (items_left goes_on true) (cut_here ends_word b bytes)
    ∙ word_found goes_on b (up_to_first ends_word bytes) (from ends_word bytes) frees.0 frees.1 (stops ends_word bytes) whole
    ∙ ap (λ xs. NumberWord xs ∷ items_left goes_on true (from ends_word bytes)) (sym piece_is)
    ∙ ap (λ xs. NumberWord piece ∷ items_left goes_on true xs) (sym rest_is)

pub word_not_taken : (goes_on inside : Bool) (b : ℕ) (bytes : List ℕ) → is_blank b ≡ false → ends_line b ≡ false
    → (not inside && is_letter b) ≡ false
    → is_settled most_word_bytes goes_on (up_to_first ends_word (b ∷ bytes)) (from ends_word (b ∷ bytes)) ≡ false
    → items_left goes_on inside (b ∷ bytes) ≡ []
word_not_taken goes_on inside b bytes filled more other settled =
    let on : ends_word b ≡ false = ap (λ t. t || ends_line b) filled ∙ more in
    let frees = free_of_ends (b ∷ up_to_first ends_word bytes) (on, free ends_word bytes) in
    let whole : is_settled most_word_bytes goes_on (b ∷ up_to_first ends_word bytes) (from ends_word bytes) ≡ false =
    ap (λ xs. is_settled most_word_bytes goes_on xs (from ends_word bytes)) (sym (before_on ends_word b bytes on))
    ∙ ap (is_settled most_word_bytes goes_on (up_to_first ends_word (b ∷ bytes))) (sym (from_on ends_word b bytes on)) ∙ settled in
    left_inside goes_on inside b bytes filled more other
    ∙ ap (items_left goes_on true) (cut_here ends_word b bytes)
    ∙ word_missing goes_on b (up_to_first ends_word bytes) (from ends_word bytes) frees.0 frees.1 whole

-- ---- the laws: a whole text, and the settled items

pub all_items : (bytes : List ℕ) → items_left false false bytes ≡ items_of bytes
all_items bytes = sym (from_start false (lines_of bytes))

pub all_settled : (bytes : List ℕ) → items_left true false bytes ≡ settled_items bytes
all_settled bytes = sym (from_start true (lines_of bytes))
