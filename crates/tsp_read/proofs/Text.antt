-- The items of a text made of lines are those of its lines, one after the other. For the files on reading back.
use Rattle.tsp_read.proofs.Prelude.{◌≡◌, ℕ, Bool, true, false, cond, List, [], ◌∷◌, ◌++◌, map, refl, sym, ap, ◌∙◌, arith, append_assoc, append-nil, not, ◌&&◌, nat_le, list_all, filter, slice_split, onto_first, flat_map, false≢true, and_from, and_parts, not-true, nat_tests, list_all-append, is_blank, is_letter, number_line, ends_line, lines_of, is_not_empty, words_in, without_start, is_word_line, Item, Line, NumberWord, LineEnd, line_item, items_in, items_by, items_of, has_no_line_end}

-- ---- pieces

split_filled : {A : Type 0} (p : A → Bool) (xs : List A) → is_not_empty (slice_split p xs) ≡ true
split_filled p [] = refl
split_filled {A} p (x ∷ xs) = by_case (p x) (slice_split p xs)
  where
    by_case : (b : Bool) (parts : List (List A)) → is_not_empty (cond b ([] ∷ parts) (onto_first x parts)) ≡ true
    by_case true parts = refl
    by_case false [] = refl
    by_case false (part ∷ parts) = refl

-- the first piece ends where an element passes
pub split_at : {A : Type 0} (p : A → Bool) (front : List A) (y : A) (rest : List A) → list_all (λ x. not (p x)) front ≡ true
    → p y ≡ true
    → slice_split p (front ++ y ∷ rest) ≡ front ∷ slice_split p rest
split_at p [] y rest none e = ap (λ b. cond b ([] ∷ slice_split p rest) (onto_first y (slice_split p rest))) e
split_at p (x ∷ front) y rest none e =
    let both = and_parts (not (p x)) (list_all (λ z. not (p z)) front) none in
    ap (λ b. cond b ([] ∷ slice_split p (front ++ y ∷ rest)) (onto_first x (slice_split p (front ++ y ∷ rest)))) (not-true (p x) both.0)
    ∙ ap (onto_first x) (split_at p front y rest both.1 e)

-- if none passes there is one piece
split_none : {A : Type 0} (p : A → Bool) (front : List A) → list_all (λ x. not (p x)) front ≡ true
    → slice_split p front ≡ front ∷ []
split_none p [] none = refl
split_none p (x ∷ front) none =
    let both = and_parts (not (p x)) (list_all (λ z. not (p z)) front) none in
    ap (λ b. cond b ([] ∷ slice_split p front) (onto_first x (slice_split p front))) (not-true (p x) both.0) ∙ ap (onto_first x) (split_none p front both.1)

-- ---- lines

-- whatever follows the text, its items are these and then those of what follows
abbrev pub Writes : List ℕ → List Item → Type 0
Writes text items = (rest : List ℕ) → items_of (text ++ rest) ≡ items ++ items_of rest

line_then : (line : List ℕ) (lines : List (List ℕ)) → is_not_empty lines ≡ true
    → items_by items_in (line ∷ lines) ≡ items_in line ++ LineEnd ∷ items_by items_in lines
line_then line [] there = absurd (false≢true there)
line_then line (next ∷ lines) there = refl

pub line_written : (line : List ℕ) → has_no_line_end line ≡ true → Writes (line ++ 10 ∷ []) (items_in line ++ LineEnd ∷ [])
line_written line one rest =
    ap items_of (append_assoc line (10 ∷ []) rest)
    ∙ ap (items_by items_in) (split_at ends_line line 10 rest one refl)
    ∙ line_then line (lines_of rest) (split_filled ends_line rest)
    ∙ sym (append_assoc (items_in line) (LineEnd ∷ []) (items_of rest))

pub nothing_written : Writes [] []
nothing_written rest = refl

pub both_written : (a b : List ℕ) (xs ys : List Item) → Writes a xs → Writes b ys → Writes (a ++ b) (xs ++ ys)
both_written a b xs ys first second rest =
    ap items_of (append_assoc a b rest) ∙ first (b ++ rest) ∙ ap (λ (items : List Item). xs ++ items) (second rest) ∙ sym (append_assoc xs ys (items_of rest))

-- ---- number lines

-- the words of items
abbrev pub number_words : List Item → List (List ℕ)
number_words [] = []
number_words (Line key line ∷ items) = number_words items
number_words (NumberWord word ∷ items) = word ∷ number_words items
number_words (LineEnd ∷ items) = number_words items

-- no item is a word line
abbrev pub are_numbers : List Item → Bool
are_numbers [] = true
are_numbers (Line key line ∷ items) = false
are_numbers (NumberWord word ∷ items) = are_numbers items
are_numbers (LineEnd ∷ items) = are_numbers items

number_words-append : (xs ys : List Item) → number_words (xs ++ ys) ≡ number_words xs ++ number_words ys
number_words-append [] ys = refl
number_words-append (Line key line ∷ xs) ys = number_words-append xs ys
number_words-append (NumberWord word ∷ xs) ys = ap (λ (words : List (List ℕ)). word ∷ words) (number_words-append xs ys)
number_words-append (LineEnd ∷ xs) ys = number_words-append xs ys

are_numbers-append : (xs ys : List Item) → are_numbers xs ≡ true → are_numbers ys ≡ true → are_numbers (xs ++ ys) ≡ true
are_numbers-append [] ys first second = second
are_numbers-append (Line key line ∷ xs) ys first second = absurd (false≢true first)
are_numbers-append (NumberWord word ∷ xs) ys first second = are_numbers-append xs ys first second
are_numbers-append (LineEnd ∷ xs) ys first second = are_numbers-append xs ys first second

mapped_numbers : (words : List (List ℕ)) → are_numbers (map (λ word. NumberWord word) words) ≡ true
mapped_numbers [] = refl
mapped_numbers (word ∷ words) = mapped_numbers words

mapped_words : (words : List (List ℕ)) → number_words (map (λ word. NumberWord word) words) ≡ words
mapped_words [] = refl
mapped_words (word ∷ words) = ap (λ (more : List (List ℕ)). word ∷ more) (mapped_words words)

-- the text is number lines with these words
pub record WritesWords (text : List ℕ) (words : List (List ℕ)) : Type 0 where
  pub items : List Item
  pub written : Writes text items
  pub numbers : are_numbers items ≡ true
  pub words_are : number_words items ≡ words

pub no_words_written : WritesWords [] []
no_words_written = record { items = []; written = nothing_written; numbers = refl; words_are = refl }

pub both_words : (a b : List ℕ) (xs ys : List (List ℕ)) → WritesWords a xs → WritesWords b ys → WritesWords (a ++ b) (xs ++ ys)
both_words a b xs ys first second = record {
  items = first.items ++ second.items;
  written = both_written a b first.items second.items first.written second.written;
  numbers = are_numbers-append first.items second.items first.numbers second.numbers;
  words_are = number_words-append first.items second.items ∙ ap (λ (ws : List (List ℕ)). ws ++ number_words second.items) first.words_are
      ∙ ap (λ (ws : List (List ℕ)). xs ++ ws) second.words_are;
}

-- the bytes of numbers: from `-` to `9`
abbrev pub is_plain : ℕ → Bool
is_plain b = nat_le 45 b && nat_le b 57

-- a word of such bytes
abbrev pub is_plain_word : List ℕ → Bool
is_plain_word word = is_not_empty word && list_all is_plain word

pub no_blank : (b : ℕ) → is_plain b ≡ true → not (is_blank b) ≡ true
no_blank b e = grind (arith, nat_tests)

pub no_end : (b : ℕ) → is_plain b ≡ true → not (ends_line b) ≡ true
no_end b e = grind (arith, nat_tests)

no_letter : (b : ℕ) → is_plain b ≡ true → is_letter b ≡ false
no_letter b e = grind (arith, nat_tests)

pub all_such : {A : Type 0} (p q : A → Bool) → ((x : A) → p x ≡ true → q x ≡ true) → (xs : List A) → list_all p xs ≡ true
    → list_all q xs ≡ true
all_such p q such [] all = refl
all_such p q such (x ∷ xs) all =
    let both = and_parts (p x) (list_all p xs) all in
    and_from (q x) (list_all q xs) (such x both.0) (all_such p q such xs both.1)

pub unblank : (word : List ℕ) → is_plain_word word ≡ true → list_all (λ b. not (is_blank b)) word ≡ true
unblank word plain =
    all_such is_plain (λ b. not (is_blank b)) no_blank word (and_parts (is_not_empty word) (list_all is_plain word) plain).1

abbrev line_text : List ℕ → List (List ℕ) → List ℕ
line_text first more = first ++ flat_map (λ word. 32 ∷ word) more

split_words : (first : List ℕ) (more : List (List ℕ)) → is_plain_word first ≡ true → list_all is_plain_word more ≡ true
    → slice_split is_blank (line_text first more) ≡ first ∷ more
split_words first [] plain all = ap (slice_split is_blank) (append-nil first) ∙ split_none is_blank first (unblank first plain)
split_words first (word ∷ more) plain all =
    let both = and_parts (is_plain_word word) (list_all is_plain_word more) all in
    split_at is_blank first 32 (line_text word more) (unblank first plain) refl ∙ ap (λ (words : List (List ℕ)). first ∷ words) (split_words word more both.0 both.1)

all_kept : {A : Type 0} (p : A → Bool) (xs : List A) → list_all p xs ≡ true → filter p xs ≡ xs
all_kept p [] all = refl
all_kept {A} p (x ∷ xs) all =
    let both = and_parts (p x) (list_all p xs) all in
    ap (λ b. cond b (x ∷ filter p xs) (filter p xs)) both.0 ∙ ap (λ (ys : List A). x ∷ ys) (all_kept p xs both.1)

first_filled : (word : List ℕ) → is_plain_word word ≡ true → is_not_empty word ≡ true
first_filled word plain = (and_parts (is_not_empty word) (list_all is_plain word) plain).0

line_words : (first : List ℕ) (more : List (List ℕ)) → is_plain_word first ≡ true → list_all is_plain_word more ≡ true
    → words_in (line_text first more) ≡ first ∷ more
line_words first more plain all =
    ap (filter is_not_empty) (split_words first more plain all)
    ∙ all_kept is_not_empty (first ∷ more) (and_from (is_not_empty first) (list_all is_not_empty more) (first_filled first plain) (all_such is_plain_word is_not_empty first_filled more all))

-- the line begins with a byte of a number
no_word_line : (first rest : List ℕ) → is_plain_word first ≡ true → is_word_line (first ++ rest) ≡ false
no_word_line [] rest plain = absurd (false≢true plain)
no_word_line (b ∷ first) rest plain =
    let byte = (and_parts (is_plain b) (list_all is_plain first) plain).0 in
    let filled : is_blank b ≡ false = not-true (is_blank b) (no_blank b byte) in
    rw filled (no_letter b byte)

pub one_line_word : (word : List ℕ) → is_plain_word word ≡ true → has_no_line_end word ≡ true
one_line_word word plain =
    all_such is_plain (λ b. not (ends_line b)) no_end word (and_parts (is_not_empty word) (list_all is_plain word) plain).1

one_line_more : (more : List (List ℕ)) → list_all is_plain_word more ≡ true
    → has_no_line_end (flat_map (λ word. 32 ∷ word) more) ≡ true
one_line_more [] all = refl
one_line_more (word ∷ more) all =
    let both = and_parts (is_plain_word word) (list_all is_plain_word more) all in
    list_all-append (λ b. not (ends_line b)) word (flat_map (λ w. 32 ∷ w) more)
    ∙ and_from (has_no_line_end word) (has_no_line_end (flat_map (λ w. 32 ∷ w) more)) (one_line_word word both.0) (one_line_more more both.1)

number_items : (first : List ℕ) (more : List (List ℕ)) → is_plain_word first ≡ true → list_all is_plain_word more ≡ true
    → items_in (line_text first more) ≡ map (λ word. NumberWord word) (first ∷ more)
number_items first more plain all =
    ap (λ b. cond b (line_item (without_start (line_text first more)) ∷ []) (map (λ word. NumberWord word) (words_in (line_text first more)))) (no_word_line first (flat_map (λ w. 32 ∷ w) more) plain)
    ∙ ap (map (λ word. NumberWord word)) (line_words first more plain all)

pub number_line_written : (first : List ℕ) (more : List (List ℕ)) → is_plain_word first ≡ true
    → list_all is_plain_word more ≡ true
    → WritesWords (number_line first more) (first ∷ more)
number_line_written first more plain all =
    let one : has_no_line_end (line_text first more) ≡ true =
    list_all-append (λ b. not (ends_line b)) first (flat_map (λ w. 32 ∷ w) more)
    ∙ and_from (has_no_line_end first) (has_no_line_end (flat_map (λ w. 32 ∷ w) more)) (one_line_word first plain) (one_line_more more all) in
    let words = map (λ word. NumberWord word) (first ∷ more) in
    record {
      items = words ++ LineEnd ∷ [];
      written = λ rest. ap (λ (text : List ℕ). items_of (text ++ rest)) (sym (append_assoc first (flat_map (λ w. 32 ∷ w) more) (10 ∷ [])))
          ∙ line_written (line_text first more) one rest ∙ ap (λ (items : List Item). (items ++ LineEnd ∷ []) ++ items_of rest) (number_items first more plain all);
      numbers = are_numbers-append words (LineEnd ∷ []) (mapped_numbers (first ∷ more)) refl;
      words_are = number_words-append words (LineEnd ∷ []) ∙ append-nil (number_words words) ∙ mapped_words (first ∷ more);
    }
