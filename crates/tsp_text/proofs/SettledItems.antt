-- The settled items of a text are the items of every longer text, whatever blanks stand around its lines.
-- SettledFaults.antt goes on from here. tsp_read imports it, too.
use Rattle.tsp_text.proofs.Prelude.{◌≡◌, ℕ, ◌+◌, true, false, cond, List, [], ◌∷◌, ◌++◌, length, drop, reverse, sym, ap, ◌∙◌, arith, Bool, map, refl, subst, inl, inr, length-append, false≢true, ltb-true, lt-ltb, nil_from_length, reverse-append, reverse-reverse, prefix_len, filter, slice_split, onto_first, ◌⊎◌, nat_lt, most_word_bytes, most_line_bytes, is_blank, is_letter}
use Rattle.std.proofs.Math.Numerals.{one-add}
use Rattle.tsp_text.specs.Items.{without_start, without_end, ends_line, lines_of, words_in, is_not_empty, begins, Item, Line, NumberWord, LineEnd, line_item, items_in, items_by, items_of, settled_pieces, settled_words, settled_line, settled_in, settled_items}

-- ---- at the start

pub start_blank : (b : ℕ) (bytes : List ℕ) → is_blank b ≡ true → without_start (b ∷ bytes) ≡ without_start bytes
start_blank b bytes e =
    ap (λ c. drop (cond c (1 + prefix_len is_blank bytes) 0) (b ∷ bytes)) e
    ∙ ap (λ n. drop n (b ∷ bytes)) (one-add (prefix_len is_blank bytes))

pub start_filled : (b : ℕ) (bytes : List ℕ) → is_blank b ≡ false → without_start (b ∷ bytes) ≡ b ∷ bytes
start_filled b bytes e = ap (λ c. drop (cond c (1 + prefix_len is_blank bytes) 0) (b ∷ bytes)) e

-- ---- at the end

reversed : (front : List ℕ) (last : ℕ) → reverse (front ++ last ∷ []) ≡ last ∷ reverse front
reversed front last = reverse-append front (last ∷ [])

pub end_blank : (text front : List ℕ) (last : ℕ) → text ≡ front ++ last ∷ [] → is_blank last ≡ true
    → without_end front ≡ without_end text
end_blank text front last parts e =
    sym (ap without_end parts ∙ ap (λ xs. reverse (without_start xs)) (reversed front last) ∙ ap reverse (start_blank last (reverse front) e))

pub end_filled : (text front : List ℕ) (last : ℕ) → text ≡ front ++ last ∷ [] → is_blank last ≡ false → text ≡ without_end text
end_filled text front last parts e =
    sym (ap (λ xs. reverse (without_start xs)) (ap reverse parts ∙ reversed front last)
    ∙ ap reverse (start_filled last (reverse front) e ∙ sym (ap reverse parts ∙ reversed front last))
    ∙ reverse-reverse text)

pub end_none : (text : List ℕ) → length text ≡ 0 → text ≡ without_end text
end_none text short = let none = nil_from_length text short in none ∙ sym (ap without_end none)

-- ---- the settled items of a text are those of every longer one, but for an open last one

-- ---- parts of a list that goes on

-- the parts are those of the longer list, but for the last, which may go on
abbrev Grown : {A : Type 0} → List (List A) → List (List A) → Type 0
Grown [] ys = ⊥
Grown (x ∷ []) [] = ⊥
Grown {A} (x ∷ []) (y ∷ ys) = (more : List A) × (y ≡ x ++ more)
Grown (x ∷ next ∷ xs) [] = ⊥
Grown (x ∷ next ∷ xs) (y ∷ ys) = (x ≡ y) × Grown (next ∷ xs) ys

none_grown : {A : Type 0} (xs : List (List A)) → Grown xs [] → ⊥
none_grown [] h = h
none_grown (x ∷ []) h = h
none_grown (x ∷ next ∷ xs) h = h

grown_begun : {A : Type 0} (b : Bool) (x : A) (parts : List (List A)) → Grown ([] ∷ []) (cond b ([] ∷ parts) (onto_first x parts))
grown_begun true x parts = ([], refl)
grown_begun false x [] = (x ∷ [], refl)
grown_begun false x (part ∷ parts) = (x ∷ part, refl)

grown_none : {A : Type 0} (p : A → Bool) (more : List A) → Grown ([] ∷ []) (slice_split p more)
grown_none p [] = ([], refl)
grown_none p (x ∷ more) = grown_begun (p x) x (slice_split p more)

grown_cons : {A : Type 0} (x : List A) (xs ys : List (List A)) → Grown xs ys → Grown (x ∷ xs) (x ∷ ys)
grown_cons x [] ys h = absurd h
grown_cons x (next ∷ xs) ys h = (refl, h)

grown_onto : {A : Type 0} (b : A) (xs ys : List (List A)) → Grown xs ys → Grown (onto_first b xs) (onto_first b ys)
grown_onto b [] ys h = absurd h
grown_onto b (x ∷ []) [] h = absurd h
grown_onto {A} b (x ∷ []) (y ∷ ys) h = (h.0, ap (λ (zs : List A). b ∷ zs) h.1)
grown_onto b (x ∷ next ∷ xs) [] h = absurd h
grown_onto {A} b (x ∷ next ∷ xs) (y ∷ ys) h = (ap (λ (zs : List A). b ∷ zs) h.0, h.1)

grown_step : {A : Type 0} (b : Bool) (x : A) (xs ys : List (List A)) → Grown xs ys
    → Grown (cond b ([] ∷ xs) (onto_first x xs)) (cond b ([] ∷ ys) (onto_first x ys))
grown_step true x xs ys h = grown_cons [] xs ys h
grown_step false x xs ys h = grown_onto x xs ys h

grown_split : {A : Type 0} (p : A → Bool) (xs more : List A) → Grown (slice_split p xs) (slice_split p (xs ++ more))
grown_split p [] more = grown_none p more
grown_split p (x ∷ xs) more = grown_step (p x) x (slice_split p xs) (slice_split p (xs ++ more)) (grown_split p xs more)

-- ---- items that stay

-- two words, or two word lines, that are longer than any may be
abbrev pub AreLong : Item → Item → Type 0
AreLong (Line key line) (Line other next) = (nat_lt most_line_bytes line.size ≡ true) × (nat_lt most_line_bytes next.size ≡ true)
AreLong (Line key line) (NumberWord word) = ⊥
AreLong (Line key line) LineEnd = ⊥
AreLong (NumberWord word) (Line key line) = ⊥
AreLong (NumberWord word) (NumberWord next) =
    (nat_lt most_word_bytes (length word) ≡ true) × (nat_lt most_word_bytes (length next) ≡ true)
AreLong (NumberWord word) LineEnd = ⊥
AreLong LineEnd item = ⊥

-- the items begin the others, but for a last one that is too long, which may go on
abbrev pub Stay : List Item → List Item → Type 0
Stay [] ys = Unit {0}
Stay (x ∷ xs) [] = ⊥
Stay (x ∷ xs) (y ∷ ys) = ((x ≡ y) × Stay xs ys) ⊎ (AreLong x y × (xs ≡ []))

stay_after : (front xs ys : List Item) → Stay xs ys → Stay (front ++ xs) (front ++ ys)
stay_after [] xs ys h = h
stay_after (x ∷ front) xs ys h = inl (refl, stay_after front xs ys h)

stay_longer : (xs ys rest : List Item) → Stay xs ys → Stay xs (ys ++ rest)
stay_longer [] ys rest h = tt
stay_longer (x ∷ xs) [] rest h = absurd h
stay_longer (x ∷ xs) (y ∷ ys) rest (inl h) = inl (h.0, stay_longer xs ys rest h.1)
stay_longer (x ∷ xs) (y ∷ ys) rest (inr h) = inr h

pub longer : (n : ℕ) (xs more : List ℕ) → nat_lt n (length xs) ≡ true → nat_lt n (length (xs ++ more)) ≡ true
longer n xs more e = lt-ltb n (length (xs ++ more)) (omega (arith, length-append xs more, ltb-true n (length xs) e))

-- ---- the words of a number line

abbrev word_items : List (List ℕ) → List Item
word_items words = map (λ word. NumberWord word) words

front_stays : (b : Bool) (x : List ℕ) (xs ys : List (List ℕ)) → Stay (word_items xs) (word_items ys)
    → Stay (word_items (cond b (x ∷ xs) xs)) (word_items (cond b (x ∷ ys) ys))
front_stays true x xs ys h = inl (refl, h)
front_stays false x xs ys h = h

last_stays : (x more : List ℕ) (ys : List (List ℕ)) (b : Bool) → nat_lt most_word_bytes (length x) ≡ b
    → Stay (word_items (filter is_not_empty (cond b (x ∷ []) []))) (word_items (filter is_not_empty ((x ++ more) ∷ ys)))
last_stays x more ys false e = tt
last_stays [] more ys true e = absurd (false≢true e)
last_stays (a ∷ x) more ys true e = inr ((e, longer most_word_bytes (a ∷ x) more e), refl)

pieces_stay : (xs ys : List (List ℕ)) → Grown xs ys
    → Stay (word_items (filter is_not_empty (settled_pieces xs))) (word_items (filter is_not_empty ys))
pieces_stay [] ys h = absurd h
pieces_stay (x ∷ []) [] h = absurd h
pieces_stay (x ∷ []) (y ∷ ys) h =
    subst (λ (z : List ℕ). Stay (word_items (filter is_not_empty (settled_pieces (x ∷ [])))) (word_items (filter is_not_empty (z ∷ ys)))) (sym h.1)
    (last_stays x h.0 ys (nat_lt most_word_bytes (length x)) refl)
pieces_stay (x ∷ next ∷ xs) [] h = absurd h
pieces_stay (x ∷ next ∷ xs) (y ∷ ys) h =
    subst (λ (z : List ℕ). Stay (word_items (filter is_not_empty (settled_pieces (x ∷ next ∷ xs)))) (word_items (filter is_not_empty (z ∷ ys)))) h.0
    (front_stays (is_not_empty x) x (filter is_not_empty (settled_pieces (next ∷ xs))) (filter is_not_empty ys) (pieces_stay (next ∷ xs) ys h.1))

last_settled : (x more : List ℕ) (b : Bool) → nat_lt most_word_bytes (length x) ≡ b
    → Stay (word_items (filter is_not_empty (cond b (x ∷ []) []))) (word_items (filter is_not_empty (settled_pieces ((x ++ more) ∷ []))))
last_settled x more false e = tt
last_settled x more true e =
    subst (λ (c : Bool). Stay (word_items (filter is_not_empty (x ∷ []))) (word_items (filter is_not_empty (cond c ((x ++ more) ∷ []) [])))) (sym (longer most_word_bytes x more e))
    (last_stays x more [] true e)

pieces_settled : (xs ys : List (List ℕ)) → Grown xs ys
    → Stay (word_items (filter is_not_empty (settled_pieces xs))) (word_items (filter is_not_empty (settled_pieces ys)))
pieces_settled [] ys h = absurd h
pieces_settled (x ∷ []) [] h = absurd h
pieces_settled (x ∷ []) (y ∷ []) h =
    subst (λ (z : List ℕ). Stay (word_items (filter is_not_empty (settled_pieces (x ∷ [])))) (word_items (filter is_not_empty (settled_pieces (z ∷ []))))) (sym h.1)
    (last_settled x h.0 (nat_lt most_word_bytes (length x)) refl)
pieces_settled (x ∷ []) (y ∷ after ∷ ys) h =
    subst (λ (z : List ℕ). Stay (word_items (filter is_not_empty (settled_pieces (x ∷ [])))) (word_items (filter is_not_empty (settled_pieces (z ∷ after ∷ ys))))) (sym h.1)
    (last_stays x h.0 (settled_pieces (after ∷ ys)) (nat_lt most_word_bytes (length x)) refl)
pieces_settled (x ∷ next ∷ xs) [] h = absurd h
pieces_settled (x ∷ next ∷ xs) (y ∷ []) h = absurd (none_grown (next ∷ xs) h.1)
pieces_settled (x ∷ next ∷ xs) (y ∷ after ∷ ys) h =
    subst (λ (z : List ℕ). Stay (word_items (filter is_not_empty (settled_pieces (x ∷ next ∷ xs)))) (word_items (filter is_not_empty (settled_pieces (z ∷ after ∷ ys))))) h.0
    (front_stays (is_not_empty x) x (filter is_not_empty (settled_pieces (next ∷ xs))) (filter is_not_empty (settled_pieces (after ∷ ys))) (pieces_settled (next ∷ xs) (after ∷ ys) h.1))

-- ---- where a line begins

pub empty_first : (pieces : List (List ℕ))
    → filter is_not_empty (settled_pieces ([] ∷ pieces)) ≡ filter is_not_empty (settled_pieces pieces)
empty_first [] = refl
empty_first (piece ∷ pieces) = refl

pub words_blank : (b : ℕ) (bytes : List ℕ) → is_blank b ≡ true → settled_words (b ∷ bytes) ≡ settled_words bytes
words_blank b bytes e =
    ap (λ (k : Bool). filter is_not_empty (settled_pieces (cond k ([] ∷ slice_split is_blank bytes) (onto_first b (slice_split is_blank bytes))))) e
    ∙ empty_first (slice_split is_blank bytes)

-- a line of blanks has no words yet; any other begins with the byte that it has when it goes on
abbrev BeginsAlike : List ℕ → List ℕ → Type 0
BeginsAlike line more = ((without_start line ≡ []) × (settled_words line ≡ []))
    ⊎ ((b : ℕ) × (rest : List ℕ) × (without_start line ≡ b ∷ rest) × (without_start (line ++ more) ≡ b ∷ (rest ++ more)))

begins_blank : (b : ℕ) (line more : List ℕ) → is_blank b ≡ true → BeginsAlike line more → BeginsAlike (b ∷ line) more
begins_blank b line more e (inl h) = inl (start_blank b line e ∙ h.0, words_blank b line e ∙ h.1)
begins_blank b line more e (inr h) = inr (h.0, h.1, start_blank b line e ∙ h.2, start_blank b (line ++ more) e ∙ h.3)

begins_alike : (line more : List ℕ) → BeginsAlike line more
begins_alike [] more = inl (refl, refl)
begins_alike (b ∷ line) more = by_case (is_blank b) refl (begins_alike line more)
  where
    by_case : (k : Bool) → is_blank b ≡ k → BeginsAlike line more → BeginsAlike (b ∷ line) more
    by_case true e before = begins_blank b line more e before
    by_case false e before = inr (b, line, start_filled b line e, start_filled b (line ++ more) e)

-- ---- a line that goes on

settled_none : (line : List ℕ) → without_start line ≡ [] → settled_words line ≡ [] → settled_in line ≡ []
settled_none line e none =
    ap (λ (s : List ℕ). cond (begins is_letter s) (settled_line s) (word_items (settled_words line))) e ∙ ap word_items none

long_line_stays : (s more : List ℕ) (b : Bool) → nat_lt most_line_bytes (length s) ≡ b
    → Stay (cond b (line_item s ∷ []) []) (line_item (s ++ more) ∷ [])
long_line_stays s more true e = inr ((e, longer most_line_bytes s more e), refl)
long_line_stays s more false e = tt

long_line_settled : (s more : List ℕ) (b : Bool) → nat_lt most_line_bytes (length s) ≡ b
    → Stay (cond b (line_item s ∷ []) []) (settled_line (s ++ more))
long_line_settled s more true e =
    subst (λ (c : Bool). Stay (line_item s ∷ []) (cond c (line_item (s ++ more) ∷ []) [])) (sym (longer most_line_bytes s more e)) (long_line_stays s more true e)
long_line_settled s more false e = tt

letter_stays : (b : Bool) (line more s : List ℕ)
    → Stay (cond b (settled_line s) (word_items (settled_words line))) (cond b (line_item (s ++ more) ∷ []) (word_items (words_in (line ++ more))))
letter_stays true line more s = long_line_stays s more (nat_lt most_line_bytes (length s)) refl
letter_stays false line more s =
    pieces_stay (slice_split is_blank line) (slice_split is_blank (line ++ more)) (grown_split is_blank line more)

letter_settled : (b : Bool) (line more s : List ℕ)
    → Stay (cond b (settled_line s) (word_items (settled_words line))) (cond b (settled_line (s ++ more)) (word_items (settled_words (line ++ more))))
letter_settled true line more s = long_line_settled s more (nat_lt most_line_bytes (length s)) refl
letter_settled false line more s =
    pieces_settled (slice_split is_blank line) (slice_split is_blank (line ++ more)) (grown_split is_blank line more)

line_stays_by : (line more : List ℕ) → BeginsAlike line more → Stay (settled_in line) (items_in (line ++ more))
line_stays_by line more (inl h) =
    subst (λ (xs : List Item). Stay xs (items_in (line ++ more))) (sym (settled_none line h.0 h.1)) tt
line_stays_by line more (inr h) =
    subst (λ (s : List ℕ). Stay (cond (begins is_letter s) (settled_line s) (word_items (settled_words line))) (items_in (line ++ more))) (sym h.2)
    (subst (λ (t : List ℕ). Stay (cond (is_letter h.0) (settled_line (h.0 ∷ h.1)) (word_items (settled_words line)))
    (cond (begins is_letter t) (line_item t ∷ []) (word_items (words_in (line ++ more))))) (sym h.3)
    (letter_stays (is_letter h.0) line more (h.0 ∷ h.1)))

line_settled_by : (line more : List ℕ) → BeginsAlike line more → Stay (settled_in line) (settled_in (line ++ more))
line_settled_by line more (inl h) =
    subst (λ (xs : List Item). Stay xs (settled_in (line ++ more))) (sym (settled_none line h.0 h.1)) tt
line_settled_by line more (inr h) =
    subst (λ (s : List ℕ). Stay (cond (begins is_letter s) (settled_line s) (word_items (settled_words line))) (settled_in (line ++ more))) (sym h.2)
    (subst (λ (t : List ℕ). Stay (cond (is_letter h.0) (settled_line (h.0 ∷ h.1)) (word_items (settled_words line)))
    (cond (begins is_letter t) (settled_line t) (word_items (settled_words (line ++ more))))) (sym h.3)
    (letter_settled (is_letter h.0) line more (h.0 ∷ h.1)))

line_stays : (line more : List ℕ) → Stay (settled_in line) (items_in (line ++ more))
line_stays line more = line_stays_by line more (begins_alike line more)

line_settled : (line more : List ℕ) → Stay (settled_in line) (settled_in (line ++ more))
line_settled line more = line_settled_by line more (begins_alike line more)

-- ---- lines

lines_stay : (last : List ℕ → List Item) → ((line more : List ℕ) → Stay (settled_in line) (last (line ++ more)))
    → (xs ys : List (List ℕ)) → Grown xs ys
    → Stay (items_by settled_in xs) (items_by last ys)
lines_stay last goes_on [] ys h = absurd h
lines_stay last goes_on (x ∷ []) [] h = absurd h
lines_stay last goes_on (x ∷ []) (y ∷ []) h = subst (λ (z : List ℕ). Stay (settled_in x) (last z)) (sym h.1) (goes_on x h.0)
lines_stay last goes_on (x ∷ []) (y ∷ after ∷ ys) h =
    subst (λ (z : List ℕ). Stay (settled_in x) (items_in z ++ LineEnd ∷ items_by last (after ∷ ys))) (sym h.1)
    (stay_longer (settled_in x) (items_in (x ++ h.0)) (LineEnd ∷ items_by last (after ∷ ys)) (line_stays x h.0))
lines_stay last goes_on (x ∷ next ∷ xs) [] h = absurd h
lines_stay last goes_on (x ∷ next ∷ xs) (y ∷ []) h = absurd (none_grown (next ∷ xs) h.1)
lines_stay last goes_on (x ∷ next ∷ xs) (y ∷ after ∷ ys) h =
    subst (λ (z : List ℕ). Stay (items_in x ++ LineEnd ∷ items_by settled_in (next ∷ xs)) (items_in z ++ LineEnd ∷ items_by last (after ∷ ys))) h.0
    (stay_after (items_in x) (LineEnd ∷ items_by settled_in (next ∷ xs)) (LineEnd ∷ items_by last (after ∷ ys)) (inl (refl, lines_stay last goes_on (next ∷ xs) (after ∷ ys) h.1)))

pub items_stay : (bytes more : List ℕ) → Stay (settled_items bytes) (items_of (bytes ++ more))
items_stay bytes more =
    lines_stay items_in line_stays (lines_of bytes) (lines_of (bytes ++ more)) (grown_split ends_line bytes more)

pub items_settled : (bytes more : List ℕ) → Stay (settled_items bytes) (settled_items (bytes ++ more))
items_settled bytes more =
    lines_stay settled_in line_settled (lines_of bytes) (lines_of (bytes ++ more)) (grown_split ends_line bytes more)
