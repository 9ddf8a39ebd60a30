-- Tours and families of a section without a fault are valid, and what the items are that are cut from a text. For
-- ValidItems.antt, and for the reader's proofs in tsp_read.
use Rattle.tsp_text.proofs.Prelude.{◌≡◌, ℕ, suc, ◌+◌, Bool, true, false, cond, List, [], ◌∷◌, ◌++◌, length, map, refl, sym, ap, ◌∙◌, arith, None, ◌<◌, ◌≤◌, subst, zero, ◌-◌, get_or, reverse, take, drop, and_from, and_parts, le-leb, leb-false, true≢false, false≢true, nat_tests, length-map, length_push, append-nil, reverse-append, reverse-reverse, take-append-drop, get_or_push, list_all-append, list_all-map, list_all, filter, slice_split, onto_first, sum_by, prefix_len, take_while, not, ◌&&◌, ◌||◌, nat_le, nat_abs, nat_lt, slice_index, most_nodes, most_tour_nodes, most_families, most_family_nodes, most_line_bytes, most_file_bytes, is_blank, is_letter, is_keyword_byte, TourPart, FamilyPart, is_node, is_node_list, are_tours, is_set_of, are_sets, are_family_lists}
use Rattle.std.proofs.Math.Numerals.{one-add}
use Rattle.std.proofs.lemmas.List.Elements.{filter-append}
use Rattle.std.proofs.lemmas.List.Sums.{sum_by-cons, fold-append, sum_by_push}
use Rattle.tsp_text.proofs.ValidKeywords.{read_listed, first_of_both, all_pass}
use Rattle.tsp_text.proofs.ValidRows.{is_taken, Grows, grown}
use Rattle.tsp_text.specs.Earlier.{words_of, dimension_in}
use Rattle.tsp_text.specs.FaultRows.{word_fault, is_past_families}
use Rattle.tsp_text.specs.Groups.{FamiliesSoFar, no_families, family_node, with_end, with_family_word, families_after, whole_families, has_begun_family, place_in_families}
use Rattle.tsp_text.specs.Items.{is_not_empty, Item, ends_line, lines_of, words_in, without_start, without_end, begins, is_word_line, keyword_in, after_keyword, has_colon, value_in, NumberWord, LineEnd, line_item, items_in, items_by, items_of, settled_words, settled_in, settled_items, is_end_line, to_end_line, has_no_line_end, IsCut, AreCut}
use Rattle.tsp_text.specs.SectionWords.{number, TourNode, ends_tour, tour_node, tours_in, is_end, SetNode, PastEnd}
use Rattle.tsp_text.specs.ParsesTo.{IsClean, part, is_too_long}

-- ---- pieces of a list

onto_passes : {A : Type 0} (good : A → Bool) (x : A) (pieces : List (List A)) → good x ≡ true
    → list_all (list_all good) pieces ≡ true → list_all (list_all good) (onto_first x pieces) ≡ true
onto_passes good x [] here all = and_from (good x && true) true (and_from (good x) true here refl) refl
onto_passes good x (piece ∷ pieces) here all =
    let both = and_parts (list_all good piece) (list_all (list_all good) pieces) all in
    and_from (good x && list_all good piece) (list_all (list_all good) pieces) (and_from (good x) (list_all good piece) here both.0) both.1

-- what passes or ends a piece passes in its piece
pub pieces_pass : {A : Type 0} (test good : A → Bool) (xs : List A) → list_all (λ x. test x || good x) xs ≡ true
    → list_all (list_all good) (slice_split test xs) ≡ true
pieces_pass test good [] all = refl
pieces_pass test good (x ∷ xs) all =
    let both = and_parts (test x || good x) (list_all (λ x. test x || good x) xs) all in
    by_case (test x) both.0 (pieces_pass test good xs both.1)
  where
    by_case : (b : Bool) → (b || good x) ≡ true → list_all (list_all good) (slice_split test xs) ≡ true
        → list_all (list_all good) (cond b ([] ∷ slice_split test xs) (onto_first x (slice_split test xs))) ≡ true
    by_case true here later = later
    by_case false here later = onto_passes good x (slice_split test xs) here later

onto_longer : {A : Type 0} (x : A) (pieces : List (List A)) → sum_by length (onto_first x pieces) ≡ suc (sum_by length pieces)
onto_longer x [] = refl
onto_longer {A} x (piece ∷ pieces) =
    omega (arith, sum_by-cons (λ (p : List A). length p) (x ∷ piece) pieces, sum_by-cons (λ (p : List A). length p) piece pieces)

-- the pieces together have all that doesn't end one
pieces_long : {A : Type 0} (test : A → Bool) (xs : List A)
    → sum_by length (slice_split test xs) ≡ length (filter (λ x. not (test x)) xs)
pieces_long test [] = refl
pieces_long {A} test (x ∷ xs) = by_case (test x) (pieces_long test xs)
  where
    by_case : (b : Bool) → sum_by length (slice_split test xs) ≡ length (filter (λ x. not (test x)) xs)
        → sum_by length (cond b ([] ∷ slice_split test xs) (onto_first x (slice_split test xs))) ≡ length (cond (not b) (x ∷ filter (λ x. not (test x)) xs) (filter (λ x. not (test x)) xs))
    by_case true later = omega (arith, sum_by-cons (λ (p : List A). length p) [] (slice_split test xs))
    by_case false later = onto_longer x (slice_split test xs) ∙ ap (λ k. suc k) later

-- ---- runs of nodes

-- a word that is a node that some file can have
abbrev is_tour_node : List ℕ → Bool
is_tour_node word = is_node most_nodes (tour_node word)

filled_runs : (pieces : List (List (List ℕ))) → list_all (list_all is_tour_node) pieces ≡ true
    → list_all is_node_list (map (map tour_node) (filter is_not_empty pieces)) ≡ true
filled_runs [] all = refl
filled_runs ([] ∷ pieces) all = filled_runs pieces all
filled_runs ((word ∷ words) ∷ pieces) all =
    let both = and_parts (is_tour_node word && list_all is_tour_node words) (list_all (list_all is_tour_node) pieces) all in
    let here : is_node_list (map tour_node (word ∷ words)) ≡ true =
    and_from (nat_le 1 (suc (length (map tour_node words)))) (list_all (is_node most_nodes) (map tour_node (word ∷ words))) (le-leb 1 (suc (length (map tour_node words))) (omega arith))
    (list_all-map (is_node most_nodes) tour_node (word ∷ words) ∙ both.0) in
    and_from (is_node_list (map tour_node (word ∷ words))) (list_all is_node_list (map (map tour_node) (filter is_not_empty pieces))) here (filled_runs pieces both.1)

runs_long : (pieces : List (List (List ℕ))) → sum_by length (map (map tour_node) (filter is_not_empty pieces)) ≡ sum_by length pieces
runs_long [] = refl
runs_long ([] ∷ pieces) = omega (arith, runs_long pieces, sum_by-cons (λ (p : List (List ℕ)). length p) [] pieces)
runs_long ((word ∷ words) ∷ pieces) =
    sum_by-cons (λ (p : List ℕ). length p) (map tour_node (word ∷ words)) (map (map tour_node) (filter is_not_empty pieces))
    ∙ ap (λ k. k + sum_by length (map (map tour_node) (filter is_not_empty pieces))) (length-map (word ∷ words) tour_node)
    ∙ ap (λ k. length (word ∷ words) + k) (runs_long pieces)
    ∙ sym (sum_by-cons (λ (p : List (List ℕ)). length p) (word ∷ words) pieces)

-- ---- the words as they come

pub record AreTourWords (words : List (List ℕ)) : Type 0 where
  pub nodes : list_all (λ word. ends_tour word || is_tour_node word) words ≡ true
  pub few : nat_le (length (filter (λ word. not (ends_tour word)) words)) most_tour_nodes ≡ true

-- plan: by whether the word ends a tour; else it is a node, and one more of them is within the limit (`read_listed`)
taken : (words : List (List ℕ)) (word : List ℕ) (end : Bool) → ends_tour word ≡ end
    → word_fault 0 (TourNode (length (filter (λ word. not (ends_tour word)) words))) word ≡ None
    → AreTourWords words → AreTourWords (words ++ word ∷ [])
taken words word true is row held = record {
  nodes = list_all-append (λ w. ends_tour w || is_tour_node w) words (word ∷ [])
      ∙ and_from (list_all (λ w. ends_tour w || is_tour_node w) words) ((ends_tour word || is_tour_node word) && true) held.nodes (ap (λ b. (b || is_tour_node word) && true) is);
  few =
      let same : filter (λ w. not (ends_tour w)) (words ++ word ∷ []) ≡ filter (λ w. not (ends_tour w)) words =
      filter-append (λ w. not (ends_tour w)) words (word ∷ []) ∙ ap (λ b. filter (λ w. not (ends_tour w)) words ++ cond (not b) (word ∷ []) []) is
      ∙ append-nil (filter (λ w. not (ends_tour w)) words) in
      ap (λ (ws : List (List ℕ)). nat_le (length ws) most_tour_nodes) same ∙ held.few;
}
taken words word false is row held =
    let count = length (filter (λ w. not (ends_tour w)) words) in
    let t = is_taken 0 (TourNode count) word row in
    let found = read_listed most_nodes word t.is_read is in
    let node : is_tour_node word ≡ true = ap (λ r. is_node most_nodes (nat_abs (number r))) found.1 ∙ found.2 in
    let room : nat_le most_tour_nodes count ≡ false = first_of_both (nat_le most_tour_nodes count) (ends_tour word) t.has_room is in
    let more : filter (λ w. not (ends_tour w)) (words ++ word ∷ []) ≡ filter (λ w. not (ends_tour w)) words ++ word ∷ [] =
    filter-append (λ w. not (ends_tour w)) words (word ∷ []) ∙ ap (λ b. filter (λ w. not (ends_tour w)) words ++ cond (not b) (word ∷ []) []) is in
    record {
      nodes = list_all-append (λ w. ends_tour w || is_tour_node w) words (word ∷ [])
          ∙ and_from (list_all (λ w. ends_tour w || is_tour_node w) words) ((ends_tour word || is_tour_node word) && true) held.nodes
          (and_from (ends_tour word || is_tour_node word) true (ap (λ b. b || is_tour_node word) is ∙ node) refl);
      few = ap (λ (ws : List (List ℕ)). nat_le (length ws) most_tour_nodes) more
          ∙ le-leb (length (filter (λ w. not (ends_tour w)) words ++ word ∷ [])) most_tour_nodes
          (omega (arith, length_push (filter (λ w. not (ends_tour w)) words) word, leb-false most_tour_nodes count room));
    }

all_taken : Grows false TourPart (λ n words. AreTourWords words)
all_taken = record {
  none = λ n. record { nodes = refl; few = refl };
  more = λ b same n words word held row. taken words word (ends_tour word) refl row held;
  any_nodes = λ n m words tours held. held;
}

pub tours_fit : (items : List Item) → IsClean items → are_tours (tours_in (words_of TourPart items)) ≡ true
tours_fit items clean =
    let words = words_of TourPart items in
    let held : AreTourWords words = grown TourPart (λ n words. AreTourWords words) refl all_taken items clean in
    let pieces = slice_split ends_tour words in
    and_from (list_all is_node_list (tours_in words)) (nat_le (sum_by length (tours_in words)) most_tour_nodes)
    (filled_runs pieces (pieces_pass ends_tour is_tour_node words held.nodes))
    (ap (λ k. nat_le k most_tour_nodes) (runs_long pieces ∙ pieces_long ends_tour words) ∙ held.few)

-- ---- the families of a section without a fault: no more than may be, each of sets of nodes

-- whole families, and the sets and nodes of one that has begun, are valid, with the family within the limit
pub record FamiliesHold (n : ℕ) (families : List (List (List ℕ))) (sets : List (List ℕ)) (nodes : List ℕ) (count : ℕ) : Type 0 where
  pub all_families : list_all (are_sets n) families ≡ true
  pub all_sets : list_all (is_set_of n) sets ≡ true
  pub all_nodes : list_all (is_node n) nodes ≡ true
  pub few : length families ≤ most_families
  pub room : (is_not_empty nodes || is_not_empty sets) ≡ true → length families < most_families
  pub total : sum_by (sum_by length) families + sum_by length sets + length nodes ≡ count
  pub few_nodes : count ≤ most_family_nodes

abbrev AreSoFar : ℕ → FamiliesSoFar → Type 0
AreSoFar n s = FamiliesHold n s.families s.sets s.nodes s.count

pub all_push : {A : Type 0} (test : A → Bool) (xs : List A) (x : A) → list_all test xs ≡ true → test x ≡ true
    → list_all test (xs ++ x ∷ []) ≡ true
all_push test xs x held passes =
    list_all-append test xs (x ∷ []) ∙ and_from (list_all test xs) (test x && true) held (and_from (test x) true passes refl)

-- ---- a -1

end_holds : (n : ℕ) (families : List (List (List ℕ))) (sets : List (List ℕ)) (nodes : List ℕ) (count : ℕ)
    → FamiliesHold n families sets nodes count
    → AreSoFar n (with_end (record { families = families; sets = sets; nodes = nodes; count = count; ended = false }))
end_holds n families sets (k ∷ nodes) count h = record {
  all_families = h.all_families;
  all_sets = all_push (is_set_of n) sets (k ∷ nodes) h.all_sets
      (and_from (nat_le 1 (length (k ∷ nodes))) (list_all (is_node n) (k ∷ nodes)) (le-leb 1 (length (k ∷ nodes)) (omega arith)) h.all_nodes);
  all_nodes = refl;
  few = h.few;
  room = λ begun. h.room refl;
  total = omega (arith, h.total, sum_by_push (λ (set : List ℕ). length set) sets (k ∷ nodes));
  few_nodes = h.few_nodes;
}
end_holds n families (set ∷ sets) [] count h = record {
  all_families = all_push (are_sets n) families (set ∷ sets) h.all_families
      (and_from (nat_le 1 (length (set ∷ sets))) (list_all (is_set_of n) (set ∷ sets)) (le-leb 1 (length (set ∷ sets)) (omega arith)) h.all_sets);
  all_sets = refl;
  all_nodes = refl;
  few = omega (arith, h.room refl, length_push families (set ∷ sets));
  room = λ begun. absurd (false≢true begun);
  total = omega (arith, h.total, sum_by_push (λ (family : List (List ℕ)). sum_by length family) families (set ∷ sets));
  few_nodes = h.few_nodes;
}
end_holds n families [] [] count h = h

-- ---- a node

-- its family is within the limit
pub has_room : (begun : Bool) (families count : ℕ) → is_past_families begun families count ≡ false → (begun ≡ true → families < most_families)
    → (count < most_family_nodes) × (families < most_families)
has_room begun families count room other = by_count (nat_le most_family_nodes count) refl room
  where
    by_begun : (b over : Bool) → begun ≡ b → nat_le most_families families ≡ over → (not b && over) ≡ false → families < most_families
    by_begun true over is e none = other is
    by_begun false true is e none = absurd (true≢false none)
    by_begun false false is e none = leb-false most_families families e

    by_count : (over : Bool) → nat_le most_family_nodes count ≡ over → (over || (not begun && nat_le most_families families)) ≡ false
        → (count < most_family_nodes) × (families < most_families)
    by_count true e none = absurd (true≢false none)
    by_count false e none = (leb-false most_family_nodes count e, by_begun begun (nat_le most_families families) refl refl none)

node_holds : (n : ℕ) (families : List (List (List ℕ))) (sets : List (List ℕ)) (nodes : List ℕ) (count node : ℕ)
    → FamiliesHold n families sets nodes count
    → is_node n node ≡ true → count < most_family_nodes → length families < most_families
    → FamiliesHold n families sets (nodes ++ node ∷ []) (count + 1)
node_holds n families sets nodes count node h passes few room = record {
  all_families = h.all_families;
  all_sets = h.all_sets;
  all_nodes = all_push (is_node n) nodes node h.all_nodes passes;
  few = h.few;
  room = λ begun. room;
  total = omega (arith, h.total, length_push nodes node);
  few_nodes = omega (arith, few);
}

-- ---- one word more

word_holds : (n : ℕ) (s : FamiliesSoFar) (word : List ℕ) (ended end : Bool) → s.ended ≡ ended → is_end n word ≡ end
    → word_fault n (place_in_families s) word ≡ None
    → AreSoFar n s → AreSoFar n (with_family_word n s word)
word_holds n s word true end e is row h = rw e h
word_holds n s word false true e is row h = rw (e, is) (end_holds n s.families s.sets s.nodes s.count h)
word_holds n s word false false e is row h =
    let begun = has_begun_family s in
    let place = SetNode begun (length s.families) s.count in
    let t = is_taken n place word (subst (λ (b : Bool). word_fault n (cond b PastEnd place) word ≡ None) e row) in
    let found = read_listed n word t.is_read is in
    let node : is_node n (family_node n word) ≡ true = ap (λ r. is_node n (nat_abs (number r))) found.1 ∙ found.2 in
    let past = first_of_both (is_past_families begun (length s.families) s.count) (is_end n word) t.has_room is in
    let room = has_room begun (length s.families) s.count past h.room in
    rw (e, is) (node_holds n s.families s.sets s.nodes s.count (family_node n word) h node room.0 room.1)

all_families_taken : Grows false FamilyPart (λ n words. AreSoFar n (families_after n words))
all_families_taken = record {
  none = λ n. record {
    all_families = refl;
    all_sets = refl;
    all_nodes = refl;
    few = omega arith;
    room = λ begun. absurd (false≢true begun);
    total = refl;
    few_nodes = omega arith;
  };
  more = λ b same n words word held row.
      let s = families_after n words in
      subst (AreSoFar n) (sym (fold-append (with_family_word n) no_families words (word ∷ []))) (word_holds n s word s.ended (is_end n word) refl refl row held);
  any_nodes = λ n m words tours held. absurd (false≢true tours);
}

pub families_fit : (items : List Item) → IsClean items
    → are_family_lists (dimension_in items) (whole_families (dimension_in items) (words_of FamilyPart items)) ≡ true
families_fit items clean =
    let n = dimension_in items in
    let families = whole_families n (words_of FamilyPart items) in
    let h : AreSoFar n (families_after n (words_of FamilyPart items)) = grown FamilyPart (λ n words. AreSoFar n (families_after n words)) refl all_families_taken items clean in
    and_from (nat_le (length families) most_families && list_all (are_sets n) families) (nat_le (sum_by (sum_by length) families) most_family_nodes)
    (and_from (nat_le (length families) most_families) (list_all (are_sets n) families) (le-leb (length families) most_families h.few) h.all_families)
    (le-leb (sum_by (sum_by length) families) most_family_nodes (omega (arith, h.total, h.few_nodes)))

-- ---- the items of a text are cut from it: keywords begin with a letter

-- ---- parts of a list all of which passes

drop_passes : {A : Type 0} (test : A → Bool) (n : ℕ) (xs : List A) → list_all test xs ≡ true → list_all test (drop n xs) ≡ true
drop_passes test zero xs all = all
drop_passes test (suc n) [] all = refl
drop_passes test (suc n) (x ∷ xs) all = drop_passes test n xs (and_parts (test x) (list_all test xs) all).1

reverse_passes : {A : Type 0} (test : A → Bool) (xs : List A) → list_all test xs ≡ true → list_all test (reverse xs) ≡ true
reverse_passes test [] all = refl
reverse_passes test (x ∷ xs) all =
    let both = and_parts (test x) (list_all test xs) all in
    ap (list_all test) (reverse-append (x ∷ []) xs) ∙ list_all-append test (reverse xs) (x ∷ [])
    ∙ and_from (list_all test (reverse xs)) (test x && true) (reverse_passes test xs both.1) (and_from (test x) true both.0 refl)

while_passes : {A : Type 0} (test : A → Bool) (xs : List A) → list_all test (take_while test xs) ≡ true
while_passes test [] = refl
while_passes {A} test (x ∷ xs) = by_case (test x) refl (while_passes test xs)
  where
    by_case : (b : Bool) → test x ≡ b → list_all test (take_while test xs) ≡ true → list_all test (take (cond b (1 + prefix_len test xs) 0) (x ∷ xs)) ≡ true
    by_case true e later = ap (λ n. list_all test (take n (x ∷ xs))) (one-add (prefix_len test xs)) ∙ and_from (test x) (list_all test (take_while test xs)) e later
    by_case false e later = refl

-- ---- keywords

letter_in_keyword : (b : ℕ) → is_letter b ≡ true → is_keyword_byte b ≡ true
letter_in_keyword b e = grind (arith, nat_tests)

first_kept : (b : ℕ) (bytes : List ℕ) (k : Bool) → is_keyword_byte b ≡ k → k ≡ true
    → get_or (take (cond k (1 + prefix_len is_keyword_byte bytes) 0) (b ∷ bytes)) 0 0 ≡ b
first_kept b bytes true e is = ap (λ n. get_or (take n (b ∷ bytes)) 0 0) (one-add (prefix_len is_keyword_byte bytes))
first_kept b bytes false e is = absurd (false≢true is)

letter_first : (text : List ℕ) → begins is_letter text ≡ true → is_letter (slice_index (keyword_in text) 0) ≡ true
letter_first [] e = absurd (false≢true e)
letter_first (b ∷ bytes) e = ap is_letter (first_kept b bytes (is_keyword_byte b) refl (letter_in_keyword b e)) ∙ e

-- ---- values

-- no blank is left at the start
start_filled : (bytes : List ℕ) → is_blank (slice_index (without_start bytes) 0) ≡ false
start_filled [] = refl
start_filled (b ∷ bytes) = by_case (is_blank b) refl (start_filled bytes)
  where
    by_case : (blank : Bool) → is_blank b ≡ blank → is_blank (slice_index (without_start bytes) 0) ≡ false
        → is_blank (slice_index (drop (cond blank (1 + prefix_len is_blank bytes) 0) (b ∷ bytes)) 0) ≡ false
    by_case true e later = ap (λ n. is_blank (slice_index (drop n (b ∷ bytes)) 0)) (one-add (prefix_len is_blank bytes)) ∙ later
    by_case false e later = e

-- no blank is left at the end
cut_end : (bytes : List ℕ) → without_end bytes ++ reverse (take (prefix_len is_blank (reverse bytes)) (reverse bytes)) ≡ bytes
cut_end bytes =
    let back = reverse bytes in
    let n = prefix_len is_blank back in
    sym (reverse-append (take n back) (drop n back)) ∙ ap reverse (take-append-drop n back) ∙ reverse-reverse bytes

front_filled : (front rest whole : List ℕ) → front ++ rest ≡ whole → is_blank (slice_index whole 0) ≡ false
    → is_blank (slice_index front 0) ≡ false
front_filled [] rest whole e filled = refl
front_filled (b ∷ front) rest whole e filled = subst (λ (bytes : List ℕ). is_blank (slice_index bytes 0) ≡ false) (sym e) filled

last_of_reverse : (bytes : List ℕ) → slice_index (reverse bytes) (length (reverse bytes) - 1) ≡ slice_index bytes 0
last_of_reverse [] = refl
last_of_reverse (b ∷ bytes) =
    ap (λ (all : List ℕ). get_or all (length all - 1) 0) (reverse-append (b ∷ []) bytes)
    ∙ get_or_push (reverse bytes) b 0 (length (reverse bytes ++ b ∷ []) - 1) (omega (arith, length_push (reverse bytes) b))

end_filled : (bytes : List ℕ) → is_blank (slice_index (without_end bytes) (length (without_end bytes) - 1)) ≡ false
end_filled bytes = ap is_blank (last_of_reverse (without_start (reverse bytes))) ∙ start_filled (reverse bytes)

one_line_value : (text : List ℕ) → has_no_line_end text ≡ true → has_no_line_end (value_in text) ≡ true
one_line_value text one =
    let test : ℕ → Bool = λ b. not (ends_line b) in
    let after : has_no_line_end (after_keyword text) ≡ true = drop_passes test _ (drop (prefix_len is_keyword_byte text) text) (drop_passes test (prefix_len is_keyword_byte text) text one) in
    let rest = drop (cond (has_colon text) 1 0) (after_keyword text) in
    let value : has_no_line_end (without_start rest) ≡ true = drop_passes test (prefix_len is_blank rest) rest (drop_passes test (cond (has_colon text) 1 0) (after_keyword text) after) in
    reverse_passes test (without_start (reverse (without_start rest)))
    (drop_passes test (prefix_len is_blank (reverse (without_start rest))) (reverse (without_start rest)) (reverse_passes test (without_start rest) value))

-- ---- items

pub line_cut : (text : List ℕ) → begins is_letter text ≡ true → has_no_line_end text ≡ true → IsCut (line_item text)
line_cut text letter one =
    let start = without_start (drop (cond (has_colon text) 1 0) (after_keyword text)) in
    record {
      of_keyword = refl;
      letter_first = letter_first text letter;
      keyword_bytes = while_passes is_keyword_byte text;
      one_line = one_line_value text one;
      begins_filled = front_filled (without_end start) (reverse (take (prefix_len is_blank (reverse start)) (reverse start))) start (cut_end start)
          (start_filled (drop (cond (has_colon text) 1 0) (after_keyword text)));
      ends_filled = end_filled start;
    }

words_cut : (words : List (List ℕ)) → AreCut (map (λ word. NumberWord word) words)
words_cut [] = tt
words_cut (word ∷ words) = (tt, words_cut words)

append_cut : (items more : List Item) → AreCut items → AreCut more → AreCut (items ++ more)
append_cut [] more cut rest = rest
append_cut (item ∷ items) more cut rest = (cut.0, append_cut items more cut.1 rest)

-- a word line's text
text_cut : (line : List ℕ) → is_word_line line ≡ true → has_no_line_end line ≡ true → IsCut (line_item (without_start line))
text_cut line word one =
    line_cut (without_start line) word (drop_passes (λ b. not (ends_line b)) (prefix_len is_blank line) line one)

in_line_cut : (line : List ℕ) (b : Bool) → is_word_line line ≡ b → has_no_line_end line ≡ true
    → AreCut (cond b (line_item (without_start line) ∷ []) (map (λ word. NumberWord word) (words_in line)))
in_line_cut line true word one = (text_cut line word one, tt)
in_line_cut line false word one = words_cut (words_in line)

settled_cut : (line : List ℕ) (b long : Bool) → is_word_line line ≡ b → has_no_line_end line ≡ true
    → AreCut (cond b (cond long (line_item (without_start line) ∷ []) []) (map (λ word. NumberWord word) (settled_words line)))
settled_cut line true true word one = (text_cut line word one, tt)
settled_cut line true false word one = tt
settled_cut line false long word one = words_cut (settled_words line)

by_lines_cut : (last : List ℕ → List Item) → ((line : List ℕ) → has_no_line_end line ≡ true → AreCut (last line))
    → (lines : List (List ℕ))
    → list_all has_no_line_end lines ≡ true → AreCut (items_by last lines)
by_lines_cut last each [] one = tt
by_lines_cut last each (line ∷ []) one = each line (and_parts (has_no_line_end line) true one).0
by_lines_cut last each (line ∷ next ∷ lines) one =
    let both = and_parts (has_no_line_end line) (list_all has_no_line_end (next ∷ lines)) one in
    append_cut (items_in line) (LineEnd ∷ items_by last (next ∷ lines)) (in_line_cut line (is_word_line line) refl both.0) (tt, by_lines_cut last each (next ∷ lines) both.1)

ends_or_not : (b : Bool) → (b || not b) ≡ true
ends_or_not true = refl
ends_or_not false = refl

lines_one : (bytes : List ℕ) → list_all has_no_line_end (lines_of bytes) ≡ true
lines_one bytes =
    pieces_pass ends_line (λ b. not (ends_line b)) bytes (all_pass (λ b. ends_line b || not (ends_line b)) bytes (λ b. ends_or_not (ends_line b)))

pub items_cut : (bytes : List ℕ) → AreCut (items_of bytes)
items_cut bytes =
    by_lines_cut items_in (λ line one. in_line_cut line (is_word_line line) refl one) (lines_of bytes) (lines_one bytes)

pub settled_items_cut : (bytes : List ℕ) → AreCut (settled_items bytes)
settled_items_cut bytes =
    by_lines_cut settled_in (λ line one. settled_cut line (is_word_line line) (nat_lt most_line_bytes (length (without_start line))) refl one) (lines_of bytes) (lines_one bytes)

ended_cut : (items : List Item) → AreCut items → AreCut (to_end_line items)
ended_cut [] cut = tt
ended_cut (item ∷ items) cut = (cut.0, by_case (is_end_line item) (ended_cut items cut.1))
  where
    by_case : (b : Bool) → AreCut (to_end_line items) → AreCut (cond b [] (to_end_line items))
    by_case true later = tt
    by_case false later = later

reverse_cut : (items : List Item) → AreCut items → AreCut (reverse items)
reverse_cut [] cut = tt
reverse_cut (item ∷ items) cut =
    subst (λ (all : List Item). AreCut all) (sym (reverse-append (item ∷ []) items)) (append_cut (reverse items) (item ∷ []) (reverse_cut items cut.1) (cut.0, tt))

part_by : (bytes : List ℕ) (long : Bool)
    → AreCut (reverse (to_end_line (cond long (settled_items (take most_file_bytes bytes)) (items_of bytes))))
part_by bytes true =
    reverse_cut (to_end_line (settled_items (take most_file_bytes bytes))) (ended_cut (settled_items (take most_file_bytes bytes)) (settled_items_cut (take most_file_bytes bytes)))
part_by bytes false = reverse_cut (to_end_line (items_of bytes)) (ended_cut (items_of bytes) (items_cut bytes))

pub part_cut : (bytes : List ℕ) → AreCut (part bytes)
part_cut bytes = part_by bytes (is_too_long bytes)
