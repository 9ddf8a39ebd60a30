-- The words of a section in groups, and that its pairs and fixed pairs are valid if no word has a fault.
-- ValidItems.antt puts it together with the other sections. tsp_read imports it, too.
use Rattle.tsp_text.proofs.Prelude.{◌≡◌, ℕ, suc, ◌+◌, ◌*◌, ◌<◌, ◌≤◌, Bool, true, false, cond, ◌||◌, List, [], ◌∷◌, ◌++◌, length, map, refl, sym, ap, ◌∙◌, append_assoc, append-nil, arith, subst, None, eqb-true, eqb-false, true≢false, and_from, not_from_false, false≢true, length_push, map_push, take_all, length-map, list_any-append, list_any, list_all, ◌==◌, ℤ, take, not, ◌&&◌, nat_le, result_err, most_fixed, FixedEdgesPart, is_node, is_pair_of, are_fixed}
use Rattle.tsp_text.proofs.ValidKeywords.{any_kept, before_kept, before_none, before_end, any_push, read_node, read_listed, differ, few_more, first_of_both}
use Rattle.tsp_text.proofs.ValidRows.{is_taken, Grows, grown}
use Rattle.tsp_text.specs.Earlier.{words_of, dimension_in}
use Rattle.tsp_text.specs.FaultRows.{word_fault}
use Rattle.tsp_text.specs.Groups.{groups_after, begun_after, groups_in, begun_in, word_at, node_groups, nodes_of_groups, before, firsts_in, listed_in, fixed_pair, fixed_in, place_in_pair}
use Rattle.tsp_text.specs.Items.{Item}
use Rattle.tsp_text.specs.SectionWords.{number, node, reads_as, node_or_end, is_end, FirstAfter, SecondOf, PastEnd}
use Rattle.tsp_text.specs.ParsesTo.{IsClean}

abbrev pub Words : Type 0
Words = List (List ℕ)

-- ---- from words that have begun a group on

-- the group that a word ends, if it ends one, and the words that have begun one then
abbrev ended_by : {A : Type 0} → ℕ → List A → A → List (List A)
ended_by size begun word = cond (length begun + 1 == size) ((begun ++ word ∷ []) ∷ []) []

abbrev begun_with : {A : Type 0} → ℕ → List A → A → List A
begun_with size begun word = cond (length begun + 1 == size) [] (begun ++ word ∷ [])

first_word : {A : Type 0} (size : ℕ) (begun : List A) (x : A) (xs : List A)
    → groups_after size begun (x ∷ xs) ≡ ended_by size begun x ++ groups_after size (begun_with size begun x) xs
first_word {A} size begun x xs = by_case (length begun + 1 == size)
  where
    by_case : (ends : Bool) → cond ends ((begun ++ x ∷ []) ∷ groups_after size [] xs) (groups_after size (begun ++ x ∷ []) xs)
        ≡ cond ends ((begun ++ x ∷ []) ∷ []) [] ++ groups_after size (cond ends [] (begun ++ x ∷ [])) xs
    by_case true = refl
    by_case false = refl

append_after : {A : Type 0} (size : ℕ) (begun xs ys : List A)
    → groups_after size begun (xs ++ ys) ≡ groups_after size begun xs ++ groups_after size (begun_after size begun xs) ys
append_after size begun [] ys = refl
append_after {A} size begun (x ∷ xs) ys =
    let next = begun_with size begun x in
    first_word size begun x (xs ++ ys) ∙ ap (λ (gs : List (List A)). ended_by size begun x ++ gs) (append_after size next xs ys)
    ∙ sym (append_assoc (ended_by size begun x) (groups_after size next xs) (groups_after size (begun_after size next xs) ys))
    ∙ ap (λ (gs : List (List A)). gs ++ groups_after size (begun_after size next xs) ys) (sym (first_word size begun x xs))

begun_both : {A : Type 0} (size : ℕ) (begun xs ys : List A) → begun_after size begun (xs ++ ys) ≡ begun_after size (begun_after size begun xs) ys
begun_both size begun [] ys = refl
begun_both size begun (x ∷ xs) ys = begun_both size (begun_with size begun x) xs ys

groups_push : {A : Type 0} (size : ℕ) (begun xs : List A) (x : A)
    → groups_after size begun (xs ++ x ∷ []) ≡ groups_after size begun xs ++ ended_by size (begun_after size begun xs) x
groups_push {A} size begun xs x =
    append_after size begun xs (x ∷ []) ∙ ap (λ (gs : List (List A)). groups_after size begun xs ++ gs) (first_word size (begun_after size begun xs) x [] ∙ append-nil (ended_by size (begun_after size begun xs) x))

count_after : {A : Type 0} (size : ℕ) (begun xs : List A)
    → length begun + length xs ≡ size * length (groups_after size begun xs) + length (begun_after size begun xs)
count_after size begun [] = omega arith
count_after {A} size begun (x ∷ xs) = by_case (length begun + 1 == size) refl (count_after size [] xs) (count_after size (begun ++ x ∷ []) xs)
  where
    by_case : (ends : Bool) → (length begun + 1 == size) ≡ ends
        → 0 + length xs ≡ size * length (groups_after size [] xs) + length (begun_after size [] xs)
        → length (begun ++ x ∷ []) + length xs ≡ size * length (groups_after size (begun ++ x ∷ []) xs) + length (begun_after size (begun ++ x ∷ []) xs)
        → length begun + suc (length xs) ≡ size * length (cond ends ((begun ++ x ∷ []) ∷ groups_after size [] xs) (groups_after size (begun ++ x ∷ []) xs))
        + length (begun_after size (cond ends [] (begun ++ x ∷ [])) xs)
    by_case true is ended on = omega (arith, eqb-true (length begun + 1) size is, ended)
    by_case false is ended on = omega (arith, length_push begun x, on)

short_after : {A : Type 0} (size : ℕ) (begun xs : List A) → length begun < size → length (begun_after size begun xs) < size
short_after size begun [] short = short
short_after {A} size begun (x ∷ xs) short = by_case (length begun + 1 == size) refl (short_after size [] xs) (short_after size (begun ++ x ∷ []) xs)
  where
    by_case : (ends : Bool) → (length begun + 1 == size) ≡ ends → (0 < size → length (begun_after size [] xs) < size)
        → (length (begun ++ x ∷ []) < size → length (begun_after size (begun ++ x ∷ []) xs) < size)
        → length (begun_after size (cond ends [] (begun ++ x ∷ [])) xs) < size
    by_case true is ended on = ended (omega (arith, short))
    by_case false is ended on = on (omega (arith, length_push begun x, short, eqb-false (length begun + 1) size is))

-- ---- from the first word on

-- how many words there are
pub length_groups : {A : Type 0} (size : ℕ) (xs : List A) → length xs ≡ size * length (groups_in size xs) + length (begun_in size xs)
length_groups size xs = omega (arith, count_after size [] xs)

pub begun_short : {A : Type 0} (size : ℕ) (xs : List A) → 0 < size → length (begun_in size xs) < size
begun_short size xs some = short_after size [] xs some

-- a word that doesn't end its group
pub goes_on : {A : Type 0} (size : ℕ) (xs begun : List A) (x : A) → begun_in size xs ≡ begun → (length begun + 1 == size) ≡ false
    → (groups_in size (xs ++ x ∷ []) ≡ groups_in size xs) × (begun_in size (xs ++ x ∷ []) ≡ begun ++ x ∷ [])
goes_on {A} size xs begun x is on = (
  groups_push size [] xs x ∙ ap (λ (b : List A). groups_in size xs ++ ended_by size b x) is
      ∙ ap (λ ends. groups_in size xs ++ cond ends ((begun ++ x ∷ []) ∷ []) []) on ∙ append-nil (groups_in size xs),
  begun_both size [] xs (x ∷ []) ∙ ap (λ (b : List A). begun_with size b x) is ∙ ap (λ ends. cond ends [] (begun ++ x ∷ [])) on,
)

-- a word that ends its group
pub group_ends : {A : Type 0} (size : ℕ) (xs begun : List A) (x : A) → begun_in size xs ≡ begun → (length begun + 1 == size) ≡ true
    → (groups_in size (xs ++ x ∷ []) ≡ groups_in size xs ++ (begun ++ x ∷ []) ∷ []) × (begun_in size (xs ++ x ∷ []) ≡ [])
group_ends {A} size xs begun x is ends = (
  groups_push size [] xs x ∙ ap (λ (b : List A). groups_in size xs ++ ended_by size b x) is
      ∙ ap (λ t. groups_in size xs ++ cond t ((begun ++ x ∷ []) ∷ []) []) ends,
  begun_both size [] xs (x ∷ []) ∙ ap (λ (b : List A). begun_with size b x) is ∙ ap (λ t. cond t [] (begun ++ x ∷ [])) ends,
)

-- words after whole groups
pub groups_append : {A : Type 0} (size : ℕ) (xs ys : List A) → begun_in size xs ≡ [] → groups_in size (xs ++ ys) ≡ groups_in size xs ++ groups_in size ys
groups_append {A} size xs ys is = append_after size [] xs ys ∙ ap (λ (b : List A). groups_in size xs ++ groups_after size b ys) is

pub begun_append : {A : Type 0} (size : ℕ) (xs ys : List A) → begun_in size xs ≡ [] → begun_in size (xs ++ ys) ≡ begun_in size ys
begun_append {A} size xs ys is = begun_both size [] xs ys ∙ ap (λ (b : List A). begun_after size b ys) is

-- ---- the first words of groups

abbrev pub first_of : Words → List ℕ
first_of group = word_at group 0

-- a first word more, or another word
pub firsts_begin : (size : ℕ) (xs : Words) (x : List ℕ) → begun_in size xs ≡ [] → firsts_in size (xs ++ x ∷ []) ≡ firsts_in size xs ++ x ∷ []
firsts_begin size xs x is =
    ap (λ (gs : List Words). map first_of gs ++ take 1 (begun_in size (xs ++ x ∷ []))) (groups_push size [] xs x ∙ ap (λ (b : Words). groups_in size xs ++ ended_by size b x) is)
    ∙ ap (λ (b : Words). map first_of (groups_in size xs ++ ended_by size [] x) ++ take 1 b) (begun_both size [] xs (x ∷ []) ∙ ap (λ (b : Words). begun_with size b x) is)
    ∙ by_case (1 == size) ∙ ap (λ (b : Words). (map first_of (groups_in size xs) ++ take 1 b) ++ x ∷ []) (sym is)
  where
    by_case : (ends : Bool) → map first_of (groups_in size xs ++ cond ends ((x ∷ []) ∷ []) []) ++ take 1 (cond ends [] (x ∷ [])) ≡ (map first_of (groups_in size xs) ++ []) ++ x ∷ []
    by_case true = ap (λ (ws : Words). ws ++ []) (map_push first_of (groups_in size xs) (x ∷ [])) ∙ append-nil (map first_of (groups_in size xs) ++ x ∷ [])
        ∙ ap (λ (ws : Words). ws ++ x ∷ []) (sym (append-nil (map first_of (groups_in size xs))))
    by_case false = ap (λ (gs : List Words). map first_of gs ++ x ∷ []) (append-nil (groups_in size xs)) ∙ ap (λ (ws : Words). ws ++ x ∷ []) (sym (append-nil (map first_of (groups_in size xs))))

pub firsts_on : (size : ℕ) (xs : Words) (first : List ℕ) (rest : Words) (x : List ℕ) → begun_in size xs ≡ first ∷ rest
    → firsts_in size (xs ++ x ∷ []) ≡ firsts_in size xs
firsts_on size xs first rest x is =
    ap (λ (gs : List Words). map first_of gs ++ take 1 (begun_in size (xs ++ x ∷ []))) (groups_push size [] xs x ∙ ap (λ (b : Words). groups_in size xs ++ ended_by size b x) is)
    ∙ ap (λ (b : Words). map first_of (groups_in size xs ++ ended_by size (first ∷ rest) x) ++ take 1 b) (begun_both size [] xs (x ∷ []) ∙ ap (λ (b : Words). begun_with size b x) is)
    ∙ by_case (length (first ∷ rest) + 1 == size) ∙ ap (λ (b : Words). map first_of (groups_in size xs) ++ take 1 b) (sym is)
  where
    by_case : (ends : Bool) → map first_of (groups_in size xs ++ cond ends ((first ∷ (rest ++ x ∷ [])) ∷ []) []) ++ take 1 (cond ends [] (first ∷ (rest ++ x ∷ []))) ≡ map first_of (groups_in size xs) ++ first ∷ []
    by_case true = ap (λ (ws : Words). ws ++ []) (map_push first_of (groups_in size xs) (first ∷ (rest ++ x ∷ []))) ∙ append-nil (map first_of (groups_in size xs) ++ first ∷ [])
    by_case false = ap (λ (gs : List Words). map first_of gs ++ first ∷ []) (append-nil (groups_in size xs))

-- ---- a first word that ends the list

any_first : (p : List ℕ → Bool) (groups : List Words) → list_any p (map first_of groups) ≡ list_any (λ group. p (first_of group)) groups
any_first p [] = refl
any_first p (group ∷ groups) = ap (λ any. p (first_of group) || any) (any_first p groups)

pub firsts_kept : (p : List ℕ → Bool) (size : ℕ) (xs : Words) (x : List ℕ) → list_any p (firsts_in size xs) ≡ true
    → list_any p (firsts_in size (xs ++ x ∷ [])) ≡ true
firsts_kept p size xs x any = by_begun (begun_in size xs) refl
  where
    by_begun : (begun : Words) → begun_in size xs ≡ begun → list_any p (firsts_in size (xs ++ x ∷ [])) ≡ true
    by_begun [] is = ap (list_any p) (firsts_begin size xs x is) ∙ any_kept p (firsts_in size xs) x any
    by_begun (first ∷ rest) is = ap (list_any p) (firsts_on size xs first rest x is) ∙ any

-- past the word that ends the list no group counts
pub groups_kept : (p : List ℕ → Bool) (size : ℕ) (xs : Words) (x : List ℕ) → list_any p (firsts_in size xs) ≡ true
    → before (λ group. p (word_at group 0)) (groups_in size (xs ++ x ∷ [])) ≡ before (λ group. p (word_at group 0)) (groups_in size xs)
groups_kept p size xs x any =
    ap (before q) (groups_push size [] xs x) ∙ by_ends (length (begun_in size xs) + 1 == size) (list_any q groups) refl
    (begun_in size xs) (ap (λ some. some || list_any p (take 1 (begun_in size xs))) (sym (any_first p groups)) ∙ sym (list_any-append p (map first_of groups) (take 1 (begun_in size xs))) ∙ any)
  where
    q : Words → Bool
    q group = p (word_at group 0)

    groups : List Words
    groups = groups_in size xs

    or_none : (b : Bool) → (b || false) ≡ true → b ≡ true
    or_none true e = refl
    or_none false e = e

    by_ends : (ends some : Bool) → list_any q groups ≡ some → (begun : Words) → (some || list_any p (take 1 begun)) ≡ true
        → before q (groups ++ cond ends ((begun ++ x ∷ []) ∷ []) []) ≡ before q groups
    by_ends false some is begun one = ap (before q) (append-nil groups)
    by_ends true true is begun one = before_kept q groups (begun ++ x ∷ []) is
    by_ends true false is [] one = cc
    by_ends true false is (first ∷ rest) one = before_end q groups (first ∷ (rest ++ x ∷ [])) (or_none (p first) one) is ∙ sym (before_none q groups is)

-- without a word that ends the list all groups count
pub groups_none : (p : List ℕ → Bool) (size : ℕ) (xs : Words) → list_any p (firsts_in size xs) ≡ false
    → before (λ group. p (word_at group 0)) (groups_in size xs) ≡ groups_in size xs
groups_none p size xs any =
    before_none (λ group. p (word_at group 0)) (groups_in size xs) (first_none (list_any (λ group. p (word_at group 0)) (groups_in size xs)) (list_any p (take 1 (begun_in size xs)))
    (ap (λ some. some || list_any p (take 1 (begun_in size xs))) (sym (any_first p (groups_in size xs))) ∙ sym (list_any-append p (map first_of (groups_in size xs)) (take 1 (begun_in size xs))) ∙ any))
  where
    first_none : (a b : Bool) → (a || b) ≡ false → a ≡ false
    first_none true b e = e
    first_none false b e = refl

-- ---- sections by node

-- the groups, if no words come past them
pub all_groups : {X : Type 0} (size : ℕ) (value : Words → X) (n : ℕ) (words : Words) → length words ≤ size * n
    → node_groups size value n words ≡ map (λ group. (number (node n (word_at group 0)), value group)) (groups_in size words)
all_groups size value n words few =
    ap (λ (ws : Words). map (λ group. (number (node n (word_at group 0)), value group)) (groups_in size ws)) (take_all (size * n) words few)

-- the nodes of the groups
pub nodes_read : {X : Type 0} (value : Words → X) (n : ℕ) (groups : List Words)
    → nodes_of_groups (map (λ group. (number (node n (word_at group 0)), value group)) groups) ≡ map (λ group. number (node n (word_at group 0))) groups
nodes_read value n [] = refl
nodes_read value n (group ∷ groups) = ap (λ (nodes : List ℤ). number (node n (word_at group 0)) ∷ nodes) (nodes_read value n groups)

-- ---- the groups before a -1, in a section without a fault: no more than may be

-- the words of a group that has begun: a node, or two different ones
abbrev pub Begins : ℕ → Words → Type 0
Begins n [] = ⊥
Begins n (first ∷ []) = (result_err (node_or_end n first) ≡ None) × (is_end n first ≡ false)
Begins n (first ∷ second ∷ rest) = is_pair_of n (fixed_pair n (first ∷ second ∷ [])) ≡ true

-- two different nodes
pub valid_pair : (n : ℕ) (first word : List ℕ) → Begins n (first ∷ []) → result_err (node n word) ≡ None
    → reads_as (number (node_or_end n first)) (node n word) ≡ false → Begins n (first ∷ word ∷ [])
valid_pair n first word begun read_second other =
    let a = read_listed n first begun.0 begun.1 in
    let b = read_node n word read_second in
    let differs = differ a.0 b.0 (rw (a.1, b.1) at other) in
    rw (a.1, b.1) (and_from (is_node n a.0 && is_node n b.0) (not (a.0 == b.0)) (and_from (is_node n a.0) (is_node n b.0) a.2 b.2) (not_from_false (a.0 == b.0) differs))

-- the whole groups are valid, and so are the words of one that has begun, with the group within the limit
pub record AreListed {X : Type 0} (size : ℕ) (value : ℕ → Words → X) (fits : ℕ → X → Bool) (n : ℕ) (words : Words) : Type 0 where
  pub list : (nat_le (length (map (value n) (listed_in size n words))) most_fixed && list_all (fits n) (map (value n) (listed_in size n words))) ≡ true
  pub begun : list_any (is_end n) (firsts_in size words) ≡ false → (first : List ℕ) (rest : Words) → begun_in size words ≡ first ∷ rest
      → Begins n (first ∷ rest) × (nat_le most_fixed (length (groups_in size words)) ≡ false)

-- ---- one word more

module _ {X : Type 0} (size : ℕ) (value : ℕ → Words → X) (fits : ℕ → X → Bool) (n : ℕ) (words : Words) (word : List ℕ) (held : AreListed size value fits n words) where
  same_list : (groups : List Words) → before (λ group. is_end n (word_at group 0)) groups ≡ listed_in size n words
      → (nat_le (length (map (value n) (before (λ group. is_end n (word_at group 0)) groups))) most_fixed
      && list_all (fits n) (map (value n) (before (λ group. is_end n (word_at group 0)) groups))) ≡ true
  same_list groups same =
      ap (λ (gs : List Words). nat_le (length (map (value n) gs)) most_fixed && list_all (fits n) (map (value n) gs)) same ∙ held.list

  pub past_end : list_any (is_end n) (firsts_in size words) ≡ true → AreListed size value fits n (words ++ word ∷ [])
  past_end ended = record {
    list = same_list (groups_in size (words ++ word ∷ [])) (groups_kept (is_end n) size words word ended);
    begun = λ none first rest e. absurd (true≢false (sym (firsts_kept (is_end n) size words word ended) ∙ none));
  }

  -- a first node, or the -1
  pub begins : (1 == size) ≡ false → list_any (is_end n) (firsts_in size words) ≡ false → begun_in size words ≡ []
      → word_fault n (FirstAfter (length (groups_in size words))) word ≡ None → AreListed size value fits n (words ++ word ∷ [])
  begins more open_ended is row =
      let t = is_taken n (FirstAfter (length (groups_in size words))) word row in
      let next = goes_on size words [] word is more in
      let end = sym (any_push (is_end n) (firsts_in size words) word open_ended) ∙ sym (ap (list_any (is_end n)) (firsts_begin size words word is)) in
      record {
        list = same_list (groups_in size (words ++ word ∷ [])) (ap (before (λ group. is_end n (word_at group 0))) next.0);
        begun = λ none first rest e. (
          subst (Begins n) (sym next.1 ∙ e) (t.is_read, end ∙ none),
          ap (λ (groups : List Words). nat_le most_fixed (length groups)) next.0
              ∙ first_of_both (nat_le most_fixed (length (groups_in size words))) (is_end n word) t.has_room (end ∙ none),
        );
      }

  -- a word in the middle of a group
  pub middle : (first : List ℕ) (rest : Words) → (length (first ∷ rest) + 1 == size) ≡ false → list_any (is_end n) (firsts_in size words) ≡ false
      → begun_in size words ≡ first ∷ rest → Begins n (first ∷ (rest ++ word ∷ [])) → AreListed size value fits n (words ++ word ∷ [])
  middle first rest more open_ended is begins_so =
      let next = goes_on size words (first ∷ rest) word is more in
      record {
        list = same_list (groups_in size (words ++ word ∷ [])) (ap (before (λ group. is_end n (word_at group 0))) next.0);
        begun = λ none other others e. (
          subst (Begins n) (sym next.1 ∙ e) begins_so,
          ap (λ (groups : List Words). nat_le most_fixed (length groups)) next.0 ∙ (held.begun open_ended first rest is).1,
        );
      }

  -- the last word of a group
  pub group_fits : (first : List ℕ) (rest : Words) → (length (first ∷ rest) + 1 == size) ≡ true → list_any (is_end n) (firsts_in size words) ≡ false
      → begun_in size words ≡ first ∷ rest → fits n (value n (first ∷ (rest ++ word ∷ []))) ≡ true → AreListed size value fits n (words ++ word ∷ [])
  group_fits first rest whole open_ended is valid =
      let next = group_ends size words (first ∷ rest) word is whole in
      let groups = groups_in size words in
      let one : Words = first ∷ (rest ++ word ∷ []) in
      let few : List X → Bool = λ xs. nat_le (length xs) most_fixed && list_all (fits n) xs in
      let still : list_any (is_end n) (firsts_in size (words ++ word ∷ [])) ≡ false = ap (list_any (is_end n)) (firsts_on size words first rest word is) ∙ open_ended in
      let so_far : few (map (value n) groups) ≡ true = ap (λ (gs : List Words). few (map (value n) gs)) (sym (groups_none (is_end n) size words open_ended)) ∙ held.list in
      record {
        list = ap (λ (gs : List Words). few (map (value n) gs)) (groups_none (is_end n) size (words ++ word ∷ []) still ∙ next.0) ∙ ap few (map_push (value n) groups one)
            ∙ few_more most_fixed (fits n) (map (value n) groups) (value n one) so_far
            (ap (λ k. nat_le most_fixed k) (length-map groups (value n)) ∙ (held.begun open_ended first rest is).1) valid;
        begun = λ none other others e. none_begun (begun_in size (words ++ word ∷ [])) other others next.1 e;
      }
    where
      none_begun : (begun : Words) (other : List ℕ) (others : Words) → begun ≡ [] → begun ≡ other ∷ others
          → Begins n (other ∷ others) × (nat_le most_fixed (length (groups_in size (words ++ word ∷ []))) ≡ false)
      none_begun begun other others none some = absurd cc

-- ---- the fixed pairs of a section without a fault

abbrev ArePaired : ℕ → Words → Type 0
ArePaired n words = AreListed 2 fixed_pair is_pair_of n words

taken : (n : ℕ) (words : Words) (word : List ℕ) (ended : Bool) (begun : Words) → list_any (is_end n) (firsts_in 2 words) ≡ ended
    → begun_in 2 words ≡ begun
    → word_fault n (cond ended PastEnd (place_in_pair n (length (groups_in 2 words)) begun)) word ≡ None → ArePaired n words
    → ArePaired n (words ++ word ∷ [])
taken n words word true begun e is row held = past_end 2 fixed_pair is_pair_of n words word held e
taken n words word false [] e is row held = begins 2 fixed_pair is_pair_of n words word held refl e is row
taken n words word false (first ∷ []) e is row held =
    let t = is_taken n (SecondOf (number (node_or_end n first))) word row in
    group_fits 2 fixed_pair is_pair_of n words word held first [] refl e is (valid_pair n first word (held.begun e first [] is).0 t.is_read t.other_node)
taken n words word false (first ∷ second ∷ rest) e is row held =
    absurd (omega (arith, ap length is, begun_short 2 words (omega arith)))

all_taken : Grows false FixedEdgesPart ArePaired
all_taken = record {
  none = λ n. record { list = refl; begun = λ none first rest e. absurd cc };
  more = λ b same n words word held row. taken n words word (list_any (is_end n) (firsts_in 2 words)) (begun_in 2 words) refl refl row held;
  any_nodes = λ n m words tours held. absurd (false≢true tours);
}

pub fixed_fit : (items : List Item) → IsClean items
    → are_fixed (dimension_in items) (fixed_in (dimension_in items) (words_of FixedEdgesPart items)) ≡ true
fixed_fit items clean =
    let held : ArePaired (dimension_in items) (words_of FixedEdgesPart items) = grown FixedEdgesPart ArePaired refl all_taken items clean in
    held.list
