-- Keywords of items without a fault have valid values, as have numbers, lists and depots. Other files named Valid..
-- rest on it, and the reader's proofs in tsp_read.
use Rattle.tsp_text.proofs.Prelude.{◌≡◌, Bool, true, false, ◌||◌, ◌&&◌, cond, List, [], ◌∷◌, ◌++◌, refl, ap, ◌∙◌, ℕ, length, arith, suc, zero, ◌*◌, ◌≤◌, map, sym, subst, Option, Some, None, Result, Ok, Err, ◌+◌, take, true≢false, and_from, and_parts, le-leb, leb-false, false≢true, leb-true, eq-eqb, ne_eqb, ltb-false, not_from_false, Decides-int_eq, length_push, length-map, map_push, list_any-append, list_all-append, list_all-map, list_any, list_all, option_map, option_and_then, not, nat_le, ◌==◌, ℤ, pos, negsuc, neg_ℤ, unwrap_or, unsigned_abs, int_le, if◌then◌else◌, nat_abs, ◌-◌, codes, slice_index, result_err, result_ok, most_coordinate, most_depots, is_other_key, field_of, known_or_not, keyword_of, is_unknown, most_nodes, most_capacity, most_scale, most_load_unit, most_kept_bytes, most_comments, most_others, is_blank, is_letter, is_keyword_byte, field_word, fields_in_order, Field, DepotPart, NameKey, CommentKey, DimensionKey, CapacityKey, ScaleKey, LoadUnitKey, FixedEdgesPart, Known, EdgeDataFormat, EdgeDataSection, Eof, Unknown, is_from_to, is_within, is_node, is_by_node, is_point, are_depots, if_there, is_kept, is_unknown_keyword, is_other, are_comments, are_others}
use Rattle.std.proofs.Math.Bool.{or-false}
use Rattle.std.proofs.lemmas.List.FromFn.{length-range_with_len}
use Rattle.std.proofs.lemmas.Slice.Eq.{bytes_eq-Decides}
use Rattle.std.specs.Ordering.{int_eq}
use Rattle.std.specs.Str.{bytes_eq}
use Rattle.tsp_number.specs.Decimal.{most_count}
use Rattle.tsp_number.specs.NumberWord.{Numeral, numeral_in, number_in, decimal_within, decimal_from, decimal_of, whole_within, whole_from, whole_of}
use Rattle.tsp_number.specs.declared.number_word.NumberFault.{NumberFault}
use Rattle.tsp_number.specs.declared.number_word.NumberFault.TheVariants.{LongWord, OutOfRange}
use Rattle.tsp_format.proofs.Pairs.{found_passes}
use Rattle.tsp_format.specs.Nodes.{nodes_to}
use Rattle.tsp_format.specs.declared.keyword.Keyword.{Keyword}
use Rattle.tsp_file.specs.Cost.{origin}
use Rattle.tsp_text.proofs.ValidRows.{is_taken, Grows, grown, clean_parts, no_row, same_field_is}
use Rattle.tsp_text.specs.Earlier.{words_of, dimension_in, same_field, is_key, value_at, values_at, others_in, number_at, dimension_of}
use Rattle.tsp_text.specs.FaultRows.{word_fault, is_too_long_to_keep, has_bad_value, row_of}
use Rattle.tsp_text.specs.Groups.{before, groups_in, word_at, node_groups, number_value, coordinate_at, point_in, space_point_in, entry_of, by_node, numbers_by_node, points_by_node, space_points_by_node, coords_by_node, depots_in}
use Rattle.tsp_text.specs.Items.{Item, first_word, WordLine, Line, NumberWord, LineEnd, IsCutLine, AreCut}
use Rattle.tsp_text.specs.SectionWords.{number, reads_as, node, not_zero, node_or_end, is_end, DepotAfter, PastEnd}
use Rattle.tsp_text.specs.ParsesTo.{IsClean}

-- ---- whether one passes

pub any_kept : {A : Type 0} (p : A → Bool) (xs : List A) (x : A) → list_any p xs ≡ true → list_any p (xs ++ x ∷ []) ≡ true
any_kept p xs x any = list_any-append p xs (x ∷ []) ∙ rw any refl

pub any_push : {A : Type 0} (p : A → Bool) (xs : List A) (x : A) → list_any p xs ≡ false → list_any p (xs ++ x ∷ []) ≡ p x
any_push p xs x any = list_any-append p xs (x ∷ []) ∙ rw any (or-false (p x))

-- ---- the part before it

pub kept_step : {A : Type 0} (b any : Bool) (x : A) (xs ys : List A) → (any ≡ true → xs ≡ ys) → (b || any) ≡ true
    → cond b [] (x ∷ xs) ≡ cond b [] (x ∷ ys)
kept_step true any x xs ys h e = refl
kept_step false any x xs ys h e = ap (λ zs. x ∷ zs) (h e)

pub none_step : {A : Type 0} (b any : Bool) (x : A) (xs ys : List A) → (any ≡ false → xs ≡ ys) → (b || any) ≡ false
    → cond b [] (x ∷ xs) ≡ x ∷ ys
none_step true any x xs ys h e = cc
none_step false any x xs ys h e = ap (λ zs. x ∷ zs) (h e)

-- past the end nothing counts
pub before_kept : {A : Type 0} (p : A → Bool) (xs : List A) (x : A) → list_any p xs ≡ true → before p (xs ++ x ∷ []) ≡ before p xs
before_kept p [] x any = cc
before_kept p (y ∷ ys) x any = kept_step (p y) (list_any p ys) y (before p (ys ++ x ∷ [])) (before p ys) (before_kept p ys x) any

-- without an end all elements count
pub before_none : {A : Type 0} (p : A → Bool) (xs : List A) → list_any p xs ≡ false → before p xs ≡ xs
before_none p [] any = refl
before_none p (y ∷ ys) any = none_step (p y) (list_any p ys) y (before p ys) ys (before_none p ys) any

-- the end itself doesn't count
pub before_end : {A : Type 0} (p : A → Bool) (xs : List A) (x : A) → p x ≡ true → list_any p xs ≡ false
    → before p (xs ++ x ∷ []) ≡ xs
before_end p [] x e any = rw e refl
before_end p (y ∷ ys) x e any = none_step (p y) (list_any p ys) y (before p (ys ++ x ∷ [])) ys (before_end p ys x e) any

-- one element more that isn't the end
pub before_push : {A : Type 0} (p : A → Bool) (xs : List A) (x : A) → p x ≡ false → list_any p xs ≡ false
    → before p (xs ++ x ∷ []) ≡ xs ++ x ∷ []
before_push p xs x e any = before_none p (xs ++ x ∷ []) (any_push p xs x any ∙ e)

-- ---- a list below its limit is within it with one element more

-- one more of a list below its limit, that passes too
pub few_more : {A : Type 0} (most : ℕ) (test : A → Bool) (xs : List A) (x : A)
    → (nat_le (length xs) most && list_all test xs) ≡ true → nat_le most (length xs) ≡ false → test x ≡ true
    → (nat_le (length (xs ++ x ∷ [])) most && list_all test (xs ++ x ∷ [])) ≡ true
few_more most test xs x held room passes =
    let both = and_parts (nat_le (length xs) most) (list_all test xs) held in
    and_from (nat_le (length (xs ++ x ∷ [])) most) (list_all test (xs ++ x ∷ []))
    (le-leb (length (xs ++ x ∷ [])) most (omega (arith, length_push xs x, leb-false most (length xs) room)))
    (list_all-append test xs (x ∷ []) ∙ and_from (list_all test xs) (test x && true) both.1 (and_from (test x) true passes refl))

-- a test that fails beside one that doesn't
pub first_of_both : (a b : Bool) → (a && not b) ≡ false → b ≡ false → a ≡ false
first_of_both false b e other = refl
first_of_both true false e other = absurd (true≢false e)
first_of_both true true e other = absurd (true≢false other)

-- ---- what a word is read as is in its range, and a word that isn't read counts as 0

-- ---- tests of lists

-- what all values pass, all of a list pass
pub all_pass : {A : Type 0} (test : A → Bool) (xs : List A) → ((x : A) → test x ≡ true) → list_all test xs ≡ true
all_pass test [] each = refl
all_pass test (x ∷ xs) each = and_from (test x) (list_all test xs) (each x) (all_pass test xs each)

-- ---- ranges

picked : (b : Bool) (r : Result ℤ NumberFault) (fault : NumberFault) (z : ℤ) → (let chosen : Result ℤ NumberFault = if b then r else Err fault in chosen ≡ Ok z) → (b ≡ true) × (r ≡ Ok z)
picked true r fault z e = (refl, e)
picked false r fault z e = absurd cc

same_Ok : (y z : ℤ) → (let r : Result ℤ NumberFault = Ok y in r ≡ Ok z) → y ≡ z
same_Ok y z e = cc

within_range : (low high : ℤ) (a b : Option ℤ) (z : ℤ) → whole_within low high a b ≡ Ok z → is_from_to low high z ≡ true
within_range low high None b z e = absurd cc
within_range low high (Some k) None z e = absurd cc
within_range low high (Some k) (Some n) z e =
    let both = picked (is_from_to low high n) (Ok n) OutOfRange z e in
    subst (λ (y : ℤ). is_from_to low high y ≡ true) (same_Ok n z both.1) both.0

whole_read : (low high : ℤ) (o : Option Numeral) (z : ℤ) → whole_from low high o ≡ Ok z → is_from_to low high z ≡ true
whole_read low high None z e = absurd cc
whole_read low high (Some n) z e = within_range low high (number_in 9 n) (number_in 0 n) z e

pub whole_in_range : (word : List ℕ) (low high z : ℤ) → whole_of word low high ≡ Ok z → is_from_to low high z ≡ true
unfolding whole_of
whole_in_range word low high z e =
    whole_read low high (numeral_in word) z (picked (nat_le (length word) 64) (whole_from low high (numeral_in word)) LongWord z e).1

-- a size is no more than a limit
size_within : (z : ℤ) → nat_le (unsigned_abs z) most_coordinate ≡ true → is_within most_coordinate z ≡ true
size_within (pos n) e = e
size_within (negsuc n) e =
    and_from (int_le (neg_ℤ (pos most_coordinate)) (negsuc n)) true (below n (leb-true (suc n) most_coordinate e)) refl
  where
    below : (n : ℕ) → suc n ≤ most_coordinate → int_le (neg_ℤ (pos most_coordinate)) (negsuc n) ≡ true
    below n le = le-leb n 999999999999999999 (omega arith)

decimal_within_range : (o : Option ℤ) (z : ℤ) → decimal_within o ≡ Ok z → is_within most_coordinate z ≡ true
decimal_within_range None z e = absurd cc
decimal_within_range (Some k) z e =
    let both = picked (nat_le (unsigned_abs k) most_count) (Ok k) OutOfRange z e in
    subst (λ (y : ℤ). is_within most_coordinate y ≡ true) (same_Ok k z both.1) (size_within k both.0)

decimal_read : (o : Option Numeral) (z : ℤ) → decimal_from o ≡ Ok z → is_within most_coordinate z ≡ true
decimal_read None z e = absurd cc
decimal_read (Some n) z e = decimal_within_range (number_in 9 n) z e

decimal_in_range : (word : List ℕ) (z : ℤ) → decimal_of word ≡ Ok z → is_within most_coordinate z ≡ true
unfolding decimal_of
decimal_in_range word z e =
    decimal_read (numeral_in word) z (picked (nat_le (length word) 64) (decimal_from (numeral_in word)) LongWord z e).1

-- what is read, or 0, passes a test that 0 passes
number_passes : (test : ℤ → Bool) (r : Result ℤ NumberFault) → test (pos 0) ≡ true → ((z : ℤ) → r ≡ Ok z → test z ≡ true)
    → test (number r) ≡ true
number_passes test (Ok z) zero_passes each = each z refl
number_passes test (Err fault) zero_passes each = zero_passes

pub whole_passes : (low high : ℤ) (word : List ℕ) → is_from_to low high (pos 0) ≡ true
    → is_from_to low high (number (whole_of word low high)) ≡ true
whole_passes low high word zero_passes =
    number_passes (is_from_to low high) (whole_of word low high) zero_passes (λ z e. whole_in_range word low high z e)

decimal_passes : (word : List ℕ) → is_within most_coordinate (number (decimal_of word)) ≡ true
decimal_passes word = number_passes (is_within most_coordinate) (decimal_of word) refl (λ z e. decimal_in_range word z e)

-- ---- lists by node

entry_fits : {X : Type 0} (fits : X → Bool) (missing : X) (groups : List (ℤ × X)) (z : ℤ) → fits missing ≡ true
    → list_all (λ group. fits group.1) groups ≡ true
    → fits (unwrap_or (entry_of groups z) missing) ≡ true
entry_fits fits missing [] z none all = none
entry_fits {X} fits missing (group ∷ groups) z none all =
    let both = and_parts (fits group.1) (list_all (λ g. fits g.1) groups) all in
    by_case (int_eq group.0 z) both.0 (entry_fits fits missing groups z none both.1)
  where
    by_case : (b : Bool) → fits group.1 ≡ true → fits (unwrap_or (entry_of groups z) missing) ≡ true → fits (unwrap_or (cond b (Some group.1) (entry_of groups z)) missing) ≡ true
    by_case true here later = here
    by_case false here later = later

by_node_fits : {X : Type 0} (fits : X → Bool) (missing : X) (n : ℕ) (groups : List (ℤ × X)) → fits missing ≡ true
    → list_all (λ group. fits group.1) groups ≡ true
    → is_by_node fits n (by_node missing n groups) ≡ true
unfolding nodes_to
by_node_fits {X} fits missing n groups none all =
    let entry : ℕ → X = λ i. unwrap_or (entry_of groups (pos i)) missing in
    and_from (length (map entry (nodes_to n)) == n) (list_all fits (map entry (nodes_to n)))
    (eq-eqb (length (map entry (nodes_to n))) n (length-map (nodes_to n) entry ∙ length-range_with_len 1 n))
    (list_all-map fits entry (nodes_to n) ∙ all_pass (λ i. fits (entry i)) (nodes_to n) (λ i. entry_fits fits missing groups (pos i) none all))

-- the values of groups, which all pass
groups_fit : {X : Type 0} (fits : X → Bool) (missing : X) (size : ℕ) (value : List (List ℕ) → X) (n : ℕ) (words : List (List ℕ))
    → fits missing ≡ true → ((group : List (List ℕ)) → fits (value group) ≡ true)
    → is_by_node fits n (by_node missing n (node_groups size value n words)) ≡ true
groups_fit {X} fits missing size value n words none each =
    let groups = groups_in size (take (size * n) words) in
    by_node_fits fits missing n (node_groups size value n words) none
    (list_all-map (λ (group : ℤ × X). fits group.1) (λ (group : List (List ℕ)). (number (node n (word_at group 0)), value group)) groups
    ∙ all_pass (λ (group : List (List ℕ)). fits (value group)) groups each)

pub numbers_fit : (low high : ℤ) (n : ℕ) (words : List (List ℕ)) → is_from_to low high (pos 0) ≡ true
    → is_by_node (is_from_to low high) n (numbers_by_node low high n words) ≡ true
numbers_fit low high n words zero_passes =
    groups_fit (is_from_to low high) (pos 0) 2 (number_value low high) n words zero_passes (λ group. whole_passes low high (word_at group 1) zero_passes)

two_fit : (group : List (List ℕ)) → (is_within most_coordinate (coordinate_at group 1) && is_within most_coordinate (coordinate_at group 2)) ≡ true
two_fit group =
    and_from (is_within most_coordinate (coordinate_at group 1)) (is_within most_coordinate (coordinate_at group 2)) (decimal_passes (word_at group 1)) (decimal_passes (word_at group 2))

pub points_fit : (n : ℕ) (words : List (List ℕ)) → is_by_node (is_point false) n (points_by_node n words) ≡ true
points_fit n words = groups_fit (is_point false) origin 3 point_in n words refl (λ group.
    and_from (is_within most_coordinate (coordinate_at group 1) && is_within most_coordinate (coordinate_at group 2)) true (two_fit group) refl)

-- the points of groups, with three coordinates each
space_points_fit : (n : ℕ) (words : List (List ℕ)) → is_by_node (is_point true) n (space_points_by_node n words) ≡ true
space_points_fit n words = groups_fit (is_point true) origin 4 space_point_in n words refl (λ group.
    and_from (is_within most_coordinate (coordinate_at group 1) && is_within most_coordinate (coordinate_at group 2))
    (is_within most_coordinate (coordinate_at group 3)) (two_fit group) (decimal_passes (word_at group 3)))

pub coords_fit : (in_space : Bool) (n : ℕ) (words : List (List ℕ))
    → is_by_node (is_point in_space) n (coords_by_node in_space n words) ≡ true
coords_fit true n words = space_points_fit n words
coords_fit false n words = points_fit n words

-- ---- nodes that are read

pub node_read : (n : ℕ) (z : ℤ) → is_from_to (pos 1) (pos n) z ≡ true → (k : ℕ) × (z ≡ pos k) × (is_node n k ≡ true)
node_read n (pos k) e = (k, refl, e)
node_read n (negsuc k) e = absurd (false≢true e)

-- a node of 1..n
pub read_node : (n : ℕ) (word : List ℕ) → result_err (node n word) ≡ None
    → (k : ℕ) × (node n word ≡ Ok (pos k)) × (is_node n k ≡ true)
read_node n word = by_result (node n word) (λ z read. whole_in_range word (pos 1) (pos n) z read)
  where
    by_result : (r : Result ℤ NumberFault) → ((z : ℤ) → r ≡ Ok z → is_from_to (pos 1) (pos n) z ≡ true) → result_err r ≡ None → (k : ℕ) × (r ≡ Ok (pos k)) × (is_node n k ≡ true)
    by_result (Ok z) each e = let found = node_read n z (each z refl) in (found.0, ap (λ y. Ok y) found.1, found.2)
    by_result (Err fault) each e = absurd cc

-- a number from -1 to n that is neither 0 nor -1
listed_node : (n : ℕ) (z : ℤ) → is_from_to (negsuc 0) (pos n) z ≡ true → int_eq z (pos 0) ≡ false → int_eq z (negsuc 0) ≡ false
    → (k : ℕ) × (z ≡ pos k) × (is_node n k ≡ true)
listed_node n (pos zero) e nonzero no_end = absurd (true≢false nonzero)
listed_node n (pos (suc k)) e nonzero no_end =
    (suc k, refl, and_from (nat_le 1 (suc k)) (nat_le (suc k) n) (le-leb 1 (suc k) (omega arith)) e)
listed_node n (negsuc zero) e nonzero no_end = absurd (true≢false no_end)
listed_node n (negsuc (suc k)) e nonzero no_end =
    absurd (omega (arith, leb-true (suc k) 0 (and_parts (int_le (negsuc 0) (negsuc (suc k))) (int_le (negsuc (suc k)) (pos n)) e).0))

by_zero : (n : ℕ) (z : ℤ) (b : Bool) → int_eq z (pos 0) ≡ b → is_from_to (negsuc 0) (pos n) z ≡ true
    → (let r : Result ℤ NumberFault = cond b (Err OutOfRange) (Ok z) in (result_err r ≡ None → reads_as (negsuc 0) r ≡ false → (k : ℕ) × (r ≡ Ok (pos k)) × (is_node n k ≡ true)))
by_zero n z true is inside = λ e no_end. absurd cc
by_zero n z false is inside = λ e no_end. let found = listed_node n z inside is no_end in (found.0, ap (λ y. Ok y) found.1, found.2)

-- a node of a list that -1 ends
pub read_listed : (n : ℕ) (word : List ℕ) → result_err (node_or_end n word) ≡ None → is_end n word ≡ false
    → (k : ℕ) × (node_or_end n word ≡ Ok (pos k)) × (is_node n k ≡ true)
read_listed n word = by_result (whole_of word (negsuc 0) (pos n)) (λ z read. whole_in_range word (negsuc 0) (pos n) z read)
  where
    by_result : (r : Result ℤ NumberFault) → ((z : ℤ) → r ≡ Ok z → is_from_to (negsuc 0) (pos n) z ≡ true)
        → result_err (not_zero r) ≡ None → reads_as (negsuc 0) (not_zero r) ≡ false → (k : ℕ) × (not_zero r ≡ Ok (pos k)) × (is_node n k ≡ true)
    by_result (Ok z) each = by_zero n z (int_eq z (pos 0)) refl (each z refl)
    by_result (Err fault) each = λ e no_end. absurd cc

pub differ : (a b : ℕ) → int_eq (pos b) (pos a) ≡ false → (a == b) ≡ false
differ a b e = ne_eqb a b (λ same. true≢false (sym ((Decides-int_eq (pos b) (pos a)).1 (ap pos (sym same))) ∙ e))

-- ---- the depots of a section without a fault: no more than may be, each a node

-- the depots that these words list are valid
abbrev AreListed : ℕ → List (List ℕ) → Type 0
AreListed n words = are_depots n (depots_in n words) ≡ true

listed_same : (n : ℕ) (words more : List (List ℕ)) → before (is_end n) more ≡ before (is_end n) words → AreListed n words
    → AreListed n more
listed_same n words more same held =
    ap (λ (ws : List (List ℕ)). are_depots n (map (λ word. nat_abs (number (node_or_end n word))) ws)) same ∙ held

-- one depot more
listed_more : (n : ℕ) (words : List (List ℕ)) (word : List ℕ) → before (is_end n) words ≡ words
    → before (is_end n) (words ++ word ∷ []) ≡ words ++ word ∷ []
    → nat_le most_depots (length words) ≡ false → is_node n (nat_abs (number (node_or_end n word))) ≡ true → AreListed n words
    → AreListed n (words ++ word ∷ [])
listed_more n words word all more room node held =
    let value : List ℕ → ℕ = λ word. nat_abs (number (node_or_end n word)) in
    let before_this : are_depots n (map value words) ≡ true = ap (λ (ws : List (List ℕ)). are_depots n (map value ws)) (sym all) ∙ held in
    ap (λ (ws : List (List ℕ)). are_depots n (map value ws)) more
    ∙ ap (are_depots n) (map_push value words word)
    ∙ few_more most_depots (is_node n) (map value words) (value word) before_this (ap (λ k. nat_le most_depots k) (length-map words value) ∙ room) node

taken : (n : ℕ) (words : List (List ℕ)) (word : List ℕ) (ended end : Bool) → list_any (is_end n) words ≡ ended
    → is_end n word ≡ end
    → word_fault n (cond ended PastEnd (DepotAfter (length words))) word ≡ None → AreListed n words
    → AreListed n (words ++ word ∷ [])
taken n words word true end e is row held = listed_same n words (words ++ word ∷ []) (before_kept (is_end n) words word e) held
taken n words word false true e is row held =
    listed_same n words (words ++ word ∷ []) (before_end (is_end n) words word is e ∙ sym (before_none (is_end n) words e)) held
taken n words word false false e is row held =
    let t = is_taken n (DepotAfter (length words)) word row in
    let found = read_listed n word t.is_read is in
    let node : is_node n (nat_abs (number (node_or_end n word))) ≡ true = ap (λ r. is_node n (nat_abs (number r))) found.1 ∙ found.2 in
    listed_more n words word (before_none (is_end n) words e) (before_push (is_end n) words word is e) (first_of_both (nat_le most_depots (length words)) (is_end n word) t.has_room is) node held

all_taken : Grows false DepotPart AreListed
all_taken = record {
  none = λ n. refl;
  more = λ b same n words word held row. taken n words word (list_any (is_end n) words) (is_end n word) refl refl row held;
  any_nodes = λ n m words tours held. absurd (false≢true tours);
}

pub depots_fit : (items : List Item) → IsClean items
    → are_depots (dimension_in items) (depots_in (dimension_in items) (words_of DepotPart items)) ≡ true
depots_fit items clean = grown DepotPart AreListed refl all_taken items clean

-- ---- the keywords of clean items are valid

-- ---- the keyword's word

known_field : (o : Option Field) (f : Field) → known_or_not o ≡ Known f → o ≡ Some f
known_field None f e = absurd cc
known_field (Some g) f e = by_case (is_other_key g) e
  where
    by_case : (b : Bool) → cond b Unknown (Known g) ≡ Known f → (let o : Option Field = Some g in o ≡ Some f)
    by_case true e = absurd cc
    by_case false e = cc

-- a keyword is that of a field by the field's word, but for the other word of fixed edges
word_known : (word : List ℕ) (f : Field) (edges format part end : Bool) → bytes_eq word (codes "FIXED_EDGES") ≡ edges
    → same_field FixedEdgesPart f ≡ false
    → cond edges (Known FixedEdgesPart) (cond format EdgeDataFormat (cond part EdgeDataSection (cond end Eof (known_or_not (field_of word))))) ≡ Known f
    → word ≡ field_word f
word_known word f true format part end is other e = absurd (true≢false (ap (is_key FixedEdgesPart) e ∙ other))
word_known word f false true part end is other e = absurd cc
word_known word f false false true end is other e = absurd cc
word_known word f false false false true is other e = absurd cc
word_known word f false false false false is other e =
    (bytes_eq-Decides word (field_word f)).0 (found_passes (λ field. bytes_eq word (field_word field)) fields_in_order f (known_field (field_of word) f e))

keyword_word : (word : List ℕ) (f : Field) → same_field FixedEdgesPart f ≡ false → keyword_of word ≡ Known f → word ≡ field_word f
keyword_word word f other e = word_known word f (bytes_eq word (codes "FIXED_EDGES")) (bytes_eq word (codes "EDGE_DATA_FORMAT"))
    (bytes_eq word (codes "EDGE_DATA_SECTION")) (bytes_eq word (codes "EOF")) refl other e

-- ---- kept values

kept : (key : Keyword) (line : WordLine) → IsCutLine key line → is_too_long_to_keep line ≡ false
    → is_kept line.keyword line.value ≡ true
kept key line cut short =
    let size : nat_le (length line.keyword + length line.value) most_kept_bytes ≡ true =
    le-leb (length line.keyword + length line.value) most_kept_bytes (ltb-false most_kept_bytes (length line.keyword + length line.value) short) in
    let front = nat_le (length line.keyword + length line.value) most_kept_bytes && list_all (λ b. not (b == 10)) line.value in
    and_from (front && not (is_blank (slice_index line.value 0))) (not (is_blank (slice_index line.value (length line.value - 1))))
    (and_from front (not (is_blank (slice_index line.value 0)))
    (and_from (nat_le (length line.keyword + length line.value) most_kept_bytes) (list_all (λ b. not (b == 10)) line.value) size cut.one_line)
    (not_from_false (is_blank (slice_index line.value 0)) cut.begins_filled))
    (not_from_false (is_blank (slice_index line.value (length line.value - 1))) cut.ends_filled)

kept_known : (f : Field) (line : WordLine) → same_field FixedEdgesPart f ≡ false → IsCutLine (Known f) line
    → is_too_long_to_keep line ≡ false → is_kept (field_word f) line.value ≡ true
kept_known f line other cut short =
    subst (λ (word : List ℕ). is_kept word line.value ≡ true) (keyword_word line.keyword f other (sym cut.of_keyword)) (kept (Known f) line cut short)

-- ---- NAME

name_line : (f : Field) (line : WordLine) (earlier : List Item) (b : Bool) → same_field NameKey f ≡ b → IsCutLine (Known f) line
    → has_bad_value earlier (Line (Known f) line) ≡ false
    → if_there (is_kept (field_word NameKey)) (value_at NameKey earlier) ≡ true
    → if_there (is_kept (field_word NameKey)) (value_at NameKey (Line (Known f) line ∷ earlier)) ≡ true
name_line f line earlier false e cut good before = rw e before
name_line f line earlier true e cut good before =
    let same = sym (same_field_is NameKey f e) in
    let here : IsCutLine (Known NameKey) line = subst (λ (g : Field). IsCutLine (Known g) line) same cut in
    let short : is_too_long_to_keep line ≡ false = subst (λ (g : Field). has_bad_value earlier (Line (Known g) line) ≡ false) same good in
    rw e (kept_known NameKey line refl here short)

pub name_fits : (items : List Item) → AreCut items → IsClean items
    → if_there (is_kept (field_word NameKey)) (value_at NameKey items) ≡ true
name_fits [] cut clean = refl
name_fits (NumberWord word ∷ earlier) cut clean = name_fits earlier cut.1 (clean_parts earlier (NumberWord word) clean).0
name_fits (LineEnd ∷ earlier) cut clean = name_fits earlier cut.1 (clean_parts earlier LineEnd clean).0
name_fits (Line (Known f) line ∷ earlier) cut clean =
    let parts = clean_parts earlier (Line (Known f) line) clean in
    name_line f line earlier (same_field NameKey f) refl cut.0 (no_row earlier (Line (Known f) line) parts.1).good_value (name_fits earlier cut.1 parts.0)
name_fits (Line EdgeDataFormat line ∷ earlier) cut clean =
    name_fits earlier cut.1 (clean_parts earlier (Line EdgeDataFormat line) clean).0
name_fits (Line EdgeDataSection line ∷ earlier) cut clean =
    name_fits earlier cut.1 (clean_parts earlier (Line EdgeDataSection line) clean).0
name_fits (Line Eof line ∷ earlier) cut clean = name_fits earlier cut.1 (clean_parts earlier (Line Eof line) clean).0
name_fits (Line Unknown line ∷ earlier) cut clean = name_fits earlier cut.1 (clean_parts earlier (Line Unknown line) clean).0

-- ---- COMMENT

comment_line : (f : Field) (line : WordLine) (earlier : List Item) (b : Bool) → same_field CommentKey f ≡ b
    → IsCutLine (Known f) line → row_of earlier (Line (Known f) line) ≡ None
    → are_comments (values_at CommentKey earlier) ≡ true
    → are_comments (values_at CommentKey (Line (Known f) line ∷ earlier)) ≡ true
comment_line f line earlier false e cut row before = rw e before
comment_line f line earlier true e cut row before =
    let same = sym (same_field_is CommentKey f e) in
    let here : IsCutLine (Known CommentKey) line = subst (λ (g : Field). IsCutLine (Known g) line) same cut in
    let rows = no_row earlier (Line (Known CommentKey) line) (subst (λ (g : Field). row_of earlier (Line (Known g) line) ≡ None) same row) in
    rw e (few_more most_comments (is_kept (field_word CommentKey)) (values_at CommentKey earlier) line.value before rows.has_room (kept_known CommentKey line refl here rows.good_value))

pub comments_fit : (items : List Item) → AreCut items → IsClean items → are_comments (values_at CommentKey items) ≡ true
comments_fit [] cut clean = refl
comments_fit (NumberWord word ∷ earlier) cut clean = comments_fit earlier cut.1 (clean_parts earlier (NumberWord word) clean).0
comments_fit (LineEnd ∷ earlier) cut clean = comments_fit earlier cut.1 (clean_parts earlier LineEnd clean).0
comments_fit (Line (Known f) line ∷ earlier) cut clean =
    let parts = clean_parts earlier (Line (Known f) line) clean in
    comment_line f line earlier (same_field CommentKey f) refl cut.0 parts.1 (comments_fit earlier cut.1 parts.0)
comments_fit (Line EdgeDataFormat line ∷ earlier) cut clean =
    comments_fit earlier cut.1 (clean_parts earlier (Line EdgeDataFormat line) clean).0
comments_fit (Line EdgeDataSection line ∷ earlier) cut clean =
    comments_fit earlier cut.1 (clean_parts earlier (Line EdgeDataSection line) clean).0
comments_fit (Line Eof line ∷ earlier) cut clean = comments_fit earlier cut.1 (clean_parts earlier (Line Eof line) clean).0
comments_fit (Line Unknown line ∷ earlier) cut clean =
    comments_fit earlier cut.1 (clean_parts earlier (Line Unknown line) clean).0

-- ---- unknown keywords

other_line : (line : WordLine) (earlier : List Item) → IsCutLine Unknown line → row_of earlier (Line Unknown line) ≡ None
    → are_others (others_in earlier) ≡ true
    → are_others (others_in (Line Unknown line ∷ earlier)) ≡ true
other_line line earlier cut row before =
    let rows = no_row earlier (Line Unknown line) row in
    let keyword : is_unknown_keyword line.keyword ≡ true =
    and_from (is_letter (slice_index line.keyword 0) && list_all is_keyword_byte line.keyword) (is_unknown (keyword_of line.keyword))
    (and_from (is_letter (slice_index line.keyword 0)) (list_all is_keyword_byte line.keyword) cut.letter_first cut.keyword_bytes) (ap is_unknown (sym cut.of_keyword)) in
    few_more most_others is_other (others_in earlier) (line.keyword, line.value) before rows.has_room
    (and_from (is_unknown_keyword line.keyword) (is_kept line.keyword line.value) keyword (kept Unknown line cut rows.good_value))

pub others_fit : (items : List Item) → AreCut items → IsClean items → are_others (others_in items) ≡ true
others_fit [] cut clean = refl
others_fit (NumberWord word ∷ earlier) cut clean = others_fit earlier cut.1 (clean_parts earlier (NumberWord word) clean).0
others_fit (LineEnd ∷ earlier) cut clean = others_fit earlier cut.1 (clean_parts earlier LineEnd clean).0
others_fit (Line (Known f) line ∷ earlier) cut clean =
    others_fit earlier cut.1 (clean_parts earlier (Line (Known f) line) clean).0
others_fit (Line EdgeDataFormat line ∷ earlier) cut clean =
    others_fit earlier cut.1 (clean_parts earlier (Line EdgeDataFormat line) clean).0
others_fit (Line EdgeDataSection line ∷ earlier) cut clean =
    others_fit earlier cut.1 (clean_parts earlier (Line EdgeDataSection line) clean).0
others_fit (Line Eof line ∷ earlier) cut clean = others_fit earlier cut.1 (clean_parts earlier (Line Eof line) clean).0
others_fit (Line Unknown line ∷ earlier) cut clean =
    let parts = clean_parts earlier (Line Unknown line) clean in
    other_line line earlier cut.0 parts.1 (others_fit earlier cut.1 parts.0)

-- ---- numbers

read_fits : (low high : ℤ) (r : Result ℤ NumberFault) → ((z : ℤ) → r ≡ Ok z → is_from_to low high z ≡ true)
    → if_there (is_from_to low high) (result_ok r) ≡ true
read_fits low high (Ok z) each = each z refl
read_fits low high (Err fault) each = refl

number_fits : (low high : ℤ) (o : Option (List ℕ))
    → if_there (is_from_to low high) (option_and_then (λ value. result_ok (whole_of (first_word value) low high)) o) ≡ true
number_fits low high None = refl
number_fits low high (Some value) =
    read_fits low high (whole_of (first_word value) low high) (λ z e. whole_in_range (first_word value) low high z e)

pub capacity_fits : (items : List Item) → if_there (is_from_to (pos 1) (pos most_capacity)) (number_at CapacityKey items) ≡ true
capacity_fits items = number_fits (pos 1) (pos most_capacity) (value_at CapacityKey items)

pub scale_fits : (items : List Item) → if_there (is_from_to (pos 1) (pos most_scale)) (number_at ScaleKey items) ≡ true
scale_fits items = number_fits (pos 1) (pos most_scale) (value_at ScaleKey items)

pub load_unit_fits : (items : List Item) → if_there (is_from_to (pos 1) (pos most_load_unit)) (number_at LoadUnitKey items) ≡ true
load_unit_fits items = number_fits (pos 1) (pos most_load_unit) (value_at LoadUnitKey items)

nodes_fit : (o : Option ℤ) → if_there (is_from_to (pos 1) (pos most_nodes)) o ≡ true
    → if_there (is_node most_nodes) (option_map nat_abs o) ≡ true
nodes_fit None e = refl
nodes_fit (Some z) e = let found = node_read most_nodes z e in ap (λ y. is_node most_nodes (nat_abs y)) found.1 ∙ found.2

pub dimension_fits : (items : List Item) → if_there (is_node most_nodes) (dimension_of items) ≡ true
dimension_fits items =
    nodes_fit (number_at DimensionKey items) (number_fits (pos 1) (pos most_nodes) (value_at DimensionKey items))
