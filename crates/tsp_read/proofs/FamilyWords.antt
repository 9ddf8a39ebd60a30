-- The words in which families are written, up to the -1 that ends the section (`families_words`), are read back as the
-- families. Part of the proof of the law `canonical_texts_are_read_back`.
use Rattle.tsp_read.proofs.Prelude.{◌≡◌, ℕ, suc, ◌+◌, ◌^◌, ◌<◌, ◌≤◌, Bool, true, false, cond, List, [], ◌∷◌, ◌++◌, length, map, refl, sym, ap, subst, ◌∙◌, append_assoc, append-nil, arith, None, Result, and_parts, and_left, and_right, leb-true, not_from_true, false≢true, and_from, length-append, list_all-append, sum_by-cons, decimal, signed_decimal, list_all, flat_map, sum_by, ℤ, not, ◌&&◌, ◌||◌, nat_le, nat_abs, codes, result_err, NumberFault, most_families, most_family_nodes, most_rows, most_branches, most_changes, most_difference, Step, Branch, Leaf, are_whole, branch_count, change_count, within_abs, line_end, number_line, before_blank, ended_line, set_line, family_lines, family_list, change_words, step_line, case_tree_lines, is_node, is_set_of, are_sets, are_family_lists, is_within, is_change, is_step, are_tree_steps, word_fault, is_past_families, FamiliesSoFar, no_families, with_node, with_end, with_family_word, whole_families, place_in_families, place_of_family, is_not_empty, number, node_or_end, is_end, SetNode, wants_more}
use Rattle.tsp_read.proofs.NumbersReadBack.{NumberLaws, listed_back, node_goes_on, end_read, end_ends, no_rows, has_room, signed_plain, are_branch}
use Rattle.tsp_read.proofs.Onto.{AllTaken, Runs, runs_none, runs_one, runs_then, all_taken}
use Rattle.tsp_read.proofs.Text.{is_plain_word, WritesWords, number_line_written}
use Rattle.tsp_read.proofs.TreeWords.{step_words}
use Rattle.tsp_read.proofs.Words.{node_plain, end_written, lines_written, list_written}

-- ---- the words of the lines

abbrev pub set_words : List ℕ → List (List ℕ)
set_words set = map decimal set ++ codes "-1" ∷ []

abbrev pub family_words : List (List ℕ) → List (List ℕ)
family_words family = flat_map set_words family ++ codes "-1" ∷ []

-- all families, and the -1 that ends the section
abbrev pub families_words : List (List (List ℕ)) → List (List ℕ)
families_words families = flat_map family_words families ++ codes "-1" ∷ []

-- ---- one word

-- before the end of the section
abbrev so_far : List (List (List ℕ)) → List (List ℕ) → List ℕ → ℕ → FamiliesSoFar
so_far families sets nodes count = record { families = families; sets = sets; nodes = nodes; count = count; ended = false }

abbrev FamilyRuns : ℕ → FamiliesSoFar → List (List ℕ) → FamiliesSoFar → Type 0
FamilyRuns n start words last = Runs n (with_family_word n) place_in_families start words last

onward : (n : ℕ) (start middle last : FamiliesSoFar) (xs ys : List (List ℕ)) → FamilyRuns n start xs middle → FamilyRuns n middle ys last
    → FamilyRuns n start (xs ++ ys) last
onward n start middle last xs ys first second = runs_then n (with_family_word n) place_in_families start middle last xs ys first second

-- a family within the limit has its nodes within theirs
room_there : (begun : Bool) (families count : ℕ) → nat_le most_family_nodes count ≡ false → nat_le most_families families ≡ false
    → is_past_families begun families count ≡ false
room_there begun families count nodes few = rw (nodes, few) (and_right (not begun) false refl)

pub node_taken : NumberLaws → (n : ℕ) → n < 2 ^ 32 → (begun : Bool) (families count k : ℕ) → nat_le most_family_nodes count ≡ false
    → nat_le most_families families ≡ false → is_node n k ≡ true
    → word_fault n (SetNode begun families count) (decimal k) ≡ None
node_taken laws n few begun families count k nodes room is =
    no_rows (result_err (node_or_end n (decimal k))) false false (is_past_families begun families count && not (is_end n (decimal k))) false
    (ap (λ (r : Result ℤ NumberFault). result_err r) (listed_back laws n k few is)) refl refl
    (and_left (is_past_families begun families count) (not (is_end n (decimal k))) (room_there begun families count nodes room)) refl

pub end_taken : NumberLaws → (n : ℕ) (begun : Bool) (families count : ℕ) → word_fault n (SetNode begun families count) (codes "-1") ≡ None
end_taken laws n begun families count =
    no_rows (result_err (node_or_end n (codes "-1"))) false false (is_past_families begun families count && not (is_end n (codes "-1"))) false
    (ap (λ (r : Result ℤ NumberFault). result_err r) (end_read laws n)) refl refl
    (and_right (is_past_families begun families count) (not (is_end n (codes "-1"))) (not_from_true (is_end n (codes "-1")) (end_ends laws n))) refl

node_runs : NumberLaws → (n : ℕ) → n < 2 ^ 32
    → (families : List (List (List ℕ))) (sets : List (List ℕ)) (nodes : List ℕ) (count k : ℕ) → nat_le most_family_nodes count ≡ false
    → nat_le most_families (length families) ≡ false → is_node n k ≡ true
    → FamilyRuns n (so_far families sets nodes count) (decimal k ∷ []) (so_far families sets (nodes ++ k ∷ []) (count + 1))
node_runs laws n few families sets nodes count k room begins is =
    let start = so_far families sets nodes count in
    runs_one n (with_family_word n) place_in_families start (decimal k) (so_far families sets (nodes ++ k ∷ []) (count + 1))
    (node_taken laws n few (is_not_empty nodes || is_not_empty sets) (length families) count k room begins is)
    (ap (λ b. cond b (with_end start) (with_node start (nat_abs (number (node_or_end n (decimal k)))))) (node_goes_on laws n k few is)
    ∙ ap (λ (r : Result ℤ NumberFault). with_node start (nat_abs (number r))) (listed_back laws n k few is))

-- a -1 anywhere
end_runs : NumberLaws → (n : ℕ) (families : List (List (List ℕ))) (sets : List (List ℕ)) (nodes : List ℕ) (count : ℕ)
    → FamilyRuns n (so_far families sets nodes count) (codes "-1" ∷ []) (with_end (so_far families sets nodes count))
end_runs laws n families sets nodes count =
    let start = so_far families sets nodes count in
    runs_one n (with_family_word n) place_in_families start (codes "-1") (with_end start) (end_taken laws n (is_not_empty nodes || is_not_empty sets) (length families) count)
    (ap (λ b. cond b (with_end start) (with_node start (nat_abs (number (node_or_end n (codes "-1")))))) (end_ends laws n))

-- ---- a set

nodes_run : NumberLaws → (n : ℕ) → n < 2 ^ 32
    → (families : List (List (List ℕ))) (sets : List (List ℕ)) (nodes set : List ℕ) (count : ℕ)
    → count + length set ≤ most_family_nodes
    → nat_le most_families (length families) ≡ false → list_all (is_node n) set ≡ true
    → FamilyRuns n (so_far families sets nodes count) (map decimal set) (so_far families sets (nodes ++ set) (count + length set))
nodes_run laws n few families sets nodes [] count room begins all =
    let start = so_far families sets nodes count in
    let whole : start ≡ so_far families sets (nodes ++ []) (count + 0) =
    ap (λ (ns : List ℕ). so_far families sets ns count) (sym (append-nil nodes)) ∙ ap (λ c. so_far families sets (nodes ++ []) c) (let e : count ≡ count + 0 = omega arith in e) in
    subst (λ (s : FamiliesSoFar). FamilyRuns n start [] s) whole (runs_none n (with_family_word n) place_in_families start)
nodes_run laws n few families sets nodes (k ∷ set) count room begins all =
    let both = and_parts (is_node n k) (list_all (is_node n) set) all in
    let start = so_far families sets nodes count in
    let middle = so_far families sets (nodes ++ k ∷ []) (count + 1) in
    let last = so_far families sets ((nodes ++ k ∷ []) ++ set) (count + 1 + length set) in
    let whole : last ≡ so_far families sets (nodes ++ k ∷ set) (count + suc (length set)) =
    ap (λ (ns : List ℕ). so_far families sets ns (count + 1 + length set)) (append_assoc nodes (k ∷ []) set)
    ∙ ap (λ c. so_far families sets (nodes ++ k ∷ set) c) (let e : count + 1 + length set ≡ count + suc (length set) = omega arith in e) in
    subst (λ (s : FamiliesSoFar). FamilyRuns n start (decimal k ∷ map decimal set) s) whole
    (onward n start middle last (decimal k ∷ []) (map decimal set) (node_runs laws n few families sets nodes count k (has_room most_family_nodes count (length set) room) begins both.0)
    (nodes_run laws n few families sets (nodes ++ k ∷ []) set (count + 1) (omega arith) begins both.1))

pub filled : {A : Type 0} (xs : List A) → nat_le 1 (length xs) ≡ true → is_not_empty xs ≡ true
filled [] some = absurd (false≢true some)
filled (x ∷ xs) some = refl

set_runs : NumberLaws → (n : ℕ) → n < 2 ^ 32 → (families : List (List (List ℕ))) (sets : List (List ℕ)) (set : List ℕ) (count : ℕ)
    → count + length set ≤ most_family_nodes
    → nat_le most_families (length families) ≡ false → is_set_of n set ≡ true
    → FamilyRuns n (so_far families sets [] count) (set_words set) (so_far families (sets ++ set ∷ []) [] (count + length set))
set_runs laws n few families sets set count room begins fits =
    let both = and_parts (nat_le 1 (length set)) (list_all (is_node n) set) fits in
    let middle = so_far families sets set (count + length set) in
    let ended : with_end middle ≡ so_far families (sets ++ set ∷ []) [] (count + length set) = rw (filled set both.0) refl in
    subst (λ (s : FamiliesSoFar). FamilyRuns n (so_far families sets [] count) (set_words set) s) ended
    (onward n (so_far families sets [] count) middle (with_end middle) (map decimal set) (codes "-1" ∷ []) (nodes_run laws n few families sets [] set count room begins both.1)
    (end_runs laws n families sets set (count + length set)))

-- ---- a family

sets_run : NumberLaws → (n : ℕ) → n < 2 ^ 32 → (families : List (List (List ℕ))) (before sets : List (List ℕ)) (count : ℕ)
    → count + sum_by length sets ≤ most_family_nodes
    → nat_le most_families (length families) ≡ false → list_all (is_set_of n) sets ≡ true
    → FamilyRuns n (so_far families before [] count) (flat_map set_words sets) (so_far families (before ++ sets) [] (count + sum_by length sets))
sets_run laws n few families before [] count room begins all =
    let start = so_far families before [] count in
    let whole : start ≡ so_far families (before ++ []) [] (count + 0) =
    ap (λ (ss : List (List ℕ)). so_far families ss [] count) (sym (append-nil before)) ∙ ap (λ c. so_far families (before ++ []) [] c) (let e : count ≡ count + 0 = omega arith in e) in
    subst (λ (s : FamiliesSoFar). FamilyRuns n start [] s) whole (runs_none n (with_family_word n) place_in_families start)
sets_run laws n few families before (set ∷ sets) count room begins all =
    let both = and_parts (is_set_of n set) (list_all (is_set_of n) sets) all in
    let sum : sum_by length (set ∷ sets) ≡ length set + sum_by length sets = sum_by-cons (λ (s : List ℕ). length s) set sets in
    let start = so_far families before [] count in
    let middle = so_far families (before ++ set ∷ []) [] (count + length set) in
    let last = so_far families ((before ++ set ∷ []) ++ sets) [] (count + length set + sum_by length sets) in
    let whole : last ≡ so_far families (before ++ set ∷ sets) [] (count + sum_by length (set ∷ sets)) =
    ap (λ (ss : List (List ℕ)). so_far families ss [] (count + length set + sum_by length sets)) (append_assoc before (set ∷ []) sets)
    ∙ ap (λ c. so_far families (before ++ set ∷ sets) [] c) (let e : count + length set + sum_by length sets ≡ count + sum_by length (set ∷ sets) = omega (arith, sum) in e) in
    subst (λ (s : FamiliesSoFar). FamilyRuns n start (flat_map set_words (set ∷ sets)) s) whole
    (onward n start middle last (set_words set) (flat_map set_words sets) (set_runs laws n few families before set count (omega (arith, sum)) begins both.0)
    (sets_run laws n few families (before ++ set ∷ []) sets (count + length set) (omega (arith, sum)) begins both.1))

family_runs : NumberLaws → (n : ℕ) → n < 2 ^ 32 → (families : List (List (List ℕ))) (family : List (List ℕ)) (count : ℕ)
    → count + sum_by length family ≤ most_family_nodes
    → nat_le most_families (length families) ≡ false → are_sets n family ≡ true
    → FamilyRuns n (so_far families [] [] count) (family_words family) (so_far (families ++ family ∷ []) [] [] (count + sum_by length family))
family_runs laws n few families family count room begins fits =
    let both = and_parts (nat_le 1 (length family)) (list_all (is_set_of n) family) fits in
    let middle = so_far families family [] (count + sum_by length family) in
    let ended : with_end middle ≡ so_far (families ++ family ∷ []) [] [] (count + sum_by length family) = rw (filled family both.0) refl in
    subst (λ (s : FamiliesSoFar). FamilyRuns n (so_far families [] [] count) (family_words family) s) ended
    (onward n (so_far families [] [] count) middle (with_end middle) (flat_map set_words family) (codes "-1" ∷ []) (sets_run laws n few families [] family count room begins both.1)
    (end_runs laws n families family [] (count + sum_by length family)))

-- ---- all families

each_family_runs : NumberLaws → (n : ℕ) → n < 2 ^ 32 → (before families : List (List (List ℕ))) (count : ℕ)
    → count + sum_by (sum_by length) families ≤ most_family_nodes
    → length before + length families ≤ most_families → list_all (are_sets n) families ≡ true
    → FamilyRuns n (so_far before [] [] count) (flat_map family_words families) (so_far (before ++ families) [] [] (count + sum_by (sum_by length) families))
each_family_runs laws n few before [] count room begins all =
    let start = so_far before [] [] count in
    let whole : start ≡ so_far (before ++ []) [] [] (count + 0) =
    ap (λ (cs : List (List (List ℕ))). so_far cs [] [] count) (sym (append-nil before)) ∙ ap (λ c. so_far (before ++ []) [] [] c) (let e : count ≡ count + 0 = omega arith in e) in
    subst (λ (s : FamiliesSoFar). FamilyRuns n start [] s) whole (runs_none n (with_family_word n) place_in_families start)
each_family_runs laws n few before (family ∷ families) count room begins all =
    let both = and_parts (are_sets n family) (list_all (are_sets n) families) all in
    let sum : sum_by (sum_by length) (family ∷ families) ≡ sum_by length family + sum_by (sum_by length) families = sum_by-cons (λ (c : List (List ℕ)). sum_by length c) family families in
    let start = so_far before [] [] count in
    let middle = so_far (before ++ family ∷ []) [] [] (count + sum_by length family) in
    let last = so_far ((before ++ family ∷ []) ++ families) [] [] (count + sum_by length family + sum_by (sum_by length) families) in
    let whole : last ≡ so_far (before ++ family ∷ families) [] [] (count + sum_by (sum_by length) (family ∷ families)) =
    ap (λ (cs : List (List (List ℕ))). so_far cs [] [] (count + sum_by length family + sum_by (sum_by length) families)) (append_assoc before (family ∷ []) families)
    ∙ ap (λ c. so_far (before ++ family ∷ families) [] [] c)
    (let e : count + sum_by length family + sum_by (sum_by length) families ≡ count + sum_by (sum_by length) (family ∷ families) = omega (arith, sum) in e) in
    subst (λ (s : FamiliesSoFar). FamilyRuns n start (flat_map family_words (family ∷ families)) s) whole
    (onward n start middle last (family_words family) (flat_map family_words families)
    (family_runs laws n few before family count (omega (arith, sum)) (has_room most_families (length before) (length families) begins) both.0)
    (each_family_runs laws n few (before ++ family ∷ []) families (count + sum_by length family) (omega (arith, sum)) (omega (arith, length-append before (family ∷ []))) both.1))

-- the contents after all words
abbrev all_of : List (List (List ℕ)) → FamiliesSoFar
all_of families = with_end (so_far families [] [] (0 + sum_by (sum_by length) families))

all_run : NumberLaws → (n : ℕ) → n < 2 ^ 32 → (families : List (List (List ℕ))) → are_family_lists n families ≡ true
    → FamilyRuns n no_families (families_words families) (all_of families)
all_run laws n few families fits =
    let two = and_parts (nat_le (length families) most_families && list_all (are_sets n) families) (nat_le (sum_by (sum_by length) families) most_family_nodes) fits in
    let one = and_parts (nat_le (length families) most_families) (list_all (are_sets n) families) two.0 in
    let middle = so_far families [] [] (0 + sum_by (sum_by length) families) in
    onward n no_families middle (with_end middle) (flat_map family_words families) (codes "-1" ∷ [])
    (each_family_runs laws n few [] families 0 (omega (arith, leb-true (sum_by (sum_by length) families) most_family_nodes two.1)) (omega (arith, leb-true (length families) most_families one.0)) one.1)
    (end_runs laws n families [] [] (0 + sum_by (sum_by length) families))

pub families_taken : NumberLaws → (n : ℕ) → n < 2 ^ 32 → (families : List (List (List ℕ))) → are_family_lists n families ≡ true
    → AllTaken n (place_of_family n) [] (families_words families)
families_taken laws n few families fits =
    all_taken n (with_family_word n) place_in_families no_families [] (families_words families) (all_run laws n few families fits).taken

pub families_back : NumberLaws → (n : ℕ) → n < 2 ^ 32 → (families : List (List (List ℕ))) → are_family_lists n families ≡ true
    → whole_families n (families_words families) ≡ families
families_back laws n few families fits = ap (λ (s : FamiliesSoFar). s.families) (all_run laws n few families fits).gives

pub families_done : NumberLaws → (n : ℕ) → n < 2 ^ 32 → (families : List (List (List ℕ))) → are_family_lists n families ≡ true
    → wants_more (place_of_family n (families_words families)) ≡ false
families_done laws n few families fits = ap (λ (s : FamiliesSoFar). wants_more (place_in_families s)) (all_run laws n few families fits).gives

-- ---- the lines of families and of the steps of a tree as they are written, and their words

-- ---- a line that -1 ends

abbrev ending : List ℕ
ending = codes "-1" ++ line_end

abbrev after_blanks : List (List ℕ) → List ℕ
after_blanks words = flat_map (λ word. 32 ∷ word) words

-- a blank after each word but the last is one before each but the first
moved_blanks : (words : List (List ℕ))
    → 32 ∷ (flat_map before_blank words ++ ending) ≡ after_blanks (words ++ codes "-1" ∷ []) ++ line_end
moved_blanks [] = refl
moved_blanks (word ∷ words) =
    let front = flat_map before_blank words in
    let later = after_blanks (words ++ codes "-1" ∷ []) in
    ap (λ (t : List ℕ). 32 ∷ t)
    (append_assoc (before_blank word) front ending ∙ append_assoc word (32 ∷ []) (front ++ ending) ∙ ap (λ (t : List ℕ). word ++ t) (moved_blanks words) ∙ sym (append_assoc word later line_end))

same_line : (first : List ℕ) (more : List (List ℕ)) → ended_line (first ∷ more) ≡ number_line first (more ++ codes "-1" ∷ [])
same_line first more =
    let front = flat_map before_blank more in
    append_assoc (before_blank first) front ending ∙ append_assoc first (32 ∷ []) (front ++ ending) ∙ ap (λ (t : List ℕ). first ++ t) (moved_blanks more)

pub ended_written : (words : List (List ℕ)) → list_all is_plain_word words ≡ true
    → WritesWords (ended_line words) (words ++ codes "-1" ∷ [])
ended_written [] all = end_written
ended_written (first ∷ more) all =
    let both = and_parts (is_plain_word first) (list_all is_plain_word more) all in
    let last : list_all is_plain_word (more ++ codes "-1" ∷ []) ≡ true =
    list_all-append is_plain_word more (codes "-1" ∷ []) ∙ and_from (list_all is_plain_word more) (list_all is_plain_word (codes "-1" ∷ [])) both.1 refl in
    subst (λ (t : List ℕ). WritesWords t (first ∷ (more ++ codes "-1" ∷ []))) (sym (same_line first more)) (number_line_written first (more ++ codes "-1" ∷ []) both.0 last)

-- ---- families

pub nodes_plain : (n : ℕ) → n < 2 ^ 32 → (nodes : List ℕ) → list_all (is_node n) nodes ≡ true
    → list_all is_plain_word (map decimal nodes) ≡ true
nodes_plain n few [] all = refl
nodes_plain n few (k ∷ nodes) all =
    let both = and_parts (is_node n k) (list_all (is_node n) nodes) all in
    and_from (is_plain_word (decimal k)) (list_all is_plain_word (map decimal nodes)) (node_plain n k few both.0) (nodes_plain n few nodes both.1)

pub set_written : (n : ℕ) → n < 2 ^ 32 → (set : List ℕ) → is_set_of n set ≡ true → WritesWords (set_line set) (set_words set)
set_written n few set fits =
    ended_written (map decimal set) (nodes_plain n few set (and_parts (nat_le 1 (length set)) (list_all (is_node n) set) fits).1)

family_written : (n : ℕ) → n < 2 ^ 32 → (family : List (List ℕ)) → are_sets n family ≡ true
    → WritesWords (family_lines family) (family_words family)
family_written n few family fits =
    list_written (is_set_of n) set_line set_words (set_written n few) family (and_parts (nat_le 1 (length family)) (list_all (is_set_of n) family) fits).1

pub families_written : (n : ℕ) → n < 2 ^ 32 → (families : List (List (List ℕ))) → are_family_lists n families ≡ true
    → WritesWords (family_list families) (families_words families)
families_written n few families fits =
    let two = and_parts (nat_le (length families) most_families && list_all (are_sets n) families) (nat_le (sum_by (sum_by length) families) most_family_nodes) fits in
    let one = and_parts (nat_le (length families) most_families) (list_all (are_sets n) families) two.0 in
    list_written (are_sets n) family_lines family_words (family_written n few) families one.1

-- ---- steps

changes_plain : (n : ℕ) → n + most_families + most_rows < 2 ^ 32 → (changes : List (ℕ × ℤ)) → list_all (is_change n) changes ≡ true
    → list_all is_plain_word (flat_map change_words changes) ≡ true
changes_plain n few [] all = refl
changes_plain n few (change ∷ changes) all =
    let both = and_parts (is_change n change) (list_all (is_change n) changes) all in
    let parts = and_parts (is_node (n + most_families + most_rows) change.0) (is_within most_difference change.1) both.0 in
    let small = within_abs most_difference change.1 parts.1 in
    let index = decimal change.0 in
    let difference = signed_decimal change.1 in
    let more = flat_map change_words changes in
    and_from (is_plain_word index) (list_all is_plain_word (difference ∷ more)) (node_plain (n + most_families + most_rows) change.0 few parts.0)
    (and_from (is_plain_word difference) (list_all is_plain_word more) (signed_plain change.1 (omega (arith, small))) (changes_plain n few changes both.1))

step_written : (n : ℕ) → n + most_families + most_rows < 2 ^ 32 → (step : Step) → is_step n step ≡ true
    → WritesWords (step_line step) (step_words step)
step_written n few (Branch a b) fits =
    let are = are_branch n (a, b) fits in
    number_line_written (decimal a) (decimal b ∷ []) (node_plain (n + most_families) a (omega (arith, few)) are.first)
    (and_from (is_plain_word (decimal b)) true (node_plain n b (omega (arith, few)) are.second) refl)
step_written n few (Leaf changes) fits =
    let words = flat_map change_words changes in
    ended_written (codes "0" ∷ words) (and_from (is_plain_word (codes "0")) (list_all is_plain_word words) refl (changes_plain n few changes fits))

pub steps_written : (n : ℕ) → n + most_families + most_rows < 2 ^ 32 → (steps : List Step) → are_tree_steps n steps ≡ true
    → WritesWords (case_tree_lines steps) (flat_map step_words steps)
steps_written n few steps fits =
    let each = list_all (is_step n) steps in
    let branches = nat_le (branch_count steps) most_branches in
    let changes = nat_le (change_count steps) most_changes in
    let three = and_parts (each && branches && changes) (are_whole 1 steps) fits in
    let two = and_parts (each && branches) changes three.0 in
    lines_written (is_step n) step_line step_words (step_written n few) steps (and_parts each branches two.0).0
