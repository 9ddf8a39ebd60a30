-- The words in which memories and subset rows are written are read back as the lists (`memories_back`) and the rows
-- (`rows_back`). Part of the proof of the law `canonical_texts_are_read_back`.
use Rattle.tsp_read.proofs.Prelude.{◌≡◌, ℕ, suc, ◌+◌, ◌^◌, ◌<◌, ◌≤◌, Bool, true, false, cond, List, [], ◌∷◌, ◌++◌, length, map, refl, sym, ap, subst, ◌∙◌, append_assoc, append-nil, arith, Result, and_parts, leb-true, length-append, sum_by-cons, decimal, list_all, flat_map, sum_by, ℤ, ◌&&◌, ◌||◌, nat_le, nat_abs, codes, NumberFault, most_rows, most_family_nodes, SubsetRow, row_size, set_line, family_lines, row_lines, row_list, is_node, is_set_of, are_memory_lists, is_row_of, are_subset_rows, MemoriesSoFar, no_memories, with_memory_node, with_list_end, with_memory_word, whole_memories, place_in_memories, place_of_memory, RowsSoFar, no_subset_rows, row_with, with_row_node, with_row_end, with_row_word, whole_rows, place_in_rows, place_of_row, is_not_empty, number, node_or_end, wants_more}
use Rattle.tsp_read.proofs.FamilyWords.{set_words, family_words, node_taken, end_taken, filled, nodes_plain, ended_written, set_written}
use Rattle.tsp_read.proofs.NumbersReadBack.{NumberLaws, listed_back, node_goes_on, end_ends, has_room}
use Rattle.tsp_read.proofs.Onto.{AllTaken, Runs, runs_none, runs_one, runs_then, all_taken}
use Rattle.tsp_read.proofs.Text.{WritesWords, both_words}
use Rattle.tsp_read.proofs.Words.{list_written}

-- ---- memories

-- before the end of the section
abbrev lists_far : List (List ℕ) → List ℕ → ℕ → MemoriesSoFar
lists_far lists nodes count = record { lists = lists; nodes = nodes; count = count; ended = false }

abbrev ListRuns : ℕ → MemoriesSoFar → List (List ℕ) → MemoriesSoFar → Type 0
ListRuns n start words last = Runs n (with_memory_word n) place_in_memories start words last

onward : (n : ℕ) (start middle last : MemoriesSoFar) (xs ys : List (List ℕ)) → ListRuns n start xs middle → ListRuns n middle ys last
    → ListRuns n start (xs ++ ys) last
onward n start middle last xs ys first second = runs_then n (with_memory_word n) place_in_memories start middle last xs ys first second

node_runs : NumberLaws → (n : ℕ) → n < 2 ^ 32 → (lists : List (List ℕ)) (nodes : List ℕ) (count k : ℕ)
    → nat_le most_family_nodes count ≡ false → is_node n k ≡ true
    → ListRuns n (lists_far lists nodes count) (decimal k ∷ []) (lists_far lists (nodes ++ k ∷ []) (count + 1))
node_runs laws n few lists nodes count k room is =
    let start = lists_far lists nodes count in
    runs_one n (with_memory_word n) place_in_memories start (decimal k) (lists_far lists (nodes ++ k ∷ []) (count + 1))
    (node_taken laws n few (is_not_empty nodes) 0 count k room refl is)
    (ap (λ b. cond b (with_list_end start) (with_memory_node start (nat_abs (number (node_or_end n (decimal k)))))) (node_goes_on laws n k few is)
    ∙ ap (λ (r : Result ℤ NumberFault). with_memory_node start (nat_abs (number r))) (listed_back laws n k few is))

-- a -1 anywhere
end_runs : NumberLaws → (n : ℕ) (lists : List (List ℕ)) (nodes : List ℕ) (count : ℕ)
    → ListRuns n (lists_far lists nodes count) (codes "-1" ∷ []) (with_list_end (lists_far lists nodes count))
end_runs laws n lists nodes count =
    let start = lists_far lists nodes count in
    runs_one n (with_memory_word n) place_in_memories start (codes "-1") (with_list_end start) (end_taken laws n (is_not_empty nodes) 0 count)
    (ap (λ b. cond b (with_list_end start) (with_memory_node start (nat_abs (number (node_or_end n (codes "-1")))))) (end_ends laws n))

nodes_run : NumberLaws → (n : ℕ) → n < 2 ^ 32 → (lists : List (List ℕ)) (nodes list : List ℕ) (count : ℕ)
    → count + length list ≤ most_family_nodes → list_all (is_node n) list ≡ true
    → ListRuns n (lists_far lists nodes count) (map decimal list) (lists_far lists (nodes ++ list) (count + length list))
nodes_run laws n few lists nodes [] count room all =
    let start = lists_far lists nodes count in
    let whole : start ≡ lists_far lists (nodes ++ []) (count + 0) =
    ap (λ (ns : List ℕ). lists_far lists ns count) (sym (append-nil nodes)) ∙ ap (λ c. lists_far lists (nodes ++ []) c) (let e : count ≡ count + 0 = omega arith in e) in
    subst (λ (s : MemoriesSoFar). ListRuns n start [] s) whole (runs_none n (with_memory_word n) place_in_memories start)
nodes_run laws n few lists nodes (k ∷ list) count room all =
    let both = and_parts (is_node n k) (list_all (is_node n) list) all in
    let start = lists_far lists nodes count in
    let middle = lists_far lists (nodes ++ k ∷ []) (count + 1) in
    let last = lists_far lists ((nodes ++ k ∷ []) ++ list) (count + 1 + length list) in
    let whole : last ≡ lists_far lists (nodes ++ k ∷ list) (count + suc (length list)) =
    ap (λ (ns : List ℕ). lists_far lists ns (count + 1 + length list)) (append_assoc nodes (k ∷ []) list)
    ∙ ap (λ c. lists_far lists (nodes ++ k ∷ list) c) (let e : count + 1 + length list ≡ count + suc (length list) = omega arith in e) in
    subst (λ (s : MemoriesSoFar). ListRuns n start (decimal k ∷ map decimal list) s) whole
    (onward n start middle last (decimal k ∷ []) (map decimal list) (node_runs laws n few lists nodes count k (has_room most_family_nodes count (length list) room) both.0)
    (nodes_run laws n few lists (nodes ++ k ∷ []) list (count + 1) (omega arith) both.1))

list_runs : NumberLaws → (n : ℕ) → n < 2 ^ 32 → (lists : List (List ℕ)) (list : List ℕ) (count : ℕ)
    → count + length list ≤ most_family_nodes → is_set_of n list ≡ true
    → ListRuns n (lists_far lists [] count) (set_words list) (lists_far (lists ++ list ∷ []) [] (count + length list))
list_runs laws n few lists list count room fits =
    let both = and_parts (nat_le 1 (length list)) (list_all (is_node n) list) fits in
    let middle = lists_far lists list (count + length list) in
    let ended : with_list_end middle ≡ lists_far (lists ++ list ∷ []) [] (count + length list) = rw (filled list both.0) refl in
    subst (λ (s : MemoriesSoFar). ListRuns n (lists_far lists [] count) (set_words list) s) ended
    (onward n (lists_far lists [] count) middle (with_list_end middle) (map decimal list) (codes "-1" ∷ []) (nodes_run laws n few lists [] list count room both.1)
    (end_runs laws n lists list (count + length list)))

each_list_runs : NumberLaws → (n : ℕ) → n < 2 ^ 32 → (before lists : List (List ℕ)) (count : ℕ)
    → count + sum_by length lists ≤ most_family_nodes → list_all (is_set_of n) lists ≡ true
    → ListRuns n (lists_far before [] count) (flat_map set_words lists) (lists_far (before ++ lists) [] (count + sum_by length lists))
each_list_runs laws n few before [] count room all =
    let start = lists_far before [] count in
    let whole : start ≡ lists_far (before ++ []) [] (count + 0) =
    ap (λ (ls : List (List ℕ)). lists_far ls [] count) (sym (append-nil before)) ∙ ap (λ c. lists_far (before ++ []) [] c) (let e : count ≡ count + 0 = omega arith in e) in
    subst (λ (s : MemoriesSoFar). ListRuns n start [] s) whole (runs_none n (with_memory_word n) place_in_memories start)
each_list_runs laws n few before (list ∷ lists) count room all =
    let both = and_parts (is_set_of n list) (list_all (is_set_of n) lists) all in
    let sum : sum_by length (list ∷ lists) ≡ length list + sum_by length lists = sum_by-cons (λ (l : List ℕ). length l) list lists in
    let start = lists_far before [] count in
    let middle = lists_far (before ++ list ∷ []) [] (count + length list) in
    let last = lists_far ((before ++ list ∷ []) ++ lists) [] (count + length list + sum_by length lists) in
    let whole : last ≡ lists_far (before ++ list ∷ lists) [] (count + sum_by length (list ∷ lists)) =
    ap (λ (ls : List (List ℕ)). lists_far ls [] (count + length list + sum_by length lists)) (append_assoc before (list ∷ []) lists)
    ∙ ap (λ c. lists_far (before ++ list ∷ lists) [] c) (let e : count + length list + sum_by length lists ≡ count + sum_by length (list ∷ lists) = omega (arith, sum) in e) in
    subst (λ (s : MemoriesSoFar). ListRuns n start (flat_map set_words (list ∷ lists)) s) whole
    (onward n start middle last (set_words list) (flat_map set_words lists) (list_runs laws n few before list count (omega (arith, sum)) both.0)
    (each_list_runs laws n few (before ++ list ∷ []) lists (count + length list) (omega (arith, sum)) both.1))

all_run : NumberLaws → (n : ℕ) → n < 2 ^ 32 → (lists : List (List ℕ)) → are_memory_lists n lists ≡ true
    → ListRuns n no_memories (family_words lists) (with_list_end (lists_far lists [] (0 + sum_by length lists)))
all_run laws n few lists fits =
    let both = and_parts (list_all (is_set_of n) lists) (nat_le (sum_by length lists) most_family_nodes) fits in
    let middle = lists_far lists [] (0 + sum_by length lists) in
    onward n no_memories middle (with_list_end middle) (flat_map set_words lists) (codes "-1" ∷ [])
    (each_list_runs laws n few [] lists 0 (omega (arith, leb-true (sum_by length lists) most_family_nodes both.1)) both.0)
    (end_runs laws n lists [] (0 + sum_by length lists))

pub memories_taken : NumberLaws → (n : ℕ) → n < 2 ^ 32 → (lists : List (List ℕ)) → are_memory_lists n lists ≡ true
    → AllTaken n (place_of_memory n) [] (family_words lists)
memories_taken laws n few lists fits =
    all_taken n (with_memory_word n) place_in_memories no_memories [] (family_words lists) (all_run laws n few lists fits).taken

pub memories_back : NumberLaws → (n : ℕ) → n < 2 ^ 32 → (lists : List (List ℕ)) → are_memory_lists n lists ≡ true
    → whole_memories n (family_words lists) ≡ lists
memories_back laws n few lists fits = ap (λ (s : MemoriesSoFar). s.lists) (all_run laws n few lists fits).gives

pub memories_done : NumberLaws → (n : ℕ) → n < 2 ^ 32 → (lists : List (List ℕ)) → are_memory_lists n lists ≡ true
    → wants_more (place_of_memory n (family_words lists)) ≡ false
memories_done laws n few lists fits = ap (λ (s : MemoriesSoFar). wants_more (place_in_memories s)) (all_run laws n few lists fits).gives

pub memories_written : (n : ℕ) → n < 2 ^ 32 → (lists : List (List ℕ)) → are_memory_lists n lists ≡ true
    → WritesWords (family_lines lists) (family_words lists)
memories_written n few lists fits =
    list_written (is_set_of n) set_line set_words (set_written n few) lists
    (and_parts (list_all (is_set_of n) lists) (nat_le (sum_by length lists) most_family_nodes) fits).0

-- ---- subset rows

-- the words of a row: those of its set, and those of its further nodes
abbrev pub row_words : SubsetRow → List (List ℕ)
row_words row = set_words row.set ++ set_words row.further

-- all rows, and the -1 that ends the section
abbrev pub rows_words : List SubsetRow → List (List ℕ)
rows_words rows = flat_map row_words rows ++ codes "-1" ∷ []

-- before the end of the section
abbrev rows_far : List SubsetRow → List ℕ → List ℕ → ℕ → RowsSoFar
rows_far rows set nodes count = record { rows = rows; set = set; nodes = nodes; count = count; ended = false }

abbrev RowRuns : ℕ → RowsSoFar → List (List ℕ) → RowsSoFar → Type 0
RowRuns n start words last = Runs n (with_row_word n) place_in_rows start words last

on : (n : ℕ) (start middle last : RowsSoFar) (xs ys : List (List ℕ)) → RowRuns n start xs middle → RowRuns n middle ys last
    → RowRuns n start (xs ++ ys) last
on n start middle last xs ys first second = runs_then n (with_row_word n) place_in_rows start middle last xs ys first second

row_node_runs : NumberLaws → (n : ℕ) → n < 2 ^ 32 → (rows : List SubsetRow) (set nodes : List ℕ) (count k : ℕ)
    → nat_le most_family_nodes count ≡ false → nat_le most_rows (length rows) ≡ false → is_node n k ≡ true
    → RowRuns n (rows_far rows set nodes count) (decimal k ∷ []) (rows_far rows set (nodes ++ k ∷ []) (count + 1))
row_node_runs laws n few rows set nodes count k room begins is =
    let start = rows_far rows set nodes count in
    runs_one n (with_row_word n) place_in_rows start (decimal k) (rows_far rows set (nodes ++ k ∷ []) (count + 1))
    (node_taken laws n few (is_not_empty set || is_not_empty nodes) (length rows) count k room begins is)
    (ap (λ b. cond b (with_row_end start) (with_row_node start (nat_abs (number (node_or_end n (decimal k)))))) (node_goes_on laws n k few is)
    ∙ ap (λ (r : Result ℤ NumberFault). with_row_node start (nat_abs (number r))) (listed_back laws n k few is))

-- a -1 anywhere
row_end_runs : NumberLaws → (n : ℕ) (rows : List SubsetRow) (set nodes : List ℕ) (count : ℕ)
    → RowRuns n (rows_far rows set nodes count) (codes "-1" ∷ []) (with_row_end (rows_far rows set nodes count))
row_end_runs laws n rows set nodes count =
    let start = rows_far rows set nodes count in
    runs_one n (with_row_word n) place_in_rows start (codes "-1") (with_row_end start)
    (end_taken laws n (is_not_empty set || is_not_empty nodes) (length rows) count)
    (ap (λ b. cond b (with_row_end start) (with_row_node start (nat_abs (number (node_or_end n (codes "-1")))))) (end_ends laws n))

row_nodes_run : NumberLaws → (n : ℕ) → n < 2 ^ 32 → (rows : List SubsetRow) (set nodes list : List ℕ) (count : ℕ)
    → count + length list ≤ most_family_nodes → nat_le most_rows (length rows) ≡ false → list_all (is_node n) list ≡ true
    → RowRuns n (rows_far rows set nodes count) (map decimal list) (rows_far rows set (nodes ++ list) (count + length list))
row_nodes_run laws n few rows set nodes [] count room begins all =
    let start = rows_far rows set nodes count in
    let whole : start ≡ rows_far rows set (nodes ++ []) (count + 0) =
    ap (λ (ns : List ℕ). rows_far rows set ns count) (sym (append-nil nodes)) ∙ ap (λ c. rows_far rows set (nodes ++ []) c) (let e : count ≡ count + 0 = omega arith in e) in
    subst (λ (s : RowsSoFar). RowRuns n start [] s) whole (runs_none n (with_row_word n) place_in_rows start)
row_nodes_run laws n few rows set nodes (k ∷ list) count room begins all =
    let both = and_parts (is_node n k) (list_all (is_node n) list) all in
    let start = rows_far rows set nodes count in
    let middle = rows_far rows set (nodes ++ k ∷ []) (count + 1) in
    let last = rows_far rows set ((nodes ++ k ∷ []) ++ list) (count + 1 + length list) in
    let whole : last ≡ rows_far rows set (nodes ++ k ∷ list) (count + suc (length list)) =
    ap (λ (ns : List ℕ). rows_far rows set ns (count + 1 + length list)) (append_assoc nodes (k ∷ []) list)
    ∙ ap (λ c. rows_far rows set (nodes ++ k ∷ list) c) (let e : count + 1 + length list ≡ count + suc (length list) = omega arith in e) in
    subst (λ (s : RowsSoFar). RowRuns n start (decimal k ∷ map decimal list) s) whole
    (on n start middle last (decimal k ∷ []) (map decimal list) (row_node_runs laws n few rows set nodes count k (has_room most_family_nodes count (length list) room) begins both.0)
    (row_nodes_run laws n few rows set (nodes ++ k ∷ []) list (count + 1) (omega arith) begins both.1))

-- the set of a row, and then its further nodes
row_runs : NumberLaws → (n : ℕ) → n < 2 ^ 32 → (rows : List SubsetRow) (row : SubsetRow) (count : ℕ)
    → count + row_size row ≤ most_family_nodes → nat_le most_rows (length rows) ≡ false → is_row_of n row ≡ true
    → RowRuns n (rows_far rows [] [] count) (row_words row) (rows_far (rows ++ row ∷ []) [] [] (count + row_size row))
row_runs laws n few rows row count room begins fits =
    let both = and_parts (is_set_of n row.set) (list_all (is_node n) row.further) fits in
    let set_is = and_parts (nat_le 1 (length row.set)) (list_all (is_node n) row.set) both.0 in
    let some = filled row.set set_is.0 in
    let start = rows_far rows [] [] count in
    let set_read = rows_far rows [] row.set (count + length row.set) in
    let set_whole = rows_far rows row.set [] (count + length row.set) in
    let further_read = rows_far rows row.set row.further (count + length row.set + length row.further) in
    let last = rows_far (rows ++ row ∷ []) [] [] (count + row_size row) in
    let set_ended : with_row_end set_read ≡ set_whole = rw some refl in
    let ended : with_row_end further_read ≡ last =
    rw some (ap (λ c. rows_far (rows ++ row ∷ []) [] [] c)
    (let e : count + length row.set + length row.further ≡ count + (length row.set + length row.further) = omega arith in e)) in
    on n start set_whole last (set_words row.set) (set_words row.further)
    (on n start set_read set_whole (map decimal row.set) (codes "-1" ∷ [])
    (row_nodes_run laws n few rows [] [] row.set count (omega (arith, room)) begins set_is.1)
    (subst (λ (s : RowsSoFar). RowRuns n set_read (codes "-1" ∷ []) s) set_ended (row_end_runs laws n rows [] row.set (count + length row.set))))
    (on n set_whole further_read last (map decimal row.further) (codes "-1" ∷ [])
    (row_nodes_run laws n few rows row.set [] row.further (count + length row.set) (omega (arith, room)) begins both.1)
    (subst (λ (s : RowsSoFar). RowRuns n further_read (codes "-1" ∷ []) s) ended
    (row_end_runs laws n rows row.set row.further (count + length row.set + length row.further))))

each_row_runs : NumberLaws → (n : ℕ) → n < 2 ^ 32 → (before rows : List SubsetRow) (count : ℕ)
    → count + sum_by row_size rows ≤ most_family_nodes
    → length before + length rows ≤ most_rows → list_all (is_row_of n) rows ≡ true
    → RowRuns n (rows_far before [] [] count) (flat_map row_words rows) (rows_far (before ++ rows) [] [] (count + sum_by row_size rows))
each_row_runs laws n few before [] count room begins all =
    let start = rows_far before [] [] count in
    let whole : start ≡ rows_far (before ++ []) [] [] (count + 0) =
    ap (λ (rs : List SubsetRow). rows_far rs [] [] count) (sym (append-nil before)) ∙ ap (λ c. rows_far (before ++ []) [] [] c) (let e : count ≡ count + 0 = omega arith in e) in
    subst (λ (s : RowsSoFar). RowRuns n start [] s) whole (runs_none n (with_row_word n) place_in_rows start)
each_row_runs laws n few before (row ∷ rows) count room begins all =
    let both = and_parts (is_row_of n row) (list_all (is_row_of n) rows) all in
    let sum : sum_by row_size (row ∷ rows) ≡ row_size row + sum_by row_size rows = sum_by-cons row_size row rows in
    let start = rows_far before [] [] count in
    let middle = rows_far (before ++ row ∷ []) [] [] (count + row_size row) in
    let last = rows_far ((before ++ row ∷ []) ++ rows) [] [] (count + row_size row + sum_by row_size rows) in
    let whole : last ≡ rows_far (before ++ row ∷ rows) [] [] (count + sum_by row_size (row ∷ rows)) =
    ap (λ (rs : List SubsetRow). rows_far rs [] [] (count + row_size row + sum_by row_size rows)) (append_assoc before (row ∷ []) rows)
    ∙ ap (λ c. rows_far (before ++ row ∷ rows) [] [] c)
    (let e : count + row_size row + sum_by row_size rows ≡ count + sum_by row_size (row ∷ rows) = omega (arith, sum) in e) in
    subst (λ (s : RowsSoFar). RowRuns n start (flat_map row_words (row ∷ rows)) s) whole
    (on n start middle last (row_words row) (flat_map row_words rows)
    (row_runs laws n few before row count (omega (arith, sum)) (has_room most_rows (length before) (length rows) begins) both.0)
    (each_row_runs laws n few (before ++ row ∷ []) rows (count + row_size row) (omega (arith, sum)) (omega (arith, length-append before (row ∷ []))) both.1))

all_rows_run : NumberLaws → (n : ℕ) → n < 2 ^ 32 → (rows : List SubsetRow) → are_subset_rows n rows ≡ true
    → RowRuns n no_subset_rows (rows_words rows) (with_row_end (rows_far rows [] [] (0 + sum_by row_size rows)))
all_rows_run laws n few rows fits =
    let two = and_parts (nat_le (length rows) most_rows && list_all (is_row_of n) rows) (nat_le (sum_by row_size rows) most_family_nodes) fits in
    let one = and_parts (nat_le (length rows) most_rows) (list_all (is_row_of n) rows) two.0 in
    let middle = rows_far rows [] [] (0 + sum_by row_size rows) in
    on n no_subset_rows middle (with_row_end middle) (flat_map row_words rows) (codes "-1" ∷ [])
    (each_row_runs laws n few [] rows 0 (omega (arith, leb-true (sum_by row_size rows) most_family_nodes two.1)) (omega (arith, leb-true (length rows) most_rows one.0)) one.1)
    (row_end_runs laws n rows [] [] (0 + sum_by row_size rows))

pub rows_taken : NumberLaws → (n : ℕ) → n < 2 ^ 32 → (rows : List SubsetRow) → are_subset_rows n rows ≡ true
    → AllTaken n (place_of_row n) [] (rows_words rows)
rows_taken laws n few rows fits =
    all_taken n (with_row_word n) place_in_rows no_subset_rows [] (rows_words rows) (all_rows_run laws n few rows fits).taken

pub rows_back : NumberLaws → (n : ℕ) → n < 2 ^ 32 → (rows : List SubsetRow) → are_subset_rows n rows ≡ true
    → whole_rows n (rows_words rows) ≡ rows
rows_back laws n few rows fits = ap (λ (s : RowsSoFar). s.rows) (all_rows_run laws n few rows fits).gives

pub rows_done : NumberLaws → (n : ℕ) → n < 2 ^ 32 → (rows : List SubsetRow) → are_subset_rows n rows ≡ true
    → wants_more (place_of_row n (rows_words rows)) ≡ false
rows_done laws n few rows fits = ap (λ (s : RowsSoFar). wants_more (place_in_rows s)) (all_rows_run laws n few rows fits).gives

row_written : (n : ℕ) → n < 2 ^ 32 → (row : SubsetRow) → is_row_of n row ≡ true → WritesWords (row_lines row) (row_words row)
row_written n few row fits =
    let both = and_parts (is_set_of n row.set) (list_all (is_node n) row.further) fits in
    both_words (set_line row.set) (set_line row.further) (set_words row.set) (set_words row.further) (set_written n few row.set both.0)
    (ended_written (map decimal row.further) (nodes_plain n few row.further both.1))

pub rows_written : (n : ℕ) → n < 2 ^ 32 → (rows : List SubsetRow) → are_subset_rows n rows ≡ true
    → WritesWords (row_list rows) (rows_words rows)
rows_written n few rows fits =
    let two = and_parts (nat_le (length rows) most_rows && list_all (is_row_of n) rows) (nat_le (sum_by row_size rows) most_family_nodes) fits in
    let one = and_parts (nat_le (length rows) most_rows) (list_all (is_row_of n) rows) two.0 in
    list_written (is_row_of n) row_lines row_words (row_written n few) rows one.1
