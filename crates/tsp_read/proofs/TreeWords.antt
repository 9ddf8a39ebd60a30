-- The words in which the steps of a tree are written (`step_words`) are read back as the steps (`steps_back`). Part of
-- the proof of the law `canonical_texts_are_read_back`.
use Rattle.tsp_read.proofs.Prelude.{◌≡◌, ℕ, zero, suc, ◌+◌, ◌-◌, ◌^◌, ◌<◌, ◌≤◌, true, false, cond, List, [], ◌∷◌, ◌++◌, length, refl, sym, ap, subst, ◌∙◌, append_assoc, append-nil, arith, None, Some, Result, Ok, ℤ, pos, neg_ℤ, not, ◌&&◌, ◌==◌, nat_le, nat_abs, codes, result_err, list_all, flat_map, decimal, signed_decimal, and_from, and_parts, and_left, and_right, leb-true, le-leb, eqb-true, false_from_ne_true, not_from_true, false≢true, NumberFault, whole_of, most_families, most_rows, most_branches, most_changes, most_difference, Step, Branch, Leaf, are_whole, branch_count, change_count, within_abs, is_within, is_node, is_branch_of, is_change, is_step, are_tree_steps, change_words, number, reads_as, whole_of_size, StepAfter, IndexAfter, Amount, PastGroups, TreeSoFar, no_steps, index_or_leaf, begins_leaf, index_or_end, ends_leaf, with_leaf, with_word_of, with_tree_word, whole_steps, place_in_step, place_in_tree, place_of_step, word_fault, wants_more}
use Rattle.std.proofs.lemmas.Fmt.{decimal_digit}
use Rattle.tsp_read.proofs.NumbersReadBack.{NumberLaws, node_back, listed_back, node_goes_on, end_read, end_ends, no_zero, no_rows, has_room, second_taken, are_branch}
use Rattle.tsp_read.proofs.Onto.{AllTaken, Runs, runs_none, runs_one, runs_then, all_taken}

-- ---- the words of the lines

abbrev pub leaf_words : List (ℕ × ℤ) → List (List ℕ)
leaf_words changes = codes "0" ∷ (flat_map change_words changes ++ codes "-1" ∷ [])

abbrev pub step_words : Step → List (List ℕ)
step_words (Branch first second) = decimal first ∷ decimal second ∷ []
step_words (Leaf changes) = leaf_words changes

-- ---- states

-- between two steps
abbrev between : List Step → ℕ → ℕ → ℕ → TreeSoFar
between steps to_come branches changes =
    record { steps = steps; first = None; in_leaf = false; leaf = []; to_come = to_come; branches = branches; changes = changes }

-- in a branch
abbrev begun : List Step → ℕ → ℕ → ℕ → ℕ → TreeSoFar
begun steps first to_come branches changes = record (between steps to_come branches changes) { first = Some first }

-- in a leaf, between two of its differences, and in one of these
abbrev within : List Step → List (ℕ × ℤ) → ℕ → ℕ → ℕ → TreeSoFar
within steps leaf to_come branches changes = record (between steps to_come branches changes) { in_leaf = true; leaf = leaf }

abbrev half : List Step → List (ℕ × ℤ) → ℕ → ℕ → ℕ → ℕ → TreeSoFar
half steps leaf index to_come branches changes = record (within steps leaf to_come branches changes) { first = Some index }

abbrev TreeRuns : ℕ → TreeSoFar → List (List ℕ) → TreeSoFar → Type 0
TreeRuns n start words last = Runs n (with_tree_word n) place_in_tree start words last

onward : (n : ℕ) (start middle last : TreeSoFar) (xs ys : List (List ℕ)) → TreeRuns n start xs middle → TreeRuns n middle ys last
    → TreeRuns n start (xs ++ ys) last
onward n start middle last xs ys first second = runs_then n (with_tree_word n) place_in_tree start middle last xs ys first second

-- one word, while a tree is still to come
one : (n : ℕ) (start : TreeSoFar) (word : List ℕ) (last : TreeSoFar) → (start.to_come == 0) ≡ false
    → word_fault n (place_in_step start.in_leaf start.first start) word ≡ None
    → with_word_of n start.in_leaf start.first start word ≡ last → TreeRuns n start (word ∷ []) last
one n start word last still taken gives =
    runs_one n (with_tree_word n) place_in_tree start word last
    (ap (λ b. word_fault n (cond b PastGroups (place_in_step start.in_leaf start.first start)) word) still ∙ taken)
    (ap (λ b. cond b start (with_word_of n start.in_leaf start.first start word)) still ∙ gives)

-- ---- a branch

first_back : NumberLaws → (n k : ℕ) → n + most_families < 2 ^ 32 → is_node (n + most_families) k ≡ true
    → index_or_leaf n (decimal k) ≡ Ok (pos k)
first_back laws n k few is =
    let last = n + most_families in
    let both = and_parts (nat_le 1 k) (nat_le k last) is in
    laws.whole_back (pos k) (pos 0) (pos last) (omega (arith, leb-true k last both.1)) (and_from (nat_le 0 k) (nat_le k last) (le-leb 0 k (omega arith)) both.1)

no_leaf : NumberLaws → (n k : ℕ) → n + most_families < 2 ^ 32 → is_node (n + most_families) k ≡ true → begins_leaf n (decimal k) ≡ false
no_leaf laws n k few is =
    ap (reads_as (pos 0)) (first_back laws n k few is)
    ∙ no_zero k (leb-true 1 k (and_parts (nat_le 1 k) (nat_le k (n + most_families)) is).0)

first_taken : NumberLaws → (n branches k : ℕ) → n + most_families < 2 ^ 32 → nat_le most_branches branches ≡ false
    → is_node (n + most_families) k ≡ true
    → word_fault n (StepAfter branches) (decimal k) ≡ None
first_taken laws n branches k few room is =
    no_rows (result_err (index_or_leaf n (decimal k))) false false (nat_le most_branches branches && not (begins_leaf n (decimal k))) false
    (ap (λ (r : Result ℤ NumberFault). result_err r) (first_back laws n k few is)) refl refl
    (and_left (nat_le most_branches branches) (not (begins_leaf n (decimal k))) room) refl

branch_runs : NumberLaws → (n : ℕ) → n + most_families < 2 ^ 32 → (steps : List Step) (a b to_come branches changes : ℕ) → (to_come == 0) ≡ false
    → nat_le most_branches branches ≡ false → is_branch_of n (a, b) ≡ true
    → TreeRuns n (between steps to_come branches changes) (step_words (Branch a b)) (between (steps ++ Branch a b ∷ []) (to_come + 1) (branches + 1) changes)
branch_runs laws n few steps a b to_come branches changes still room fits =
    let are = are_branch n (a, b) fits in
    let start = between steps to_come branches changes in
    let middle = begun steps a to_come (branches + 1) changes in
    let last = between (steps ++ Branch a b ∷ []) (to_come + 1) (branches + 1) changes in
    onward n start middle last (decimal a ∷ []) (decimal b ∷ [])
    (one n start (decimal a) middle still (first_taken laws n branches a few room are.first)
    (ap (λ t. cond t (record start { in_leaf = true }) (record start { first = Some (nat_abs (number (index_or_leaf n (decimal a)))); branches = branches + 1 })) (no_leaf laws n a few are.first)
    ∙ ap (λ (r : Result ℤ NumberFault). begun steps (nat_abs (number r)) to_come (branches + 1) changes) (first_back laws n a few are.first)))
    (one n middle (decimal b) last still (second_taken laws n a b (omega (arith, few)) are.second are.differ)
    (ap (λ (r : Result ℤ NumberFault). between (steps ++ Branch a (nat_abs (number r)) ∷ []) (to_come + 1) (branches + 1) changes) (node_back laws n b (omega (arith, few)) are.second)))

-- ---- a leaf

zero_read : NumberLaws → (n : ℕ) → index_or_leaf n (codes "0") ≡ Ok (pos 0)
zero_read laws n =
    let word : signed_decimal (pos 0) ≡ codes "0" = decimal_digit 0 (omega arith) in
    let last = n + most_families in
    ap (λ w. whole_of w (pos 0) (pos last)) (sym word)
    ∙ laws.whole_back (pos 0) (pos 0) (pos last) (omega arith) (and_from (nat_le 0 0) (nat_le 0 last) refl (le-leb 0 last (omega arith)))

leaf_begins : NumberLaws → (n : ℕ) → begins_leaf n (codes "0") ≡ true
leaf_begins laws n = ap (reads_as (pos 0)) (zero_read laws n)

zero_taken : NumberLaws → (n branches : ℕ) → word_fault n (StepAfter branches) (codes "0") ≡ None
zero_taken laws n branches =
    no_rows (result_err (index_or_leaf n (codes "0"))) false false (nat_le most_branches branches && not (begins_leaf n (codes "0"))) false
    (ap (λ (r : Result ℤ NumberFault). result_err r) (zero_read laws n)) refl refl
    (and_right (nat_le most_branches branches) (not (begins_leaf n (codes "0"))) (not_from_true (begins_leaf n (codes "0")) (leaf_begins laws n))) refl

index_taken : NumberLaws → (n changes k : ℕ) → n + most_families + most_rows < 2 ^ 32 → nat_le most_changes changes ≡ false
    → is_node (n + most_families + most_rows) k ≡ true → word_fault n (IndexAfter changes) (decimal k) ≡ None
index_taken laws n changes k few room is =
    no_rows (result_err (index_or_end n (decimal k))) false false (nat_le most_changes changes && not (ends_leaf n (decimal k))) false
    (ap (λ (r : Result ℤ NumberFault). result_err r) (listed_back laws (n + most_families + most_rows) k few is)) refl refl
    (and_left (nat_le most_changes changes) (not (ends_leaf n (decimal k))) room) refl

end_taken : NumberLaws → (n changes : ℕ) → word_fault n (IndexAfter changes) (codes "-1") ≡ None
end_taken laws n changes =
    no_rows (result_err (index_or_end n (codes "-1"))) false false (nat_le most_changes changes && not (ends_leaf n (codes "-1"))) false
    (ap (λ (r : Result ℤ NumberFault). result_err r) (end_read laws (n + most_families + most_rows))) refl refl
    (and_right (nat_le most_changes changes) (not (ends_leaf n (codes "-1"))) (not_from_true (ends_leaf n (codes "-1")) (end_ends laws (n + most_families + most_rows)))) refl

difference_back : NumberLaws → (z : ℤ) → is_within most_difference z ≡ true
    → whole_of_size most_difference (signed_decimal z) ≡ Ok z
difference_back laws z inside =
    let small = within_abs most_difference z inside in
    laws.whole_back z _ _ (omega (arith, small)) inside

difference_taken : NumberLaws → (n : ℕ) (z : ℤ) → is_within most_difference z ≡ true
    → word_fault n (Amount (neg_ℤ (pos most_difference)) (pos most_difference)) (signed_decimal z) ≡ None
difference_taken laws n z inside =
    no_rows (result_err (whole_of_size most_difference (signed_decimal z))) false false false false
    (ap (λ (r : Result ℤ NumberFault). result_err r) (difference_back laws z inside)) refl refl refl refl

change_runs : NumberLaws → (n : ℕ) → n + most_families + most_rows < 2 ^ 32
    → (steps : List Step) (leaf : List (ℕ × ℤ)) (change : ℕ × ℤ) (to_come branches changes : ℕ) → (to_come == 0) ≡ false
    → nat_le most_changes changes ≡ false → is_change n change ≡ true
    → TreeRuns n (within steps leaf to_come branches changes) (change_words change) (within steps (leaf ++ change ∷ []) to_come branches (changes + 1))
change_runs laws n few steps leaf change to_come branches changes still room fits =
    let both = and_parts (is_node (n + most_families + most_rows) change.0) (is_within most_difference change.1) fits in
    let index = decimal change.0 in
    let difference = signed_decimal change.1 in
    let start = within steps leaf to_come branches changes in
    let middle = half steps leaf change.0 to_come branches (changes + 1) in
    let last = within steps (leaf ++ change ∷ []) to_come branches (changes + 1) in
    onward n start middle last (index ∷ []) (difference ∷ [])
    (one n start index middle still (index_taken laws n changes change.0 few room both.0)
    (ap (λ t. cond t (with_leaf start) (record start { first = Some (nat_abs (number (index_or_end n index))); changes = changes + 1 })) (node_goes_on laws (n + most_families + most_rows) change.0 few both.0)
    ∙ ap (λ (r : Result ℤ NumberFault). half steps leaf (nat_abs (number r)) to_come branches (changes + 1)) (listed_back laws (n + most_families + most_rows) change.0 few both.0)))
    (one n middle difference last still (difference_taken laws n change.1 both.1)
    (ap (λ (r : Result ℤ NumberFault). within steps (leaf ++ (change.0, number r) ∷ []) to_come branches (changes + 1)) (difference_back laws change.1 both.1)))

changes_run : NumberLaws → (n : ℕ) → n + most_families + most_rows < 2 ^ 32
    → (steps : List Step) (before leaf : List (ℕ × ℤ)) (to_come branches changes : ℕ) → (to_come == 0) ≡ false
    → changes + length leaf ≤ most_changes → list_all (is_change n) leaf ≡ true
    → TreeRuns n (within steps before to_come branches changes) (flat_map change_words leaf) (within steps (before ++ leaf) to_come branches (changes + length leaf))
changes_run laws n few steps before [] to_come branches changes still room all =
    let start = within steps before to_come branches changes in
    let whole : start ≡ within steps (before ++ []) to_come branches (changes + 0) =
    ap (λ (leaf : List (ℕ × ℤ)). within steps leaf to_come branches changes) (sym (append-nil before))
    ∙ ap (λ c. within steps (before ++ []) to_come branches c) (let e : changes ≡ changes + 0 = omega arith in e) in
    subst (λ (s : TreeSoFar). TreeRuns n start [] s) whole (runs_none n (with_tree_word n) place_in_tree start)
changes_run laws n few steps before (change ∷ leaf) to_come branches changes still room all =
    let both = and_parts (is_change n change) (list_all (is_change n) leaf) all in
    let start = within steps before to_come branches changes in
    let middle = within steps (before ++ change ∷ []) to_come branches (changes + 1) in
    let last = within steps ((before ++ change ∷ []) ++ leaf) to_come branches (changes + 1 + length leaf) in
    let whole : last ≡ within steps (before ++ change ∷ leaf) to_come branches (changes + suc (length leaf)) =
    ap (λ (cs : List (ℕ × ℤ)). within steps cs to_come branches (changes + 1 + length leaf)) (append_assoc before (change ∷ []) leaf)
    ∙ ap (λ c. within steps (before ++ change ∷ leaf) to_come branches c) (let e : changes + 1 + length leaf ≡ changes + suc (length leaf) = omega arith in e) in
    subst (λ (s : TreeSoFar). TreeRuns n start (flat_map change_words (change ∷ leaf)) s) whole
    (onward n start middle last (change_words change) (flat_map change_words leaf)
    (change_runs laws n few steps before change to_come branches changes still (has_room most_changes changes (length leaf) room) both.0)
    (changes_run laws n few steps (before ++ change ∷ []) leaf to_come branches (changes + 1) still (omega arith) both.1))

leaf_runs : NumberLaws → (n : ℕ) → n + most_families + most_rows < 2 ^ 32
    → (steps : List Step) (leaf : List (ℕ × ℤ)) (to_come branches changes : ℕ) → (to_come == 0) ≡ false
    → changes + length leaf ≤ most_changes → list_all (is_change n) leaf ≡ true
    → TreeRuns n (between steps to_come branches changes) (leaf_words leaf) (between (steps ++ Leaf leaf ∷ []) (to_come - 1) branches (changes + length leaf))
leaf_runs laws n few steps leaf to_come branches changes still room all =
    let start = between steps to_come branches changes in
    let entered = within steps [] to_come branches changes in
    let filled = within steps leaf to_come branches (changes + length leaf) in
    let last = with_leaf filled in
    let more = flat_map change_words leaf ++ codes "-1" ∷ [] in
    onward n start entered last (codes "0" ∷ []) more
    (one n start (codes "0") entered still (zero_taken laws n branches)
    (ap (λ t. cond t entered (record start { first = Some (nat_abs (number (index_or_leaf n (codes "0")))); branches = branches + 1 })) (leaf_begins laws n)))
    (onward n entered filled last (flat_map change_words leaf) (codes "-1" ∷ []) (changes_run laws n few steps [] leaf to_come branches changes still room all)
    (one n filled (codes "-1") last still (end_taken laws n (changes + length leaf))
    (ap (λ t. cond t (with_leaf filled) (record filled { first = Some (nat_abs (number (index_or_end n (codes "-1")))); changes = changes + length leaf + 1 })) (end_ends laws (n + most_families + most_rows)))))

-- ---- all steps

not_zero : (count : ℕ) → (suc count == 0) ≡ false
not_zero count = false_from_ne_true (suc count == 0) (λ e. let none = eqb-true (suc count) 0 e in absurd (omega arith))

-- plan: by induction over the steps: a branch has one tree more to come (`branch_runs`), a leaf one less (`leaf_runs`)
each_step_runs : NumberLaws → (n : ℕ) → n + most_families + most_rows < 2 ^ 32 → (before steps : List Step) (to_come branches changes : ℕ)
    → branches + branch_count steps ≤ most_branches
    → changes + change_count steps ≤ most_changes → list_all (is_step n) steps ≡ true → are_whole to_come steps ≡ true
    → TreeRuns n (between before to_come branches changes) (flat_map step_words steps) (between (before ++ steps) 0 (branches + branch_count steps) (changes + change_count steps))
each_step_runs laws n few before [] zero branches changes room changes_room all whole =
    let start = between before 0 branches changes in
    let ends : start ≡ between (before ++ []) 0 (branches + 0) (changes + 0) =
    ap (λ (ss : List Step). between ss 0 branches changes) (sym (append-nil before))
    ∙ ap (λ b. between (before ++ []) 0 b changes) (let e : branches ≡ branches + 0 = omega arith in e)
    ∙ ap (λ c. between (before ++ []) 0 (branches + 0) c) (let e : changes ≡ changes + 0 = omega arith in e) in
    subst (λ (s : TreeSoFar). TreeRuns n start [] s) ends (runs_none n (with_tree_word n) place_in_tree start)
each_step_runs laws n few before [] (suc to_come) branches changes room changes_room all whole = absurd (false≢true whole)
each_step_runs laws n few before (step ∷ steps) zero branches changes room changes_room all whole = absurd (false≢true whole)
each_step_runs laws n few before (Branch a b ∷ steps) (suc to_come) branches changes room changes_room all whole =
    let both = and_parts (is_step n (Branch a b)) (list_all (is_step n) steps) all in
    let start = between before (suc to_come) branches changes in
    let middle = between (before ++ Branch a b ∷ []) (suc (suc to_come)) (branches + 1) changes in
    let last = between ((before ++ Branch a b ∷ []) ++ steps) 0 (branches + 1 + branch_count steps) (changes + change_count steps) in
    let next : between (before ++ Branch a b ∷ []) (suc to_come + 1) (branches + 1) changes ≡ middle =
    ap (λ m. between (before ++ Branch a b ∷ []) m (branches + 1) changes) (let e : suc to_come + 1 ≡ suc (suc to_come) = omega arith in e) in
    let ends : last ≡ between (before ++ Branch a b ∷ steps) 0 (branches + suc (branch_count steps)) (changes + change_count steps) =
    ap (λ (ss : List Step). between ss 0 (branches + 1 + branch_count steps) (changes + change_count steps)) (append_assoc before (Branch a b ∷ []) steps)
    ∙ ap (λ c. between (before ++ Branch a b ∷ steps) 0 c (changes + change_count steps)) (let e : branches + 1 + branch_count steps ≡ branches + suc (branch_count steps) = omega arith in e) in
    subst (λ (s : TreeSoFar). TreeRuns n start (flat_map step_words (Branch a b ∷ steps)) s) ends
    (onward n start middle last (step_words (Branch a b)) (flat_map step_words steps)
    (subst (λ (s : TreeSoFar). TreeRuns n start (step_words (Branch a b)) s) next
    (branch_runs laws n (omega (arith, few)) before a b (suc to_come) branches changes (not_zero to_come) (has_room most_branches branches (branch_count steps) room) both.0))
    (each_step_runs laws n few (before ++ Branch a b ∷ []) steps (suc (suc to_come)) (branches + 1) changes (omega arith) changes_room both.1 whole))
each_step_runs laws n few before (Leaf leaf ∷ steps) (suc to_come) branches changes room changes_room all whole =
    let both = and_parts (is_step n (Leaf leaf)) (list_all (is_step n) steps) all in
    let start = between before (suc to_come) branches changes in
    let middle = between (before ++ Leaf leaf ∷ []) to_come branches (changes + length leaf) in
    let last = between ((before ++ Leaf leaf ∷ []) ++ steps) 0 (branches + branch_count steps) (changes + length leaf + change_count steps) in
    let next : between (before ++ Leaf leaf ∷ []) (suc to_come - 1) branches (changes + length leaf) ≡ middle =
    ap (λ m. between (before ++ Leaf leaf ∷ []) m branches (changes + length leaf)) (let e : suc to_come - 1 ≡ to_come = omega arith in e) in
    let ends : last ≡ between (before ++ Leaf leaf ∷ steps) 0 (branches + branch_count steps) (changes + (length leaf + change_count steps)) =
    ap (λ (ss : List Step). between ss 0 (branches + branch_count steps) (changes + length leaf + change_count steps)) (append_assoc before (Leaf leaf ∷ []) steps)
    ∙ ap (λ c. between (before ++ Leaf leaf ∷ steps) 0 (branches + branch_count steps) c)
    (let e : changes + length leaf + change_count steps ≡ changes + (length leaf + change_count steps) = omega arith in e) in
    subst (λ (s : TreeSoFar). TreeRuns n start (flat_map step_words (Leaf leaf ∷ steps)) s) ends
    (onward n start middle last (leaf_words leaf) (flat_map step_words steps)
    (subst (λ (s : TreeSoFar). TreeRuns n start (leaf_words leaf) s) next
    (leaf_runs laws n few before leaf (suc to_come) branches changes (not_zero to_come) (omega arith) both.0))
    (each_step_runs laws n few (before ++ Leaf leaf ∷ []) steps to_come branches (changes + length leaf) room (omega arith) both.1 whole))

-- the contents after all words
abbrev all_of : List Step → TreeSoFar
all_of steps = between steps 0 (0 + branch_count steps) (0 + change_count steps)

all_run : NumberLaws → (n : ℕ) → n + most_families + most_rows < 2 ^ 32 → (steps : List Step) → are_tree_steps n steps ≡ true
    → TreeRuns n no_steps (flat_map step_words steps) (all_of steps)
all_run laws n few steps fits =
    let each = list_all (is_step n) steps in
    let branches = nat_le (branch_count steps) most_branches in
    let changes = nat_le (change_count steps) most_changes in
    let three = and_parts (each && branches && changes) (are_whole 1 steps) fits in
    let two = and_parts (each && branches) changes three.0 in
    let one = and_parts each branches two.0 in
    each_step_runs laws n few [] steps 1 0 0 (omega (arith, leb-true (branch_count steps) most_branches one.1)) (omega (arith, leb-true (change_count steps) most_changes two.1)) one.0 three.1

pub steps_taken : NumberLaws → (n : ℕ) → n + most_families + most_rows < 2 ^ 32 → (steps : List Step) → are_tree_steps n steps ≡ true
    → AllTaken n (place_of_step n) [] (flat_map step_words steps)
steps_taken laws n few steps fits =
    all_taken n (with_tree_word n) place_in_tree no_steps [] (flat_map step_words steps) (all_run laws n few steps fits).taken

pub steps_back : NumberLaws → (n : ℕ) → n + most_families + most_rows < 2 ^ 32 → (steps : List Step) → are_tree_steps n steps ≡ true
    → whole_steps n (flat_map step_words steps) ≡ steps
steps_back laws n few steps fits = ap (λ (s : TreeSoFar). s.steps) (all_run laws n few steps fits).gives

pub steps_done : NumberLaws → (n : ℕ) → n + most_families + most_rows < 2 ^ 32 → (steps : List Step) → are_tree_steps n steps ≡ true
    → wants_more (place_of_step n (flat_map step_words steps)) ≡ false
steps_done laws n few steps fits = ap (λ (s : TreeSoFar). wants_more (place_in_tree s)) (all_run laws n few steps fits).gives
