-- The steps of a section without a fault: each in its range, no more than may be, and a whole tree if no more are
-- wanted. For ValidItems.antt.
use Rattle.tsp_text.proofs.Prelude.{◌≡◌, ℕ, zero, suc, ◌+◌, ◌-◌, ◌≤◌, Bool, true, false, cond, List, [], ◌∷◌, ◌++◌, length, refl, sym, ap, subst, ◌∙◌, Option, None, Some, Result, Ok, Err, arith, not, ◌==◌, ◌&&◌, ℤ, pos, negsuc, neg_ℤ, nat_le, nat_abs, int_le, list_all, result_err, true≢false, false≢true, and_from, and_parts, not_from_false, le-leb, leb-false, nat_tests, append_assoc, append-nil, length_push, BranchPart, most_families, most_rows, most_branches, most_changes, most_difference, is_from_to, is_within, is_node, is_branch_of, is_change, is_step, are_tree_steps}
use Rattle.std.specs.Ordering.{int_eq}
use Rattle.std.proofs.lemmas.List.Sums.{fold-append}
use Rattle.tsp_number.specs.declared.number_word.NumberFault.{NumberFault}
use Rattle.tsp_format.specs.Steps.{Step, Branch, Leaf, are_whole, branch_count, change_count}
use Rattle.tsp_text.proofs.ValidCuts.{all_push}
use Rattle.tsp_text.specs.Items.{Item}
use Rattle.tsp_text.specs.Earlier.{words_of, dimension_in}
use Rattle.tsp_text.specs.SectionWords.{number, reads_as, node, whole_of_size, StepAfter, SecondOf, IndexAfter, PastGroups, TreeSoFar, no_steps, index_or_leaf, begins_leaf, index_or_end, ends_leaf, with_word_of, with_tree_word, tree_after, whole_steps, place_in_step, place_in_tree, place_of_step}
use Rattle.tsp_text.specs.ParsesTo.{IsClean, wants_more}
use Rattle.tsp_text.specs.FaultRows.{word_fault}
use Rattle.tsp_text.proofs.ValidRows.{is_taken, Grows, grown}
use Rattle.tsp_text.proofs.ValidKeywords.{whole_in_range, whole_passes, read_node, read_listed, differ, first_of_both}

-- ---- what holds of the words so far

-- the first number of a branch that has begun, or of a difference
abbrev IsBegun : ℕ → Bool → Option ℕ → Type 0
IsBegun n false None = Unit {0}
IsBegun n false (Some first) = is_node (n + most_families) first ≡ true
IsBegun n true None = Unit {0}
IsBegun n true (Some index) = is_node (n + most_families + most_rows) index ≡ true

-- whether that is a branch, and whether it is a difference, as a number
abbrev begun_branch : Bool → Option ℕ → ℕ
begun_branch false None = 0
begun_branch false (Some first) = 1
begun_branch true first = 0

abbrev begun_change : Bool → Option ℕ → ℕ
begun_change false first = 0
begun_change true None = 0
begun_change true (Some index) = 1

pub record StepsHold (n : ℕ) (steps : List Step) (first : Option ℕ) (in_leaf : Bool) (leaf : List (ℕ × ℤ)) (to_come branches changes : ℕ) : Type 0 where
  pub all_steps : list_all (is_step n) steps ≡ true
  pub all_changes : list_all (is_change n) leaf ≡ true
  pub begun : IsBegun n in_leaf first
  pub counted : branch_count steps + begun_branch in_leaf first ≤ branches
  pub few : branches ≤ most_branches
  pub counted_changes : change_count steps + length leaf + begun_change in_leaf first ≤ changes
  pub few_changes : changes ≤ most_changes
  pub goes_on : (rest : List Step) → are_whole 1 (steps ++ rest) ≡ are_whole to_come rest

abbrev AreSoFar : ℕ → TreeSoFar → Type 0
AreSoFar n s = StepsHold n s.steps s.first s.in_leaf s.leaf s.to_come s.branches s.changes

-- ---- lists

branches_push : (steps : List Step) (step : Step)
    → branch_count (steps ++ step ∷ []) ≡ branch_count steps + branch_count (step ∷ [])
branches_push [] step = omega arith
branches_push (Branch first second ∷ steps) step = omega (arith, branches_push steps step)
branches_push (Leaf changes ∷ steps) step = branches_push steps step

changes_push : (steps : List Step) (step : Step)
    → change_count (steps ++ step ∷ []) ≡ change_count steps + change_count (step ∷ [])
changes_push [] step = omega arith
changes_push (Branch first second ∷ steps) step = changes_push steps step
changes_push (Leaf changes ∷ steps) step = omega (arith, changes_push steps step)

whole_push : (steps : List Step) (step : Step) (to_come : ℕ)
    → ((rest : List Step) → are_whole 1 (steps ++ rest) ≡ are_whole to_come rest)
    → (rest : List Step) → are_whole 1 ((steps ++ step ∷ []) ++ rest) ≡ are_whole to_come (step ∷ rest)
whole_push steps step to_come h rest = ap (are_whole 1) (append_assoc steps (step ∷ []) rest) ∙ h (step ∷ rest)

-- ---- what is read

-- an index where a step begins
first_node : (n : ℕ) (z : ℤ) → is_from_to (pos 0) (pos n) z ≡ true → int_eq z (pos 0) ≡ false
    → (k : ℕ) × (z ≡ pos k) × (is_node n k ≡ true)
first_node n (pos zero) e other = absurd (true≢false other)
first_node n (pos (suc k)) e other =
    (suc k, refl, and_from (nat_le 1 (suc k)) (nat_le (suc k) n) (le-leb 1 (suc k) (omega arith)) (and_parts (int_le (pos 0) (pos (suc k))) (int_le (pos (suc k)) (pos n)) e).1)
first_node n (negsuc k) e other = absurd (false≢true e)

read_first : (n : ℕ) (word : List ℕ) → result_err (index_or_leaf n word) ≡ None → begins_leaf n word ≡ false
    → (k : ℕ) × (index_or_leaf n word ≡ Ok (pos k)) × (is_node (n + most_families) k ≡ true)
read_first n word = by_result (index_or_leaf n word) (λ z read. whole_in_range word (pos 0) (pos (n + most_families)) z read)
  where
    by_result : (r : Result ℤ NumberFault) → ((z : ℤ) → r ≡ Ok z → is_from_to (pos 0) (pos (n + most_families)) z ≡ true) → result_err r ≡ None → reads_as (pos 0) r ≡ false
        → (k : ℕ) × (r ≡ Ok (pos k)) × (is_node (n + most_families) k ≡ true)
    by_result (Ok z) each e other = let found = first_node (n + most_families) z (each z refl) other in (found.0, ap (λ y. Ok y) found.1, found.2)
    by_result (Err fault) each e other = absurd cc

-- ---- one word more, if the tree isn't whole

-- plan: by whether the word begins a leaf; else it is the first number of a branch (`read_first`), within the limit
first_holds : (n : ℕ) (s : TreeSoFar) (word : List ℕ) (leaf : Bool) → begins_leaf n word ≡ leaf
    → word_fault n (StepAfter s.branches) word ≡ None
    → StepsHold n s.steps None false s.leaf s.to_come s.branches s.changes → s.first ≡ None → s.in_leaf ≡ false
    → AreSoFar n (with_word_of n false None s word)
first_holds n s word true is row h none out = rw (is, none) (let held : StepsHold n s.steps None true s.leaf s.to_come s.branches s.changes = record {
  all_steps = h.all_steps;
  all_changes = h.all_changes;
  begun = tt;
  counted = h.counted;
  few = h.few;
  counted_changes = h.counted_changes;
  few_changes = h.few_changes;
  goes_on = h.goes_on;
} in held)
first_holds n s word false is row h none out =
    let t = is_taken n (StepAfter s.branches) word row in
    let found = read_first n word t.is_read is in
    let index : is_node (n + most_families) (nat_abs (number (index_or_leaf n word))) ≡ true = ap (λ r. is_node (n + most_families) (nat_abs (number r))) found.1 ∙ found.2 in
    let room = leb-false most_branches s.branches (first_of_both (nat_le most_branches s.branches) (begins_leaf n word) t.has_room is) in
    let held : StepsHold n s.steps (Some (nat_abs (number (index_or_leaf n word)))) false s.leaf s.to_come (s.branches + 1) s.changes = record {
      all_steps = h.all_steps;
      all_changes = h.all_changes;
      begun = index;
      counted = omega (arith, h.counted);
      few = omega (arith, room);
      counted_changes = h.counted_changes;
      few_changes = h.few_changes;
      goes_on = h.goes_on;
    } in
    rw (is, out) held

second_holds : (n : ℕ) (s : TreeSoFar) (word : List ℕ) (first left : ℕ) → s.to_come ≡ suc left
    → word_fault n (SecondOf (pos first)) word ≡ None
    → StepsHold n s.steps (Some first) false s.leaf s.to_come s.branches s.changes → s.in_leaf ≡ false
    → AreSoFar n (with_word_of n false (Some first) s word)
second_holds n s word first left some row h out =
    let t = is_taken n (SecondOf (pos first)) word row in
    let found = read_node n word t.is_read in
    let apart = differ first found.0 (rw found.1 at t.other_node) in
    let second = nat_abs (number (node n word)) in
    let is : second ≡ found.0 = ap (λ r. nat_abs (number r)) found.1 in
    let branch : is_branch_of n (first, second) ≡ true = rw is (and_from (is_node (n + most_families) first && is_node n found.0) (not (first == found.0))
    (and_from (is_node (n + most_families) first) (is_node n found.0) h.begun found.2) (not_from_false (first == found.0) apart)) in
    let one_more : s.to_come + 1 ≡ suc (suc left) = omega (arith, some) in
    let held : StepsHold n (s.steps ++ Branch first second ∷ []) None false s.leaf (s.to_come + 1) s.branches s.changes = record {
      all_steps = all_push (is_step n) s.steps (Branch first second) h.all_steps branch;
      all_changes = h.all_changes;
      begun = tt;
      counted = omega (arith, h.counted, branches_push s.steps (Branch first second));
      few = h.few;
      counted_changes = omega (arith, h.counted_changes, changes_push s.steps (Branch first second));
      few_changes = h.few_changes;
      goes_on = λ rest. whole_push s.steps (Branch first second) s.to_come h.goes_on rest ∙ ap (λ k. are_whole k (Branch first second ∷ rest)) some
          ∙ ap (λ k. are_whole k rest) (sym one_more);
    } in
    rw out held

-- plan: by whether the word ends the leaf, which is a step more then (`all_push`); else it is an index (`read_listed`)
index_holds : (n : ℕ) (s : TreeSoFar) (word : List ℕ) (left : ℕ) (end : Bool) → s.to_come ≡ suc left → ends_leaf n word ≡ end
    → word_fault n (IndexAfter s.changes) word ≡ None
    → StepsHold n s.steps None true s.leaf s.to_come s.branches s.changes → s.first ≡ None → s.in_leaf ≡ true
    → AreSoFar n (with_word_of n true None s word)
index_holds n s word left true some is row h none inside =
    let one_less : s.to_come - 1 ≡ left = omega (arith, some) in
    let held : StepsHold n (s.steps ++ Leaf s.leaf ∷ []) None false [] (s.to_come - 1) s.branches s.changes = record {
      all_steps = all_push (is_step n) s.steps (Leaf s.leaf) h.all_steps h.all_changes;
      all_changes = refl;
      begun = tt;
      counted = omega (arith, h.counted, branches_push s.steps (Leaf s.leaf));
      few = h.few;
      counted_changes = omega (arith, h.counted_changes, changes_push s.steps (Leaf s.leaf));
      few_changes = h.few_changes;
      goes_on = λ rest. whole_push s.steps (Leaf s.leaf) s.to_come h.goes_on rest ∙ ap (λ k. are_whole k (Leaf s.leaf ∷ rest)) some
          ∙ ap (λ k. are_whole k rest) (sym one_less);
    } in
    rw (is, none) held
index_holds n s word left false some is row h none inside =
    let t = is_taken n (IndexAfter s.changes) word row in
    let found = read_listed (n + most_families + most_rows) word t.is_read is in
    let index : is_node (n + most_families + most_rows) (nat_abs (number (index_or_end n word))) ≡ true = ap (λ r. is_node (n + most_families + most_rows) (nat_abs (number r))) found.1 ∙ found.2 in
    let room = leb-false most_changes s.changes (first_of_both (nat_le most_changes s.changes) (ends_leaf n word) t.has_room is) in
    let held : StepsHold n s.steps (Some (nat_abs (number (index_or_end n word)))) true s.leaf s.to_come s.branches (s.changes + 1) = record {
      all_steps = h.all_steps;
      all_changes = h.all_changes;
      begun = index;
      counted = h.counted;
      few = h.few;
      counted_changes = omega (arith, h.counted_changes);
      few_changes = omega (arith, room);
      goes_on = h.goes_on;
    } in
    rw (is, inside) held

difference_holds : (n : ℕ) (s : TreeSoFar) (word : List ℕ) (index : ℕ)
    → StepsHold n s.steps (Some index) true s.leaf s.to_come s.branches s.changes → s.in_leaf ≡ true
    → AreSoFar n (with_word_of n true (Some index) s word)
difference_holds n s word index h inside =
    let z = number (whole_of_size most_difference word) in
    let one : ℕ × ℤ = (index, z) in
    let change : is_change n one ≡ true = and_from (is_node (n + most_families + most_rows) index) (is_within most_difference z) h.begun
    (whole_passes (neg_ℤ (pos most_difference)) (pos most_difference) word refl) in
    let held : StepsHold n s.steps None true (s.leaf ++ one ∷ []) s.to_come s.branches s.changes = record {
      all_steps = h.all_steps;
      all_changes = all_push (is_change n) s.leaf one h.all_changes change;
      begun = tt;
      counted = h.counted;
      few = h.few;
      counted_changes = omega (arith, h.counted_changes, length_push s.leaf one);
      few_changes = h.few_changes;
      goes_on = h.goes_on;
    } in
    rw inside held

-- ---- one word more

before_end : (count : ℕ) → (count == 0) ≡ false → (left : ℕ) × (count ≡ suc left)
before_end zero some = absurd (true≢false some)
before_end (suc left) some = (left, refl)

part_holds : (n : ℕ) (s : TreeSoFar) (word : List ℕ) (in_leaf : Bool) (first : Option ℕ) (left : ℕ) → s.in_leaf ≡ in_leaf
    → s.first ≡ first → s.to_come ≡ suc left
    → word_fault n (place_in_step in_leaf first s) word ≡ None
    → StepsHold n s.steps first in_leaf s.leaf s.to_come s.branches s.changes
    → AreSoFar n (with_word_of n in_leaf first s word)
part_holds n s word false None left is none some row h = first_holds n s word (begins_leaf n word) refl row h none is
part_holds n s word false (Some first) left is begun some row h = second_holds n s word first left some row h is
part_holds n s word true None left is none some row h = index_holds n s word left (ends_leaf n word) some refl row h none is
part_holds n s word true (Some index) left is begun some row h = difference_holds n s word index h is

word_holds : (n : ℕ) (s : TreeSoFar) (word : List ℕ) (whole : Bool) → (s.to_come == 0) ≡ whole
    → word_fault n (place_in_tree s) word ≡ None → AreSoFar n s
    → AreSoFar n (with_tree_word n s word)
word_holds n s word true e row h = rw e h
word_holds n s word false e row h =
    let left = before_end s.to_come e in
    let here = subst (λ (b : Bool). word_fault n (cond b PastGroups (place_in_step s.in_leaf s.first s)) word ≡ None) e row in
    rw e (part_holds n s word s.in_leaf s.first left.0 refl refl left.1 here h)

all_taken : Grows false BranchPart (λ n words. AreSoFar n (tree_after n words))
all_taken = record {
  none = λ n. record {
    all_steps = refl;
    all_changes = refl;
    begun = tt;
    counted = omega arith;
    few = omega arith;
    counted_changes = omega arith;
    few_changes = omega arith;
    goes_on = λ rest. refl;
  };
  more = λ b same n words word held row.
      let s = tree_after n words in
      subst (AreSoFar n) (sym (fold-append (with_tree_word n) no_steps words (word ∷ []))) (word_holds n s word (s.to_come == 0) refl row held);
  any_nodes = λ n m words tours held. absurd (false≢true tours);
}

-- ---- the end

whole_at_end : (whole in_leaf : Bool) (first : Option ℕ) (s : TreeSoFar)
    → wants_more (cond whole PastGroups (place_in_step in_leaf first s)) ≡ false → whole ≡ true
whole_at_end true in_leaf first s ended = refl
whole_at_end false false None s ended = absurd (true≢false ended)
whole_at_end false false (Some first) s ended = absurd (true≢false ended)
whole_at_end false true None s ended = absurd (true≢false ended)
whole_at_end false true (Some index) s ended = absurd (true≢false ended)

none_to_come : (count : ℕ) → (count == 0) ≡ true → count ≡ 0
none_to_come zero e = refl
none_to_come (suc count) e = grind (arith, nat_tests)

pub steps_fit : (items : List Item) → IsClean items
    → wants_more (place_of_step (dimension_in items) (words_of BranchPart items)) ≡ false
    → are_tree_steps (dimension_in items) (whole_steps (dimension_in items) (words_of BranchPart items)) ≡ true
steps_fit items clean ended =
    let n = dimension_in items in
    let s = tree_after n (words_of BranchPart items) in
    let h : AreSoFar n s = grown BranchPart (λ n words. AreSoFar n (tree_after n words)) refl all_taken items clean in
    let none = none_to_come s.to_come (whole_at_end (s.to_come == 0) s.in_leaf s.first s ended) in
    let whole : are_whole 1 s.steps ≡ true = ap (are_whole 1) (sym (append-nil s.steps)) ∙ h.goes_on [] ∙ ap (λ k. are_whole k []) none in
    and_from (list_all (is_step n) s.steps && nat_le (branch_count s.steps) most_branches && nat_le (change_count s.steps) most_changes) (are_whole 1 s.steps)
    (and_from (list_all (is_step n) s.steps && nat_le (branch_count s.steps) most_branches) (nat_le (change_count s.steps) most_changes)
    (and_from (list_all (is_step n) s.steps) (nat_le (branch_count s.steps) most_branches) h.all_steps
    (le-leb (branch_count s.steps) most_branches (omega (arith, h.counted, h.few))))
    (le-leb (change_count s.steps) most_changes (omega (arith, h.counted_changes, h.few_changes)))) whole
