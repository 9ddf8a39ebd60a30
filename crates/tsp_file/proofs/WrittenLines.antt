-- Lines, digits, blocks and matrices as they are written, part by part, for src/writer.rt and the files below it.
use Rattle.tsp_file.proofs.Prelude.{◌≡◌, ℕ, ◌==◌, true, false, List, [], ◌∷◌, ◌++◌, length, map, sym, subst, append_assoc, arith, zero, suc, ◌+◌, ◌-◌, ◌*◌, ◌/◌, ◌%◌, ◌^◌, ◌<◌, ◌≤◌, drop, max, refl, ap, ◌∙◌, inl, inr, length-append, take, min, cases_lt, and_parts, leb-true, false≢true, drop-drop, drop_at, drop-append-le, take_min, drop_min, take-append-drop, drop_all, flat_map-map, sum_by-cons, signed_decimal, decimal, flat_map, range_with_len, list_all, sum_by, ℤ, ◌&&◌, not, nat_le, codes, carried_none, carried_then, carried_failed, Way, Carried, most_nodes, most_families, most_family_nodes, most_rows, most_branches, most_changes, most_difference, nodes_to, Step, SubsetRow, row_size, Branch, Leaf, are_whole, branch_count, change_count, field_word, Field}
use Rattle.std.proofs.Math.Nat.{pow-suc}
use Rattle.std.proofs.lemmas.Bool.Decides.{nat_tests}
use Rattle.std.proofs.lemmas.Fmt.{decimal_digit, decimal_step, length-decimal-le}
use Rattle.std.proofs.lemmas.Grind.{flat_map-append}
use Rattle.tsp_file.proofs.TextLengths.{three_parts, within_short, node_short, flat_short, line_of_two_short}
use Rattle.tsp_file.specs.CanonicalText.{blank_before, line_end, number_line, section_text, weight_line, matrix_lines, before_blank, set_line, family_lines, family_list, row_lines, row_list, change_words, step_line, case_tree_lines}
use Rattle.tsp_file.specs.Validity.{is_within, is_node, is_set_of, are_sets, are_family_lists, are_memory_lists, is_row_of, are_subset_rows, is_change, is_step, are_tree_steps}

-- no value, and no blank before it
pub no_value : (a b : Way) (value : List ℕ) → (length value == 0) ≡ true → Carried a b [] → Carried a b (blank_before value)
no_value a b [] empty h = h
no_value a b (x ∷ value) empty h = absurd (grind (arith, nat_tests))

-- a blank and the value
pub some_value : (a b : Way) (value : List ℕ) → (length value == 0) ≡ false → Carried a b (32 ∷ value)
    → Carried a b (blank_before value)
some_value a b [] full h = absurd (cc)
some_value a b (x ∷ value) full h = h

-- a line of two numbers
pub two_numbers : (a b c d : Way) (first second : List ℕ) → Carried a b first → Carried b c (32 ∷ second) → Carried c d line_end
    → Carried a d (number_line first (second ∷ []))
two_numbers a b c d first second h k end =
    carried_then a b d first (((32 ∷ second) ++ []) ++ line_end) h
    (carried_then b c d ((32 ∷ second) ++ []) line_end (carried_then b c c (32 ∷ second) [] k (carried_none c)) end)

-- a line of three numbers
pub three_numbers : (a b c d e : Way) (first second third : List ℕ) → Carried a b first → Carried b c (32 ∷ second)
    → Carried c d (32 ∷ third) → Carried d e line_end
    → Carried a e (number_line first (second ∷ third ∷ []))
three_numbers a b c d e first second third h k l end =
    carried_then a b e first (((32 ∷ second) ++ ((32 ∷ third) ++ [])) ++ line_end) h
    (carried_then b d e ((32 ∷ second) ++ ((32 ∷ third) ++ [])) line_end
    (carried_then b c d (32 ∷ second) ((32 ∷ third) ++ []) k (carried_then c d d (32 ∷ third) [] l (carried_none d))) end)

-- no weights, and no line
pub no_weights : (a : Way) (weights : List ℤ) → length weights ≡ 0 → Carried a a (weight_line weights)
no_weights a [] empty = carried_none a
no_weights a (x ∷ weights) empty = absurd (cc)

-- the line of some weights
pub some_weights : (a b c d : Way) (weights : List ℤ) (first : ℤ) (rest : List ℤ) → weights ≡ first ∷ rest
    → Carried a b (signed_decimal first)
    → Carried b c (flat_map (λ word. 32 ∷ word) (map signed_decimal rest)) → Carried c d line_end
    → Carried a d (weight_line weights)
some_weights a b c d weights first rest is h k end =
    subst (λ t. Carried a d (weight_line t)) (sym is)
    (carried_then a b d (signed_decimal first) (flat_map (λ word. 32 ∷ word) (map signed_decimal rest) ++ line_end) h
    (carried_then b c d (flat_map (λ word. 32 ∷ word) (map signed_decimal rest)) line_end k end))

-- a section's line, then its lines
pub opened : (a b c : Way) (field : Field) (lines : List ℕ) → Carried a b (field_word field ++ line_end) → Carried b c lines
    → Carried a c (section_text field lines)
opened a b c field lines h k =
    subst (λ t. Carried a c t) (append_assoc (field_word field) line_end lines)
    (carried_then a b c (field_word field ++ line_end) lines h k)

-- ---- the decimal digits of a number below 10^8, written two at a time

-- the two digits of a number below 100
abbrev pub pair : ℕ → List ℕ
pair p = (48 + p / 10) ∷ (48 + p % 10) ∷ []

-- ---- how many digits a number has

pub length_by_power : (k n : ℕ) → n < 2 ^ 64 → 10 ^ k ≤ n → n < 10 * 10 ^ k → length (decimal n) ≡ k + 1
length_by_power zero n small low high = ap length (decimal_digit n (omega arith))
length_by_power (suc k) n small low high =
    let power : 10 ^ suc k ≡ 10 ^ k * 10 = pow-suc 10 k in
    let least : 10 ≤ 10 ^ k * 10 = omega (arith, one_le k) in
    let step : length (decimal n) ≡ length (decimal (n / 10)) + 1 = ap length (decimal_step n (omega arith) small)
    ∙ length-append _ _ in
    step ∙ ap (λ m. m + 1) (length_by_power k (n / 10) (omega arith) (omega arith) (omega arith)) ∙ omega arith
  where
    one_le : (k : ℕ) → 1 ≤ 10 ^ k
    one_le zero = omega arith
    one_le (suc k) = let more = pow-suc 10 k in omega (arith, one_le k)

length_one : (n : ℕ) → n < 10 → length (decimal n) ≡ 1
length_one n h = ap length (decimal_digit n h)

-- by the largest power of ten that is not above it, with 1 in place of 0
pub counted : (n k m : ℕ) → m < 2 ^ 64 → m ≡ max n 1 → 10 ^ k ≤ m → m < 10 * 10 ^ k → k + 1 ≡ length (decimal n)
counted n k m small is low high =
    elim (cases_lt n 1) [
      | inl none ↦
          let one : m ≡ 1 = omega (arith, is, none) in
          sym (length_by_power k m small low high) ∙ length_one m (omega (arith, one)) ∙ sym (length_one n (omega (arith, none)))
      | inr some ↦
          let same : m ≡ n = omega (arith, is, some) in
          sym (length_by_power k m small low high) ∙ ap (λ (j : ℕ). length (decimal j)) same
    ]

pub at_most_eight : (n : ℕ) → n < 100000000 → length (decimal n) ≤ 8
at_most_eight n few = length-decimal-le 8 n (omega arith) (omega arith) (omega arith)

-- ---- pairs of digits, and the number without its leading zeros

-- the last digits of a number, by two
abbrev pub pairs : ℕ → ℕ → List ℕ
pairs zero n = []
pairs (suc k) n = pairs k (n / 100) ++ pair (n % 100)

length-pairs : (k n : ℕ) → length (pairs k n) ≡ 2 * k
length-pairs zero n = refl
length-pairs (suc k) n =
    length-append (pairs k (n / 100)) (pair (n % 100)) ∙ ap (λ m. m + 2) (length-pairs k (n / 100)) ∙ omega arith

decimal_two : (n : ℕ) → 10 ≤ n → n < 100 → decimal n ≡ pair n
decimal_two n low high = rw (decimal_step n low (omega arith), decimal_digit (n / 10) (omega arith)) refl

decimal_pair : (n : ℕ) → 100 ≤ n → n < 2 ^ 64 → decimal n ≡ decimal (n / 100) ++ pair (n % 100)
decimal_pair n low high =
    let a : n / 10 / 10 ≡ n / 100 = omega arith in
    let b : n / 10 % 10 ≡ n % 100 / 10 = omega arith in
    let c : n % 10 ≡ n % 100 % 10 = omega arith in
    rw (decimal_step n (omega arith) high, decimal_step (n / 10) (omega arith) (omega arith), append_assoc, a, b, ← c) refl

-- of a number of two digits or one
short : (n m : ℕ) (front : List ℕ) → n < 100 → length front ≡ m
    → drop (m + 2 - length (decimal n)) (front ++ pair (n % 100)) ≡ decimal n
short n m front few long =
    elim (cases_lt n 10) [
      | inl one ↦
          let count : length (decimal n) ≡ 1 = length_one n one in
          let place : m + 2 - length (decimal n) ≡ m + 1 = omega (arith, count) in
          let same : n % 100 ≡ n = omega arith in
          let digit : n % 10 ≡ n = omega arith in
          let front_len : length (front ++ (48 + n / 10) ∷ []) ≡ m + 1 = length-append front ((48 + n / 10) ∷ [])
          ∙ ap (λ (k : ℕ). k + 1) long in
          ap (λ (k : ℕ). drop k (front ++ pair (n % 100))) place
          ∙ ap (λ (k : ℕ). drop (m + 1) (front ++ pair k)) same
          ∙ ap (λ (t : List ℕ). drop (m + 1) t) (sym (append_assoc front ((48 + n / 10) ∷ []) ((48 + n % 10) ∷ [])))
          ∙ drop_at (front ++ (48 + n / 10) ∷ []) ((48 + n % 10) ∷ []) (m + 1) front_len
          ∙ ap (λ (k : ℕ). (48 + k) ∷ []) digit ∙ sym (decimal_digit n one)
      | inr two ↦
          let count : length (decimal n) ≡ 2 = ap length (decimal_two n two few) in
          let place : m + 2 - length (decimal n) ≡ m = omega (arith, count) in
          let same : n % 100 ≡ n = omega arith in
          ap (λ (k : ℕ). drop k (front ++ pair (n % 100))) place
          ∙ ap (λ (k : ℕ). drop m (front ++ pair k)) same
          ∙ drop_at front (pair n) m long ∙ sym (decimal_two n two few)
    ]

-- of a number of more digits, by that of a hundredth
long : (n m : ℕ) (front : List ℕ) → 100 ≤ n → n < 2 ^ 64 → length front ≡ m
    → drop (m - length (decimal (n / 100))) front ≡ decimal (n / 100)
    → drop (m + 2 - length (decimal n)) (front ++ pair (n % 100)) ≡ decimal n
long n m front more small count rest =
    let text = decimal_pair n more small in
    let length_is : length (decimal n) ≡ length (decimal (n / 100)) + 2 = ap length text
    ∙ length-append (decimal (n / 100)) (pair (n % 100)) in
    let place : m + 2 - length (decimal n) ≡ m - length (decimal (n / 100)) = omega (arith, length_is) in
    ap (λ k. drop k (front ++ pair (n % 100))) place
    ∙ drop-append-le (m - length (decimal (n / 100))) front (pair (n % 100)) (omega (arith, count))
    ∙ ap (λ t. t ++ pair (n % 100)) rest ∙ sym text

without_zeros : (k n : ℕ) → n < 2 ^ 64 → n < 100 * 100 ^ k → drop (2 * k + 2 - length (decimal n)) (pairs (suc k) n) ≡ decimal n
without_zeros zero n small few = short n 0 [] (omega arith) refl
without_zeros (suc k) n small few =
    let power : 100 ^ suc k ≡ 100 ^ k * 100 = pow-suc 100 k in
    let count : length (pairs (suc k) (n / 100)) ≡ 2 * suc k = length-pairs (suc k) (n / 100) in
    elim (cases_lt n 100) [
      | inl below ↦ short n (2 * suc k) (pairs (suc k) (n / 100)) below count
      | inr above ↦
          let two : 2 * k + 2 ≡ 2 * suc k = omega arith in
          long n (2 * suc k) (pairs (suc k) (n / 100)) above small count
          (ap (λ m. drop (m - length (decimal (n / 100))) (pairs (suc k) (n / 100))) (sym two)
          ∙ without_zeros k (n / 100) (omega arith) (omega arith))
    ]

-- Eight digits are written, up to a place. From the first one that isn't a leading zero they are the number's text.
pub digits_written : (n end : ℕ) (old new : List ℕ) → n < 100000000 → 8 ≤ end
    → drop (end - 8) new ≡ pair (n / 10000 / 100)
    ++ (pair (n / 10000 % 100) ++ (pair (n % 10000 / 100) ++ (pair (n % 10000 % 100) ++ drop end old)))
    → drop (end - length (decimal n)) new ≡ decimal n ++ drop end old
digits_written n end old new few most written =
    let a : n / 10000 / 100 ≡ n / 100 / 100 / 100 % 100 = omega arith in
    let b : n / 10000 % 100 ≡ n / 100 / 100 % 100 = omega arith in
    let c : n % 10000 / 100 ≡ n / 100 % 100 = omega arith in
    let d : n % 10000 % 100 ≡ n % 100 = omega arith in
    let all : drop (end - 8) new ≡ pairs 4 n ++ drop end old = rw (← a, ← b, ← c, ← d) written in
    let short_enough : length (decimal n) ≤ 8 = at_most_eight n few in
    let place : end - length (decimal n) ≡ end - 8 + (8 - length (decimal n)) = omega (arith, short_enough) in
    ap (λ k. drop k new) place ∙ sym (drop-drop (8 - length (decimal n)) (end - 8) new)
    ∙ ap (drop (8 - length (decimal n))) all
    ∙ drop-append-le (8 - length (decimal n)) (pairs 4 n) (drop end old) (omega (arith, length-pairs 4 n))
    ∙ ap (λ t. t ++ drop end old) (without_zeros 3 n (omega arith) (omega arith))

-- ---- the lines of EDGE_WEIGHT_SECTION

-- a prefix of the whole text was written, and this rest is still to be written
pub record Comes (a b : Way) (rest whole : List ℕ) : Type 0 where
  pub done : List ℕ
  pub carried : Carried a b done
  pub parts : done ++ rest ≡ whole

comes_more : (a b c : Way) (rest whole x later : List ℕ) → Comes a b rest whole → Carried b c x → rest ≡ x ++ later
    → Comes a c later whole
comes_more a b c rest whole x later h k e = record {
  done = h.done ++ x;
  carried = carried_then a b c h.done x h.carried k;
  parts = append_assoc h.done x later ∙ ap (λ (t : List ℕ). h.done ++ t) (sym e) ∙ h.parts;
}

-- all of the rest is written
pub comes_all : (a b c : Way) (rest whole : List ℕ) → Comes a b rest whole → Carried b c rest → Carried a c whole
comes_all a b c rest whole h k = subst (λ t. Carried a c t) h.parts (carried_then a b c h.done rest h.carried k)

-- the writer has failed
pub comes_failed : (a b : Way) (rest whole : List ℕ) → Comes a b rest whole → b.failed ≡ true → Carried a b whole
comes_failed a b rest whole h failed = comes_all a b b rest whole h (carried_failed b rest failed)

-- a number of lines, from one on
abbrev pub lines_from : (ℕ → ℕ) → ℕ → ℕ → List ℤ → List ℕ
lines_from f line count weights = matrix_lines (map f (range_with_len line count)) weights

pub comes_begins : (f : ℕ → ℕ) (n : ℕ) (weights : List ℤ) (a : Way)
    → Comes a a (lines_from f 1 (n - 0) weights) (matrix_lines (map f (nodes_to n)) weights)
unfolding nodes_to
comes_begins f n weights a =
    let all : n - 0 ≡ n = omega arith in
    record { done = []; carried = carried_none a; parts = ap (λ m. lines_from f 1 m weights) all }

-- the first line, and those after it
lines_first : (f : ℕ → ℕ) (line count : ℕ) (rest : List ℤ)
    → lines_from f line (suc count) rest ≡ weight_line (take (f line) rest) ++ lines_from f (line + 1) count (drop (f line) rest)
lines_first f line count rest = refl

pub comes_next : (f : ℕ → ℕ) (n index len count : ℕ) (rest now later : List ℤ) (whole : List ℕ) (a b c : Way) → index < n
    → len ≡ f (index + 1) → count ≡ min len (length rest)
    → now ≡ take count rest → later ≡ drop count rest
    → Comes a b (lines_from f (index + 1) (n - index) rest) whole → Carried b c (weight_line now)
    → Comes a c (lines_from f (index + 1 + 1) (n - (index + 1)) later) whole
comes_next f n index len count rest now later whole a b c lt is fewer front back h k =
    let lines : n - index ≡ suc (n - (index + 1)) = omega arith in
    let taken : now ≡ take (f (index + 1)) rest = front ∙ ap (λ m. take m rest) fewer ∙ take_min len rest
    ∙ ap (λ m. take m rest) is in
    let left : later ≡ drop (f (index + 1)) rest = back ∙ ap (λ m. drop m rest) fewer ∙ drop_min len rest
    ∙ ap (λ m. drop m rest) is in
    let parts : lines_from f (index + 1) (n - index) rest ≡ weight_line now ++ lines_from f (index + 1 + 1) (n - (index + 1))
    later =
    ap (λ m. lines_from f (index + 1) m rest) lines ∙ lines_first f (index + 1) (n - (index + 1)) rest
    ∙ ap (λ (ws : List ℤ). weight_line ws ++ lines_from f (index + 1 + 1) (n - (index + 1)) (drop (f (index + 1)) rest))
    (sym taken)
    ∙ ap (λ (ws : List ℤ). weight_line now ++ lines_from f (index + 1 + 1) (n - (index + 1)) ws) (sym left) in
    comes_more a b c (lines_from f (index + 1) (n - index) rest) whole (weight_line now)
    (lines_from f (index + 1 + 1) (n - (index + 1)) later) h k parts

-- no line is left
pub comes_last : (f : ℕ → ℕ) (n index : ℕ) (rest : List ℤ) (whole : List ℕ) (a b c : Way) → n ≤ index
    → Comes a b (lines_from f (index + 1) (n - index) rest) whole → Carried b c (weight_line rest) → Carried a c whole
comes_last f n index rest whole a b c all h k =
    let count : n - index ≡ 0 = omega arith in
    comes_all a b c (weight_line rest) whole (subst (λ m. Comes a b (lines_from f (index + 1) m rest) whole) count h) k

-- ---- weights by blocks

-- each weight after a blank
abbrev pub after_blanks : List ℤ → List ℕ
after_blanks weights = flat_map (λ weight. 32 ∷ signed_decimal weight) weights

-- a block of weights, and those after it
pub comes_block : (count : ℕ) (rest now later : List ℤ) (whole : List ℕ) (a b c : Way) → now ≡ take count rest
    → later ≡ drop count rest
    → Comes a b (after_blanks rest) whole → Carried b c (after_blanks now) → Comes a c (after_blanks later) whole
comes_block count rest now later whole a b c front back h k =
    let parts : after_blanks rest ≡ after_blanks now ++ after_blanks later =
    ap after_blanks (sym (take-append-drop count rest))
    ∙ flat_map-append (λ weight. 32 ∷ signed_decimal weight) (take count rest) (drop count rest)
    ∙ ap (λ (ws : List ℤ). after_blanks ws ++ after_blanks (drop count rest)) (sym front)
    ∙ ap (λ (ws : List ℤ). after_blanks now ++ after_blanks ws) (sym back) in
    comes_more a b c (after_blanks rest) whole (after_blanks now) (after_blanks later) h k parts

-- none of the weights is left
pub comes_blocks : (weights rest : List ℤ) (a b : Way) → (length rest == 0) ≡ true
    → Comes a b (after_blanks rest) (after_blanks weights)
    → Carried a b (flat_map (λ word. 32 ∷ word) (map signed_decimal weights))
comes_blocks weights [] a b empty h =
    subst (λ t. Carried a b t) (sym (words weights)) (comes_all a b b [] (after_blanks weights) h (carried_none b))
  where
    words : (weights : List ℤ) → flat_map (λ word. 32 ∷ word) (map signed_decimal weights) ≡ after_blanks weights
    words [] = refl
    words (x ∷ weights) = ap (λ t. (32 ∷ signed_decimal x) ++ t) (words weights)
comes_blocks weights (x ∷ rest) a b empty h = absurd (grind (arith, nat_tests))

-- ---- a block of bytes with weights in it, each after a blank, filled from its end

-- no weight is written yet
pub block_begins : (weights : List ℤ) (block : List ℕ) → length block ≡ 576
    → drop 576 block ≡ after_blanks (drop (length weights) weights)
block_begins weights block long =
    drop_all 576 block (omega (arith, long)) ∙ sym (ap after_blanks (drop_all (length weights) weights (omega arith)))

-- ---- the lengths of COMB_SECTION and TREE_SECTION in a valid file

-- a list of lists of texts, put together
pub flat_of_flat : {X Y Z : Type 0} (f : Y → List Z) (g : X → List Y) (xs : List X)
    → flat_map f (flat_map g xs) ≡ flat_map (λ x. flat_map f (g x)) xs
flat_of_flat f g [] = refl
flat_of_flat {X} {Y} {Z} f g (x ∷ xs) =
    flat_map-append f (g x) (flat_map g xs) ∙ ap (λ (t : List Z). flat_map f (g x) ++ t) (flat_of_flat f g xs)

blank_after : (word : List ℕ) (k : ℕ) → length word ≤ k → length (before_blank word) ≤ k + 1
blank_after word k short = omega (arith, length-append word (32 ∷ []), short)

end_after : (line : List ℕ) → length (line ++ (codes "-1" ++ line_end)) ≡ length line + 3
end_after line = length-append line (codes "-1" ++ line_end)

-- ---- families

-- a set has a node, so there are no more -1 than nodes
set_short : (n : ℕ) → n ≤ most_nodes → (set : List ℕ) → is_set_of n set ≡ true → length (set_line set) ≤ 10 * length set
set_short n most set fits =
    let parts = and_parts (nat_le 1 (length set)) (list_all (is_node n) set) fits in
    let some = leb-true 1 (length set) parts.0 in
    let nodes = flat_short (is_node n) (λ node. before_blank (decimal node)) 7
    (λ node fit. blank_after (decimal node) 6 (node_short n node most fit)) set parts.1 in
    omega (
      arith,
      some,
      nodes,
      ap length (flat_map-map before_blank decimal set),
      end_after (flat_map before_blank (map decimal set)),
    )

sets_short : (n : ℕ) → n ≤ most_nodes → (sets : List (List ℕ)) → list_all (is_set_of n) sets ≡ true
    → length (flat_map set_line sets) ≤ 10 * sum_by length sets
sets_short n most [] all = omega arith
sets_short n most (set ∷ sets) all =
    let parts = and_parts (is_set_of n set) (list_all (is_set_of n) sets) all in
    let sum : sum_by length (set ∷ sets) ≡ length set + sum_by length sets = sum_by-cons length set sets in
    omega (
      arith,
      length-append (set_line set) (flat_map set_line sets),
      set_short n most set parts.0,
      sets_short n most sets parts.1,
      sum,
    )

family_short : (n : ℕ) → n ≤ most_nodes → (family : List (List ℕ)) → are_sets n family ≡ true
    → length (family_lines family) ≤ 10 * sum_by length family + 3
family_short n most family fits =
    let parts = and_parts (nat_le 1 (length family)) (list_all (is_set_of n) family) fits in
    omega (arith, sets_short n most family parts.1, end_after (flat_map set_line family))

each_family_short : (n : ℕ) → n ≤ most_nodes → (families : List (List (List ℕ))) → list_all (are_sets n) families ≡ true
    → length (flat_map family_lines families) ≤ 10 * sum_by (sum_by length) families + 3 * length families
each_family_short n most [] all = omega arith
each_family_short n most (family ∷ families) all =
    let parts = and_parts (are_sets n family) (list_all (are_sets n) families) all in
    let sum : sum_by (sum_by length) (family ∷ families) ≡ sum_by length family + sum_by (sum_by length) families =
    sum_by-cons (sum_by length) family families in
    omega (
      arith,
      length-append (family_lines family) (flat_map family_lines families),
      family_short n most family parts.0,
      each_family_short n most families parts.1,
      sum,
    )

-- each of 1,000,000 nodes in at most 10 bytes, and a line for each of 10,000 families
pub families_short : (n : ℕ) (families : List (List (List ℕ))) → n ≤ most_nodes → are_family_lists n families ≡ true
    → length (family_list families) ≤ 10030003
families_short n families most fits =
    let parts = three_parts (nat_le (length families) most_families) (list_all (are_sets n) families)
    (nat_le (sum_by (sum_by length) families) most_family_nodes) fits in
    let few = leb-true (length families) most_families parts.0 in
    let few_nodes = leb-true (sum_by (sum_by length) families) most_family_nodes parts.2 in
    omega (arith, few, few_nodes, each_family_short n most families parts.1, end_after (flat_map family_lines families))

-- the lists of a memory, none of them empty
pub memories_short : (n : ℕ) (lists : List (List ℕ)) → n ≤ most_nodes → are_memory_lists n lists ≡ true
    → length (family_lines lists) ≤ 10000003
memories_short n lists most fits =
    let parts = and_parts (list_all (is_set_of n) lists) (nat_le (sum_by length lists) most_family_nodes) fits in
    let few = leb-true (sum_by length lists) most_family_nodes parts.1 in
    omega (arith, few, sets_short n most lists parts.0, end_after (flat_map set_line lists))

-- nodes that may be none
further_short : (n : ℕ) → n ≤ most_nodes → (set : List ℕ) → list_all (is_node n) set ≡ true
    → length (set_line set) ≤ 10 * length set + 3
further_short n most set fits =
    let nodes = flat_short (is_node n) (λ node. before_blank (decimal node)) 7
    (λ node fit. blank_after (decimal node) 6 (node_short n node most fit)) set fits in
    omega (
      arith,
      nodes,
      ap length (flat_map-map before_blank decimal set),
      end_after (flat_map before_blank (map decimal set)),
    )

each_row_short : (n : ℕ) → n ≤ most_nodes → (rows : List SubsetRow) → list_all (is_row_of n) rows ≡ true
    → length (flat_map row_lines rows) ≤ 10 * sum_by row_size rows + 3 * length rows
each_row_short n most [] all = omega arith
each_row_short n most (row ∷ rows) all =
    let parts = and_parts (is_row_of n row) (list_all (is_row_of n) rows) all in
    let two = and_parts (is_set_of n row.set) (list_all (is_node n) row.further) parts.0 in
    let sum : sum_by row_size (row ∷ rows) ≡ row_size row + sum_by row_size rows = sum_by-cons row_size row rows in
    omega (
      arith,
      length-append (row_lines row) (flat_map row_lines rows),
      length-append (set_line row.set) (set_line row.further),
      set_short n most row.set two.0,
      further_short n most row.further two.1,
      each_row_short n most rows parts.1,
      sum,
    )

-- each of 1,000,000 nodes in at most 10 bytes, and 3 bytes for each of 10,000 rows
pub rows_short : (n : ℕ) (rows : List SubsetRow) → n ≤ most_nodes → are_subset_rows n rows ≡ true
    → length (row_list rows) ≤ 10030003
rows_short n rows most fits =
    let parts = three_parts (nat_le (length rows) most_rows) (list_all (is_row_of n) rows)
    (nat_le (sum_by row_size rows) most_family_nodes) fits in
    let few = leb-true (length rows) most_rows parts.0 in
    let few_nodes = leb-true (sum_by row_size rows) most_family_nodes parts.2 in
    omega (arith, few, few_nodes, each_row_short n most rows parts.1, end_after (flat_map row_lines rows))

-- ---- steps

-- an index of at most 110,000
index_short : (n index : ℕ) → n ≤ most_nodes → is_node (n + most_families) index ≡ true → length (decimal index) ≤ 6
index_short n index most fits =
    let upper = leb-true index (n + most_families) (and_parts (nat_le 1 index) (nat_le index (n + most_families)) fits).1 in
    length-decimal-le 6 index (omega arith) (omega (arith, most, upper)) (omega (arith, most, upper))

-- an index of at most 120,000
leaf_index_short : (n index : ℕ) → n ≤ most_nodes → is_node (n + most_families + most_rows) index ≡ true
    → length (decimal index) ≤ 6
leaf_index_short n index most fits =
    let last = n + most_families + most_rows in
    let upper = leb-true index last (and_parts (nat_le 1 index) (nat_le index last) fits).1 in
    length-decimal-le 6 index (omega arith) (omega (arith, most, upper)) (omega (arith, most, upper))

change_short : (n : ℕ) → n ≤ most_nodes → (change : ℕ × ℤ) → is_change n change ≡ true
    → length (flat_map before_blank (change_words change)) ≤ 25
change_short n most change fits =
    let parts = and_parts (is_node (n + most_families + most_rows) change.0) (is_within most_difference change.1) fits in
    let index = blank_after (decimal change.0) 6 (leaf_index_short n change.0 most parts.0) in
    let difference = blank_after (signed_decimal change.1) 17
    (within_short 16 most_difference change.1 (omega arith) (omega arith) parts.1) in
    omega (
      arith,
      index,
      difference,
      length-append (before_blank (decimal change.0))
          (before_blank (signed_decimal change.1) ++ []),
      length-append (before_blank (signed_decimal change.1)) [],
    )

leaf_short : (n : ℕ) → n ≤ most_nodes → (changes : List (ℕ × ℤ)) → list_all (is_change n) changes ≡ true
    → length (step_line (Leaf changes)) ≤ 25 * length changes + 5
leaf_short n most changes all =
    let words : List (List ℕ) = flat_map change_words changes in
    let each = flat_short (is_change n) (λ (change : ℕ × ℤ). flat_map before_blank (change_words change)) 25 (change_short n most)
    changes all in
    omega (
      arith,
      each,
      ap length (flat_of_flat before_blank change_words changes),
      end_after (flat_map before_blank (codes "0" ∷ words)),
      length-append (before_blank (codes "0")) (flat_map before_blank words),
    )

branch_short : (n first second : ℕ) → n ≤ most_nodes → is_step n (Branch first second) ≡ true
    → length (step_line (Branch first second)) ≤ 14
branch_short n first second most fits =
    let parts = three_parts (is_node (n + most_families) first) (is_node n second) (not (first == second)) fits in
    line_of_two_short (decimal first) (decimal second) (index_short n first most parts.0, node_short n second most parts.1)

-- a tree has one leaf more than branches, so there are as many lines of leaves, and one more
all_steps_short : (n : ℕ) → n ≤ most_nodes → (count : ℕ) (steps : List Step) → list_all (is_step n) steps ≡ true
    → are_whole count steps ≡ true
    → length (case_tree_lines steps) ≤ 19 * branch_count steps + 25 * change_count steps + 5 * count
all_steps_short n most zero [] all whole = omega arith
all_steps_short n most (suc count) [] all whole = absurd (false≢true whole)
all_steps_short n most zero (step ∷ steps) all whole = absurd (false≢true whole)
all_steps_short n most (suc count) (Branch first second ∷ steps) all whole =
    let parts = and_parts (is_step n (Branch first second)) (list_all (is_step n) steps) all in
    let others = all_steps_short n most (suc (suc count)) steps parts.1 whole in
    omega (
      arith,
      length-append (step_line (Branch first second)) (case_tree_lines steps),
      branch_short n first second most parts.0,
      others,
    )
all_steps_short n most (suc count) (Leaf changes ∷ steps) all whole =
    let parts = and_parts (is_step n (Leaf changes)) (list_all (is_step n) steps) all in
    let others = all_steps_short n most count steps parts.1 whole in
    omega (arith, length-append (step_line (Leaf changes)) (case_tree_lines steps), leaf_short n most changes parts.0, others)

-- each of 10,000,000 differences with its index in at most 25 bytes, and 19 for each of 1,000,000 branches and a leaf
pub steps_short : (n : ℕ) (steps : List Step) → n ≤ most_nodes → are_tree_steps n steps ≡ true
    → length (case_tree_lines steps) ≤ 269000005
steps_short n steps most fits =
    let both = and_parts (list_all (is_step n) steps && nat_le (branch_count steps) most_branches && nat_le (change_count steps)
    most_changes) (are_whole 1 steps) fits in
    let parts = three_parts (list_all (is_step n) steps) (nat_le (branch_count steps) most_branches)
    (nat_le (change_count steps) most_changes) both.0 in
    let few = leb-true (branch_count steps) most_branches parts.1 in
    let few_changes = leb-true (change_count steps) most_changes parts.2 in
    omega (arith, few, few_changes, all_steps_short n most 1 steps parts.0 both.1)
