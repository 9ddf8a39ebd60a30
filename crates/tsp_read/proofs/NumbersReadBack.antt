-- Numbers of a canonical text, alone or in lists, are read back: the law `written_numbers_are_read_back`, and the
-- ground of the other files on reading back.
use Rattle.tsp_read.proofs.Prelude.{◌≡◌, ℕ, suc, zero, ◌+◌, ◌/◌, ◌%◌, ◌^◌, ◌<◌, ◌≤◌, Bool, true, false, cond, List, [], ◌∷◌, ◌++◌, length, refl, sym, ap, ◌∙◌, arith, append-nil, inl, inr, Result, Ok, Err, ◌*◌, map, Option, None, ap₂, append_assoc, true≢false, and_from, and_parts, le-leb, leb-true, false_from_ne_true, lt-leb, eq-eqb, and_right, and_left, not_from_true, not-true, or_right, Decides-int_eq, length_push, map_push, list_all-append, list_any-append, decimal, signed_decimal, list_all, list_any, flat_map, option_map, int_eq, ℤ, pos, negsuc, ◌*ℤ◌, ◌≤ℤ◌, ◌==◌, nat_le, int_le, unsigned_abs, codes, not, ◌&&◌, nat_abs, ◌||◌, take, result_err, unit, most_count, minus, point, IsSign, Numeral, with_sign, shift_of, StandsFor, ReadsDecimal, ReadsWhole, decimal_of, whole_of, decimals, fraction_spelling, size_spelling, spelling, NumberFault, most_families, most_weight, most_depots, most_fixed, most_multiplier, within_abs, is_from_to, is_within, is_node, is_pair_of, is_branch_of, is_triple_of, Words, first_of, goes_on, firsts_begin, groups_append, begun_append, firsts_on, when, first_row, word_fault, before, depots_in, place_of_depot, groups_in, begun_in, word_at, listed_in, firsts_in, place_in_list, fixed_pair, place_in_pair, fixed_triple, place_in_triple, is_not_empty, node, node_or_end, is_end, not_zero, reads_as, number, whole_of_size, DepotAfter, FirstAfter, SecondOf, PastEnd, Weight, PastWeights, weights_in, place_of_weight, Place, Amount, wants_more}
use Rattle.std.proofs.Math.Nat.{pow-suc}
use Rattle.std.proofs.lemmas.Float.{T_from_true}
use Rattle.std.proofs.lemmas.Fmt.{decimal_is_IsNumeral, length-decimal-le, decimal_digit}
use Rattle.std.proofs.lemmas.Nat.{mod_below, div_below}
use Rattle.std.proofs.lemmas.Str.Parse.{digit_from_value}
use Rattle.std.specs.Char.{digit_value}
use Rattle.std.specs.Str.Parse.{AllDigits, digits_value}
use Rattle.tsp_number.proofs.Scaling.{pow_above_zero}
use Rattle.tsp_number.specs.declared.number_word.NumberFault.TheVariants.{OutOfRange}
use Rattle.tsp_text.proofs.ValidKeywords.{any_push}
use Rattle.tsp_text.specs.declared.fault.LineFault.TheVariants as row
use Rattle.tsp_read.proofs.Onto.{AllTaken, taken-append}
use Rattle.tsp_read.proofs.Text.{is_plain, is_plain_word}

-- the laws of number words and of their texts
pub record WordLaws : Type 0 where
  pub one_whole : (word : List ℕ) (low high : ℤ) (r s : Result ℤ NumberFault) → ReadsWhole word low high r → ReadsWhole word low high s → r ≡ s
  pub some_whole : (word : List ℕ) (low high : ℤ) → ReadsWhole word low high (whole_of word low high)
  pub some_decimal : (word : List ℕ) → ReadsDecimal word (decimal_of word)
  pub round_trip : (k : ℤ) (r : Result ℤ NumberFault) → unsigned_abs k ≤ most_count → ReadsDecimal (spelling k) r → r ≡ Ok k

-- what follows from them: numbers that are written are read back
pub record NumberLaws : Type 0 where
  pub whole_back : (z low high : ℤ) → unsigned_abs z < 2 ^ 63 → is_from_to low high z ≡ true → whole_of (signed_decimal z) low high ≡ Ok z
  pub decimal_back : (k : ℤ) → unsigned_abs k ≤ most_count → decimal_of (spelling k) ≡ Ok k

-- ---- words are plain

plain_range : (b : ℕ) → 45 ≤ b → b ≤ 57 → is_plain b ≡ true
plain_range b low high = and_from (nat_le 45 b) (nat_le b 57) (le-leb 45 b low) (le-leb b 57 high)

plain_digit : (b : ℕ) → digit_value b < 10 → is_plain b ≡ true
plain_digit b small =
    let range = digit_from_value b small in
    plain_range b (omega (arith, range.0)) (omega (arith, range.1))

plain_digits : (bytes : List ℕ) → AllDigits 10 bytes → list_all is_plain bytes ≡ true
plain_digits [] all = refl
plain_digits (b ∷ bytes) all = and_from (is_plain b) (list_all is_plain bytes) (plain_digit b all.0) (plain_digits bytes all.1)

filled_by : {A : Type 0} (xs : List A) → 0 < length xs → is_not_empty xs ≡ true
filled_by [] some = absurd (omega arith)
filled_by (x ∷ xs) some = refl

pub decimal_plain : (n : ℕ) → n < 2 ^ 64 → is_plain_word (decimal n) ≡ true
decimal_plain n small =
    let numeral = decimal_is_IsNumeral n small in
    and_from (is_not_empty (decimal n)) (list_all is_plain (decimal n)) (filled_by (decimal n) numeral.0.0) (plain_digits (decimal n) numeral.0.1)

after_minus : (bytes : List ℕ) → is_plain_word bytes ≡ true → is_plain_word (45 ∷ bytes) ≡ true
after_minus bytes plain = (and_parts (is_not_empty bytes) (list_all is_plain bytes) plain).1

pub signed_plain : (z : ℤ) → unsigned_abs z < 2 ^ 64 → is_plain_word (signed_decimal z) ≡ true
signed_plain (pos n) small = decimal_plain n small
signed_plain (negsuc n) small = after_minus (decimal (suc n)) (decimal_plain (suc n) small)

decimals_plain : (places rest : ℕ) → rest < 10 ^ places → list_all is_plain (decimals places rest) ≡ true
unfolding decimals
decimals_plain zero rest part = refl
decimals_plain (suc places) rest part =
    let first : rest / 10 ^ places < 10 = div_below rest (10 ^ places) 10 (pow_above_zero places) (omega (arith, pow-suc 10 places)) in
    let more = decimals_plain places (rest % 10 ^ places) (mod_below rest (10 ^ places) (pow_above_zero places)) in
    by_case (rest == 0) (and_from (is_plain (48 + rest / 10 ^ places)) (list_all is_plain (decimals places (rest % 10 ^ places)))
    (plain_range (48 + rest / 10 ^ places) (omega arith) (omega arith)) more)
  where
    by_case : (b : Bool) → list_all is_plain ((48 + rest / 10 ^ places) ∷ decimals places (rest % 10 ^ places)) ≡ true
        → list_all is_plain (cond b [] ((48 + rest / 10 ^ places) ∷ decimals places (rest % 10 ^ places))) ≡ true
    by_case true all = refl
    by_case false all = all

fraction_plain : (rest : ℕ) → rest < unit → list_all is_plain (fraction_spelling rest) ≡ true
fraction_plain rest part = by_case (rest == 0) (decimals_plain 9 rest part)
  where
    by_case : (b : Bool) → list_all is_plain (decimals 9 rest) ≡ true → list_all is_plain (cond b [] (point ∷ decimals 9 rest)) ≡ true
    by_case true all = refl
    by_case false all = all

filled_front : {A : Type 0} (xs ys : List A) → is_not_empty xs ≡ true → is_not_empty (xs ++ ys) ≡ true
filled_front [] ys e = absurd (true≢false (sym e))
filled_front (x ∷ xs) ys e = refl

size_plain : (size : ℕ) → size < 2 ^ 64 → is_plain_word (size_spelling size) ≡ true
size_plain size small =
    let whole = decimal_plain (size / unit) (omega arith) in
    let both = and_parts (is_not_empty (decimal (size / unit))) (list_all is_plain (decimal (size / unit))) whole in
    and_from (is_not_empty (size_spelling size)) (list_all is_plain (size_spelling size)) (filled_front (decimal (size / unit)) (fraction_spelling (size % unit)) both.0)
    (list_all-append is_plain (decimal (size / unit)) (fraction_spelling (size % unit))
    ∙ and_from (list_all is_plain (decimal (size / unit))) (list_all is_plain (fraction_spelling (size % unit))) both.1 (fraction_plain (size % unit) (mod_below size unit (omega arith))))

pub spelling_plain : (k : ℤ) → unsigned_abs k < 2 ^ 64 → is_plain_word (spelling k) ≡ true
spelling_plain (pos size) small = size_plain size small
spelling_plain (negsuc n) small = after_minus (size_spelling (suc n)) (size_plain (suc n) small)

-- ---- whole numbers

sign_text : Bool → List ℕ
sign_text false = []
sign_text true = minus ∷ []

is_sign : (negative : Bool) → IsSign (sign_text negative) negative
unfolding sign_text
is_sign false = inl (refl, refl)
is_sign true = inr (inr (refl, refl))

stands_whole : (negative : Bool) (size : ℕ) → size < 2 ^ 63
    → StandsFor (sign_text negative ++ decimal size) (with_sign negative size *ℤ pos unit)
stands_whole negative size small =
    let whole = decimal_is_IsNumeral size (omega arith) in
    let n : Numeral = record { negative = negative; whole = decimal size; fraction = []; exponent = pos 0 } in
    let value : digits_value 10 (decimal size ++ []) ≡ size = ap (digits_value 10) (append-nil (decimal size)) ∙ whole.1 in
    record {
      numeral = n;
      spelled = record {
        sign = sign_text negative;
        fraction_text = [];
        exponent_text = [];
        text_is = ap (λ ds. sign_text negative ++ ds) (sym (append-nil (decimal size)));
        is_sign = is_sign negative;
        whole_digits = whole.0.1;
        is_fraction = inr (refl, refl);
        fraction_digits = tt;
        some_digit = omega (arith, whole.0.0);
        is_exponent = inl (refl, refl);
      };
      shifted = ap (λ m. with_sign negative m *ℤ pos unit) (sym value);
    }

stands_signed : (z : ℤ) → unsigned_abs z < 2 ^ 63 → StandsFor (signed_decimal z) (z *ℤ pos unit)
unfolding sign_text
stands_signed (pos n) small = stands_whole false n small
stands_signed (negsuc n) small = stands_whole true (suc n) small

pub short_signed : (z : ℤ) → unsigned_abs z < 2 ^ 63 → length (signed_decimal z) ≤ 64
short_signed (pos n) small = omega (arith, length-decimal-le 20 n (omega arith) (omega arith) (omega arith))
short_signed (negsuc n) small = omega (arith, length-decimal-le 20 (suc n) (omega arith) (omega arith) (omega arith))

pub number_laws : WordLaws → NumberLaws
number_laws laws = record {
  whole_back = λ z low high small inside.
      let both = and_parts (int_le low z) (int_le z high) inside in
      let lower : low ≤ℤ z = record { le = T_from_true (int_le low z) both.0 } in
      let upper : z ≤ℤ high = record { le = T_from_true (int_le z high) both.1 } in
      laws.one_whole (signed_decimal z) low high (whole_of (signed_decimal z) low high) (Ok z) (laws.some_whole (signed_decimal z) low high)
      (short_signed z small, stands_signed z small, lower, upper);
  decimal_back = λ k most. laws.round_trip k (decimal_of (spelling k)) most (laws.some_decimal (spelling k));
}

-- a number of a range of natural numbers
pub size_from : (low most : ℕ) (z : ℤ) → is_from_to (pos low) (pos most) z ≡ true → unsigned_abs z ≤ most
size_from low most (pos n) e = leb-true n most (and_parts (nat_le low n) (nat_le n most) e).1
size_from low most (negsuc n) e = absurd (true≢false (sym e))

-- ---- nodes

pub node_back : NumberLaws → (n k : ℕ) → n < 2 ^ 32 → is_node n k ≡ true → node n (decimal k) ≡ Ok (pos k)
node_back laws n k few is =
    let both = and_parts (nat_le 1 k) (nat_le k n) is in
    laws.whole_back (pos k) (pos 1) (pos n) (omega (arith, leb-true k n both.1)) is

not_same : (a b : ℤ) → (a ≡ b → ⊥) → int_eq a b ≡ false
not_same a b differ = false_from_ne_true (int_eq a b) (λ e. differ ((Decides-int_eq a b).0 e))

pub no_zero : (k : ℕ) → 1 ≤ k → int_eq (pos k) (pos 0) ≡ false
no_zero k some = not_same (pos k) (pos 0) (λ e. let z : k ≡ 0 = cc in absurd (omega arith))

pub listed_back : NumberLaws → (n k : ℕ) → n < 2 ^ 32 → is_node n k ≡ true → node_or_end n (decimal k) ≡ Ok (pos k)
listed_back laws n k few is =
    let both = and_parts (nat_le 1 k) (nat_le k n) is in
    ap not_zero (laws.whole_back (pos k) (negsuc 0) (pos n) (omega (arith, leb-true k n both.1)) both.1)
    ∙ ap (λ b. cond b (Err OutOfRange) (Ok (pos k))) (no_zero k (leb-true 1 k both.0))

pub node_goes_on : NumberLaws → (n k : ℕ) → n < 2 ^ 32 → is_node n k ≡ true → is_end n (decimal k) ≡ false
node_goes_on laws n k few is = ap (reads_as (negsuc 0)) (listed_back laws n k few is) ∙ not_same (pos k) (negsuc 0) (λ e. cc)

minus_one : signed_decimal (negsuc 0) ≡ codes "-1"
minus_one = ap (λ (ds : List ℕ). 45 ∷ ds) (decimal_digit 1 (omega arith))

pub end_read : NumberLaws → (n : ℕ) → node_or_end n (codes "-1") ≡ Ok (negsuc 0)
end_read laws n =
    ap not_zero (ap (λ word. whole_of word (negsuc 0) (pos n)) (sym minus_one) ∙ laws.whole_back (negsuc 0) (negsuc 0) (pos n) (omega arith) refl)

pub end_ends : NumberLaws → (n : ℕ) → is_end n (codes "-1") ≡ true
end_ends laws n = ap (reads_as (negsuc 0)) (end_read laws n)

-- ---- depots, nodes of pairs and of triples

-- ---- rows of a word

pub no_rows : (o : Option NumberFault) (r s u a : Bool) → o ≡ None → r ≡ false → s ≡ false → u ≡ false → a ≡ false
    → first_row (option_map (λ fault. row.Number fault) o ∷ when r row.RepeatedNode ∷ when s row.SelfEdge ∷ when u row.Surplus ∷ when a row.AfterEnd ∷ []) ≡ None
no_rows o r s u a e f g h i = rw (e, f, g, h, i) refl

-- a list that is below its limit by one
pub has_room : (most count more : ℕ) → count + suc more ≤ most → nat_le most count ≡ false
has_room most count more room = lt-leb most count (omega arith)

-- ---- depots

pub depots_taken : NumberLaws → (n : ℕ) → n < 2 ^ 32 → (earlier : List (List ℕ)) (nodes : List ℕ)
    → list_any (is_end n) earlier ≡ false → length earlier + length nodes ≤ most_depots
    → list_all (is_node n) nodes ≡ true → AllTaken n (place_of_depot n) earlier (map decimal nodes ++ codes "-1" ∷ [])
depots_taken laws n few earlier [] unended room all =
    let place : place_of_depot n earlier ≡ DepotAfter (length earlier) = ap (λ b. cond b PastEnd (DepotAfter (length earlier))) unended in (
      ap (λ p. word_fault n p (codes "-1")) place
          ∙ no_rows (result_err (node_or_end n (codes "-1"))) false false (nat_le most_depots (length earlier) && not (is_end n (codes "-1"))) false
          (ap (λ (r : Result ℤ NumberFault). result_err r) (end_read laws n)) refl refl
          (and_right (nat_le most_depots (length earlier)) (not (is_end n (codes "-1"))) (not_from_true (is_end n (codes "-1")) (end_ends laws n))) refl,
      tt,
    )
depots_taken laws n few earlier (k ∷ nodes) unended room all =
    let both = and_parts (is_node n k) (list_all (is_node n) nodes) all in
    let place : place_of_depot n earlier ≡ DepotAfter (length earlier) = ap (λ b. cond b PastEnd (DepotAfter (length earlier))) unended in
    let goes_on = node_goes_on laws n k few both.0 in
    let unended_more : list_any (is_end n) (earlier ++ decimal k ∷ []) ≡ false = any_push (is_end n) earlier (decimal k) unended ∙ goes_on in
    let count = length_push earlier (decimal k) in (
      ap (λ p. word_fault n p (decimal k)) place
          ∙ no_rows (result_err (node_or_end n (decimal k))) false false (nat_le most_depots (length earlier) && not (is_end n (decimal k))) false
          (ap (λ (r : Result ℤ NumberFault). result_err r) (listed_back laws n k few both.0)) refl refl
          (and_left (nat_le most_depots (length earlier)) (not (is_end n (decimal k))) (has_room most_depots (length earlier) (length nodes) room)) refl,
      depots_taken laws n few (earlier ++ decimal k ∷ []) nodes unended_more (omega arith) both.1,
    )

pub depots_back : NumberLaws → (n : ℕ) → n < 2 ^ 32 → (nodes : List ℕ) → list_all (is_node n) nodes ≡ true
    → depots_in n (map decimal nodes ++ codes "-1" ∷ []) ≡ nodes
depots_back laws n few [] all =
    ap (λ b. map (λ word. nat_abs (number (node_or_end n word))) (cond b [] (codes "-1" ∷ []))) (end_ends laws n)
depots_back laws n few (k ∷ nodes) all =
    let both = and_parts (is_node n k) (list_all (is_node n) nodes) all in
    ap (λ b. map (λ word. nat_abs (number (node_or_end n word))) (cond b [] (decimal k ∷ before (is_end n) (map decimal nodes ++ codes "-1" ∷ [])))) (node_goes_on laws n k few both.0)
    ∙ ap (λ r. nat_abs (number r) ∷ depots_in n (map decimal nodes ++ codes "-1" ∷ [])) (listed_back laws n k few both.0)
    ∙ ap (λ (ks : List ℕ). k ∷ ks) (depots_back laws n few nodes both.1)

-- ---- nodes of pairs and of triples

no_self : (a b : ℕ) → (a == b) ≡ false → int_eq (pos b) (pos a) ≡ false
no_self a b differ = false_from_ne_true (int_eq (pos b) (pos a)) (λ e.
    let z : (let x : ℤ = pos b in x ≡ pos a) = (Decides-int_eq (pos b) (pos a)).0 e in
    let same : b ≡ a = cc in
    absurd (true≢false (sym (eq-eqb a b (sym same)) ∙ differ)))

-- the -1 that ends a list of pairs or of triples
pub end_taken : NumberLaws → (n count : ℕ) → word_fault n (FirstAfter count) (codes "-1") ≡ None
end_taken laws n count =
    no_rows (result_err (node_or_end n (codes "-1"))) false false (nat_le most_fixed count && not (is_end n (codes "-1"))) false
    (ap (λ (r : Result ℤ NumberFault). result_err r) (end_read laws n)) refl refl
    (and_right (nat_le most_fixed count) (not (is_end n (codes "-1"))) (not_from_true (is_end n (codes "-1")) (end_ends laws n))) refl

-- the first node of a pair or a triple
pub first_taken : NumberLaws → (n count more k : ℕ) → n < 2 ^ 32 → count + suc more ≤ most_fixed → is_node n k ≡ true
    → word_fault n (FirstAfter count) (decimal k) ≡ None
first_taken laws n count more k few room is =
    no_rows (result_err (node_or_end n (decimal k))) false false (nat_le most_fixed count && not (is_end n (decimal k))) false
    (ap (λ (r : Result ℤ NumberFault). result_err r) (listed_back laws n k few is)) refl refl
    (and_left (nat_le most_fixed count) (not (is_end n (decimal k))) (has_room most_fixed count more room)) refl

-- the second node of a pair or a triple
pub second_taken : NumberLaws → (n a b : ℕ) → n < 2 ^ 32 → is_node n b ≡ true → (a == b) ≡ false
    → word_fault n (SecondOf (pos a)) (decimal b) ≡ None
second_taken laws n a b few is differ =
    no_rows (result_err (node n (decimal b))) false (reads_as (pos a) (node n (decimal b))) false false
    (ap (λ (r : Result ℤ NumberFault). result_err r) (node_back laws n b few is)) refl (ap (reads_as (pos a)) (node_back laws n b few is) ∙ no_self a b differ) refl refl

-- two different nodes of 1..n
pub record ArePair (n a b : ℕ) : Type 0 where
  pub first : is_node n a ≡ true
  pub second : is_node n b ≡ true
  pub differ : (a == b) ≡ false

pub are_pair : (n : ℕ) (pair : ℕ × ℕ) → is_pair_of n pair ≡ true → ArePair n pair.0 pair.1
are_pair n pair fits =
    let parts = and_parts (is_node n pair.0 && is_node n pair.1) (not (pair.0 == pair.1)) fits in
    let each = and_parts (is_node n pair.0) (is_node n pair.1) parts.0 in
    record { first = each.0; second = each.1; differ = not-true (pair.0 == pair.1) parts.1 }

-- the index of a node or of some family, and another number of 1..n
pub record AreBranch (n a b : ℕ) : Type 0 where
  pub first : is_node (n + most_families) a ≡ true
  pub second : is_node n b ≡ true
  pub differ : (a == b) ≡ false

pub are_branch : (n : ℕ) (branch : ℕ × ℕ) → is_branch_of n branch ≡ true → AreBranch n branch.0 branch.1
are_branch n branch fits =
    let parts = and_parts (is_node (n + most_families) branch.0 && is_node n branch.1) (not (branch.0 == branch.1)) fits in
    let each = and_parts (is_node (n + most_families) branch.0) (is_node n branch.1) parts.0 in
    record { first = each.0; second = each.1; differ = not-true (branch.0 == branch.1) parts.1 }

-- ---- weights

weight_back : NumberLaws → (z : ℤ) → is_within most_weight z ≡ true → whole_of_size most_weight (signed_decimal z) ≡ Ok z
weight_back laws z inside =
    let small = within_abs most_weight z inside in
    laws.whole_back z _ _ (omega (arith, small)) inside

pub weights_taken : NumberLaws → (n : ℕ) (earlier : List (List ℕ)) (weights : List ℤ) → length earlier + length weights ≤ n * n
    → list_all (is_within most_weight) weights ≡ true
    → AllTaken n (place_of_weight n) earlier (map signed_decimal weights)
weights_taken laws n earlier [] room all = tt
weights_taken laws n earlier (z ∷ weights) room all =
    let both = and_parts (is_within most_weight z) (list_all (is_within most_weight) weights) all in
    let place : place_of_weight n earlier ≡ Weight = ap (λ b. cond b PastWeights Weight) (has_room (n * n) (length earlier) (length weights) room) in
    let count = length_push earlier (signed_decimal z) in (
      ap (λ p. word_fault n p (signed_decimal z)) place
          ∙ no_rows (result_err (whole_of_size most_weight (signed_decimal z))) false false false false (ap (λ (r : Result ℤ NumberFault). result_err r) (weight_back laws z both.0)) refl refl refl refl,
      weights_taken laws n (earlier ++ signed_decimal z ∷ []) weights (omega arith) both.1,
    )

pub weights_back : NumberLaws → (weights : List ℤ) → list_all (is_within most_weight) weights ≡ true
    → weights_in (map signed_decimal weights) ≡ weights
weights_back laws [] all = refl
weights_back laws (z ∷ weights) all =
    let both = and_parts (is_within most_weight z) (list_all (is_within most_weight) weights) all in
    ap (λ r. number r ∷ weights_in (map signed_decimal weights)) (weight_back laws z both.0) ∙ ap (λ (zs : List ℤ). z ∷ zs) (weights_back laws weights both.1)

-- ---- groups that -1 ends as they are written

-- what the words of a value are, in a list of groups of this size
pub record AreListed {X : Type 0} (size : ℕ) (value : Words → X) (in_group : ℕ → Words → Place) (n : ℕ) (fits : X → Bool) (spell : X → Words) : Type 0 where
  pub large : (1 == size) ≡ false
  pub one : (x : X) → (groups_in size (spell x) ≡ spell x ∷ []) × (begun_in size (spell x) ≡ [])
  pub next : (count : ℕ) → in_group count [] ≡ FirstAfter count
  pub no_end : (x : X) → fits x ≡ true → is_end n (word_at (spell x) 0) ≡ false
  pub taken : (earlier : Words) (x : X) (more : ℕ) → list_any (is_end n) (firsts_in size earlier) ≡ false → begun_in size earlier ≡ []
      → length (groups_in size earlier) + suc more ≤ most_fixed → fits x ≡ true → AllTaken n (place_in_list size in_group n) earlier (spell x)
  pub back : (x : X) → fits x ≡ true → value (spell x) ≡ x

-- the place of the next word, before the -1
pub place_open : (size : ℕ) (in_group : ℕ → Words → Place) (n : ℕ) (words begun : Words) → list_any (is_end n) (firsts_in size words) ≡ false
    → begun_in size words ≡ begun → place_in_list size in_group n words ≡ in_group (length (groups_in size words)) begun
place_open size in_group n words begun unended is = rw (unended, is) refl

module _ {X : Type 0} {size : ℕ} {value : Words → X} {in_group : ℕ → Words → Place} {n : ℕ} {fits : X → Bool} {spell : X → Words} (listed : AreListed size value in_group n fits spell)
    (laws : NumberLaws) where
  -- a value's first word is a first word more
  firsts_more : (earlier : Words) (x : X) → begun_in size earlier ≡ [] → list_any (is_end n) (firsts_in size earlier) ≡ false → fits x ≡ true
      → list_any (is_end n) (firsts_in size (earlier ++ spell x)) ≡ false
  firsts_more earlier x whole unended fit =
      let groups = groups_in size earlier in
      let more : groups_in size (earlier ++ spell x) ≡ groups ++ spell x ∷ [] = groups_append size earlier (spell x) whole ∙ ap (λ (gs : List Words). groups ++ gs) (listed.one x).0 in
      let same : firsts_in size earlier ≡ map first_of groups = ap (λ (b : Words). map first_of groups ++ take 1 b) whole ∙ append-nil (map first_of groups) in
      let firsts : firsts_in size (earlier ++ spell x) ≡ firsts_in size earlier ++ first_of (spell x) ∷ [] =
      ap₂ (λ (gs : List Words) (b : Words). map first_of gs ++ take 1 b) more (begun_append size earlier (spell x) whole ∙ (listed.one x).1)
      ∙ append-nil (map first_of (groups ++ spell x ∷ [])) ∙ map_push first_of groups (spell x) ∙ ap (λ (ws : Words). ws ++ first_of (spell x) ∷ []) (sym same) in
      ap (list_any (is_end n)) firsts ∙ any_push (is_end n) (firsts_in size earlier) (first_of (spell x)) unended ∙ listed.no_end x fit

  -- plan: by induction over the values: the words of one are taken, then those of the others, then -1
  pub values_taken : (earlier : Words) (xs : List X) → list_any (is_end n) (firsts_in size earlier) ≡ false → begun_in size earlier ≡ []
      → length (groups_in size earlier) + length xs ≤ most_fixed → list_all fits xs ≡ true
      → AllTaken n (place_in_list size in_group n) earlier (flat_map spell xs ++ codes "-1" ∷ [])
  values_taken earlier [] unended whole room all =
      (ap (λ p. word_fault n p (codes "-1")) (place_open size in_group n earlier [] unended whole ∙ listed.next (length (groups_in size earlier))) ∙ end_taken laws n (length (groups_in size earlier)), tt)
  values_taken earlier (x ∷ xs) unended whole room all =
      let both = and_parts (fits x) (list_all fits xs) all in
      let count : length (groups_in size (earlier ++ spell x)) ≡ length (groups_in size earlier) + 1 =
      ap length (groups_append size earlier (spell x) whole ∙ ap (λ (gs : List Words). groups_in size earlier ++ gs) (listed.one x).0) ∙ length_push (groups_in size earlier) (spell x) in
      rw (append_assoc (spell x) (flat_map spell xs) (codes "-1" ∷ []))
      (taken-append n (place_in_list size in_group n) earlier (spell x) (flat_map spell xs ++ codes "-1" ∷ []) (listed.taken earlier x (length xs) unended whole room both.0)
      (values_taken (earlier ++ spell x) xs (firsts_more earlier x whole unended both.0) (begun_append size earlier (spell x) whole ∙ (listed.one x).1) (omega (arith, count)) both.1))

  pub values_back : (xs : List X) → list_all fits xs ≡ true → map value (listed_in size n (flat_map spell xs ++ codes "-1" ∷ [])) ≡ xs
  values_back [] all = ap (λ (gs : List Words). map value (before (λ group. is_end n (word_at group 0)) gs)) (goes_on size [] [] (codes "-1") refl listed.large).0
  values_back (x ∷ xs) all =
      let both = and_parts (fits x) (list_all fits xs) all in
      let more = flat_map spell xs ++ codes "-1" ∷ [] in
      let read : List Words → List X = λ gs. map value (before (λ group. is_end n (word_at group 0)) gs) in
      ap (λ (ws : Words). read (groups_in size ws)) (append_assoc (spell x) (flat_map spell xs) (codes "-1" ∷ []))
      ∙ ap read (groups_append size (spell x) more (listed.one x).1 ∙ ap (λ (gs : List Words). gs ++ groups_in size more) (listed.one x).0)
      ∙ ap (λ b. map value (cond b [] (spell x ∷ listed_in size n more))) (listed.no_end x both.0) ∙ ap (λ (y : X). y ∷ map value (listed_in size n more)) (listed.back x both.0)
      ∙ ap (λ (ys : List X). x ∷ ys) (values_back xs both.1)

  whole_words : (xs : List X) → begun_in size (flat_map spell xs) ≡ []
  whole_words [] = refl
  whole_words (x ∷ xs) = begun_append size (spell x) (flat_map spell xs) (listed.one x).1 ∙ whole_words xs

  -- no group is left to come
  pub values_done : (xs : List X) → wants_more (place_in_list size in_group n (flat_map spell xs ++ codes "-1" ∷ [])) ≡ false
  values_done xs =
      let words = flat_map spell xs in
      let ended : list_any (is_end n) (firsts_in size (words ++ codes "-1" ∷ [])) ≡ true = ap (list_any (is_end n)) (firsts_begin size words (codes "-1") (whole_words xs))
      ∙ list_any-append (is_end n) (firsts_in size words) (codes "-1" ∷ [])
      ∙ or_right (list_any (is_end n) (firsts_in size words)) (is_end n (codes "-1") || false) (ap (λ b. b || false) (end_ends laws n)) in
      rw ended refl

-- ---- two nodes that begin a group

-- the faults of their words, and that the first doesn't end the list
pub record AreNodesTaken (size : ℕ) (in_group : ℕ → Words → Place) (n : ℕ) (earlier : Words) (a b : ℕ) : Type 0 where
  pub first : word_fault n (place_in_list size in_group n earlier) (decimal a) ≡ None
  pub second : word_fault n (place_in_list size in_group n (earlier ++ decimal a ∷ [])) (decimal b) ≡ None
  pub unended : list_any (is_end n) (firsts_in size (earlier ++ decimal a ∷ [])) ≡ false
  pub begun : begun_in size (earlier ++ decimal a ∷ []) ≡ decimal a ∷ []

pub nodes_taken : NumberLaws → (size : ℕ) (in_group : ℕ → Words → Place) (n : ℕ) → n < 2 ^ 32 → (1 == size) ≡ false → ((count : ℕ) → in_group count [] ≡ FirstAfter count)
    → ((count : ℕ) (word : List ℕ) → in_group count (word ∷ []) ≡ SecondOf (number (node_or_end n word))) → (earlier : Words) (a b more : ℕ)
    → list_any (is_end n) (firsts_in size earlier) ≡ false → begun_in size earlier ≡ [] → length (groups_in size earlier) + suc more ≤ most_fixed → ArePair n a b
    → AreNodesTaken size in_group n earlier a b
nodes_taken laws size in_group n few large first second earlier a b more unended whole room are =
    let groups = groups_in size earlier in
    let next = goes_on size earlier [] (decimal a) whole large in
    let unended_first : list_any (is_end n) (firsts_in size (earlier ++ decimal a ∷ [])) ≡ false =
    ap (list_any (is_end n)) (firsts_begin size earlier (decimal a) whole) ∙ any_push (is_end n) (firsts_in size earlier) (decimal a) unended ∙ node_goes_on laws n a few are.first in
    record {
      first = ap (λ p. word_fault n p (decimal a)) (place_open size in_group n earlier [] unended whole ∙ first (length groups)) ∙ first_taken laws n (length groups) more a few room are.first;
      second = ap (λ p. word_fault n p (decimal b)) (place_open size in_group n (earlier ++ decimal a ∷ []) (decimal a ∷ []) unended_first next.1
          ∙ second (length (groups_in size (earlier ++ decimal a ∷ []))) (decimal a) ∙ ap (λ r. SecondOf (number r)) (listed_back laws n a few are.first)) ∙ second_taken laws n a b few are.second are.differ;
      unended = unended_first;
      begun = next.1;
    }

-- ---- fixed pairs

abbrev pub pair_words : ℕ × ℕ → Words
pair_words pair = decimal pair.0 ∷ decimal pair.1 ∷ []

pub pairs_listed : NumberLaws → (n : ℕ) → n < 2 ^ 32 → AreListed 2 (fixed_pair n) (place_in_pair n) n (is_pair_of n) pair_words
pairs_listed laws n few = record {
  large = refl;
  one = λ pair. (refl, refl);
  next = λ count. refl;
  no_end = λ pair fits. node_goes_on laws n pair.0 few (are_pair n pair fits).first;
  taken = λ earlier pair more unended whole room fits.
      let nodes = nodes_taken laws 2 (place_in_pair n) n few refl (λ count. refl) (λ count word. refl) earlier pair.0 pair.1 more unended whole room (are_pair n pair fits) in
      (nodes.first, (nodes.second, tt));
  back = λ pair fits.
      let are = are_pair n pair fits in
      ap₂ (λ r s. (nat_abs (number r), nat_abs (number s))) (listed_back laws n pair.0 few are.first) (node_back laws n pair.1 few are.second);
}

-- ---- multipliers of fixed edges as they are written: each word is taken at its place

abbrev pub triple_words : ℕ × ℕ × ℤ → List (List ℕ)
triple_words triple = decimal triple.0 ∷ decimal triple.1 ∷ signed_decimal triple.2 ∷ []

-- two different nodes, and a multiplier
pub are_triple : (n : ℕ) (triple : ℕ × ℕ × ℤ) → is_triple_of n triple ≡ true
    → ArePair n triple.0 triple.1 × (is_from_to (pos 0) (pos most_multiplier) triple.2 ≡ true)
are_triple n triple fits =
    let parts = and_parts (is_pair_of n (triple.0, triple.1)) (is_from_to (pos 0) (pos most_multiplier) triple.2) fits in
    (are_pair n (triple.0, triple.1) parts.0, parts.1)

multiplier_back : NumberLaws → (z : ℤ) → is_from_to (pos 0) (pos most_multiplier) z ≡ true
    → whole_of (signed_decimal z) (pos 0) (pos most_multiplier) ≡ Ok z
multiplier_back laws z inside =
    let small = size_from 0 most_multiplier z inside in
    laws.whole_back z (pos 0) (pos most_multiplier) (omega (arith, small)) inside

multiplier_taken : NumberLaws → (n : ℕ) (z : ℤ) → is_from_to (pos 0) (pos most_multiplier) z ≡ true
    → word_fault n (Amount (pos 0) (pos most_multiplier)) (signed_decimal z) ≡ None
multiplier_taken laws n z inside =
    no_rows (result_err (whole_of (signed_decimal z) (pos 0) (pos most_multiplier))) false false false false
    (ap (λ (r : Result ℤ NumberFault). result_err r) (multiplier_back laws z inside)) refl refl refl refl

pub triples_listed : NumberLaws → (n : ℕ) → n < 2 ^ 32 → AreListed 3 (fixed_triple n) (place_in_triple n) n (is_triple_of n) triple_words
triples_listed laws n few = record {
  large = refl;
  one = λ triple. (refl, refl);
  next = λ count. refl;
  no_end = λ triple fits. node_goes_on laws n triple.0 few (are_triple n triple fits).0.first;
  taken = λ earlier triple more unended whole room fits.
      let a = decimal triple.0 in
      let b = decimal triple.1 in
      let are = are_triple n triple fits in
      let nodes = nodes_taken laws 3 (place_in_triple n) n few refl (λ count. refl) (λ count word. refl) earlier triple.0 triple.1 more unended whole room are.0 in
      let w1 = earlier ++ a ∷ [] in
      let w2 = w1 ++ b ∷ [] in
      let unended_two : list_any (is_end n) (firsts_in 3 w2) ≡ false = ap (list_any (is_end n)) (firsts_on 3 w1 a [] b nodes.begun) ∙ nodes.unended in (
        nodes.first,
        (
          nodes.second,
          (
            ap (λ p. word_fault n p (signed_decimal triple.2)) (place_open 3 (place_in_triple n) n w2 (a ∷ b ∷ []) unended_two (goes_on 3 w1 (a ∷ []) b nodes.begun refl).1)
                ∙ multiplier_taken laws n triple.2 are.1,
            tt,
          ),
        ),
      );
  back = λ triple fits.
      let are = are_triple n triple fits in
      ap₂ (λ r s. (nat_abs (number r), nat_abs (number s), number (whole_of (signed_decimal triple.2) (pos 0) (pos most_multiplier))))
      (listed_back laws n triple.0 few are.0.first) (node_back laws n triple.1 few are.0.second) ∙ ap (λ r. (triple.0, triple.1, number r)) (multiplier_back laws triple.2 are.1);
}
