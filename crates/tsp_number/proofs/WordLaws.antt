-- A number word means at most one number, and reading it gives exactly one answer, which `decimal_of` and `whole_of`
-- compute. For src/number_word.rt, and for the laws on number words. tsp_read imports it, too.
use Rattle.tsp_number.proofs.Prelude.{◌≡◌, ◌≢◌, ℕ, ◌+◌, ◌*◌, ◌/◌, ◌%◌, ◌^◌, ◌==◌, ◌&&◌, Bool, true, false, List, length, Option, Some, None, Result, Ok, Err, if◌then◌else◌, ℤ, pos, negsuc, ◌*ℤ◌, ◌≤ℤ◌, ◌<ℤ◌, ◌⊎◌, inl, inr, refl, arith, ap, sym, ◌∙◌, subst, unsigned_abs, nat_le, int_le, eq_of_mul-eq-mul_right, mul-mod_left, div-add-mod', MatchBool, nat_tests, ints, option_map}
use Rattle.tsp_number.specs.declared.number_word.NumberFault.{NumberFault}
use Rattle.tsp_number.specs.declared.number_word.NumberFault.TheVariants.{LongWord, BadNumber, TooFine, OutOfRange, NotWhole}
use Rattle.tsp_number.specs.Decimal.{unit, most_count}
use Rattle.tsp_number.specs.NumberWord.{Numeral, IsNumberWord, StandsFor, IsShort, with_sign, digits_of, shift_of, ReadsDecimal, ReadsWhole, shifted_size, number_in, decimal_within, decimal_from, decimal_of, whole_within, whole_from, whole_of, numeral_in}
use Rattle.tsp_number.specs.states.Digits.{IsShiftedSize}
use Rattle.tsp_number.proofs.NumberGrammar.{spells_in, found, bad_number, stands_by, size_by, signed-mul, divided, unit_up, unit_down, unit_places}
use Rattle.tsp_number.proofs.Scaling.{pow_above_zero}

-- ---- a word means one number

same_size : (m k l : ℕ) (z : ℤ) → IsShiftedSize m z k → IsShiftedSize m z l → k ≡ l
same_size m k l (pos up) first second = first ∙ sym second
same_size m k l (negsuc down) first second =
    eq_of_mul-eq-mul_right (10 ^ (down + 1)) (pow_above_zero (down + 1)) k l (first ∙ sym second)

-- a word means at most one number
pub stands_once : (word : List ℕ) (j k : ℤ) → StandsFor word j → StandsFor word k → j ≡ k
stands_once word j k first second =
    let is_in = found word first.numeral first.spelled in
    let j' = size_by word first.numeral j is_in first in
    let k' = size_by word first.numeral k is_in second in
    j'.2 ∙ ap (with_sign first.numeral.negative) (same_size (digits_of first.numeral) j'.0 k'.0 (shift_of 9 first.numeral) j'.1 k'.1) ∙ sym k'.2

times_unit : (j k : ℤ) → j *ℤ pos unit ≡ k *ℤ pos unit → j ≡ k
times_unit j k same = omega (arith, ints)

number_word : (word : List ℕ) (k : ℤ) → StandsFor word k → IsNumberWord word
number_word word k stands = (stands.numeral, stands.spelled)

-- if a decimal is wanted, a word has one answer
-- plan: by both results: two counts are equal by `stands_once`, and two different faults exclude each other
pub decimal_once : (word : List ℕ) (r s : Result ℤ NumberFault) → ReadsDecimal word r → ReadsDecimal word s → r ≡ s
decimal_once word (Ok j) (Ok k) a b = ap Ok (stands_once word j k a.1 b.1)
decimal_once word (Ok j) (Err LongWord) a b = absurd (b a.0)
decimal_once word (Ok j) (Err BadNumber) a b = absurd (b.1 (number_word word _ a.1))
decimal_once word (Ok j) (Err TooFine) a b = absurd (b.2 _ a.1)
decimal_once word (Ok j) (Err OutOfRange) a b =
    let same = stands_once word j b.1.0 a.1 b.1.1 in
    let size : unsigned_abs j ≡ unsigned_abs b.1.0 = ap unsigned_abs same in
    let within = a.2 in
    let past = b.1.2 in
    absurd (omega arith)
decimal_once word (Ok j) (Err NotWhole) a b = absurd b
decimal_once word (Err LongWord) (Ok k) a b = absurd (a b.0)
decimal_once word (Err LongWord) (Err LongWord) a b = refl
decimal_once word (Err LongWord) (Err BadNumber) a b = absurd (a b.0)
decimal_once word (Err LongWord) (Err TooFine) a b = absurd (a b.0)
decimal_once word (Err LongWord) (Err OutOfRange) a b = absurd (a b.0)
decimal_once word (Err LongWord) (Err NotWhole) a b = absurd b
decimal_once word (Err BadNumber) (Ok k) a b = absurd (a.1 (number_word word _ b.1))
decimal_once word (Err BadNumber) (Err LongWord) a b = absurd (b a.0)
decimal_once word (Err BadNumber) (Err BadNumber) a b = refl
decimal_once word (Err BadNumber) (Err TooFine) a b = absurd (a.1 b.1)
decimal_once word (Err BadNumber) (Err OutOfRange) a b = absurd (a.1 (number_word word _ b.1.1))
decimal_once word (Err BadNumber) (Err NotWhole) a b = absurd b
decimal_once word (Err TooFine) (Ok k) a b = absurd (a.2 _ b.1)
decimal_once word (Err TooFine) (Err LongWord) a b = absurd (b a.0)
decimal_once word (Err TooFine) (Err BadNumber) a b = absurd (b.1 a.1)
decimal_once word (Err TooFine) (Err TooFine) a b = refl
decimal_once word (Err TooFine) (Err OutOfRange) a b = absurd (a.2 _ b.1.1)
decimal_once word (Err TooFine) (Err NotWhole) a b = absurd b
decimal_once word (Err OutOfRange) (Ok k) a b =
    let same = stands_once word k a.1.0 b.1 a.1.1 in
    let size : unsigned_abs k ≡ unsigned_abs a.1.0 = ap unsigned_abs same in
    let within = b.2 in
    let past = a.1.2 in
    absurd (omega arith)
decimal_once word (Err OutOfRange) (Err LongWord) a b = absurd (b a.0)
decimal_once word (Err OutOfRange) (Err BadNumber) a b = absurd (b.1 (number_word word _ a.1.1))
decimal_once word (Err OutOfRange) (Err TooFine) a b = absurd (b.2 _ a.1.1)
decimal_once word (Err OutOfRange) (Err OutOfRange) a b = refl
decimal_once word (Err OutOfRange) (Err NotWhole) a b = absurd b
decimal_once word (Err NotWhole) (Ok k) a b = absurd a
decimal_once word (Err NotWhole) (Err LongWord) a b = absurd a
decimal_once word (Err NotWhole) (Err BadNumber) a b = absurd a
decimal_once word (Err NotWhole) (Err TooFine) a b = absurd a
decimal_once word (Err NotWhole) (Err OutOfRange) a b = absurd a
decimal_once word (Err NotWhole) (Err NotWhole) a b = refl

outside_not_within : {A : Type 0} (low high j k : ℤ) → j ≡ k → low ≤ℤ j → j ≤ℤ high → (k <ℤ low) ⊎ (high <ℤ k) → A
outside_not_within low high j k same from to (inl below) = absurd (omega (arith, ints))
outside_not_within low high j k same from to (inr above) = absurd (omega (arith, ints))

-- if a whole number is wanted, a word has one answer
-- plan: by both results: two numbers are equal by `stands_once`, and two different faults exclude each other
pub whole_once : (word : List ℕ) (low high : ℤ) (r s : Result ℤ NumberFault) → ReadsWhole word low high r
    → ReadsWhole word low high s → r ≡ s
whole_once word low high (Ok j) (Ok k) a b = ap Ok (times_unit j k (stands_once word (j *ℤ pos unit) (k *ℤ pos unit) a.1 b.1))
whole_once word low high (Ok j) (Err LongWord) a b = absurd (b a.0)
whole_once word low high (Ok j) (Err BadNumber) a b = absurd (b.1 (number_word word _ a.1))
whole_once word low high (Ok j) (Err TooFine) a b = absurd (b.2 _ a.1)
whole_once word low high (Ok j) (Err OutOfRange) a b =
    let same = times_unit j b.1.0 (stands_once word (j *ℤ pos unit) (b.1.0 *ℤ pos unit) a.1 b.1.1) in
    outside_not_within low high j b.1.0 same a.2 a.3 b.1.2
whole_once word low high (Ok j) (Err NotWhole) a b = absurd (b.1.2 (j) (stands_once word b.1.0 (j *ℤ pos unit) b.1.1 a.1))
whole_once word low high (Err LongWord) (Ok k) a b = absurd (a b.0)
whole_once word low high (Err LongWord) (Err LongWord) a b = refl
whole_once word low high (Err LongWord) (Err BadNumber) a b = absurd (a b.0)
whole_once word low high (Err LongWord) (Err TooFine) a b = absurd (a b.0)
whole_once word low high (Err LongWord) (Err OutOfRange) a b = absurd (a b.0)
whole_once word low high (Err LongWord) (Err NotWhole) a b = absurd (a b.0)
whole_once word low high (Err BadNumber) (Ok k) a b = absurd (a.1 (number_word word _ b.1))
whole_once word low high (Err BadNumber) (Err LongWord) a b = absurd (b a.0)
whole_once word low high (Err BadNumber) (Err BadNumber) a b = refl
whole_once word low high (Err BadNumber) (Err TooFine) a b = absurd (a.1 b.1)
whole_once word low high (Err BadNumber) (Err OutOfRange) a b = absurd (a.1 (number_word word _ b.1.1))
whole_once word low high (Err BadNumber) (Err NotWhole) a b = absurd (a.1 (number_word word _ b.1.1))
whole_once word low high (Err TooFine) (Ok k) a b = absurd (a.2 _ b.1)
whole_once word low high (Err TooFine) (Err LongWord) a b = absurd (b a.0)
whole_once word low high (Err TooFine) (Err BadNumber) a b = absurd (b.1 a.1)
whole_once word low high (Err TooFine) (Err TooFine) a b = refl
whole_once word low high (Err TooFine) (Err OutOfRange) a b = absurd (a.2 _ b.1.1)
whole_once word low high (Err TooFine) (Err NotWhole) a b = absurd (a.2 _ b.1.1)
whole_once word low high (Err OutOfRange) (Ok k) a b =
    let same = times_unit k a.1.0 (stands_once word (k *ℤ pos unit) (a.1.0 *ℤ pos unit) b.1 a.1.1) in
    outside_not_within low high k a.1.0 same b.2 b.3 a.1.2
whole_once word low high (Err OutOfRange) (Err LongWord) a b = absurd (b a.0)
whole_once word low high (Err OutOfRange) (Err BadNumber) a b = absurd (b.1 (number_word word _ a.1.1))
whole_once word low high (Err OutOfRange) (Err TooFine) a b = absurd (b.2 _ a.1.1)
whole_once word low high (Err OutOfRange) (Err OutOfRange) a b = refl
whole_once word low high (Err OutOfRange) (Err NotWhole) a b =
    absurd (b.1.2 (a.1.0) (stands_once word b.1.0 (a.1.0 *ℤ pos unit) b.1.1 a.1.1))
whole_once word low high (Err NotWhole) (Ok k) a b = absurd (a.1.2 (k) (stands_once word a.1.0 (k *ℤ pos unit) a.1.1 b.1))
whole_once word low high (Err NotWhole) (Err LongWord) a b = absurd (b a.0)
whole_once word low high (Err NotWhole) (Err BadNumber) a b = absurd (b.1 (number_word word _ a.1.1))
whole_once word low high (Err NotWhole) (Err TooFine) a b = absurd (b.2 _ a.1.1)
whole_once word low high (Err NotWhole) (Err OutOfRange) a b =
    absurd (a.1.2 (b.1.0) (stands_once word a.1.0 (b.1.0 *ℤ pos unit) a.1.1 b.1.1))
whole_once word low high (Err NotWhole) (Err NotWhole) a b = refl

-- ---- the computed answers are the defined ones

-- what `shifted_size` computes
abbrev pub Shifts : ℕ → ℤ → Option ℕ → Type 0
Shifts m z None = (k : ℕ) → ¬ IsShiftedSize m z k
Shifts m z (Some k) = IsShiftedSize m z k

shifts_by : (m down : ℕ) (whole : Bool) → (m % 10 ^ (down + 1) == 0) ≡ whole
    → Shifts m (negsuc down) (if whole then Some (m / 10 ^ (down + 1)) else None)
shifts_by m down true test =
    let none : m % 10 ^ (down + 1) ≡ 0 = grind (arith, nat_tests) in
    omega (arith, div-add-mod' m (10 ^ (down + 1)))
shifts_by m down false test = λ k same.
    let none : m % 10 ^ (down + 1) ≡ 0 = ap (λ n. n % 10 ^ (down + 1)) (sym same) ∙ mul-mod_left k (10 ^ (down + 1)) in
    absurd (grind (arith, nat_tests))

shifts : (m : ℕ) (z : ℤ) → Shifts m z (shifted_size m z)
shifts m (pos up) = refl
shifts m (negsuc down) = shifts_by m down (m % 10 ^ (down + 1) == 0) refl

-- the word means the number, or none
abbrev pub Counted : List ℕ → Option ℤ → Type 0
Counted word None = (j : ℤ) → ¬ StandsFor word j
Counted word (Some k) = StandsFor word k

counted : (word : List ℕ) (n : Numeral) (o : Option ℕ) → numeral_in word ≡ Some n → Shifts (digits_of n) (shift_of 9 n) o
    → Counted word (option_map (with_sign n.negative) o)
counted word n None is_in none = λ j stands.
    let k = size_by word n j is_in stands in
    none k.0 k.1
counted word n (Some k) is_in some = stands_by word n k is_in some

-- the word means the whole number, or none that is whole
abbrev pub WholeCounted : List ℕ → Option ℤ → Type 0
WholeCounted word None = (j : ℤ) → StandsFor word j → (i : ℤ) → j ≢ i *ℤ pos unit
WholeCounted word (Some n) = StandsFor word (n *ℤ pos unit)

whole_counted : (word : List ℕ) (n : Numeral) (o : Option ℕ) → numeral_in word ≡ Some n → Shifts (digits_of n) (shift_of 0 n) o
    → WholeCounted word (option_map (with_sign n.negative) o)
whole_counted word n None is_in none = λ j stands i same.
    let k = size_by word n j is_in stands in
    let part = divided n.negative k.0 unit i (omega arith) (sym same ∙ k.2) in
    let counted' : IsShiftedSize (digits_of n) (shift_of 9 n) (part.0 * unit) = rw part.1 k.1 in
    none part.0 (unit_down (digits_of n) part.0 (shift_of 0 n) (shift_of 9 n) (unit_places n) counted')
whole_counted word n (Some k) is_in some =
    let P : ℤ → Type 0 = λ j. StandsFor word j in
    subst P (sym (signed-mul n.negative k unit))
    (stands_by word n (k * unit) is_in (unit_up (digits_of n) k (shift_of 0 n) (shift_of 9 n) (unit_places n) some))

decimal_by : (word : List ℕ) (k : ℤ) (within : Bool) → IsShort word → StandsFor word k
    → nat_le (unsigned_abs k) most_count ≡ within
    → ReadsDecimal word (if within then Ok k else Err OutOfRange)
decimal_by word k true short stands test = (short, stands, grind (arith, nat_tests))
decimal_by word k false short stands test = (short, (k, stands, grind (arith, nat_tests)))

decimal_within-reads : (word : List ℕ) (o : Option ℤ) → IsShort word → IsNumberWord word → Counted word o
    → ReadsDecimal word (decimal_within o)
decimal_within-reads word None short number none = (short, number, none)
decimal_within-reads word (Some k) short number stands = decimal_by word k (nat_le (unsigned_abs k) most_count) short stands refl

decimal_from-reads : (word : List ℕ) (o : Option Numeral) → IsShort word → numeral_in word ≡ o
    → ReadsDecimal word (decimal_from o)
decimal_from-reads word None short is_in = (short, bad_number word is_in)
decimal_from-reads word (Some n) short is_in =
    decimal_within-reads word (number_in 9 n) short (n, spells_in word n is_in)
    (counted word n (shifted_size (digits_of n) (shift_of 9 n)) is_in (shifts (digits_of n) (shift_of 9 n)))

decimal_short : (word : List ℕ) (short : Bool) → nat_le (length word) 64 ≡ short
    → ReadsDecimal word (if short then decimal_from (numeral_in word) else Err LongWord)
decimal_short word true test = decimal_from-reads word (numeral_in word) (grind (arith, nat_tests)) refl
decimal_short word false test = λ short. absurd (grind (arith, nat_tests))

-- the computed answer is the defined one
pub decimal_of-reads : (word : List ℕ) → ReadsDecimal word (decimal_of word)
unfolding decimal_of
decimal_of-reads word = decimal_short word (nat_le (length word) 64) refl

-- tests of a range
int_le-test : (m n : ℤ) (t : Bool) → int_le m n ≡ t → MatchBool t (m ≤ℤ n) (n <ℤ m)
int_le-test m n true test = grind (arith, ints)
int_le-test m n false test = grind (arith, ints)

range_by : (low high n : ℤ) (first second : Bool) → int_le low n ≡ first → int_le n high ≡ second
    → MatchBool (first && second) ((low ≤ℤ n) × (n ≤ℤ high)) ((n <ℤ low) ⊎ (high <ℤ n))
range_by low high n true true above below = (int_le-test low n true above, int_le-test n high true below)
range_by low high n true false above past = inr (int_le-test n high false past)
range_by low high n false second short _ = inl (int_le-test low n false short)

in_range : (low high n : ℤ) (within : Bool) → (int_le low n && int_le n high) ≡ within
    → MatchBool within ((low ≤ℤ n) × (n ≤ℤ high)) ((n <ℤ low) ⊎ (high <ℤ n))
in_range low high n within test =
    let P : Bool → Type 0 = λ b. MatchBool b ((low ≤ℤ n) × (n ≤ℤ high)) ((n <ℤ low) ⊎ (high <ℤ n)) in
    subst P test (range_by low high n (int_le low n) (int_le n high) refl refl)

whole_by : (word : List ℕ) (low high n : ℤ) (within : Bool) → IsShort word → StandsFor word (n *ℤ pos unit)
    → (int_le low n && int_le n high) ≡ within
    → ReadsWhole word low high (if within then Ok n else Err OutOfRange)
whole_by word low high n true short stands test =
    let range = in_range low high n true test in
    (short, stands, range.0, range.1)
whole_by word low high n false short stands test = (short, (n, stands, in_range low high n false test))

whole_within-reads : (word : List ℕ) (low high : ℤ) (o w : Option ℤ) → IsShort word → IsNumberWord word → Counted word o
    → WholeCounted word w
    → ReadsWhole word low high (whole_within low high o w)
whole_within-reads word low high None w short number none whole = (short, number, none)
whole_within-reads word low high (Some k) None short number stands none = (short, (k, stands, none k stands))
whole_within-reads word low high (Some k) (Some n) short number stands whole =
    whole_by word low high n (int_le low n && int_le n high) short whole refl

whole_from-reads : (word : List ℕ) (low high : ℤ) (o : Option Numeral) → IsShort word → numeral_in word ≡ o
    → ReadsWhole word low high (whole_from low high o)
whole_from-reads word low high None short is_in = (short, bad_number word is_in)
whole_from-reads word low high (Some n) short is_in =
    whole_within-reads word low high (number_in 9 n) (number_in 0 n) short (n, spells_in word n is_in)
    (counted word n (shifted_size (digits_of n) (shift_of 9 n)) is_in (shifts (digits_of n) (shift_of 9 n)))
    (whole_counted word n (shifted_size (digits_of n) (shift_of 0 n)) is_in (shifts (digits_of n) (shift_of 0 n)))

whole_short : (word : List ℕ) (low high : ℤ) (short : Bool) → nat_le (length word) 64 ≡ short
    → ReadsWhole word low high (if short then whole_from low high (numeral_in word) else Err LongWord)
whole_short word low high true test = whole_from-reads word low high (numeral_in word) (grind (arith, nat_tests)) refl
whole_short word low high false test = λ short. absurd (grind (arith, nat_tests))

-- the computed answer is the defined one
pub whole_of-reads : (word : List ℕ) (low high : ℤ) → ReadsWhole word low high (whole_of word low high)
unfolding whole_of
whole_of-reads word low high = whole_short word low high (nat_le (length word) 64) refl
