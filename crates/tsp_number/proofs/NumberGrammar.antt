-- The grammar of NumberWord.antt read from the left, as code scans it, against its definition by parts of a word. For
-- src/number_word.rt, and for the reader's proofs in tsp_read.
use Rattle.tsp_number.proofs.Prelude.{◌≡◌, ◌≢◌, ℕ, ◌+◌, ◌<◌, Bool, true, false, ◌==◌, ◌||◌, ◌&&◌, List, [], ◌∷◌, ◌++◌, length, Option, Some, None, ℤ, ◌⊎◌, inl, inr, refl, arith, ap, sym, ◌∙◌, subst, append-nil, nat_lt, if◌then◌else◌, ◌*◌, ◌^◌, ◌≤◌, pos, negsuc, ◌+ℤ◌, ◌*ℤ◌, suc, zero, unsigned_abs, pow-add, FitsSigned, w64, ◌<ℤ◌, mul-le-mul, eq_of_mul-eq-mul_right, cases_eq, nat_tests, ints, digit_value, is_ascii_digit, option_map, AllDigits, digits_value}
use Rattle.std.proofs.lemmas.Str.Parse.{digit_from_value}
use Rattle.tsp_number.proofs.Scaling.{AllDigits-front_digits, if_above_zero, front_digits-all, pow_above_zero}
use Rattle.tsp_number.specs.Decimal.{unit, most_count}
use Rattle.tsp_number.specs.NumberWord.{plus, minus, point, lower_e, upper_e, IsSign, IsFraction, WritesExponent, IsExponent, with_sign, Numeral, SpellsNumeral, has_minus, after_sign, after_point, front_digits, after_digits, are_digits, exponent_in, whole_in, past_point, fraction_in, past_mantissa, numeral_with, numeral_in, IsNumberWord, StandsFor, IsShifted, mantissa, digits_of, shift_of}
use Rattle.tsp_number.specs.declared.scan.Written.{Written}
use Rattle.tsp_number.specs.states.Digits.{saturated, KeepsNumeral, HoldsWord, IsShiftedSize, ShiftsTo}

-- ---- the found parts are those of the word

-- a sign at the front, and what follows it
pub record SplitsSign (bytes : List ℕ) : Type 0 where
  pub sign : List ℕ
  pub text_is : bytes ≡ sign ++ after_sign bytes
  pub is_sign : IsSign sign (has_minus bytes)

splits_sign : (bytes : List ℕ) → SplitsSign bytes
splits_sign [] = record { sign = []; text_is = refl; is_sign = inl (refl, refl) }
splits_sign (c ∷ cs) =
    let P : ℕ → Type 0 = λ d. SplitsSign (d ∷ cs) in
    elim (cases_eq c plus) [
      | inl e ↦ subst P (sym e) (record { sign = plus ∷ []; text_is = refl; is_sign = inr (inl (refl, refl)) })
      | inr not_plus ↦ elim (cases_eq c minus) [
        | inl e ↦ subst P (sym e) (record { sign = minus ∷ []; text_is = refl; is_sign = inr (inr (refl, refl)) })
        | inr not_minus ↦
            let first : (c == plus) ≡ false = grind (arith, nat_tests) in
            let second : (c == minus) ≡ false = grind (arith, nat_tests) in
            record { sign = []; text_is = rw (first, second) refl; is_sign = inl (refl, second) }
      ]
    ]

joined_by : (b : Bool) (c : ℕ) (front after cs : List ℕ) → front ++ after ≡ cs
    → (if b then c ∷ front else []) ++ (if b then after else c ∷ cs) ≡ c ∷ cs
joined_by true c front after cs same = ap (λ ds. c ∷ ds) same
joined_by false c front after cs same = refl

-- the digits at the front and what follows them
front-append-after : (bytes : List ℕ) → front_digits bytes ++ after_digits bytes ≡ bytes
front-append-after [] = refl
front-append-after (c ∷ cs) = joined_by (is_ascii_digit c) c (front_digits cs) (after_digits cs) cs (front-append-after cs)

-- bytes that don't begin with a digit
pub record NoDigitFirst (bytes : List ℕ) : Type 0 where
  pub no_front : front_digits bytes ≡ []
  pub all_after : after_digits bytes ≡ bytes

no_digit_by : (b : Bool) (c : ℕ) (after cs : List ℕ) → is_ascii_digit c ≡ b → NoDigitFirst after
    → NoDigitFirst (if b then after else c ∷ cs)
no_digit_by true c after cs same none = none
no_digit_by false c after cs same none = record { no_front = rw same refl; all_after = rw same refl }

no_digit_after : (bytes : List ℕ) → NoDigitFirst (after_digits bytes)
no_digit_after [] = record { no_front = refl; all_after = refl }
no_digit_after (c ∷ cs) = no_digit_by (is_ascii_digit c) c (after_digits cs) cs refl (no_digit_after cs)

-- a point and digits at the front, and what follows them
pub record SplitsFraction (bytes : List ℕ) : Type 0 where
  pub text : List ℕ
  pub text_is : bytes ≡ text ++ after_digits (after_point bytes)
  pub is_fraction : IsFraction text (front_digits (after_point bytes))

splits_fraction : (bytes : List ℕ) → NoDigitFirst bytes → SplitsFraction bytes
splits_fraction [] none = record { text = []; text_is = refl; is_fraction = inr (refl, refl) }
splits_fraction (c ∷ cs) none =
    let P : ℕ → Type 0 = λ d. SplitsFraction (d ∷ cs) in
    elim (cases_eq c point) [
      | inl e ↦ subst P (sym e) (record {
        text = point ∷ front_digits cs;
        text_is = ap (λ ds. point ∷ ds) (sym (front-append-after cs));
        is_fraction = inl refl;
      })
      | inr not_point ↦
          let other : (c == point) ≡ false = grind (arith, nat_tests) in
          let rest : after_point (c ∷ cs) ≡ c ∷ cs = rw other refl in
          record {
            text = [];
            text_is = sym (ap after_digits rest ∙ none.all_after);
            is_fraction = inr (refl, ap front_digits rest ∙ none.no_front);
          }
    ]

pub nil_from_test : (bytes : List ℕ) → (length bytes == 0) ≡ true → bytes ≡ []
nil_from_test [] empty = refl
nil_from_test (c ∷ cs) empty = absurd (grind (arith, nat_tests))

writes_exponent : (c : ℕ) (cs : List ℕ) → (c == lower_e || c == upper_e) ≡ true → are_digits (after_sign cs) ≡ true
    → WritesExponent (c ∷ cs) (with_sign (has_minus cs) (digits_value 10 (front_digits (after_sign cs))))
writes_exponent c cs mark digits =
    let split = splits_sign cs in
    let empty : after_digits (after_sign cs) ≡ [] = nil_from_test (after_digits (after_sign cs)) (grind (arith, nat_tests)) in
    let all : front_digits (after_sign cs) ≡ after_sign cs =
    sym (append-nil (front_digits (after_sign cs))) ∙ ap (λ ds. front_digits (after_sign cs) ++ ds) (sym empty) ∙ front-append-after (after_sign cs) in
    record {
      mark = c;
      sign = split.sign;
      negative = has_minus cs;
      digits = front_digits (after_sign cs);
      text_is = ap (λ ds. c ∷ ds) (split.text_is ∙ ap (λ ds. split.sign ++ ds) (sym all));
      is_mark = grind (arith, nat_tests);
      is_sign = split.is_sign;
      all_digits = AllDigits-front_digits (after_sign cs);
      some_digit = grind (arith, nat_tests);
      exponent_is = refl;
    }

chosen : {A : Type 0} (b : Bool) (x y : A) → (if b then Some x else None) ≡ Some y → (b ≡ true) × (x ≡ y)
chosen true x y same = (refl, cc)
chosen false x y same = cc

is_exponent_in : (bytes : List ℕ) (e : ℤ) → exponent_in bytes ≡ Some e → IsExponent bytes e
is_exponent_in [] e same = inl (refl, cc)
is_exponent_in (c ∷ cs) e same =
    let both = chosen ((c == lower_e || c == upper_e) && are_digits (after_sign cs)) (with_sign (has_minus cs) (digits_value 10 (front_digits (after_sign cs)))) e same in
    let test = both.0 in
    let mark : (c == lower_e || c == upper_e) ≡ true = grind (arith, nat_tests) in
    let digits : are_digits (after_sign cs) ≡ true = grind (arith, nat_tests) in
    let P : ℤ → Type 0 = λ z. WritesExponent (c ∷ cs) z in
    inr (subst P both.1 (writes_exponent c cs mark digits))

from_mapped : (word : List ℕ) (o : Option ℤ) (n : Numeral) → option_map (numeral_with word) o ≡ Some n
    → (e : ℤ) × (o ≡ Some e) × (numeral_with word e ≡ n)
from_mapped word (Some e) n same = (e, refl, cc)
from_mapped word None n same = cc

chosen_option : {A : Type 0} (b : Bool) (x : Option A) (y : A) → (if b then x else None) ≡ Some y → (b ≡ true) × (x ≡ Some y)
chosen_option true x y same = (refl, same)
chosen_option false x y same = cc

pub spells_in : (word : List ℕ) (n : Numeral) → numeral_in word ≡ Some n → SpellsNumeral word n
spells_in word n same =
    let some = chosen_option (nat_lt 0 (length (whole_in word) + length (fraction_in word))) (option_map (numeral_with word) (exponent_in (past_mantissa word))) n same in
    let test = some.0 in
    let mapped = from_mapped word (exponent_in (past_mantissa word)) n some.1 in
    let sign = splits_sign word in
    let fraction = splits_fraction (after_digits (after_sign word)) (no_digit_after (after_sign word)) in
    let P : Numeral → Type 0 = λ m. SpellsNumeral word m in
    subst P mapped.2 (record {
      sign = sign.sign;
      fraction_text = fraction.text;
      exponent_text = past_mantissa word;
      text_is = sign.text_is
          ∙ ap (λ ds. sign.sign ++ ds) (sym (front-append-after (after_sign word)) ∙ ap (λ ds. whole_in word ++ ds) fraction.text_is);
      is_sign = sign.is_sign;
      whole_digits = AllDigits-front_digits (after_sign word);
      is_fraction = fraction.is_fraction;
      fraction_digits = AllDigits-front_digits (past_point word);
      some_digit = grind (arith, nat_tests);
      is_exponent = is_exponent_in (past_mantissa word) mapped.0 mapped.1;
    })

-- ---- the parts of the word are found

ascii_digit : (c : ℕ) → digit_value c < 10 → is_ascii_digit c ≡ true
ascii_digit c small =
    let range = digit_from_value c small in
    grind (arith, nat_tests)

-- bytes that begin with a digit or a point have no sign
unsigned_first : (c : ℕ) (cs : List ℕ) → (c ≢ plus) → (c ≢ minus) → (after_sign (c ∷ cs) ≡ c ∷ cs) × (has_minus (c ∷ cs) ≡ false)
unsigned_first c cs not_plus not_minus =
    let first : (c == plus) ≡ false = grind (arith, nat_tests) in
    let second : (c == minus) ≡ false = grind (arith, nat_tests) in
    (rw (first, second) refl, second)

digit_unsigned : (c : ℕ) (cs : List ℕ) → digit_value c < 10 → (after_sign (c ∷ cs) ≡ c ∷ cs) × (has_minus (c ∷ cs) ≡ false)
digit_unsigned c cs small =
    let range = digit_from_value c small in
    unsigned_first c cs (λ e. omega arith) (λ e. omega arith)

-- the whole digits, if something that is no digit follows
front_of : (ds rest : List ℕ) → AllDigits 10 ds → NoDigitFirst rest
    → (front_digits (ds ++ rest) ≡ ds) × (after_digits (ds ++ rest) ≡ rest)
front_of [] rest all none = (none.no_front, none.all_after)
front_of (d ∷ ds) rest all none =
    let digit = ascii_digit d all.0 in
    let more = front_of ds rest all.1 none in
    (rw (digit, more.0) refl, rw (digit, more.1) refl)

-- a sign before bytes that have none
after_sign-append : (sign bytes : List ℕ) (negative : Bool) → IsSign sign negative
    → (after_sign bytes ≡ bytes) × (has_minus bytes ≡ false)
    → (after_sign (sign ++ bytes) ≡ bytes) × (has_minus (sign ++ bytes) ≡ negative)
after_sign-append sign bytes negative (inl none) plain = rw (none.0, none.1) plain
after_sign-append sign bytes negative (inr (inl is_plus)) plain = rw (is_plus.0, is_plus.1) (refl, refl)
after_sign-append sign bytes negative (inr (inr is_minus)) plain = rw (is_minus.0, is_minus.1) (refl, refl)

-- what an exponent begins with is neither a digit nor a point
pub record EndsMantissa (bytes : List ℕ) : Type 0 where
  pub no_digit : NoDigitFirst bytes
  pub no_point : after_point bytes ≡ bytes

ends_at_mark : (c : ℕ) (cs : List ℕ) → (c ≡ lower_e) ⊎ (c ≡ upper_e) → EndsMantissa (c ∷ cs)
ends_at_mark c cs (inl e) = rw e (record { no_digit = record { no_front = refl; all_after = refl }; no_point = refl })
ends_at_mark c cs (inr e) = rw e (record { no_digit = record { no_front = refl; all_after = refl }; no_point = refl })

ends_mantissa : (text : List ℕ) (e : ℤ) → IsExponent text e → EndsMantissa text
ends_mantissa text e (inl none) = rw none.0 (record { no_digit = record { no_front = refl; all_after = refl }; no_point = refl })
ends_mantissa text e (inr w) = rw w.text_is (ends_at_mark w.mark (w.sign ++ w.digits) w.is_mark)

digits_unsigned : (ds : List ℕ) → AllDigits 10 ds → (after_sign ds ≡ ds) × (has_minus ds ≡ false)
digits_unsigned [] all = (refl, refl)
digits_unsigned (d ∷ ds) all = digit_unsigned d ds all.0

after_digits-all : (ds : List ℕ) → AllDigits 10 ds → after_digits ds ≡ []
after_digits-all ds all =
    ap after_digits (sym (append-nil ds)) ∙ (front_of ds [] all (record { no_front = refl; all_after = refl })).1

exponent_with : (c : ℕ) (cs ds : List ℕ) (negative : Bool) → (c ≡ lower_e) ⊎ (c ≡ upper_e) → after_sign cs ≡ ds
    → has_minus cs ≡ negative
    → AllDigits 10 ds → 0 < length ds → exponent_in (c ∷ cs) ≡ Some (with_sign negative (digits_value 10 ds))
exponent_with c cs ds negative is_mark rest sign all some =
    let mark : (c == lower_e || c == upper_e) ≡ true = grind (arith, nat_tests) in
    let above : nat_lt 0 (length ds) ≡ true = grind (arith, nat_tests) in
    let front = front_digits-all ds all in
    let after = after_digits-all ds all in
    let digits : are_digits ds ≡ true = rw (front, after, above) refl in
    let test : ((c == lower_e || c == upper_e) && are_digits (after_sign cs)) ≡ true = rw (mark, rest, digits) refl in
    rw (test, rest, sign, front) refl

exponent_found : (text : List ℕ) (e : ℤ) → IsExponent text e → exponent_in text ≡ Some e
exponent_found text e (inl none) = rw (none.0, none.1) refl
exponent_found text e (inr w) =
    let split = after_sign-append w.sign w.digits w.negative w.is_sign (digits_unsigned w.digits w.all_digits) in
    ap exponent_in w.text_is
    ∙ exponent_with w.mark (w.sign ++ w.digits) w.digits w.negative w.is_mark split.0 split.1 w.all_digits w.some_digit
    ∙ ap (λ (z : ℤ). Some z) (sym w.exponent_is)

-- a mantissa begins with a digit or a point
mantissa_unsigned : (whole text fraction rest : List ℕ) → AllDigits 10 whole → IsFraction text fraction
    → 0 < length whole + length fraction
    → (after_sign (whole ++ (text ++ rest)) ≡ whole ++ (text ++ rest)) × (has_minus (whole ++ (text ++ rest)) ≡ false)
mantissa_unsigned [] text fraction rest all (inl e) some = rw e (refl, refl)
mantissa_unsigned [] text fraction rest all (inr none) some =
    let empty : length fraction ≡ 0 = ap length none.1 in
    absurd (omega arith)
mantissa_unsigned (d ∷ ds) text fraction rest all is some = digit_unsigned d (ds ++ (text ++ rest)) all.0

fraction_first : (text fraction rest : List ℕ) → IsFraction text fraction → EndsMantissa rest → NoDigitFirst (text ++ rest)
fraction_first text fraction rest (inl e) ends = rw e (record { no_front = refl; all_after = refl })
fraction_first text fraction rest (inr none) ends = rw none.0 ends.no_digit

after_point-append : (text fraction rest : List ℕ) → IsFraction text fraction → EndsMantissa rest
    → after_point (text ++ rest) ≡ fraction ++ rest
after_point-append text fraction rest (inl e) ends = rw e refl
after_point-append text fraction rest (inr none) ends = rw (none.0, none.1) ends.no_point

same_numeral : (negative : Bool) (whole fraction : List ℕ) (n : Numeral) → negative ≡ n.negative → whole ≡ n.whole
    → fraction ≡ n.fraction
    → (let m : Numeral = record { negative = negative; whole = whole; fraction = fraction; exponent = n.exponent } in m ≡ n)
same_numeral negative whole fraction n first second third = rw (first, second, third) refl

pub found : (word : List ℕ) (n : Numeral) → SpellsNumeral word n → numeral_in word ≡ Some n
found word n s =
    let ends = ends_mantissa s.exponent_text n.exponent s.is_exponent in
    let plain = mantissa_unsigned n.whole s.fraction_text n.fraction s.exponent_text s.whole_digits s.is_fraction s.some_digit in
    let split = after_sign-append s.sign (n.whole ++ (s.fraction_text ++ s.exponent_text)) n.negative s.is_sign plain in
    let whole = front_of n.whole (s.fraction_text ++ s.exponent_text) s.whole_digits (fraction_first s.fraction_text n.fraction s.exponent_text s.is_fraction ends) in
    let fraction = front_of n.fraction s.exponent_text s.fraction_digits ends.no_digit in
    let unsigned : after_sign word ≡ n.whole ++ (s.fraction_text ++ s.exponent_text) = ap after_sign s.text_is ∙ split.0 in
    let negative_is : has_minus word ≡ n.negative = ap has_minus s.text_is ∙ split.1 in
    let whole_is : whole_in word ≡ n.whole = ap front_digits unsigned ∙ whole.0 in
    let past : past_point word ≡ n.fraction ++ s.exponent_text =
    ap after_point (ap after_digits unsigned ∙ whole.1) ∙ after_point-append s.fraction_text n.fraction s.exponent_text s.is_fraction ends in
    let fraction_is : fraction_in word ≡ n.fraction = ap front_digits past ∙ fraction.0 in
    let exponent_is : exponent_in (past_mantissa word) ≡ Some n.exponent =
    ap exponent_in (ap after_digits past ∙ fraction.1) ∙ exponent_found s.exponent_text n.exponent s.is_exponent in
    let above : 0 < length (whole_in word) + length (fraction_in word) = rw (whole_is, fraction_is) s.some_digit in
    if_above_zero _ _ _ above
    ∙ ap (option_map (numeral_with word)) exponent_is
    ∙ ap (λ (m : Numeral). Some m) (same_numeral (has_minus word) (whole_in word) (fraction_in word) n negative_is whole_is fraction_is)

-- ---- the sign and the size that the code computes of a number word are those of its number

-- ---- signs

pub signed-mul : (negative : Bool) (m p : ℕ) → with_sign negative m *ℤ pos p ≡ with_sign negative (m * p)
signed-mul false m p = refl
signed-mul true zero p = omega (arith, ints)
signed-mul true (suc m) p = refl

pub unsigned_abs-signed : (negative : Bool) (m : ℕ) → unsigned_abs (with_sign negative m) ≡ m
unsigned_abs-signed false m = refl
unsigned_abs-signed true zero = refl
unsigned_abs-signed true (suc m) = refl

pub to_signed : (negative : Bool) (m k : ℕ) (z : ℤ) → IsShiftedSize m z k
    → IsShifted (with_sign negative m) z (with_sign negative k)
to_signed negative m k (pos up) shifted = ap (with_sign negative) shifted ∙ sym (signed-mul negative m (10 ^ up))
to_signed negative m k (negsuc down) shifted = signed-mul negative k (10 ^ (down + 1)) ∙ ap (with_sign negative) shifted

-- a number whose product with one above 0 has a sign has that sign
pub divided : (negative : Bool) (m p : ℕ) (j : ℤ) → 0 < p → j *ℤ pos p ≡ with_sign negative m
    → (k : ℕ) × (k * p ≡ m) × (j ≡ with_sign negative k)
divided false m p (pos a) above same = (a, cc, refl)
divided false m p (negsuc a) above same =
    let some : 1 ≤ suc a = omega arith in
    let some' : 1 ≤ p = above in
    let product : 1 * 1 ≤ suc a * p = mul-le-mul some some' in
    absurd (omega (arith, ints))
divided true m p (pos zero) above same = (0, omega (arith, ints), refl)
divided true m p (pos (suc a)) above same =
    let some : 1 ≤ suc a = omega arith in
    let some' : 1 ≤ p = above in
    let product : 1 * 1 ≤ suc a * p = mul-le-mul some some' in
    absurd (omega (arith, ints))
divided true m p (negsuc a) above same = (suc a, omega (arith, ints), refl)

from_signed : (negative : Bool) (m : ℕ) (z j : ℤ) → IsShifted (with_sign negative m) z j
    → (k : ℕ) × IsShiftedSize m z k × (j ≡ with_sign negative k)
from_signed negative m (pos up) j shifted = (m * 10 ^ up, refl, shifted ∙ signed-mul negative m (10 ^ up))
from_signed negative m (negsuc down) j shifted = divided negative m (10 ^ (down + 1)) j (pow_above_zero (down + 1)) shifted

-- ---- the meaning of the word

same_some : {A : Type 0} (o : Option A) (x y : A) → o ≡ Some x → o ≡ Some y → x ≡ y
same_some o x y first second = cc

pub bad_number : (word : List ℕ) → numeral_in word ≡ None → ¬ IsNumberWord word
bad_number word none spelled =
    let some = found word spelled.0 spelled.1 in
    cc

pub stands_by : (word : List ℕ) (n : Numeral) (k : ℕ) → numeral_in word ≡ Some n → IsShiftedSize (digits_of n) (shift_of 9 n) k
    → StandsFor word (with_sign n.negative k)
stands_by word n k is_in shifted = record {
  numeral = n;
  spelled = spells_in word n is_in;
  shifted = to_signed n.negative (digits_of n) k (shift_of 9 n) shifted;
}

pub size_by : (word : List ℕ) (n : Numeral) (j : ℤ) → numeral_in word ≡ Some n → StandsFor word j
    → (k : ℕ) × IsShiftedSize (digits_of n) (shift_of 9 n) k × (j ≡ with_sign n.negative k)
size_by word n j is_in stands =
    let same : stands.numeral ≡ n = same_some (numeral_in word) stands.numeral n (found word stands.numeral stands.spelled) is_in in
    let P : Numeral → Type 0 = λ m. IsShifted (mantissa m) (shift_of 9 m) j in
    from_signed n.negative (digits_of n) (shift_of 9 n) j (subst P same stands.shifted)

pub too_fine : (word : List ℕ) (w : Written) → HoldsWord word w
    → ((n : Numeral) → KeepsNumeral w n → ShiftsTo (digits_of n) (shift_of 9 n) None)
    → IsNumberWord word × ((j : ℤ) → ¬ StandsFor word j)
too_fine word w holds none = (
  (holds.numeral, spells_in word holds.numeral holds.is_in),
  λ j stands. let k = size_by word holds.numeral j holds.is_in stands in none holds.numeral holds.keeps k.0 k.1,
)

pub stands : (word : List ℕ) (w : Written) (size : ℕ) → HoldsWord word w
    → ((n : Numeral) → KeepsNumeral w n → ShiftsTo (digits_of n) (shift_of 9 n) (Some size))
    → (k : ℕ) × StandsFor word (with_sign w.negative k) × (size ≡ saturated k)
stands word w size holds some =
    let k = some holds.numeral holds.keeps in
    let P : Bool → Type 0 = λ b. StandsFor word (with_sign b k.0) in
    (k.0, subst P (sym holds.keeps.negative) (stands_by word holds.numeral k.0 holds.is_in k.1), k.2)

-- ---- whole numbers

pub unit_places : (n : Numeral) → shift_of 9 n ≡ shift_of 0 n +ℤ pos 9
unit_places n = omega (arith, ints)

unit_parts : (up down : ℕ) → down + up ≡ 9 → unit ≡ 10 ^ down * 10 ^ up
unit_parts up down same = sym (ap (λ n. 10 ^ n) same) ∙ pow-add 10 down up

-- a number counted in ones, counted in the unit of decimals
pub unit_up : (m k : ℕ) (z z' : ℤ) → z' ≡ z +ℤ pos 9 → IsShiftedSize m z k → IsShiftedSize m z' (k * unit)
unit_up m k (pos up) (pos up') same shifted =
    let far : up' ≡ up + 9 = omega (arith, ints) in
    rw (far, pow-add 10 up 9) (omega (arith, shifted))
unit_up m k (pos up) (negsuc down') same shifted = absurd (omega (arith, ints))
unit_up m k (negsuc down) (pos up') same shifted =
    let parts : unit ≡ 10 ^ (down + 1) * 10 ^ up' = unit_parts up' (down + 1) (omega (arith, ints)) in
    let left = ap (λ n. k * n) parts in
    let right = ap (λ n. n * 10 ^ up') shifted in
    omega arith
unit_up m k (negsuc down) (negsuc down') same shifted =
    let far : down + 1 ≡ down' + 1 + 9 = omega (arith, ints) in
    let power : 10 ^ (down + 1) ≡ 10 ^ (down' + 1) * 10 ^ 9 = ap (λ n. 10 ^ n) far ∙ pow-add 10 (down' + 1) 9 in
    let here : k * (10 ^ (down' + 1) * 10 ^ 9) ≡ m = rw power at shifted in
    omega arith

-- a number counted in the unit of decimals, counted in ones
pub unit_down : (m k : ℕ) (z z' : ℤ) → z' ≡ z +ℤ pos 9 → IsShiftedSize m z' (k * unit) → IsShiftedSize m z k
unit_down m k (pos up) (pos up') same shifted =
    let far : up' ≡ up + 9 = omega (arith, ints) in
    let power : 10 ^ up' ≡ 10 ^ up * 10 ^ 9 = ap (λ n. 10 ^ n) far ∙ pow-add 10 up 9 in
    let here : k * unit ≡ m * (10 ^ up * 10 ^ 9) = rw power at shifted in
    omega arith
unit_down m k (pos up) (negsuc down') same shifted = absurd (omega (arith, ints))
unit_down m k (negsuc down) (pos up') same shifted =
    let parts : unit ≡ 10 ^ (down + 1) * 10 ^ up' = unit_parts up' (down + 1) (omega (arith, ints)) in
    let left = ap (λ n. k * n) parts in
    let product : k * 10 ^ (down + 1) * 10 ^ up' ≡ m * 10 ^ up' = omega (arith, shifted) in
    eq_of_mul-eq-mul_right (10 ^ up') (pow_above_zero up') (k * 10 ^ (down + 1)) m product
unit_down m k (negsuc down) (negsuc down') same shifted =
    let far : down + 1 ≡ down' + 1 + 9 = omega (arith, ints) in
    let power : 10 ^ (down + 1) ≡ 10 ^ (down' + 1) * 10 ^ 9 = ap (λ n. 10 ^ n) far ∙ pow-add 10 (down' + 1) 9 in
    rw power (omega (arith, shifted))

pub whole_stands : (word : List ℕ) (w : Written) (size : ℕ) → HoldsWord word w
    → ((n : Numeral) → KeepsNumeral w n → ShiftsTo (digits_of n) (shift_of 0 n) (Some size))
    → (k : ℕ) × StandsFor word (with_sign w.negative k *ℤ pos unit) × (size ≡ saturated k)
whole_stands word w size holds some =
    let n = holds.numeral in
    let k = some n holds.keeps in
    let counted = unit_up (digits_of n) k.0 (shift_of 0 n) (shift_of 9 n) (unit_places n) k.1 in
    let P : ℤ → Type 0 = λ j. StandsFor word j in
    let here = stands_by word n (k.0 * unit) holds.is_in counted in
    let sign : with_sign n.negative (k.0 * unit) ≡ with_sign w.negative k.0 *ℤ pos unit =
    ap (λ b. with_sign b (k.0 * unit)) (sym holds.keeps.negative) ∙ sym (signed-mul w.negative k.0 unit) in
    (k.0, subst P sign here, k.2)

pub not_whole : (word : List ℕ) (w : Written) (size : ℕ) → HoldsWord word w
    → ((n : Numeral) → KeepsNumeral w n → ShiftsTo (digits_of n) (shift_of 9 n) (Some size))
    → ((n : Numeral) → KeepsNumeral w n → ShiftsTo (digits_of n) (shift_of 0 n) None)
    → (j : ℤ) × StandsFor word j × ((i : ℤ) → j ≢ i *ℤ pos unit)
not_whole word w size holds some none =
    let n = holds.numeral in
    let k = some n holds.keeps in (
      with_sign n.negative k.0,
      stands_by word n k.0 holds.is_in k.1,
      λ i same.
          let part = divided n.negative k.0 unit i (omega arith) (sym same) in
          let counted : IsShiftedSize (digits_of n) (shift_of 9 n) (part.0 * unit) = rw part.1 k.1 in
          none n holds.keeps part.0 (unit_down (digits_of n) part.0 (shift_of 0 n) (shift_of 9 n) (unit_places n) counted),
    )

-- ---- sizes against the limits

-- a size within the limit is exact
pub decimal_within : (negative : Bool) (size k : ℕ) (d : ℤ) → size ≡ saturated k → d ≡ with_sign negative size
    → unsigned_abs d ≤ most_count → with_sign negative k ≡ d
decimal_within negative size k d kept is within =
    let size_is : unsigned_abs d ≡ size = ap unsigned_abs is ∙ unsigned_abs-signed negative size in
    let exact : k ≡ size = omega arith in
    ap (with_sign negative) exact ∙ sym is

-- a size past the limit is of a number past it
pub decimal_past : (negative : Bool) (size k : ℕ) (d : ℤ) → size ≡ saturated k → d ≡ with_sign negative size
    → ¬ (unsigned_abs d ≤ most_count) → most_count < unsigned_abs (with_sign negative k)
decimal_past negative size k d kept is past =
    let size_is : unsigned_abs d ≡ size = ap unsigned_abs is ∙ unsigned_abs-signed negative size in
    rw (unsigned_abs-signed negative k) (omega arith)

-- a size of 64 bits with a sign is exact
pub whole_within : (negative : Bool) (size k : ℕ) (v : ℤ) → size ≡ saturated k → v ≡ with_sign negative size → FitsSigned w64 v
    → with_sign negative k ≡ v
whole_within false size k v kept is fits =
    let P : ℤ → Type 0 = λ z. FitsSigned w64 z in
    let here : FitsSigned w64 (pos size) = subst P is fits in
    let small : size < 2 ^ 63 = here.sfits in
    let exact : k ≡ size = omega arith in
    ap (with_sign false) exact ∙ sym is
whole_within true zero k v kept is fits =
    let exact : k ≡ 0 = omega arith in
    ap (with_sign true) exact ∙ sym is
whole_within true (suc size) k v kept is fits =
    let P : ℤ → Type 0 = λ z. FitsSigned w64 z in
    let here : FitsSigned w64 (negsuc size) = subst P is fits in
    let small : size < 2 ^ 63 = here.sfits in
    let exact : k ≡ suc size = omega arith in
    ap (with_sign true) exact ∙ sym is

-- a size outside a range of 64 bits is of a number outside it
pub whole_past : (negative : Bool) (size k : ℕ) (v low high : ℤ) → size ≡ saturated k → v ≡ with_sign negative size
    → FitsSigned w64 low → FitsSigned w64 high
    → (v <ℤ low) ⊎ (high <ℤ v) → (with_sign negative k <ℤ low) ⊎ (high <ℤ with_sign negative k)
whole_past false size k v (pos low) high kept is fits fits' (inl below) =
    let small : low < 2 ^ 63 = fits.sfits in
    inl (omega (arith, ints))
whole_past false size k v (negsuc low) high kept is fits fits' (inl below) = absurd (omega (arith, ints))
whole_past false size k v low high kept is fits fits' (inr above) = inr (omega (arith, ints))
whole_past true size k v low high kept is fits fits' (inl below) = inl (omega (arith, ints))
whole_past true size k v low (pos high) kept is fits fits' (inr above) = absurd (omega (arith, ints))
whole_past true size k v low (negsuc high) kept is fits fits' (inr above) =
    let small : high < 2 ^ 63 = fits'.sfits in
    inr (omega (arith, ints))
