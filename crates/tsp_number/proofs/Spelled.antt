-- For src/spelling.rt: digits written in pairs, without zeros that aren't needed, are the spelling of a decimal, and
-- the spelling reads back as the decimal. tsp_file imports it, too.
use Rattle.tsp_number.proofs.Prelude.{◌≡◌, ℕ, ◌+◌, ◌*◌, ◌/◌, ◌%◌, ◌^◌, ◌<◌, ◌≤◌, [], ◌∷◌, ◌++◌, ◌==◌, ◌≢◌, inl, inr, false, zero, suc, refl, sym, ap, ◌∙◌, arith, pow-add, length, ◌-◌, Bool, true, List, Result, Ok, ℤ, pos, negsuc, subst, unsigned_abs, append-nil, length-append, ◌&&◌, T, eqb, get_or, eqb→eq, pow-suc, div-div-eq-div-mul, add-mul-mod_self_right, add-mul-div_right, mod-eq_of_lt, div-one, mul-div-mul_right, mod-le, zero-mod, cases_eq, cases_lt, nat_tests, ints, mod-mul-add, mul-le, mod_below, div_below, div-add-mod', digit_value_digit, digit_value, AllDigits, digits_value}
use Rattle.std.proofs.lemmas.Fmt.{length-decimal-le, decimal_is_IsNumeral}
use Rattle.std.specs.Fmt.{decimal}
use lib.Ieee.Fits.{and_l, and_r}
use lib.Signed.{le_z}
use Rattle.tsp_number.proofs.NumberGrammar.{to_signed}
use Rattle.tsp_number.proofs.Scaling.{pow_above_zero, digits_value_after-is, digits_value-append}
use Rattle.tsp_number.proofs.WordLaws.{decimal_once}
use Rattle.tsp_number.specs.Decimal.{unit, most_count}
use Rattle.tsp_number.specs.NumberWord.{decimals, three_digits, minus, point, IsSign, IsFraction, Numeral, StandsFor, IsShifted, with_sign, mantissa, digits_of, shift_of, ReadsDecimal, fraction_spelling, size_spelling, spelling}
use Rattle.tsp_number.specs.declared.spelling.TheConstants.{PAIRS}
use Rattle.tsp_number.specs.declared.number_word.NumberFault.{NumberFault}

pub decimals-suc : (places rest : ℕ) → 0 < rest
    → decimals (suc places) rest ≡ (48 + rest / 10 ^ places) ∷ decimals places (rest % 10 ^ places)
unfolding decimals
decimals-suc places rest some =
    let above : (rest == 0) ≡ false = grind (arith, nat_tests) in
    rw above refl

pub decimals-none : (places : ℕ) → decimals places 0 ≡ []
unfolding decimals
decimals-none zero = refl
decimals-none (suc places) = refl

-- the next decimal of `rest`, found from all of it
pub next_part : (rest place q : ℕ) → place ≡ q * 10 → 0 < q → (rest % place / q ≡ rest / q % 10) × (rest % place % q ≡ rest % q)
next_part rest place q is above =
    let a : ℕ = rest / place in
    let b : ℕ = rest % place in
    let some : 0 < place = omega arith in
    let small : b < q * 10 = omega (arith, mod_below rest place some) in
    let whole : rest ≡ b + a * 10 * q = omega (arith, div-add-mod' rest place, ap (λ n. a * n) is) in
    let digit : b / q < 10 = div_below b q 10 above (omega arith) in
    let div : rest / q ≡ b / q + a * 10 = ap (λ n. n / q) whole ∙ add-mul-div_right b (a * 10) above in (
      sym (ap (λ n. n % 10) div ∙ add-mul-mod_self_right (b / q) a 10 ∙ mod-eq_of_lt digit),
      sym (ap (λ n. n % q) whole ∙ add-mul-mod_self_right b (a * 10) q),
    )

-- ---- the digits of a whole number

-- a whole part has at most ten digits
pub length_whole : (whole : ℕ) → whole ≤ 10 ^ 9 → length (decimal whole) ≤ 10
length_whole whole most = length-decimal-le 10 whole (omega arith) (omega arith) (omega arith)

-- ---- the digits of a part

decimals-some : (places rest : ℕ) → rest ≢ 0
    → decimals (suc places) rest ≡ (48 + rest / 10 ^ places) ∷ decimals places (rest % 10 ^ places)
decimals-some places rest some = decimals-suc places rest (omega arith)

mod-times : (rest p z : ℕ) → 0 < p → 0 < z → rest * z % (p * z) ≡ rest % p * z
mod-times rest p z some some' =
    let whole : rest ≡ rest / p * p + rest % p = omega (arith, div-add-mod' rest p) in
    let product : rest * z ≡ rest / p * (p * z) + rest % p * z = ap (λ n. n * z) whole ∙ omega arith in
    let below : suc (rest % p) ≤ p = omega (arith, mod_below rest p some) in
    let same : z ≤ z = omega arith in
    let sides = mul-le (suc (rest % p)) z p z below same in
    ap (λ n. n % (p * z)) product ∙ mod-mul-add (rest / p) (p * z) (rest % p * z) (omega arith)

nothing_left : (places all zeros rest : ℕ) → rest ≡ 0 → decimals all (rest * 10 ^ zeros) ≡ decimals places rest
nothing_left places all zeros rest none =
    let gone : 0 * 10 ^ zeros ≡ 0 = omega arith in
    ap (λ n. decimals all (n * 10 ^ zeros)) none ∙ ap (decimals all) gone ∙ decimals-none all ∙ sym (decimals-none places) ∙ ap (decimals places) (sym none)

-- nothing is written of the zeros at the end
decimals-shift : (places all zeros rest : ℕ) → all ≡ places + zeros → rest < 10 ^ places
    → decimals all (rest * 10 ^ zeros) ≡ decimals places rest
decimals-shift zero all zeros rest same small =
    let none : rest ≡ 0 = omega arith in
    nothing_left zero all zeros rest none
decimals-shift (suc places) all zeros rest same small =
    elim (cases_eq rest 0) [
      | inl none ↦ nothing_left (suc places) all zeros rest none
      | inr some ↦
          let all_is : all ≡ suc (places + zeros) = omega arith in
          let power : 10 ^ (places + zeros) ≡ 10 ^ places * 10 ^ zeros = pow-add 10 places zeros in
          let above : 0 < 10 ^ zeros = pow_above_zero zeros in
          let above' : 0 < 10 ^ places = pow_above_zero places in
          let digit : rest * 10 ^ zeros / 10 ^ (places + zeros) ≡ rest / 10 ^ places =
          rw power (mul-div-mul_right rest (10 ^ places) above) in
          let left : rest * 10 ^ zeros % 10 ^ (places + zeros) ≡ rest % 10 ^ places * 10 ^ zeros =
          rw power (mod-times rest (10 ^ places) (10 ^ zeros) above' above) in
          let product : 1 * 1 ≤ rest * 10 ^ zeros = mul-le 1 1 rest (10 ^ zeros) (omega arith) above in
          let more = decimals-shift places (places + zeros) zeros (rest % 10 ^ places) refl (mod_below rest (10 ^ places) above') in
          ap (λ n. decimals n (rest * 10 ^ zeros)) all_is
          ∙ decimals-suc (places + zeros) (rest * 10 ^ zeros) (omega arith)
          ∙ rw (digit, left, more) (sym (decimals-some places rest some))
    ]

decimals-none_left : (rest : ℕ) → decimals 0 rest ≡ []
unfolding decimals
decimals-none_left rest = refl

pub last_three : (group : ℕ) → 0 < group % 10 → decimals 3 group ≡ three_digits group
last_three group some =
    let second = next_part group 100 10 refl (omega arith) in
    let pair : decimals 2 (group % 100) ≡ (48 + group % 100 / 10) ∷ decimals 1 (group % 100 % 10) = decimals-suc 1 (group % 100) (omega arith) in
    let one : decimals 1 (group % 10) ≡ (48 + group % 10 / 1) ∷ decimals 0 (group % 10 % 1) = decimals-suc 0 (group % 10) some in
    decimals-suc 2 group (omega arith)
    ∙ ap (λ ds. (48 + group / 100) ∷ ds) (pair ∙ rw (second.0, second.1, one, div-one (group % 10), decimals-none_left (group % 10 % 1)) refl)

pub last_two : (group : ℕ) → group % 10 ≡ 0 → 0 < group % 100
    → decimals 3 group ≡ (48 + group / 100) ∷ (48 + group / 10 % 10) ∷ []
last_two group none some =
    let second = next_part group 100 10 refl (omega arith) in
    let pair : decimals 2 (group % 100) ≡ (48 + group % 100 / 10) ∷ decimals 1 (group % 100 % 10) = decimals-suc 1 (group % 100) some in
    decimals-suc 2 group (omega arith)
    ∙ ap (λ ds. (48 + group / 100) ∷ ds) (pair ∙ rw (second.0, second.1, none, decimals-none 1) refl)

pub last_one : (group : ℕ) → group % 100 ≡ 0 → 0 < group → decimals 3 group ≡ (48 + group / 100) ∷ []
last_one group none some = decimals-suc 2 group some ∙ rw (none, decimals-none 2) refl

-- what is left after a place is left after the one before it
some_before : (rest place q : ℕ) → rest % place % q ≡ rest % q → 0 < rest % q → 0 < rest % place
some_before rest place q same some =
    elim (cases_eq (rest % place) 0) [
      | inl none ↦
          let zero' : rest % q ≡ 0 % q = sym same ∙ ap (λ n. n % q) none in
          absurd (omega (arith, zero-mod q))
      | inr other ↦ omega arith
    ]

-- a group of three with something left after it
-- plan: three times `decimals-suc`, each with something left (`some_before`)
decimals-group : (places q rest : ℕ) → q ≡ 10 ^ places → 0 < rest % q
    → decimals (suc (suc (suc places))) rest ≡ three_digits (rest / q) ++ decimals places (rest % q)
decimals-group places q rest is some =
    let above : 0 < q = rw is (pow_above_zero places) in
    let ten : 10 ^ suc places ≡ q * 10 = rw is (pow-suc 10 places) in
    let hundred : 10 ^ suc (suc places) ≡ q * 10 * 10 = rw (← ten) (pow-suc 10 (suc places)) in
    let above' : 0 < q * 10 = omega arith in
    let second = next_part rest (q * 10 * 10) (q * 10) refl above' in
    let third = next_part rest (q * 10) q refl above in
    let left : 0 < rest % (q * 10) = some_before rest (q * 10) q (third.1) some in
    let left' : 0 < rest % (q * 10 * 10) = some_before rest (q * 10 * 10) (q * 10) second.1 left in
    let all : 0 < rest = omega (arith, mod-le rest q) in
    let hundreds : rest / (q * 10 * 10) ≡ rest / q / 100 =
    sym (div-div-eq-div-mul rest (q * 10) 10 ∙ refl) ∙ ap (λ n. n / 10) (sym (div-div-eq-div-mul rest q 10)) ∙ div-div-eq-div-mul (rest / q) 10 10 in
    let tens : rest / (q * 10) ≡ rest / q / 10 = sym (div-div-eq-div-mul rest q 10) in
    decimals-suc (suc (suc places)) rest all
    ∙ rw (
      hundred,
      hundreds,
      decimals-suc (suc places) (rest % (q * 10 * 10)) left',
      ten,
      second.0,
      second.1,
      tens,
      decimals-suc places (rest % (q * 10)) left,
      ← is,
      third.0,
      third.1,
    ) refl

pub decimals-zeros : (rest : ℕ) → rest < 1000000000 → rest % 1000000 ≡ 0 → decimals 9 rest ≡ decimals 3 (rest / 1000000)
decimals-zeros rest part none =
    let whole : rest ≡ rest / 1000000 * 10 ^ 6 = omega (arith, div-add-mod' rest 1000000) in
    ap (decimals 9) whole ∙ decimals-shift 3 9 6 (rest / 1000000) refl (omega arith)

pub decimals-first : (rest : ℕ) → 0 < rest % 1000000
    → decimals 9 rest ≡ three_digits (rest / 1000000) ++ decimals 6 (rest % 1000000)
decimals-first rest some = decimals-group 6 1000000 rest refl some

pub decimals-second : (rest : ℕ) → 0 < rest % 1000
    → decimals 6 (rest % 1000000) ≡ three_digits (rest / 1000 % 1000) ++ decimals 3 (rest % 1000)
decimals-second rest some =
    let group : rest % 1000000 / 1000 ≡ rest / 1000 % 1000 = omega arith in
    let left : rest % 1000000 % 1000 ≡ rest % 1000 = omega arith in
    let some' : 0 < rest % 1000000 % 1000 = rw left some in
    decimals-group 3 1000 (rest % 1000000) refl some' ∙ rw (group, left) refl

pub decimals-second_zeros : (rest : ℕ) → rest % 1000 ≡ 0 → decimals 6 (rest % 1000000) ≡ decimals 3 (rest / 1000 % 1000)
decimals-second_zeros rest none =
    let whole : rest % 1000000 ≡ rest / 1000 % 1000 * 10 ^ 3 = omega arith in
    ap (decimals 6) whole ∙ decimals-shift 3 6 3 (rest / 1000 % 1000) refl (omega arith)

-- ---- if the last three are zeros, and if they aren't

pub two_groups : (rest : ℕ) → rest % 1000 ≡ 0 → 0 < rest % 1000000
    → decimals 9 rest ≡ three_digits (rest / 1000000) ++ decimals 3 (rest / 1000 % 1000)
two_groups rest none some =
    decimals-first rest some ∙ ap (λ ds. three_digits (rest / 1000000) ++ ds) (decimals-second_zeros rest none)

pub three_groups : (rest : ℕ) → 0 < rest % 1000
    → decimals 9 rest ≡ three_digits (rest / 1000000) ++ (three_digits (rest / 1000 % 1000) ++ decimals 3 (rest % 1000))
three_groups rest some =
    decimals-first rest (omega arith) ∙ ap (λ ds. three_digits (rest / 1000000) ++ ds) (decimals-second rest some)

pub nine_decimals : (rest : ℕ) → 0 < rest % 10
    → decimals 9 rest ≡ three_digits (rest / 1000000) ++ (three_digits (rest / 1000 % 1000) ++ three_digits (rest % 1000))
nine_decimals rest some =
    three_groups rest (omega arith)
    ∙ ap (λ ds. three_digits (rest / 1000000) ++ (three_digits (rest / 1000 % 1000) ++ ds)) (last_three (rest % 1000) (omega arith))

-- ---- a text of a number means that number, and so reading it gives the number back

-- ---- decimals

digit_of : (d : ℕ) → d < 10 → digit_value (48 + d) ≡ d
digit_of d small = omega (arith, digit_value_digit (48 + d) (omega arith, omega arith))

-- the decimals of `rest` parts of 10^count: `left` of them, all zeros, are not written
pub record DecimalsOf (count rest : ℕ) : Type 0 where
  pub digits : AllDigits 10 (decimals count rest)
  pub left : ℕ
  pub length_is : length (decimals count rest) + left ≡ count
  pub worth : digits_value 10 (decimals count rest) * 10 ^ left ≡ rest

no_decimals : (count rest : ℕ) → rest ≡ 0 → DecimalsOf count rest
no_decimals count rest none =
    let P : ℕ → Type 0 = λ r. DecimalsOf count r in
    let Q : List ℕ → Type 0 = λ ds. AllDigits 10 ds × (length ds + count ≡ count) × (digits_value 10 ds * 10 ^ count ≡ 0) in
    let parts : Q (decimals count 0) = subst Q (sym (decimals-none count)) (tt, omega arith, omega arith) in
    subst P (sym none) (record { digits = parts.0; left = count; length_is = parts.1; worth = parts.2 })

first_decimal : (count rest : ℕ) → 0 < rest → rest < 10 ^ suc count → DecimalsOf count (rest % 10 ^ count)
    → DecimalsOf (suc count) rest
first_decimal count rest some part more =
    let first : rest / 10 ^ count < 10 = div_below rest (10 ^ count) 10 (pow_above_zero count) (omega (arith, pow-suc 10 count)) in
    let ds : List ℕ = decimals count (rest % 10 ^ count) in
    let Q : List ℕ → Type 0 = λ all. AllDigits 10 all × (length all + more.left ≡ suc count) × (digits_value 10 all * 10 ^ more.left ≡ rest) in
    let digit = digit_of (rest / 10 ^ count) first in
    let value : digits_value 10 ((48 + rest / 10 ^ count) ∷ ds) ≡ rest / 10 ^ count * 10 ^ length ds + digits_value 10 ds =
    digits_value_after-is (0 + digit_value (48 + rest / 10 ^ count)) ds
    ∙ ap (λ n. n * 10 ^ length ds + digits_value 10 ds) (omega (arith, digit)) in
    let high = ap (λ n. n * 10 ^ more.left) value in
    let power : 10 ^ count ≡ 10 ^ length ds * 10 ^ more.left = ap (λ n. 10 ^ n) (sym more.length_is) ∙ pow-add 10 (length ds) more.left in
    let shifted = ap (λ n. rest / 10 ^ count * n) power in
    let parts : Q (decimals (suc count) rest) = subst Q (sym (decimals-suc count rest some))
    ((rw digit first, more.digits), omega (arith, more.length_is), omega (arith, more.worth, div-add-mod' rest (10 ^ count))) in
    record { digits = parts.0; left = more.left; length_is = parts.1; worth = parts.2 }

decimals_of : (count rest : ℕ) → rest < 10 ^ count → DecimalsOf count rest
decimals_of zero rest part = no_decimals zero rest (omega arith)
decimals_of (suc count) rest part =
    elim (cases_eq rest 0) [
      | inl none ↦ no_decimals (suc count) rest none
      | inr some ↦ first_decimal count rest (omega arith) part (decimals_of count (rest % 10 ^ count) (mod_below rest (10 ^ count) (pow_above_zero count)))
    ]

-- ---- the text of a number

-- the digits after the point
pub record FractionOf (rest : ℕ) : Type 0 where
  pub fraction : List ℕ
  pub is_fraction : IsFraction (fraction_spelling rest) fraction
  pub digits : AllDigits 10 fraction
  pub left : ℕ
  pub length_is : length fraction + left ≡ 9
  pub worth : digits_value 10 fraction * 10 ^ left ≡ rest
  pub short : length (fraction_spelling rest) ≤ 10

-- plan: by cases: nothing is written of 0; else `decimals_of` for the digits
fraction_of : (rest : ℕ) → rest < unit → FractionOf rest
fraction_of rest part =
    elim (cases_eq rest 0) [
      | inl none ↦
          let empty : fraction_spelling rest ≡ [] = rw none refl in
          record {
            fraction = [];
            is_fraction = inr (empty, refl);
            digits = tt;
            left = 9;
            length_is = refl;
            worth = sym none;
            short = omega (arith, ap length empty);
          }
      | inr some ↦
          let test : (rest == 0) ≡ false = grind (arith, nat_tests) in
          let text : fraction_spelling rest ≡ point ∷ decimals 9 rest = rw test refl in
          let ds = decimals_of 9 rest part in
          record {
            fraction = decimals 9 rest;
            is_fraction = inl text;
            digits = ds.digits;
            left = ds.left;
            length_is = ds.length_is;
            worth = ds.worth;
            short = omega (arith, ap length text, ds.length_is);
          }
    ]

-- the sign of a text
abbrev pub sign_text : Bool → List ℕ
sign_text false = []
sign_text true = minus ∷ []

is_sign : (negative : Bool) → IsSign (sign_text negative) negative
is_sign false = inl (refl, refl)
is_sign true = inr (inr (refl, refl))

-- plan: the size is a whole part and a rest (`div-add-mod'`); `fraction_of` for the rest, `digits_value-append` for
-- both
stands_spelled : (negative : Bool) (size : ℕ) → size ≤ most_count
    → StandsFor (sign_text negative ++ size_spelling size) (with_sign negative size)
stands_spelled negative size most =
    let f = fraction_of (size % unit) (mod_below size unit (omega arith)) in
    let whole = decimal_is_IsNumeral (size / unit) (omega arith) in
    let n : Numeral = record { negative = negative; whole = decimal (size / unit); fraction = f.fraction; exponent = pos 0 } in
    let length_is = f.length_is in
    let place : shift_of 9 n ≡ pos f.left = omega (arith, ints) in
    let value : digits_of n ≡ size / unit * 10 ^ length f.fraction + digits_value 10 f.fraction =
    digits_value-append (decimal (size / unit)) f.fraction ∙ ap (λ m. m * 10 ^ length f.fraction + digits_value 10 f.fraction) whole.1 in
    let power : unit ≡ 10 ^ length f.fraction * 10 ^ f.left = sym (ap (λ k. 10 ^ k) length_is) ∙ pow-add 10 (length f.fraction) f.left in
    let high = ap (λ k. k * 10 ^ f.left) value in
    let shifted = ap (λ k. size / unit * k) power in
    let size_is : size ≡ digits_of n * 10 ^ f.left = omega (arith, f.worth, div-add-mod' size unit) in
    let P : ℤ → Type 0 = λ z. IsShifted (mantissa n) z (with_sign negative size) in
    record {
      numeral = n;
      spelled = record {
        sign = sign_text negative;
        fraction_text = fraction_spelling (size % unit);
        exponent_text = [];
        text_is = ap (λ ds. sign_text negative ++ (decimal (size / unit) ++ ds)) (sym (append-nil (fraction_spelling (size % unit))));
        is_sign = is_sign negative;
        whole_digits = whole.0.1;
        is_fraction = f.is_fraction;
        fraction_digits = f.digits;
        some_digit = omega (arith, whole.0.0);
        is_exponent = inl (refl, refl);
      };
      shifted = subst P (sym place) (to_signed negative (digits_of n) size (pos f.left) size_is);
    }

-- the text of a number means it
pub stands_for : (k : ℤ) → unsigned_abs k ≤ most_count → StandsFor (spelling k) k
stands_for (pos size) most = stands_spelled false size most
stands_for (negsuc n) most = stands_spelled true (suc n) most

size_short : (size : ℕ) → size ≤ most_count → length (size_spelling size) ≤ 20
size_short size most =
    let f = fraction_of (size % unit) (mod_below size unit (omega arith)) in
    let whole = length-decimal-le 10 (size / unit) (omega arith) (omega arith) (omega arith) in
    omega (arith, length-append (decimal (size / unit)) (fraction_spelling (size % unit)), f.short)

pub spelling_short : (k : ℤ) → unsigned_abs k ≤ most_count → length (spelling k) ≤ 21
spelling_short (pos size) most = omega (arith, size_short size most)
spelling_short (negsuc n) most = omega (arith, size_short (suc n) most)

-- reading the text of a number gives the number
pub reads_spelling : (k : ℤ) → unsigned_abs k ≤ most_count → ReadsDecimal (spelling k) (Ok k)
reads_spelling k most = (omega (arith, spelling_short k most), stands_for k most, most)

pub round_trip : (k : ℤ) (r : Result ℤ NumberFault) → unsigned_abs k ≤ most_count → ReadsDecimal (spelling k) r → r ≡ Ok k
round_trip k r most reads = decimal_once (spelling k) r (Ok k) reads (reads_spelling k most)

-- ---- the text of a negative number

pub negative_text : (k : ℤ) (size : ℕ) → le_z (pos 0) k ≡ false → size ≡ unsigned_abs k
    → spelling k ≡ minus ∷ (decimal (size / unit) ++ fraction_spelling (size % unit))
negative_text (pos n) size below is = absurd (omega (arith, ints, below))
negative_text (negsuc n) size below is = rw is refl

-- where it begins
pub negative_begins : (k : ℤ) (size start point end : ℕ) → le_z (pos 0) k ≡ false → unsigned_abs k ≤ most_count → size ≡ unsigned_abs k
    → start + length (decimal (size / unit)) ≡ point → point + length (fraction_spelling (size % unit)) ≡ end → 21 ≤ end
    → (1 ≤ start) × (start - 1 + length (spelling k) ≡ end)
negative_begins k size start point end below most is whole fraction room =
    let long : length (spelling k) ≡ suc (length (decimal (size / unit) ++ fraction_spelling (size % unit))) =
    ap length (negative_text k size below is) in
    let parts = length-append (decimal (size / unit)) (fraction_spelling (size % unit)) in
    let short = spelling_short k most in
    (omega (arith, long, parts, short), omega (arith, long, parts, short))

-- ---- digits written two at a time

abbrev are_pairs : ℕ → Bool
are_pairs zero = true
are_pairs (suc p) = (eqb (get_or PAIRS (p * 2) 0) (48 + p / 10) && eqb (get_or PAIRS (p * 2 + 1) 0) (48 + p % 10)) && are_pairs p

below : (n p : ℕ) → T (are_pairs n) → p < n → (get_or PAIRS (p * 2) 0 ≡ 48 + p / 10) × (get_or PAIRS (p * 2 + 1) 0 ≡ 48 + p % 10)
below zero p t h = absurd (omega arith)
below (suc n) p t h =
    elim (cases_lt p n) [
      | inl less ↦ below n p (and_r _ (are_pairs n) t) less
      | inr last ↦ let e : p ≡ n = omega arith in let a = and_l _ (are_pairs n) t in
          rw e (eqb→eq _ _ (and_l _ _ a), eqb→eq _ _ (and_r _ _ a))
    ]

pub PAIRS_at : (p : ℕ) → p < 100 → (get_or PAIRS (p * 2) 0 ≡ 48 + p / 10) × (get_or PAIRS (p * 2 + 1) 0 ≡ 48 + p % 10)
PAIRS_at p h = below 100 p tt h

-- the two digits of a number below 100
abbrev pub pair : ℕ → List ℕ
pair p = (48 + p / 10) ∷ (48 + p % 10) ∷ []

-- four pairs and a digit are three groups
pub nine_digits : (n : ℕ) (after : List ℕ) → n < 1000000000
    → pair (n / 10 / 10000 / 100) ++ (pair (n / 10 / 10000 % 100)
    ++ (pair (n / 10 % 10000 / 100) ++ (pair (n / 10 % 10000 % 100) ++ ((48 + n % 10) ∷ after))))
    ≡ three_digits (n / 1000000) ++ (three_digits (n / 1000 % 1000) ++ (three_digits (n % 1000) ++ after))
nine_digits n after few =
    let a : n / 10 / 10000 / 100 / 10 ≡ n / 1000000 / 100 = omega arith in
    let b : n / 10 / 10000 / 100 % 10 ≡ n / 1000000 / 10 % 10 = omega arith in
    let c : n / 10 / 10000 % 100 / 10 ≡ n / 1000000 % 10 = omega arith in
    let d : n / 10 / 10000 % 100 % 10 ≡ n / 1000 % 1000 / 100 = omega arith in
    let e : n / 10 % 10000 / 100 / 10 ≡ n / 1000 % 1000 / 10 % 10 = omega arith in
    let f : n / 10 % 10000 / 100 % 10 ≡ n / 1000 % 1000 % 10 = omega arith in
    let g : n / 10 % 10000 % 100 / 10 ≡ n % 1000 / 100 = omega arith in
    let h : n / 10 % 10000 % 100 % 10 ≡ n % 1000 / 10 % 10 = omega arith in
    let i : n % 1000 % 10 ≡ n % 10 = omega arith in
    rw (a, b, c, d, e, f, g, h, i) refl
