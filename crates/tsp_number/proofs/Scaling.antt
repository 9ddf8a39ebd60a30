-- For src/scan.rt and src/shift.rt: digits found by one scan, and moved by the exponent, with values that stop at 64
-- bits. tsp_read imports it, too.
use Rattle.tsp_number.proofs.Prelude.{◌≡◌, ℕ, ◌+◌, ◌*◌, ◌<◌, ◌≤◌, List, [], ◌∷◌, ◌++◌, length, take, drop, Option, Some, None, ℤ, refl, arith, true, false, Bool, suc, ◌==◌, ◌||◌, length-append, ap, ◌∙◌, if◌then◌else◌, nat_lt, ◌≢◌, ◌-◌, ◌^◌, ◌/◌, ◌%◌, ◌&&◌, append_assoc, length-drop, take-append-drop, pos, negsuc, ◌+ℤ◌, ◌-ℤ◌, ◌≤ℤ◌, ◌⊎◌, inl, inr, sym, zero, subst, pow-le-pow_right, pow-suc, mul-le-mul, mul-mod_left, one-le-pow, cases_eq, cases_lt, nat_tests, ints, div-add-mod', same_from_place, digit_value_digit, digit_value, is_ascii_digit, list_all, option_map, AllDigits, digits_value, digits_value_after}
use Rattle.std.proofs.lemmas.Grind.{common_steps}
use Rattle.std.proofs.lemmas.Int.Digits.{digits_value-lt}
use Rattle.std.proofs.lemmas.List.Folds.{list_all-append}
use Rattle.std.proofs.lemmas.Str.Parse.{digit_from_value}
use Rattle.tsp_number.specs.NumberWord.{has_minus, after_sign, after_point, past_point, front_digits, after_digits, whole_in, fraction_in, past_mantissa, exponent_in, numeral_with, plus, minus, point, Numeral, digits_of}
use Rattle.tsp_number.specs.declared.scan.Written.{Written}
use Rattle.tsp_number.specs.states.Digits.{saturated, clamped, HoldsWord, DropsZeros, ShiftsTo, KeepsNumeral}

-- ---- the parts of a number word

-- the first `end` bytes are digits, and what is left gives the rest of the digits and of their value
pub record HasRead (bytes : List ℕ) (before end value : ℕ) : Type 0 where
  pub within : end ≤ length bytes
  pub digits : take end bytes ++ front_digits (drop end bytes) ≡ front_digits bytes
  pub rest : after_digits (drop end bytes) ≡ after_digits bytes
  pub goes_on : (n : ℕ) → before ≡ saturated n
      → (m : ℕ) × (value ≡ saturated m) × (digits_value_after 10 m (front_digits (drop end bytes)) ≡ digits_value_after 10 n (front_digits bytes))

-- the value of digits goes on from that of the digits before them
pub digits_value_after-append : (radix n : ℕ) (xs ys : List ℕ)
    → digits_value_after radix n (xs ++ ys) ≡ digits_value_after radix (digits_value_after radix n xs) ys
digits_value_after-append radix n [] ys = refl
digits_value_after-append radix n (x ∷ xs) ys = digits_value_after-append radix (n * radix + digit_value x) xs ys

-- the exponent that a clamped one was
unclamped : (o : Option ℤ) (x : ℤ) → option_map clamped o ≡ Some x → (e : ℤ) × (o ≡ Some e) × (x ≡ clamped e)
unclamped (Some e) x h = (e, refl, cc)
unclamped None x h = cc

-- the first branch, if the number is above 0
pub if_above_zero : {A : Type 0} (n : ℕ) (x y : A) → 0 < n → (if nat_lt 0 n then x else y) ≡ x
if_above_zero n x y above = grind (arith, common_steps)

-- a byte from `0` to `9` has a value below ten
digit_value-lt : (c : ℕ) → is_ascii_digit c ≡ true → digit_value c < 10
digit_value-lt c digit = grind (arith, nat_tests)

on_digit : (b : Bool) (c : ℕ) (ds : List ℕ) → (b ≡ true → digit_value c < 10) → AllDigits 10 ds
    → AllDigits 10 (if b then c ∷ ds else [])
on_digit true c ds small rest = (small refl, rest)
on_digit false c ds small rest = tt

-- digits at the front are digits
pub AllDigits-front_digits : (bytes : List ℕ) → AllDigits 10 (front_digits bytes)
AllDigits-front_digits [] = tt
AllDigits-front_digits (c ∷ cs) = on_digit (is_ascii_digit c) c (front_digits cs) (digit_value-lt c) (AllDigits-front_digits cs)

length_by_digit : (b : Bool) (c : ℕ) (front after cs : List ℕ) → length front + length after ≡ length cs
    → length (if b then c ∷ front else []) + length (if b then after else c ∷ cs) ≡ suc (length cs)
length_by_digit true c front after cs same = omega arith
length_by_digit false c front after cs same = omega arith

-- they and what follows are all the bytes
pub length-front_digits : (bytes : List ℕ) → length (front_digits bytes) + length (after_digits bytes) ≡ length bytes
length-front_digits [] = refl
length-front_digits (c ∷ cs) =
    length_by_digit (is_ascii_digit c) c (front_digits cs) (after_digits cs) cs (length-front_digits cs)

skipped-le : (b : Bool) (c : ℕ) (cs : List ℕ) → length (if b then cs else c ∷ cs) ≤ suc (length cs)
skipped-le true c cs = omega arith
skipped-le false c cs = omega arith

after_sign-le : (bytes : List ℕ) → length (after_sign bytes) ≤ length bytes
after_sign-le [] = omega arith
after_sign-le (c ∷ cs) = skipped-le (c == plus || c == minus) c cs

after_point-le : (bytes : List ℕ) → length (after_point bytes) ≤ length bytes
after_point-le [] = omega arith
after_point-le (c ∷ cs) = skipped-le (c == point) c cs

pub AllDigits-append : (xs ys : List ℕ) → AllDigits 10 xs → AllDigits 10 ys → AllDigits 10 (xs ++ ys)
AllDigits-append [] ys left right = right
AllDigits-append (x ∷ xs) ys left right = (left.0, AllDigits-append xs ys left.1 right)

-- the digits of the mantissa are no more than the bytes of the word
few_digits : (word : List ℕ) → length (whole_in word ++ fraction_in word) ≤ length word
few_digits word =
    let whole = length-front_digits (after_sign word) in
    let fraction = length-front_digits (past_point word) in
    let sign = after_sign-le word in
    let point' = after_point-le (after_digits (after_sign word)) in
    rw (length-append (whole_in word) (fraction_in word)) (omega arith)

pub holds : (word : List ℕ) (w : Written)
    → length word ≤ 64
    → w.negative ≡ has_minus word → w.whole.now ≡ whole_in word → w.fraction.now ≡ fraction_in word
    → 0 < length (whole_in word) + length (fraction_in word)
    → w.size ≡ saturated (digits_value_after 10 (digits_value 10 (whole_in word)) (fraction_in word))
    → option_map clamped (exponent_in (past_mantissa word)) ≡ Some w.exponent
    → HoldsWord word w
holds word w short negative whole fraction some_digit size exponent =
    let e = unclamped (exponent_in (past_mantissa word)) w.exponent exponent in
    record {
      numeral = numeral_with word e.0;
      is_in = if_above_zero _ _ _ some_digit ∙ ap (option_map (numeral_with word)) e.1;
      keeps = record {
        negative = negative;
        whole = whole;
        fraction = fraction;
        size = rw (digits_value_after-append 10 0 (whole_in word) (fraction_in word)) size;
        exponent = e.2;
        all_digits = AllDigits-append _ _ (AllDigits-front_digits (after_sign word)) (AllDigits-front_digits (past_point word));
        few_digits = omega (arith, few_digits word);
      };
    }

-- ---- a number shifted by decimal places

-- ---- zeros added, and dropped within 64 bits

pub pow_above_zero : (count : ℕ) → 0 < 10 ^ count
pow_above_zero count = one-le-pow count 10 (omega arith)

-- a number other than 0 with at least 20 zeros more is past 64 bits
past_64_bits : (size count : ℕ) → 0 < size → 20 ≤ count → 10 ^ 20 ≤ size * 10 ^ count
past_64_bits size count above many =
    let power : 10 ^ 20 ≤ 10 ^ count = pow-le-pow_right (omega arith) many in
    let some : 1 ≤ size = omega arith in
    let product : 1 * 10 ^ 20 ≤ size * 10 ^ count = mul-le-mul some power in
    omega arith

pub saturated-past : (size count : ℕ) → 0 < size → 20 ≤ count → 2 ^ 64 - 1 ≡ saturated (size * 10 ^ count)
saturated-past size count above many = omega (arith, past_64_bits size count above many)

-- a number below 10^count that is some number with this many zeros more is 0
pub only_zero : (m k count bound : ℕ) → m < 10 ^ bound → bound ≤ count → k * 10 ^ count ≡ m → (k ≡ 0) × (m ≡ 0)
only_zero m zero count bound small many same = (refl, omega arith)
only_zero m (suc k) count bound small many same =
    let power : 10 ^ bound ≤ 10 ^ count = pow-le-pow_right (omega arith) many in
    let some : 1 ≤ suc k = omega arith in
    let whole : 10 ^ count ≤ 10 ^ count = omega arith in
    let product : 1 * 10 ^ count ≤ suc k * 10 ^ count = mul-le-mul some whole in
    absurd (omega arith)

pub too_few_zeros : (size count : ℕ) → 0 < size → size < 2 ^ 64 → 20 ≤ count → DropsZeros size count None
too_few_zeros size count above small many = λ k same.
    let zero' = only_zero size k count 20 (omega arith) many same in
    omega arith

pub rest_left : (size power count : ℕ) → power ≡ 10 ^ count → size % power ≢ 0 → DropsZeros size count None
rest_left size power count is rest = λ k same.
    rest (rw is (ap (λ n. n % 10 ^ count) (sym same) ∙ mul-mod_left k (10 ^ count)))

pub no_rest : (size power count : ℕ) → power ≡ 10 ^ count → size < 2 ^ 64 → size % power ≡ 0
    → DropsZeros size count (Some (size / power))
no_rest size power count is small none =
    let whole : size / power * power ≡ size = omega (arith, div-add-mod' size power) in
    let above : 0 < power = rw is (pow_above_zero count) in
    let some : 1 ≤ power = above in
    let same : size / power ≤ size / power = omega arith in
    let less : size / power * 1 ≤ size / power * power = mul-le-mul same some in
    (size / power, rw (← is) whole, omega arith)

-- ---- zeros dropped from digits

pub digits_value_after-is : (n : ℕ) (ds : List ℕ) → digits_value_after 10 n ds ≡ n * 10 ^ length ds + digits_value 10 ds
digits_value_after-is n [] = omega arith
digits_value_after-is n (d ∷ ds) =
    rw (pow-suc 10 (length ds))
    (omega (arith, digits_value_after-is (n * 10 + digit_value d) ds, digits_value_after-is (0 * 10 + digit_value d) ds))

-- the digits at the front are worth a power of ten more
pub digits_value-append : (front back : List ℕ)
    → digits_value 10 (front ++ back) ≡ digits_value 10 front * 10 ^ length back + digits_value 10 back
digits_value-append front back = digits_value_after-append 10 0 front back ∙ digits_value_after-is (digits_value 10 front) back

abbrev pub are_zeros : List ℕ → Bool
are_zeros ds = list_all (λ c. c == 48) ds

digits_value-zeros : (ds : List ℕ) → are_zeros ds ≡ true → digits_value 10 ds ≡ 0
digits_value-zeros [] zeros = refl
digits_value-zeros (d ∷ ds) zeros =
    let first : d ≡ 48 = grind (arith, nat_tests) in
    let rest : are_zeros ds ≡ true = grind (arith, nat_tests) in
    ap (λ c. digits_value_after 10 (0 + digit_value c) ds) first ∙ digits_value-zeros ds rest

digits_value-nonzero : (ds : List ℕ) → AllDigits 10 ds → are_zeros ds ≡ false → 0 < digits_value 10 ds
digits_value-nonzero [] digits zeros = cc
digits_value-nonzero (d ∷ ds) digits zeros =
    elim (cases_eq d 48) [
      | inl zero_first ↦
          let rest : are_zeros ds ≡ false = grind (arith, nat_tests) in
          omega (arith, digits_value_after-is (0 + digit_value d) ds, digits_value-nonzero ds digits.1 rest)
      | inr other_first ↦
          let range = digit_from_value d digits.0 in
          let first : 1 ≤ digit_value d = omega (arith, digit_value_digit d range) in
          let some : 1 ≤ 10 ^ length ds = pow_above_zero (length ds) in
          let product : 1 * 1 ≤ digit_value d * 10 ^ length ds = mul-le-mul first some in
          omega (arith, digits_value_after-is (0 + digit_value d) ds)
    ]

AllDigits-append_right : (xs ys : List ℕ) → AllDigits 10 (xs ++ ys) → AllDigits 10 ys
AllDigits-append_right [] ys all = all
AllDigits-append_right (x ∷ xs) ys all = AllDigits-append_right xs ys all.1

pub AllDigits-append_left : (xs ys : List ℕ) → AllDigits 10 (xs ++ ys) → AllDigits 10 xs
AllDigits-append_left [] ys all = tt
AllDigits-append_left (x ∷ xs) ys all = (all.0, AllDigits-append_left xs ys all.1)

pub front_digits-all : (ds : List ℕ) → AllDigits 10 ds → front_digits ds ≡ ds
front_digits-all [] all = refl
front_digits-all (d ∷ ds) all =
    let range = digit_from_value d all.0 in
    let digit : is_ascii_digit d ≡ true = grind (arith, nat_tests) in
    rw (digit, front_digits-all ds all.1)

pub zeros_at_end : (ds front back : List ℕ) (count size : ℕ) → ds ≡ front ++ back → length back ≡ count → are_zeros back ≡ true
    → size ≡ saturated (digits_value 10 front) → DropsZeros (digits_value 10 ds) count (Some size)
zeros_at_end ds front back count size split long zeros kept =
    let value : digits_value 10 ds ≡ digits_value 10 (front ++ back) = ap (digits_value 10) split in
    let worth : digits_value 10 front * 10 ^ length back ≡ digits_value 10 ds = omega (arith, digits_value-append front back, digits_value-zeros back zeros) in
    (digits_value 10 front, rw long at worth, kept)

pub rest_at_end : (ds front back : List ℕ) (count : ℕ) → AllDigits 10 ds → ds ≡ front ++ back → length back ≡ count
    → are_zeros back ≡ false
    → DropsZeros (digits_value 10 ds) count None
rest_at_end ds front back count all split long zeros = λ k same.
    let value : digits_value 10 ds ≡ digits_value 10 (front ++ back) = ap (digits_value 10) split in
    let split_digits : AllDigits 10 (front ++ back) = rw split at all in
    let back_digits = AllDigits-append_right front back split_digits in
    let same' : k * 10 ^ length back ≡ digits_value 10 ds = rw (← long) at same in
    let sums : k * 10 ^ length back + 0 ≡ digits_value 10 front * 10 ^ length back + digits_value 10 back = omega (arith, digits_value-append front back) in
    let places = same_from_place k 0 (digits_value 10 front) (digits_value 10 back) (10 ^ length back) (pow_above_zero (length back)) (digits_value-lt 10 back back_digits) sums in
    omega (arith, digits_value-nonzero back back_digits zeros)

pub all_dropped : (ds : List ℕ) (count : ℕ) → AllDigits 10 ds → length ds ≤ count → 0 < digits_value 10 ds
    → DropsZeros (digits_value 10 ds) count None
all_dropped ds count all many above = λ k same.
    let zero' = only_zero (digits_value 10 ds) k count (length ds) (digits_value-lt 10 ds all) many same in
    omega arith

-- ---- exponents that are clamped

-- the same places, or enough to one side that it makes no difference
abbrev pub IsNear : ℤ → ℤ → Type 0
IsNear p z = (p ≡ z) ⊎ ((pos 100 ≤ℤ p) × (pos 100 ≤ℤ z)) ⊎ ((p ≤ℤ negsuc 100) × (z ≤ℤ negsuc 100))

pub near_places : (scale fraction : ℕ) (e : ℤ) → scale ≤ 9 → fraction ≤ 64
    → IsNear (pos scale +ℤ clamped e -ℤ pos fraction) (pos scale +ℤ e -ℤ pos fraction)
near_places scale fraction (pos n) low short =
    elim (cases_lt n 10000) [
      | inl below ↦ inl (omega (arith, ints))
      | inr above ↦ inr (inl (omega (arith, ints), omega (arith, ints)))
    ]
near_places scale fraction (negsuc n) low short =
    elim (cases_lt n 9999) [
      | inl below ↦ inl (omega (arith, ints))
      | inr above ↦ inr (inr (omega (arith, ints), omega (arith, ints)))
    ]

saturated-mul : (m p : ℕ) → 1 ≤ p → saturated (saturated m * p) ≡ saturated (m * p)
saturated-mul m p some =
    elim (cases_lt m (2 ^ 64 - 1)) [
      | inl below ↦ ap (λ n. saturated (n * p)) (omega arith)
      | inr above ↦
          let whole : 2 ^ 64 - 1 ≤ saturated m = omega arith in
          let left : (2 ^ 64 - 1) * 1 ≤ saturated m * p = mul-le-mul whole some in
          let right : (2 ^ 64 - 1) * 1 ≤ m * p = mul-le-mul above some in
          omega arith
    ]

-- zeros added are places to the left
pub shifts_up : (m size up : ℕ) (p z : ℤ) → IsNear p z → p ≡ pos up → size ≡ saturated m
    → ShiftsTo m z (Some (saturated (size * 10 ^ up)))
shifts_up m size up p z (inl same) place kept =
    let at : pos up ≡ z = sym place ∙ same in
    let P : ℤ → Type 0 = λ q. ShiftsTo m q (Some (saturated (size * 10 ^ up))) in
    subst P at (m * 10 ^ up, refl, ap (λ n. saturated (n * 10 ^ up)) kept ∙ saturated-mul m (10 ^ up) (pow_above_zero up))
shifts_up m size up p (pos far) (inr (inl beyond)) place kept =
    let left : 20 ≤ up = omega (arith, ints) in
    let right : 20 ≤ far = omega (arith, ints) in
    elim (cases_eq m 0) [
      | inl none ↦
          let none' : size ≡ 0 = omega arith in
          let here : saturated (size * 10 ^ up) ≡ 0 = ap (λ n. saturated (n * 10 ^ up)) none' ∙ omega arith in
          let there : saturated (m * 10 ^ far) ≡ 0 = ap (λ n. saturated (n * 10 ^ far)) none ∙ omega arith in
          (m * 10 ^ far, refl, here ∙ sym there)
      | inr some ↦
          let here = saturated-past size up (omega arith) left in
          let there = saturated-past m far (omega arith) right in
          (m * 10 ^ far, refl, sym here ∙ there)
    ]
shifts_up m size up p (negsuc far) (inr (inl beyond)) place kept = absurd (omega (arith, ints))
shifts_up m size up p z (inr (inr beyond)) place kept = absurd (omega (arith, ints))

drops_near : (m count down : ℕ) (r : Option ℕ) → count ≡ down + 1 → DropsZeros m count r → ShiftsTo m (negsuc down) r
drops_near m count down None same drops = λ k shifted. drops k (rw same shifted)
drops_near m count down (Some size) same drops = (drops.0, rw same at drops.1, drops.2)

drops_far : (m count down : ℕ) (r : Option ℕ) → m < 10 ^ 64 → 64 ≤ count → 64 ≤ down + 1 → DropsZeros m count r
    → ShiftsTo m (negsuc down) r
drops_far m count down None small many many' drops = λ k shifted.
    let none = only_zero m k (down + 1) 64 small many' shifted in
    drops 0 (omega arith)
drops_far m count down (Some size) small many many' drops =
    let none = only_zero m drops.0 count 64 small many drops.1 in
    (0, omega arith, drops.2 ∙ ap saturated none.0)

-- zeros dropped are places to the right
pub shifts_down : (m count : ℕ) (p z : ℤ) (r : Option ℕ) → IsNear p z → p +ℤ pos count ≡ pos 0 → 0 < count → m < 10 ^ 64
    → DropsZeros m count r → ShiftsTo m z r
shifts_down m count p (pos up) r (inl same) place some small drops = absurd (omega (arith, ints))
shifts_down m count p (negsuc down) r (inl same) place some small drops = drops_near m count down r (omega (arith, ints)) drops
shifts_down m count p z r (inr (inl beyond)) place some small drops = absurd (omega (arith, ints))
shifts_down m count p (pos up) r (inr (inr beyond)) place some small drops = absurd (omega (arith, ints))
shifts_down m count p (negsuc down) r (inr (inr beyond)) place some small drops =
    drops_far m count down r small (omega (arith, ints)) (omega (arith, ints)) drops

-- ---- the digits of a mantissa, cut before the last `count` of them

-- where the digits before the point are cut at `kept`, into `front` and `back`
pub record CutsWhole (whole fraction front back : List ℕ) (count kept : ℕ) : Type 0 where
  pub front_is : front ≡ take kept whole
  pub back_is : back ≡ drop kept whole
  pub places : count + kept ≡ length whole + length fraction
  pub within : kept ≤ length whole

whole_split : (whole fraction front back : List ℕ) (count kept : ℕ) → CutsWhole whole fraction front back count kept
    → (whole ++ fraction ≡ front ++ (back ++ fraction)) × (length (back ++ fraction) ≡ count)
whole_split whole fraction front back count kept cut =
    let joined : front ++ back ≡ whole = rw (cut.front_is, cut.back_is) (take-append-drop kept whole) in
    let texts : whole ++ fraction ≡ front ++ (back ++ fraction) = rw (← joined) (append_assoc front back fraction) in
    let long : length back ≡ length whole - kept = rw cut.back_is (length-drop kept whole) in
    let places = cut.places in
    let within = cut.within in
    (texts, rw (length-append back fraction) (omega arith))

pub whole_cut_zeros : (whole fraction front back : List ℕ) (count kept size : ℕ) → CutsWhole whole fraction front back count kept
    → AllDigits 10 (whole ++ fraction) → are_zeros back ≡ true → are_zeros fraction ≡ true
    → size ≡ saturated (digits_value 10 (front_digits front))
    → DropsZeros (digits_value 10 (whole ++ fraction)) count (Some size)
whole_cut_zeros whole fraction front back count kept size cut all zeros zeros' value =
    let split = whole_split whole fraction front back count kept cut in
    let texts = split.0 in
    let all' : AllDigits 10 (front ++ (back ++ fraction)) = rw texts at all in
    let all_zeros : are_zeros (back ++ fraction) ≡ true = rw (list_all-append (λ c. c == 48) back fraction, zeros, zeros') refl in
    zeros_at_end (whole ++ fraction) front (back ++ fraction) count size texts split.1 all_zeros
    (value ∙ ap (λ ds. saturated (digits_value 10 ds)) (front_digits-all front (AllDigits-append_left front (back ++ fraction) all')))

pub whole_cut_rest : (whole fraction front back : List ℕ) (count kept : ℕ) → CutsWhole whole fraction front back count kept
    → AllDigits 10 (whole ++ fraction) → (are_zeros back && are_zeros fraction) ≡ false
    → DropsZeros (digits_value 10 (whole ++ fraction)) count None
whole_cut_rest whole fraction front back count kept cut all rest =
    let split = whole_split whole fraction front back count kept cut in
    rest_at_end (whole ++ fraction) front (back ++ fraction) count all split.0 split.1 (list_all-append (λ c. c == 48) back fraction ∙ rest)

-- where the digits after the point are
pub record CutsFraction (whole fraction front back : List ℕ) (count kept : ℕ) : Type 0 where
  pub front_is : front ≡ take kept fraction
  pub back_is : back ≡ drop kept fraction
  pub places : count + kept ≡ length fraction

fraction_split : (whole fraction front back : List ℕ) (count kept : ℕ) → CutsFraction whole fraction front back count kept
    → (whole ++ fraction ≡ (whole ++ front) ++ back) × (length back ≡ count)
fraction_split whole fraction front back count kept cut =
    let joined : front ++ back ≡ fraction = rw (cut.front_is, cut.back_is) (take-append-drop kept fraction) in
    let texts : whole ++ fraction ≡ (whole ++ front) ++ back = ap (λ ds. whole ++ ds) (sym joined) ∙ sym (append_assoc whole front back) in
    let long : length back ≡ length fraction - kept = rw cut.back_is (length-drop kept fraction) in
    let places = cut.places in
    (texts, omega arith)

pub fraction_cut_zeros : (whole fraction front back : List ℕ) (count kept size : ℕ)
    → CutsFraction whole fraction front back count kept
    → AllDigits 10 (whole ++ fraction) → are_zeros back ≡ true
    → size ≡ saturated (digits_value_after 10 (digits_value 10 (front_digits whole)) (front_digits front))
    → DropsZeros (digits_value 10 (whole ++ fraction)) count (Some size)
fraction_cut_zeros whole fraction front back count kept size cut all zeros value =
    let split = fraction_split whole fraction front back count kept cut in
    let texts = split.0 in
    let all' : AllDigits 10 ((whole ++ front) ++ back) = rw texts at all in
    let kept_digits = AllDigits-append_left (whole ++ front) back all' in
    let whole_same = front_digits-all whole (AllDigits-append_left whole front kept_digits) in
    let front_same = front_digits-all front (AllDigits-append_right whole front kept_digits) in
    let joined : digits_value_after 10 (digits_value 10 (front_digits whole)) (front_digits front) ≡ digits_value 10 (whole ++ front) =
    rw (whole_same, front_same) (sym (digits_value_after-append 10 0 whole front)) in
    zeros_at_end (whole ++ fraction) (whole ++ front) back count size texts split.1 zeros (value ∙ ap saturated joined)

pub fraction_cut_rest : (whole fraction front back : List ℕ) (count kept : ℕ) → CutsFraction whole fraction front back count kept
    → AllDigits 10 (whole ++ fraction) → are_zeros back ≡ false
    → DropsZeros (digits_value 10 (whole ++ fraction)) count None
fraction_cut_rest whole fraction front back count kept cut all rest =
    let split = fraction_split whole fraction front back count kept cut in
    rest_at_end (whole ++ fraction) (whole ++ front) back count all split.0 split.1 rest

-- ---- the kept parts of a number word

pub few_in_fraction : (w : Written) (n : Numeral) → KeepsNumeral w n → length n.fraction ≤ 64
few_in_fraction w n keeps = omega (arith, length-append n.whole n.fraction, keeps.few_digits)

pub digits_of-lt : (w : Written) (n : Numeral) → KeepsNumeral w n → digits_of n < 10 ^ 64
digits_of-lt w n keeps =
    let power : 10 ^ length (n.whole ++ n.fraction) ≤ 10 ^ 64 = pow-le-pow_right (omega arith) keeps.few_digits in
    let small = digits_value-lt 10 (n.whole ++ n.fraction) keeps.all_digits in
    omega arith
