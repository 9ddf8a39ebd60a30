-- The shortcuts of src/number_word.rt, digit by digit: a number at the beginning of some bytes is the one that the
-- grammar reads there.
use Rattle.tsp_number.proofs.Prelude.{◌≡◌, ℕ, zero, suc, ◌+◌, ◌<◌, ◌≤◌, Bool, true, false, cond, List, [], ◌∷◌, length, take, drop, ap, arith, ◌*◌, ◌-◌, ◌^◌, ◌≢◌, None, Some, ◌++◌, ℤ, pos, ◌*ℤ◌, ◌≤ℤ◌, ◌<ℤ◌, ◌⊎◌, Ok, Err, unsigned_abs, inl, inr, ⊎_elim, refl, sym, ◌∙◌, subst, pow-add, add-one, append_assoc, append-nil, length-drop, pow-suc, pow-le-pow_right, mul-le-mul, nat_tests, ints, length-take-le, take-take, digit_value_digit, is_ascii_digit, prefix_len, min, slice_index_or as get_or, nat_le, nat_lt, ◌&&◌, AllDigits, digits_value}
use Rattle.std.proofs.Math.Seq.{take-add, take-suc, take-length}
use Rattle.std.proofs.lemmas.Grind.{common_steps}
use Rattle.std.proofs.lemmas.Int.Digits.{digits_value_more, digits_value-lt}
use Rattle.std.specs.Array.{IsFirstChunk}
use Rattle.tsp_number.proofs.NumberGrammar.{to_signed}
use Rattle.tsp_number.proofs.Scaling.{digits_value-append, AllDigits-append}
use Rattle.tsp_number.specs.Decimal.{unit, most_count}
use Rattle.tsp_number.specs.NumberWord.{IsShort, ReadsDecimal, ReadsWhole, point, IsSign, IsFraction, Numeral, StandsFor, IsShifted, with_sign, mantissa, digits_of, shift_of}
use Rattle.tsp_number.specs.declared.number_word.NumberFault.TheVariants.{OutOfRange}
use Rattle.tsp_number.specs.states.Digits.{BeginsWithNumber, sign_count, digit_count, end_of_digits, end_with_point, few_end, decimal_end}

-- of the first m elements as many pass as of all, but no more than m
pub prefix_of_front : {X : Type 0} (p : X → Bool) (m : ℕ) (xs : List X) → prefix_len p (take m xs) ≡ min m (prefix_len p xs)
prefix_of_front p zero xs = omega arith
prefix_of_front p (suc m) [] = omega arith
prefix_of_front {X} p (suc m) (x ∷ xs) = by_test (p x) (prefix_of_front p m xs)
  where
    by_test : (b : Bool) → prefix_len p (take m xs) ≡ min m (prefix_len p xs) → cond b (1 + prefix_len p (take m xs)) 0 ≡ min (suc m) (cond b (1 + prefix_len p xs) 0)
    by_test true so = omega (arith, so)
    by_test false so = omega arith

-- if the first m elements pass, those after them are counted on
pub prefix_goes_on : {X : Type 0} (p : X → Bool) (m : ℕ) (xs : List X) → m ≤ prefix_len p xs
    → prefix_len p xs ≡ m + prefix_len p (drop m xs)
prefix_goes_on p zero xs le = omega arith
prefix_goes_on p (suc m) [] le = absurd (omega (arith, le))
prefix_goes_on {X} p (suc m) (x ∷ xs) le = by_test (p x) le (prefix_goes_on p m xs)
  where
    by_test : (b : Bool) → suc m ≤ cond b (1 + prefix_len p xs) 0 → (m ≤ prefix_len p xs → prefix_len p xs ≡ m + prefix_len p (drop m xs))
        → cond b (1 + prefix_len p xs) 0 ≡ suc m + prefix_len p (drop m xs)
    by_test true le so = omega (arith, so (omega (arith, le)))
    by_test false le so = absurd (omega (arith, le))

-- the element after the first k passes too: one more
pub prefix_one_more : {X : Type 0} (p : X → Bool) (k : ℕ) (xs : List X) (d : X) → k < length xs → k ≤ prefix_len p xs
    → p (get_or xs k d) ≡ true → suc k ≤ prefix_len p xs
prefix_one_more p k [] d lt le e = absurd (omega (arith, lt))
prefix_one_more p zero (x ∷ xs) d lt le e = omega (arith, ap (λ b. cond b (1 + prefix_len p xs) 0) e)
prefix_one_more {X} p (suc k) (x ∷ xs) d lt le e = by_test (p x) le (prefix_one_more p k xs d (omega (arith, lt)))
  where
    by_test : (b : Bool) → suc k ≤ cond b (1 + prefix_len p xs) 0 → (k ≤ prefix_len p xs → p (get_or xs k d) ≡ true → suc k ≤ prefix_len p xs)
        → suc (suc k) ≤ cond b (1 + prefix_len p xs) 0
    by_test true le so = omega (arith, so (omega (arith, le)) e)
    by_test false le so = absurd (omega (arith, le))

-- the element after the first k doesn't pass: there are k
pub prefix_ends : {X : Type 0} (p : X → Bool) (k : ℕ) (xs : List X) (d : X) → k < length xs → k ≤ prefix_len p xs
    → p (get_or xs k d) ≡ false → prefix_len p xs ≡ k
prefix_ends p k [] d lt le e = absurd (omega (arith, lt))
prefix_ends p zero (x ∷ xs) d lt le e = ap (λ b. cond b (1 + prefix_len p xs) 0) e
prefix_ends {X} p (suc k) (x ∷ xs) d lt le e = by_test (p x) le (prefix_ends p k xs d (omega (arith, lt)))
  where
    by_test : (b : Bool) → suc k ≤ cond b (1 + prefix_len p xs) 0 → (k ≤ prefix_len p xs → p (get_or xs k d) ≡ false → prefix_len p xs ≡ k)
        → cond b (1 + prefix_len p xs) 0 ≡ suc k
    by_test true le so = omega (arith, so (omega (arith, le)) e)
    by_test false le so = absurd (omega (arith, le))

-- ---- the number that a text begins with: its digits, one by one or eight at once

-- the first `count` bytes are digits, and `value` is their number
pub record ReadsFront (bytes : List ℕ) (count value : ℕ) : Type 0 where
  pub digits : AllDigits 10 (take count bytes)
  pub value_is : value ≡ digits_value 10 (take count bytes)
  pub size : value < 10 ^ count

pub one_more : (bytes : List ℕ) (count value : ℕ) → ReadsFront bytes count value → count < length bytes
    → is_ascii_digit (get_or bytes count 0) ≡ true
    → ReadsFront bytes (count + 1) (10 * value + (get_or bytes count 0 - 48))
one_more bytes count value read within digit =
    let c : ℕ = get_or bytes count 0 in
    let low : 48 ≤ c = grind (arith, nat_tests) in
    let high : c ≤ 57 = grind (arith, nat_tests) in
    let worth = digit_value_digit c (low, high) in
    let texts : take (count + 1) bytes ≡ take count bytes ++ (c ∷ []) = rw add-one (take-suc bytes count 0 within) in
    let last : AllDigits 10 (c ∷ []) = (omega (arith, worth), tt) in
    let power : 10 ^ (count + 1) ≡ 10 ^ count * 10 = rw add-one (pow-suc 10 count) in
    let more = digits_value_more 10 bytes count within in
    let size = read.size in
    record {
      digits = rw texts (AllDigits-append (take count bytes) (c ∷ []) read.digits last);
      value_is = omega (arith, more, read.value_is, worth);
      size = omega (arith, worth);
    }

-- what the first eight bytes give
pub eight_more : (bytes eight : List ℕ) (count value : ℕ) → IsFirstChunk bytes eight 8 → count ≤ 8
    → AllDigits 10 (take count eight)
    → value ≡ digits_value 10 (take count eight) → ReadsFront bytes count value
eight_more bytes eight count value chunk few digits is =
    let front : take count eight ≡ take count bytes = ap (take count) chunk.same ∙ take-take count 8 bytes few in
    let within : count ≤ length bytes = omega (arith, chunk.enough) in
    let long : length (take count bytes) ≡ count = length-take-le count bytes within in
    let digits' : AllDigits 10 (take count bytes) = rw front at digits in
    let same : value ≡ digits_value 10 (take count bytes) = rw front at is in
    record {
      digits = digits';
      value_is = same;
      size = rw same (rw long at (digits_value-lt 10 (take count bytes) digits'));
    }

-- if the first eight are digits, those after them are counted on
pub counts_on : (bytes eight : List ℕ) (most count places : ℕ) → IsFirstChunk bytes eight 8
    → count ≡ prefix_len is_ascii_digit eight → 8 ≤ count
    → places ≡ digit_count (most - 8) (drop 8 bytes) → 8 ≤ most → 8 + places ≡ digit_count most bytes
counts_on bytes eight most count places chunk counted full more room =
    let front = ap (prefix_len is_ascii_digit) chunk.same ∙ prefix_of_front is_ascii_digit 8 bytes in
    let all : 8 ≤ prefix_len is_ascii_digit bytes = omega (arith, counted, front, full) in
    omega (arith, prefix_goes_on is_ascii_digit 8 bytes all, more, room)

-- if fewer are, they are all
pub few_digits : (bytes eight : List ℕ) (count : ℕ) → IsFirstChunk bytes eight 8 → count ≡ prefix_len is_ascii_digit eight
    → 0 < count → count < 8
    → few_end bytes ≡ Some count
few_digits bytes eight count chunk counted some few =
    let front = ap (prefix_len is_ascii_digit) chunk.same ∙ prefix_of_front is_ascii_digit 8 bytes in
    let all : prefix_len is_ascii_digit bytes ≡ count = omega (arith, counted, front, few) in
    let enough = chunk.enough in
    let test : (nat_le 8 (length bytes) && nat_lt 0 count && nat_lt count 8) ≡ true = grind (arith, nat_tests) in
    rw (all, test) refl

pub not_few : (bytes eight : List ℕ) (count : ℕ) → IsFirstChunk bytes eight 8 → count ≡ prefix_len is_ascii_digit eight
    → (count ≡ 0) ⊎ (count ≡ 8)
    → few_end bytes ≡ None
not_few bytes eight count chunk counted ends =
    let front = ap (prefix_len is_ascii_digit) chunk.same ∙ prefix_of_front is_ascii_digit 8 bytes in
    let size : ℕ = prefix_len is_ascii_digit bytes in
    let other : (size ≡ 0) ⊎ (8 ≤ size) = elim ends [ inl none ↦ inl (omega (arith, counted, front, none)) | inr all ↦ inr (omega (arith, counted, front, all)) ] in
    let test : (nat_le 8 (length bytes) && nat_lt 0 size && nat_lt size 8) ≡ false = grind (arith, nat_tests) in
    rw test refl

-- the digits after the first eight go on from theirs
pub eight_and_more : (bytes : List ℕ) (value more places power : ℕ) → ReadsFront bytes 8 value
    → ReadsFront (drop 8 bytes) places more
    → places ≤ length (drop 8 bytes) → power ≡ 10 ^ places → ReadsFront bytes (8 + places) (value * power + more)
eight_and_more bytes value more places power first then within is =
    let rest : List ℕ = take places (drop 8 bytes) in
    let long : length rest ≡ places = length-take-le places (drop 8 bytes) within in
    let text : take (8 + places) bytes ≡ take 8 bytes ++ rest = take-add 8 places bytes in
    let sum : digits_value 10 (take 8 bytes ++ rest) ≡ value * power + more =
    digits_value-append (take 8 bytes) rest ∙ rw (long, ← first.value_is, ← then.value_is, ← is) refl in
    let above : value + 1 ≤ 10 ^ 8 = omega (arith, first.size) in
    let same : power ≤ 10 ^ places = omega arith in
    let product : (value + 1) * power ≤ 10 ^ 8 * 10 ^ places = mul-le-mul above same in
    record {
      digits = rw text (AllDigits-append (take 8 bytes) rest first.digits then.digits);
      value_is = sym (ap (digits_value 10) text ∙ sum);
      size = rw (pow-add 10 8 places) (omega (arith, product, then.size));
    }

-- at most 18 digits fit 64 bits
pub few_fit : (bytes : List ℕ) (count value : ℕ) → ReadsFront bytes count value → count ≤ 18 → value < 2 ^ 64
few_fit bytes count value read few =
    let power : 10 ^ count ≤ 10 ^ 18 = pow-le-pow_right (omega arith) few in
    omega (arith, read.size)

-- fewer than 18 digits leave a place for one more
pub room_for_one : (bytes : List ℕ) (count value : ℕ) → ReadsFront bytes count value → count < 18 → value < 10 ^ 17
room_for_one bytes count value read few =
    let most : count ≤ 17 = omega arith in
    let power : 10 ^ count ≤ 10 ^ 17 = pow-le-pow_right (omega arith) most in
    let size = read.size in
    omega arith

-- this many digits are a number of as many places
small_digits : (count most value : ℕ) → value < 10 ^ count → count ≤ most → value < 10 ^ most
small_digits count most value small few =
    let some : 1 ≤ 10 = omega arith in
    let power : 10 ^ count ≤ 10 ^ most = pow-le-pow_right some few in
    omega arith

pub small_whole : (count value : ℕ) → value < 10 ^ count → count ≤ 18 → value ≤ most_count
small_whole count value small few = omega (arith, small_digits count 18 value small few)

-- a whole number of at most nine digits, counted in 10^-9
pub small_unit : (count whole : ℕ) → whole < 10 ^ count → count ≤ 9 → whole * 1000000000 ≤ most_count
small_unit count whole small few = omega (arith, small_digits count 9 whole small few)

pub small_decimal : (count whole parts part power : ℕ) → whole < 10 ^ count → count ≤ 9 → part < 10 ^ parts → parts ≤ 9
    → power ≡ 10 ^ (9 - parts)
    → whole * 1000000000 + part * power ≤ most_count
small_decimal count whole parts part power small few small' few' is =
    let high = small_digits count 9 whole small few in
    let sum : 9 ≡ parts + (9 - parts) = omega arith in
    let tens : 10 ^ 9 ≡ 10 ^ parts * 10 ^ (9 - parts) = ap (λ n. 10 ^ n) sum ∙ pow-add 10 parts (9 - parts) in
    let below : part ≤ 10 ^ parts = omega arith in
    let same : power ≤ 10 ^ (9 - parts) = omega arith in
    let low : part * power ≤ 10 ^ parts * 10 ^ (9 - parts) = mul-le-mul below same in
    omega arith

-- ---- texts

-- a text of a sign and digits, cut into them
whole_text : (bytes : List ℕ) (sign count : ℕ)
    → take (sign + count) bytes ≡ take sign bytes ++ (take count (drop sign bytes) ++ ([] ++ []))
whole_text bytes sign count =
    take-add sign count bytes ∙ ap (λ ds. take sign bytes ++ ds) (sym (append-nil (take count (drop sign bytes))))

-- a text of a sign, digits, a point and digits, cut into them
decimal_text : (bytes : List ℕ) (sign count parts : ℕ) → sign + count < length bytes → get_or bytes (sign + count) 0 ≡ point
    → take (sign + count + 1 + parts) bytes
    ≡ take sign bytes ++ (take count (drop sign bytes) ++ ((point ∷ take parts (drop (sign + count + 1) bytes)) ++ []))
decimal_text bytes sign count parts within is_point =
    let front : take (sign + count + 1) bytes ≡ take (sign + count) bytes ++ (point ∷ []) =
    rw (add-one, ← is_point) (take-suc bytes (sign + count) 0 within) in
    let back : List ℕ = take parts (drop (sign + count + 1) bytes) in
    let cut : take (sign + count + 1 + parts) bytes ≡ take (sign + count + 1) bytes ++ back = take-add (sign + count + 1) parts bytes in
    cut ∙ ap (λ ds. ds ++ back) (front ∙ ap (λ ds. ds ++ (point ∷ [])) (take-add sign count bytes))
    ∙ simp (append_assoc, append-nil)

-- ---- their meaning

-- a mantissa without an exponent, and its count of 10^-9
-- plan: the parts of the word are the premises, with no exponent; the count is their number by arithmetic
plain_stands : (word sign whole fraction_text fraction : List ℕ) (negative : Bool) (size : ℕ)
    → word ≡ sign ++ (whole ++ (fraction_text ++ []))
    → IsSign sign negative → AllDigits 10 whole → IsFraction fraction_text fraction → AllDigits 10 fraction
    → 0 < length whole + length fraction → length fraction ≤ 9
    → size ≡ digits_value 10 (whole ++ fraction) * 10 ^ (9 - length fraction)
    → StandsFor word (with_sign negative size)
plain_stands word sign whole fraction_text fraction negative size text is_sign whole_digits is_fraction fraction_digits some few is =
    let n : Numeral = record { negative = negative; whole = whole; fraction = fraction; exponent = pos 0 } in
    let place : shift_of 9 n ≡ pos (9 - length fraction) = omega (arith, ints) in
    let P : ℤ → Type 0 = λ z. IsShifted (mantissa n) z (with_sign negative size) in
    record {
      numeral = n;
      spelled = record {
        sign = sign;
        fraction_text = fraction_text;
        exponent_text = [];
        text_is = text;
        is_sign = is_sign;
        whole_digits = whole_digits;
        is_fraction = is_fraction;
        fraction_digits = fraction_digits;
        some_digit = some;
        is_exponent = inl (refl, refl);
      };
      shifted = subst P (sym place) (to_signed negative (digits_of n) size (pos (9 - length fraction)) is);
    }

-- a sign and `count` digits of the value `whole`
pub record HasWhole (bytes : List ℕ) (sign count whole : ℕ) (negative : Bool) : Type 0 where
  pub sign_within : sign ≤ length bytes
  pub sign_short : sign ≤ 1
  pub is_sign : IsSign (take sign bytes) negative
  pub within : count ≤ length (drop sign bytes)
  pub digits : AllDigits 10 (take count (drop sign bytes))
  pub value_is : whole ≡ digits_value 10 (take count (drop sign bytes))

pub whole_front : (bytes : List ℕ) (sign count whole : ℕ) (negative : Bool) → HasWhole bytes sign count whole negative → 0 < count
    → count ≤ 18
    → BeginsWithNumber bytes (sign + count) (with_sign negative (whole * unit))
whole_front bytes sign count whole negative has some few =
    let ds : List ℕ = take count (drop sign bytes) in
    let long : length ds ≡ count = length-take-le count (drop sign bytes) has.within in
    let rest : length (drop sign bytes) ≡ length bytes - sign = length-drop sign bytes in
    let within : sign + count ≤ length bytes = omega (arith, has.within, has.sign_within) in
    let size : whole * unit ≡ digits_value 10 (ds ++ []) * 10 ^ (9 - length {A = ℕ} []) =
    rw append-nil (ap (λ n. n * unit) has.value_is) in
    record {
      within = within;
      short = omega (arith, length-take-le (sign + count) bytes within, has.sign_short);
      stands = plain_stands (take (sign + count) bytes) (take sign bytes) ds [] [] negative (whole * unit) (whole_text bytes sign count)
          has.is_sign has.digits (inr (refl, refl)) tt (omega arith) (omega arith) size;
    }

-- digits without a sign
pub few_front : (bytes : List ℕ) (count value : ℕ) → ReadsFront bytes count value → 0 < count → count ≤ 8 → count ≤ length bytes
    → BeginsWithNumber bytes count (pos (value * unit))
few_front bytes count value read some few within =
    let has : HasWhole bytes 0 count value false =
    record {
      sign_within = omega arith;
      sign_short = omega arith;
      is_sign = inl (refl, refl);
      within = within;
      digits = read.digits;
      value_is = read.value_is;
    } in
    let front : 0 + count ≡ count = omega arith in
    subst (λ n. BeginsWithNumber bytes n (pos (value * unit))) front (whole_front bytes 0 count value false has some (omega arith))

-- plan: the bytes are cut at the point (`digits_value-append`), and `plain_stands` gives their count
pub decimal_front : (bytes : List ℕ) (sign count whole parts part : ℕ) (negative : Bool)
    → HasWhole bytes sign count whole negative → count ≤ 9
    → sign + count < length bytes → get_or bytes (sign + count) 0 ≡ point
    → parts ≤ length (drop (sign + count + 1) bytes) → parts ≤ 9 → AllDigits 10 (take parts (drop (sign + count + 1) bytes))
    → part ≡ digits_value 10 (take parts (drop (sign + count + 1) bytes)) → 0 < count + parts
    → BeginsWithNumber bytes (sign + count + 1 + parts) (with_sign negative (whole * unit + part * 10 ^ (9 - parts)))
decimal_front bytes sign count whole parts part negative has few before is_point within' few' digits' part_is some =
    let ds : List ℕ = take count (drop sign bytes) in
    let fs : List ℕ = take parts (drop (sign + count + 1) bytes) in
    let long : length ds ≡ count = length-take-le count (drop sign bytes) has.within in
    let long' : length fs ≡ parts = length-take-le parts (drop (sign + count + 1) bytes) within' in
    let rest : length (drop (sign + count + 1) bytes) ≡ length bytes - (sign + count + 1) = length-drop (sign + count + 1) bytes in
    let within : sign + count + 1 + parts ≤ length bytes = omega arith in
    let value : digits_value 10 (ds ++ fs) ≡ whole * 10 ^ parts + part =
    digits_value-append ds fs ∙ rw (long', ← has.value_is, ← part_is) refl in
    let power : 10 ^ 9 ≡ 10 ^ parts * 10 ^ (9 - parts) =
    ap (λ n. 10 ^ n) (let sum : 9 ≡ parts + (9 - parts) = omega arith in sum) ∙ pow-add 10 parts (9 - parts) in
    let high = ap (λ n. whole * n) power in
    let product = ap (λ n. n * 10 ^ (9 - parts)) value in
    let size : whole * unit + part * 10 ^ (9 - parts) ≡ digits_value 10 (ds ++ fs) * 10 ^ (9 - length fs) = rw long' (omega arith) in
    record {
      within = within;
      short = omega (arith, length-take-le (sign + count + 1 + parts) bytes within, has.sign_short);
      stands = plain_stands (take (sign + count + 1 + parts) bytes) (take sign bytes) ds (point ∷ fs) fs negative
          (whole * unit + part * 10 ^ (9 - parts)) (decimal_text bytes sign count parts before is_point)
          has.is_sign has.digits (inl refl) digits' (omega arith) (omega arith) size;
    }

-- ---- words that end where their front ends

all_of : (word : List ℕ) (count : ℕ) (k : ℤ) → BeginsWithNumber word count k → count ≡ length word
    → IsShort word × StandsFor word k
all_of word count k front same =
    let all : take count word ≡ word = rw same (take-length word) in
    (rw all at front.short, rw all at front.stands)

pub decimal_word : (word : List ℕ) (count : ℕ) (k : ℤ) → BeginsWithNumber word count k → count ≡ length word
    → unsigned_abs k ≤ most_count
    → ReadsDecimal word (Ok k)
decimal_word word count k front same within =
    let parts = all_of word count k front same in
    (parts.0, parts.1, within)

pub whole_word : (word : List ℕ) (count : ℕ) (k low high : ℤ) → BeginsWithNumber word count (k *ℤ pos unit) → count ≡ length word
    → low ≤ℤ k → k ≤ℤ high → ReadsWhole word low high (Ok k)
whole_word word count k low high front same above below =
    let parts = all_of word count (k *ℤ pos unit) front same in
    (parts.0, parts.1, above, below)

pub whole_outside : (word : List ℕ) (count : ℕ) (k low high : ℤ) → BeginsWithNumber word count (k *ℤ pos unit)
    → count ≡ length word
    → (k <ℤ low) ⊎ (high <ℤ k) → ReadsWhole word low high (Err OutOfRange)
whole_outside word count k low high front same out =
    let parts = all_of word count (k *ℤ pos unit) front same in
    (parts.0, (k, parts.1, out))

-- ---- where a decimal ends

-- by its sign and the digits after it
pub decimal_ends : (bytes : List ℕ) (sign whole : ℕ) → sign ≡ sign_count bytes → whole ≡ digit_count 9 (drop sign bytes)
    → end_with_point bytes sign whole ≡ decimal_end bytes
decimal_ends bytes sign whole sign_is whole_is =
    ap (λ n. end_with_point bytes sign n) whole_is
    ∙ ap (λ n. end_with_point bytes n (digit_count 9 (drop n bytes))) sign_is

-- past a point
pub ends_past_point : (bytes : List ℕ) (sign whole places : ℕ) → sign + whole < length bytes
    → get_or bytes (sign + whole) 0 ≡ 46 → places ≡ digit_count 9 (drop (sign + whole + 1) bytes) → 0 < whole + places
    → Some (sign + whole + 1 + places) ≡ end_with_point bytes sign whole
ends_past_point bytes sign whole places before on is some = grind (arith, nat_tests, common_steps)

-- no digit on either side of it
pub no_end_at_point : (bytes : List ℕ) (sign whole places : ℕ) → sign + whole < length bytes
    → get_or bytes (sign + whole) 0 ≡ 46 → places ≡ digit_count 9 (drop (sign + whole + 1) bytes) → whole ≡ 0 → places ≡ 0
    → None ≡ end_with_point bytes sign whole
no_end_at_point bytes sign whole places before on is none no_places = grind (arith, nat_tests, common_steps)

-- some digits
pub some_end : (sign digits : ℕ) → digits ≢ 0 → Some (sign + digits) ≡ end_of_digits sign digits
some_end sign digits some = grind (arith, nat_tests, common_steps)

past_the_end : (bytes : List ℕ) (sign whole : ℕ) → length bytes ≤ sign + whole
    → end_of_digits sign whole ≡ end_with_point bytes sign whole
past_the_end bytes sign whole past = grind (arith, nat_tests, common_steps)

at_another_byte : (bytes : List ℕ) (sign whole : ℕ) → get_or bytes (sign + whole) 0 ≢ 46
    → end_of_digits sign whole ≡ end_with_point bytes sign whole
at_another_byte bytes sign whole other = grind (arith, nat_tests, common_steps)

-- no point follows
pub ends_without_point : (bytes : List ℕ) (sign whole : ℕ)
    → (length bytes ≤ sign + whole) ⊎ (get_or bytes (sign + whole) 0 ≢ 46)
    → end_of_digits sign whole ≡ end_with_point bytes sign whole
ends_without_point bytes sign whole no_point = ⊎_elim (past_the_end bytes sign whole) (at_another_byte bytes sign whole) no_point
