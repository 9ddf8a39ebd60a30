-- How far a number word reaches at the beginning of some bytes, and its sign, digits and exponent as the code holds
-- them, capped at 64 bits. The shortcuts in `src/number_word.rt` promise the first, and for all other words
-- `src/scan.rt` and `src/shift.rt` the second. You may change both with the code, because `ReadsDecimal` and
-- `ReadsWhole` define what a word means; but tsp_read proves its fast path with `BeginsWithNumber`.
use Rattle.std.specs.Char.{is_ascii_digit}
use Rattle.std.specs.List.{prefix_len}
use Rattle.std.specs.Prelude.{ℕ, ◌≤◌, ◌+◌, ◌==◌, ◌||◌, ◌&&◌, cond, nat_le, nat_lt, min, List, [], ◌∷◌, length, take, drop, slice_index, Option, None, Some, ℤ, ◌≡◌, ◌≢◌, ◌*◌, ◌-◌, ◌^◌, ◌++◌, pos, negsuc}
use Rattle.std.specs.Str.Parse.{AllDigits}
use Rattle.tsp_number.specs.NumberWord.{IsShort, StandsFor, Numeral, digits_of, numeral_in}
use Rattle.tsp_number.specs.declared.scan.Written.{Written}

-- the first `count` bytes are a number word, and it means k counts of 10^-9
pub record BeginsWithNumber (bytes : List ℕ) (count : ℕ) (k : ℤ) : Type 0 where
  pub within : count ≤ length bytes
  pub short : IsShort (take count bytes)
  pub stands : StandsFor (take count bytes) k

-- ---- how far such a number goes

-- how many bytes the sign at the beginning has: one for `-` or `+`, otherwise none
abbrev pub sign_count : List ℕ → ℕ
sign_count [] = 0
sign_count (byte ∷ bytes) = cond ((byte == 45) || (byte == 43)) 1 0

-- how many digits the bytes begin with; no more than `most` are counted
abbrev pub digit_count : ℕ → List ℕ → ℕ
digit_count most bytes = min most (prefix_len is_ascii_digit bytes)

-- how many bytes a sign and digits have; without a digit there is no number
abbrev pub end_of_digits : ℕ → ℕ → Option ℕ
end_of_digits sign digits = cond (digits == 0) None (Some (sign + digits))

-- where the whole number at the beginning ends, which has at most 18 digits
abbrev pub whole_end : List ℕ → Option ℕ
whole_end bytes = end_of_digits (sign_count bytes) (digit_count 18 (drop (sign_count bytes) bytes))

-- one to seven digits, among eight bytes at least
abbrev pub end_of_few : ℕ → ℕ → Option ℕ
end_of_few size digits = cond (nat_le 8 size && nat_lt 0 digits && nat_lt digits 8) (Some digits) None

-- where such digits at the beginning end
abbrev pub few_end : List ℕ → Option ℕ
few_end bytes = end_of_few (length bytes) (prefix_len is_ascii_digit bytes)

-- where a number with a point ends: `point` is the point's index, `whole` the number of digits before it; at most nine
-- come after it
abbrev pub end_of_places : List ℕ → ℕ → ℕ → Option ℕ
end_of_places bytes point whole =
    let places = digit_count 9 (drop (point + 1) bytes) in
    cond ((whole == 0) && (places == 0)) None (Some (point + 1 + places))

-- where a number ends that may have a point
abbrev pub end_with_point : List ℕ → ℕ → ℕ → Option ℕ
end_with_point bytes sign whole = cond (nat_lt (sign + whole) (length bytes) && (slice_index bytes (sign + whole) == 46))
    (end_of_places bytes (sign + whole) whole) (end_of_digits sign whole)

-- where the decimal at the beginning ends, which has at most nine digits before its point and nine after it
abbrev pub decimal_end : List ℕ → Option ℕ
decimal_end bytes = end_with_point bytes (sign_count bytes) (digit_count 9 (drop (sign_count bytes) bytes))

-- ---- the parts of a number word as code has them

-- the number, or the largest of 64 bits if that is less
abbrev pub saturated : ℕ → ℕ
saturated n = min n (2 ^ 64 - 1)

-- an exponent, or the one of size 10,000 with its sign if that is smaller in size
abbrev pub clamped : ℤ → ℤ
clamped (pos n) = pos (min n 10000)
clamped (negsuc n) = negsuc (min n 9999)

-- the parts are those of the numeral, which has at most 64 digits
pub record KeepsNumeral (w : Written) (n : Numeral) : Type 0 where
  pub negative : w.negative ≡ n.negative
  pub whole : w.whole.now ≡ n.whole
  pub fraction : w.fraction.now ≡ n.fraction
  pub size : w.size ≡ saturated (digits_of n)
  pub exponent : w.exponent ≡ clamped n.exponent
  pub all_digits : AllDigits 10 (n.whole ++ n.fraction)
  pub few_digits : length (n.whole ++ n.fraction) ≤ 64

-- the parts are those of the word
pub record HoldsWord (word : List ℕ) (w : Written) : Type 0 where
  pub numeral : Numeral
  pub is_in : numeral_in word ≡ Some numeral
  pub keeps : KeepsNumeral w numeral

-- k is m shifted by this many places, as `IsShifted` without a sign
abbrev pub IsShiftedSize : ℕ → ℤ → ℕ → Type 0
IsShiftedSize m (pos up) k = k ≡ m * 10 ^ up
IsShiftedSize m (negsuc down) k = k * 10 ^ (down + 1) ≡ m

-- Some: m shifted by this many places, saturated. None: that is no whole number.
abbrev pub ShiftsTo : ℕ → ℤ → Option ℕ → Type 0
ShiftsTo m places None = (k : ℕ) → ¬ IsShiftedSize m places k
ShiftsTo m places (Some size) = (k : ℕ) × IsShiftedSize m places k × (size ≡ saturated k)

-- Some: m without this many zeros at its end, saturated. None: it has fewer zeros.
abbrev pub DropsZeros : ℕ → ℕ → Option ℕ → Type 0
DropsZeros m count None = (k : ℕ) → k * 10 ^ count ≢ m
DropsZeros m count (Some size) = (k : ℕ) × (k * 10 ^ count ≡ m) × (size ≡ saturated k)
