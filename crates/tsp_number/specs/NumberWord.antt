-- Circle 2 of docs/trust.md.
-- The grammar of number words: the number that a word means, or its fault, and the one way in which a decimal is
-- spelled. src/number_word.rt and src/spelling.rt promise it. Which files can be read, and the digits in canonical
-- texts, follow from here. Crates above import it, too.
use Rattle.std.specs.Char.{is_ascii_digit}
use Rattle.std.specs.Fmt.{decimal}
use Rattle.std.specs.Option.{option_map}
use Rattle.std.specs.Prelude.{◌≡◌, ◌≢◌, ℕ, ◌+◌, ◌^◌, ◌<◌, ◌≤◌, Bool, true, false, List, [], ◌∷◌, ◌++◌, length, ◌⊎◌, Result, Ok, Err, if◌then◌else◌, ℤ, pos, negsuc, ◌+ℤ◌, ◌-ℤ◌, ◌*ℤ◌, neg_ℤ, ◌≤ℤ◌, ◌<ℤ◌, unsigned_abs, zero, suc, ◌/◌, ◌%◌, ◌==◌, ◌&&◌, ◌||◌, nat_lt, Option, Some, None, codes, ◌*◌, nat_le, int_le}
use Rattle.std.specs.Str.Parse.{AllDigits, digits_value}
use Rattle.tsp_number.specs.Decimal.{unit, most_count}
use Rattle.tsp_number.specs.declared.number_word.NumberFault.{NumberFault}
use Rattle.tsp_number.specs.declared.number_word.NumberFault.TheVariants.{LongWord, BadNumber, TooFine, OutOfRange, NotWhole}

-- ---- the bytes of `+`, `-`, `.`, `e` and `E`

abbrev pub plus : ℕ
plus = 43

abbrev pub minus : ℕ
minus = 45

abbrev pub point : ℕ
point = 46

abbrev pub lower_e : ℕ
lower_e = 101

abbrev pub upper_e : ℕ
upper_e = 69

-- a sign: nothing, `+` or `-`
abbrev pub IsSign : List ℕ → Bool → Type 0
IsSign sign negative = ((sign ≡ []) × (negative ≡ false)) ⊎ ((sign ≡ plus ∷ []) × (negative ≡ false))
    ⊎ ((sign ≡ minus ∷ []) × (negative ≡ true))

-- the number with this sign and absolute value
abbrev pub with_sign : Bool → ℕ → ℤ
with_sign negative size = if negative then neg_ℤ (pos size) else pos size

-- the part after the whole digits: a point and digits, or nothing
abbrev pub IsFraction : List ℕ → List ℕ → Type 0
IsFraction text digits = (text ≡ point ∷ digits) ⊎ ((text ≡ []) × (digits ≡ []))

-- an exponent: `e` or `E`, a sign and at least one digit
pub record WritesExponent (text : List ℕ) (exponent : ℤ) : Type 0 where
  pub mark : ℕ
  pub sign : List ℕ
  pub negative : Bool
  pub digits : List ℕ
  pub text_is : text ≡ mark ∷ (sign ++ digits)
  pub is_mark : (mark ≡ lower_e) ⊎ (mark ≡ upper_e)
  pub is_sign : IsSign sign negative
  pub all_digits : AllDigits 10 digits
  pub some_digit : 0 < length digits
  pub exponent_is : exponent ≡ with_sign negative (digits_value 10 digits)

-- the part after the mantissa: an exponent, or nothing, which is the exponent 0
abbrev pub IsExponent : List ℕ → ℤ → Type 0
IsExponent text exponent = ((text ≡ []) × (exponent ≡ pos 0)) ⊎ WritesExponent text exponent

-- the parts of a number word: its sign, the digits before and after the point, and the exponent
pub record Numeral : Type 0 where
  pub negative : Bool
  pub whole : List ℕ
  pub fraction : List ℕ
  pub exponent : ℤ

-- the word consists of these parts, with at least one digit before its exponent
pub record SpellsNumeral (word : List ℕ) (n : Numeral) : Type 0 where
  pub sign : List ℕ
  pub fraction_text : List ℕ
  pub exponent_text : List ℕ
  pub text_is : word ≡ sign ++ (n.whole ++ (fraction_text ++ exponent_text))
  pub is_sign : IsSign sign n.negative
  pub whole_digits : AllDigits 10 n.whole
  pub is_fraction : IsFraction fraction_text n.fraction
  pub fraction_digits : AllDigits 10 n.fraction
  pub some_digit : 0 < length n.whole + length n.fraction
  pub is_exponent : IsExponent exponent_text n.exponent

abbrev pub IsNumberWord : List ℕ → Type 0
IsNumberWord word = (n : Numeral) × SpellsNumeral word n

-- all digits of the mantissa as one whole number
abbrev pub digits_of : Numeral → ℕ
digits_of n = digits_value 10 (n.whole ++ n.fraction)

-- the same with its sign
abbrev pub mantissa : Numeral → ℤ
mantissa n = with_sign n.negative (digits_of n)

-- by how many places the mantissa is shifted to the left to be a count of 10^-scale
abbrev pub shift_of : ℕ → Numeral → ℤ
shift_of scale n = pos scale +ℤ n.exponent -ℤ pos (length n.fraction)

-- k is m shifted to the left: m * 10^places; or to the right, without a remainder
abbrev pub IsShifted : ℤ → ℤ → ℤ → Type 0
IsShifted m (pos up) k = k ≡ m *ℤ pos (10 ^ up)
IsShifted m (negsuc down) k = k *ℤ pos (10 ^ (down + 1)) ≡ m

-- the word means k counts of 10^-9
pub record StandsFor (word : List ℕ) (k : ℤ) : Type 0 where
  pub numeral : Numeral
  pub spelled : SpellsNumeral word numeral
  pub shifted : IsShifted (mantissa numeral) (shift_of 9 numeral) k

-- at most 64 bytes, which is the limit of a number word
abbrev pub IsShort : List ℕ → Type 0
IsShort word = length word ≤ 64

-- The word read as a decimal: its count of 10^-9, or the first fault that it has.
abbrev pub ReadsDecimal : List ℕ → Result ℤ NumberFault → Type 0
ReadsDecimal word (Ok k) = IsShort word × StandsFor word k × (unsigned_abs k ≤ most_count)
ReadsDecimal word (Err LongWord) = ¬ IsShort word
ReadsDecimal word (Err BadNumber) = IsShort word × ¬ IsNumberWord word
ReadsDecimal word (Err TooFine) = IsShort word × IsNumberWord word × ((k : ℤ) → ¬ StandsFor word k)
ReadsDecimal word (Err NotWhole) = ⊥
ReadsDecimal word (Err OutOfRange) = IsShort word × ((k : ℤ) × StandsFor word k × (most_count < unsigned_abs k))

-- The word read as a whole number from `low` to `high`: the number, or the first fault that it has.
abbrev pub ReadsWhole : List ℕ → ℤ → ℤ → Result ℤ NumberFault → Type 0
ReadsWhole word low high (Ok n) = IsShort word × StandsFor word (n *ℤ pos unit) × (low ≤ℤ n) × (n ≤ℤ high)
ReadsWhole word low high (Err LongWord) = ¬ IsShort word
ReadsWhole word low high (Err BadNumber) = IsShort word × ¬ IsNumberWord word
ReadsWhole word low high (Err TooFine) = IsShort word × IsNumberWord word × ((k : ℤ) → ¬ StandsFor word k)
ReadsWhole word low high (Err NotWhole) = IsShort word × ((k : ℤ) × StandsFor word k × ((n : ℤ) → k ≢ n *ℤ pos unit))
ReadsWhole word low high (Err OutOfRange) = IsShort word × ((n : ℤ) × StandsFor word (n *ℤ pos unit) × ((n <ℤ low) ⊎ (high <ℤ n)))

-- ---- the text of a decimal, without zeros that aren't needed

-- the digits after the point of the number rest / 10^places, without zeros at their end
unfoldable pub decimals : ℕ → ℕ → List ℕ
decimals zero rest = []
decimals (suc places) rest = if rest == 0 then [] else (48 + rest / 10 ^ places) ∷ decimals places (rest % 10 ^ places)

-- a point and such digits, or nothing for a whole number
abbrev pub fraction_spelling : ℕ → List ℕ
fraction_spelling rest = if rest == 0 then [] else point ∷ decimals 9 rest

-- the text of a count of 10^-9 without a sign
abbrev pub size_spelling : ℕ → List ℕ
size_spelling size = decimal (size / unit) ++ fraction_spelling (size % unit)

-- the text of k counts of 10^-9
abbrev pub spelling : ℤ → List ℕ
spelling (pos size) = size_spelling size
spelling (negsuc n) = minus ∷ size_spelling (suc n)

-- the three digits of a number below 1000
abbrev pub three_digits : ℕ → List ℕ
three_digits group = (48 + group / 100) ∷ (48 + group / 10 % 10) ∷ (48 + group % 10) ∷ []

-- ---- the parts of a number word, found from the left

-- the bytes begin with `-`
abbrev pub has_minus : List ℕ → Bool
has_minus [] = false
has_minus (c ∷ cs) = c == minus

-- the bytes after a sign, if they begin with one
abbrev pub after_sign : List ℕ → List ℕ
after_sign [] = []
after_sign (c ∷ cs) = if (c == plus || c == minus) then cs else c ∷ cs

-- the bytes after a point, if they begin with one
abbrev pub after_point : List ℕ → List ℕ
after_point [] = []
after_point (c ∷ cs) = if c == point then cs else c ∷ cs

-- the digits that the bytes begin with
abbrev pub front_digits : List ℕ → List ℕ
front_digits [] = []
front_digits (c ∷ cs) = if is_ascii_digit c then c ∷ front_digits cs else []

-- the bytes after those digits
abbrev pub after_digits : List ℕ → List ℕ
after_digits [] = []
after_digits (c ∷ cs) = if is_ascii_digit c then after_digits cs else c ∷ cs

-- the bytes are digits, at least one
abbrev pub are_digits : List ℕ → Bool
are_digits bytes = nat_lt 0 (length (front_digits bytes)) && (length (after_digits bytes) == 0)

-- the exponent that the bytes write: 0 for no bytes; None if they aren't an exponent
abbrev pub exponent_in : List ℕ → Option ℤ
exponent_in [] = Some (pos 0)
exponent_in (c ∷ cs) =
    if ((c == lower_e || c == upper_e) && are_digits (after_sign cs))
    then Some (with_sign (has_minus cs) (digits_value 10 (front_digits (after_sign cs))))
    else None

-- the digits before the point
abbrev pub whole_in : List ℕ → List ℕ
whole_in word = front_digits (after_sign word)

-- the bytes after them, without the point
abbrev pub past_point : List ℕ → List ℕ
past_point word = after_point (after_digits (after_sign word))

-- the digits after the point
abbrev pub fraction_in : List ℕ → List ℕ
fraction_in word = front_digits (past_point word)

-- the bytes after those, which are the exponent
abbrev pub past_mantissa : List ℕ → List ℕ
past_mantissa word = after_digits (past_point word)

-- the parts of the word with this exponent
abbrev pub numeral_with : List ℕ → ℤ → Numeral
numeral_with word exponent = record {
  negative = has_minus word;
  whole = whole_in word;
  fraction = fraction_in word;
  exponent = exponent;
}

-- the parts of the word, if it is a number word
abbrev pub numeral_in : List ℕ → Option Numeral
numeral_in word =
    if nat_lt 0 (length (whole_in word) + length (fraction_in word))
    then option_map (numeral_with word) (exponent_in (past_mantissa word))
    else None

-- ---- the text of each fault of a number word, which is its name

abbrev pub number_fault_text : NumberFault → List ℕ
number_fault_text LongWord = codes "LongWord"
number_fault_text BadNumber = codes "BadNumber"
number_fault_text TooFine = codes "TooFine"
number_fault_text OutOfRange = codes "OutOfRange"
number_fault_text NotWhole = codes "NotWhole"

-- ---- the number that a word is read as, or its fault, as functions of the word

-- m shifted by this many places, if that is a whole number
abbrev pub shifted_size : ℕ → ℤ → Option ℕ
shifted_size m (pos up) = Some (m * 10 ^ up)
shifted_size m (negsuc down) = if m % 10 ^ (down + 1) == 0 then Some (m / 10 ^ (down + 1)) else None

-- the numeral as a count of 10^-scale, if that is a whole number
abbrev pub number_in : ℕ → Numeral → Option ℤ
number_in scale n = option_map (with_sign n.negative) (shifted_size (digits_of n) (shift_of scale n))

-- a count of 10^-9, or its fault
abbrev pub decimal_within : Option ℤ → Result ℤ NumberFault
decimal_within None = Err TooFine
decimal_within (Some k) = if nat_le (unsigned_abs k) most_count then Ok k else Err OutOfRange

-- a numeral as a decimal, or its fault
abbrev pub decimal_from : Option Numeral → Result ℤ NumberFault
decimal_from None = Err BadNumber
decimal_from (Some n) = decimal_within (number_in 9 n)

-- the word read as a decimal; `ReadsDecimal` holds for it
unfoldable pub decimal_of : List ℕ → Result ℤ NumberFault
decimal_of word = if nat_le (length word) 64 then decimal_from (numeral_in word) else Err LongWord

-- a whole number from `low` to `high`, or its fault; the first number is the count of 10^-9
abbrev pub whole_within : ℤ → ℤ → Option ℤ → Option ℤ → Result ℤ NumberFault
whole_within low high None whole = Err TooFine
whole_within low high (Some k) None = Err NotWhole
whole_within low high (Some k) (Some n) = if (int_le low n && int_le n high) then Ok n else Err OutOfRange

-- a numeral as such a number, or its fault
abbrev pub whole_from : ℤ → ℤ → Option Numeral → Result ℤ NumberFault
whole_from low high None = Err BadNumber
whole_from low high (Some n) = whole_within low high (number_in 9 n) (number_in 0 n)

-- the word read as a whole number from `low` to `high`; `ReadsWhole` holds for it
unfoldable pub whole_of : List ℕ → ℤ → ℤ → Result ℤ NumberFault
whole_of word low high = if nat_le (length word) 64 then whole_from low high (numeral_in word) else Err LongWord
