-- Vocabulary for src/examples.rt: points with round coordinates, and short names for "this word is read as that
-- number". No other contract uses them.
use Rattle.std.specs.Prelude.{ℕ, ℤ, pos, negsuc, ◌*ℤ◌, ◌≡◌, List, Ok, Err}
use Rattle.tsp_number.specs.Distances.{on_plane}
use Rattle.tsp_number.specs.NumberWord.{decimal_of, whole_of, spelling}
use Rattle.tsp_number.specs.declared.decimal.Point.{Point}
use Rattle.tsp_number.specs.declared.number_word.NumberFault.{NumberFault}

-- the point with these coordinates in thousandths
abbrev pub thousandths : ℤ → ℤ → Point
thousandths x y = on_plane (x *ℤ pos 1000000) (y *ℤ pos 1000000)

-- its distance from the point (0, 0), by one of the definitions
abbrev pub FromZero : (Point → Point → ℕ → Type 0) → ℤ → ℤ → ℕ → Type 0
FromZero Is x y k = Is (thousandths (pos 0) (pos 0)) (thousandths x y) k

-- the point of space with these coordinates in thousandths
abbrev pub thousandths_in_space : ℤ → ℤ → ℤ → Point
thousandths_in_space x y z = record { x = x *ℤ pos 1000000; y = y *ℤ pos 1000000; z = z *ℤ pos 1000000 }

-- its distance from the point (0, 0, 0), by one of the definitions
abbrev pub FromZeroToSpace : (Point → Point → ℕ → Type 0) → ℤ → ℤ → ℤ → ℕ → Type 0
FromZeroToSpace Is x y z k = Is (thousandths_in_space (pos 0) (pos 0) (pos 0)) (thousandths_in_space x y z) k

-- the point whose three coordinates have this count
abbrev pub corner : ℤ → Point
corner count = record { x = count; y = count; z = count }

-- the distance of the two ends of space, whose coordinates are -10^9 and 10^9, by one of the definitions
abbrev pub FromLeastToLargest : (Point → Point → ℕ → Type 0) → ℕ → Type 0
FromLeastToLargest Is k = Is (corner (negsuc 999999999999999999)) (corner (pos 1000000000000000000)) k

-- ---- words and the numbers or faults that they are read as, and numbers and their texts

-- read as a decimal, the word has this count of 10^-9
abbrev pub IsDecimalCount : List ℕ → ℤ → Type 0
IsDecimalCount word count = decimal_of word ≡ Ok count

-- read as a decimal, the word has this fault
abbrev pub IsNoDecimal : List ℕ → NumberFault → Type 0
IsNoDecimal word found = decimal_of word ≡ Err found

-- read as a whole number from -2 to 12, the word is this number
abbrev pub WholeIs : List ℕ → ℤ → Type 0
WholeIs word n = whole_of word (negsuc 1) (pos 12) ≡ Ok n

-- read as a whole number from -2 to 12, the word has this fault
abbrev pub WholeIsRefused : List ℕ → NumberFault → Type 0
WholeIsRefused word found = whole_of word (negsuc 1) (pos 12) ≡ Err found

-- the count of 10^-9 has this text
abbrev pub IsSpelled : ℤ → List ℕ → Type 0
IsSpelled count word = spelling count ≡ word
