-- Small texts for src/examples.rt, and short names for what they parse to or for their first fault. In them `/` means
-- byte 10. No other contract uses them.
use Rattle.tsp_text.specs.Prelude.{ℕ, Bool, true, false, cond, not, List, [], map, replicate, None, Some, codes, pos, negsuc, Field, NumberFault}
use Rattle.std.specs.Prelude.{◌≡◌, ◌==◌, ◌∷◌, ◌++◌}
use Rattle.tsp_format.specs.Steps.{Branch, Leaf}
use Rattle.tsp_format.specs.Words.{field_word}
use Rattle.tsp_number.specs.Distances.{on_plane}
use Rattle.tsp_file.specs.declared.rules.EndFault.{EndFault}
use Rattle.tsp_file.specs.declared.rules.EndFault.TheVariants.{Missing}
use Rattle.tsp_text.specs.declared.fault.LineFault.{LineFault}
use Rattle.tsp_text.specs.declared.fault.LineFault.TheVariants.{Number}
use Rattle.tsp_text.specs.declared.fault.ReadFault.TheVariants as faults
use Rattle.tsp_text.specs.Items.{line_item}
use Rattle.tsp_text.specs.MemoryWords.{row_with}
use Rattle.tsp_text.specs.SectionWords.{Place}
use Rattle.tsp_text.specs.FaultRows.{is_surplus, is_surplus_at, repeats_keyword}
use Rattle.tsp_text.specs.ParsesTo.{spelled, part, fault}

-- byte 10 in place of `/`
abbrev pub newline : ℕ → ℕ
newline b = cond (b == 47) 10 b

-- the text that is meant
abbrev pub text : List ℕ → List ℕ
text bytes = map newline bytes

-- the first fault of the text is that of this line and word
abbrev pub FaultAt : List ℕ → ℕ → ℕ → LineFault → Type 0
FaultAt bytes line word found = fault (text bytes) ≡ Some (faults.Line line word found)

-- the same, if it is the fault of a number
abbrev pub IsNumberFault : List ℕ → ℕ → ℕ → NumberFault → Type 0
IsNumberFault bytes line word found = FaultAt bytes line word (Number found)

-- no line has a fault, and this one is found at the end
abbrev pub EndsWithFault : List ℕ → EndFault → Type 0
EndsWithFault bytes found = fault (text bytes) ≡ Some (faults.End found)

-- the first fault is at the end: this field is missing
abbrev pub MissingAtEnd : List ℕ → Field → Type 0
MissingAtEnd bytes field = EndsWithFault bytes (Missing field)

-- the text has this one line of an unknown keyword
abbrev pub OthersAre : List ℕ → List ℕ → List ℕ → Type 0
OthersAre bytes keyword value = (spelled (part (text bytes))).others ≡ (keyword, value) ∷ []

-- the text parses to a file with the tours (3) and (4, 5)
abbrev pub ToursAre : List ℕ → Type 0
ToursAre bytes = (fault (text bytes) ≡ None) × ((spelled (part (text bytes))).tours ≡ Some ((3 ∷ []) ∷ (4 ∷ 5 ∷ []) ∷ []))

-- it parses to a file with the depots 2 and 3
abbrev pub DepotsAre : List ℕ → Type 0
DepotsAre bytes = (fault (text bytes) ≡ None) × ((spelled (part (text bytes))).depots ≡ Some (2 ∷ 3 ∷ []))

-- it parses to a file with the fixed pairs (1, 2) and (3, 1)
abbrev pub PairsAre : List ℕ → Type 0
PairsAre bytes = (fault (text bytes) ≡ None) × ((spelled (part (text bytes))).fixed ≡ Some ((1, 2) ∷ (3, 1) ∷ []))

-- it parses to a file with the triples (1, 2, 5) and (3, 1, 0)
abbrev pub TriplesAre : List ℕ → Type 0
TriplesAre bytes = (fault (text bytes) ≡ None)
    × ((spelled (part (text bytes))).fixed_potentials ≡ Some ((1, 2, pos 5) ∷ (3, 1, pos 0) ∷ []))

-- it parses to a file with the comb of the handle (1, 2, 3) and the teeth (1, 4), (2, 5) and (3, 6)
abbrev pub FamilyIs : List ℕ → Type 0
FamilyIs bytes = (fault (text bytes) ≡ None) × ((spelled (part (text bytes))).families
    ≡ Some (((1 ∷ 2 ∷ 3 ∷ []) ∷ (1 ∷ 4 ∷ []) ∷ (2 ∷ 5 ∷ []) ∷ (3 ∷ 6 ∷ []) ∷ []) ∷ []))

-- it parses to a file with the lists (1, 2, 3) and (4)
abbrev pub MemoryIs : List ℕ → Type 0
MemoryIs bytes = (fault (text bytes) ≡ None) × ((spelled (part (text bytes))).memories ≡ Some ((1 ∷ 2 ∷ 3 ∷ []) ∷ (4 ∷ []) ∷ []))

-- it parses to a file with the row of the set (1, 2) and no further node, and that of (3) and the further nodes (4, 1)
abbrev pub RowsAre : List ℕ → Type 0
RowsAre bytes = (fault (text bytes) ≡ None) × ((spelled (part (text bytes))).subset_rows
    ≡ Some (row_with (1 ∷ 2 ∷ []) [] ∷ row_with (3 ∷ []) (4 ∷ 1 ∷ []) ∷ []))

-- it parses to a file with the tree of a branch on the pair (1, 2), a leaf that adds 1 to the number of node 2, and one
-- that adds nothing
abbrev pub TreeIs : List ℕ → Type 0
TreeIs bytes = (fault (text bytes) ≡ None)
    × ((spelled (part (text bytes))).branches ≡ Some (Branch 1 2 ∷ Leaf ((2, pos 1) ∷ []) ∷ Leaf [] ∷ []))

-- the demands of the nodes 1, 2 and 3 are 5, 7 and 9
abbrev pub DemandsAre : List ℕ → Type 0
DemandsAre bytes = (spelled (part (text bytes))).demands ≡ Some (pos 5 ∷ pos 7 ∷ pos 9 ∷ [])

-- the one node has the point (1.5, 0, -2) in space
abbrev pub HasSpacePoint : List ℕ → Type 0
HasSpacePoint bytes = (spelled (part (text bytes))).coords
    ≡ Some (record { x = pos 1500000000; y = pos 0; z = negsuc 1999999999 } ∷ [])

-- the one node has the point (1.5, -2) in the plane
abbrev pub HasPlanePoint : List ℕ → Type 0
HasPlanePoint bytes = (spelled (part (text bytes))).coords ≡ Some (on_plane (pos 1500000000) (negsuc 1999999999) ∷ [])

-- four nodes with weights in this layout
abbrev pub quad : List ℕ → List ℕ → List ℕ
quad format weights = codes "TYPE:TSP/DIMENSION:4/EDGE_WEIGHT_TYPE:EXPLICIT/EDGE_WEIGHT_FORMAT:" ++ format
    ++ codes "/EDGE_WEIGHT_SECTION/" ++ weights

-- a word line of 4096 bytes
abbrev pub longest_line : List ℕ
longest_line = codes "COMMENT" ++ replicate 4089 32

-- one of 4097 bytes
abbrev pub long_line : List ℕ
long_line = codes "COMMENT" ++ replicate 4090 32

-- one of 4097 bytes whose keyword is unknown, without a colon
abbrev pub long_unknown_line : List ℕ
long_unknown_line = codes "FOO" ++ replicate 4094 32

-- two lines of TYPE, the second of 4097 bytes
abbrev pub long_second_line : List ℕ
long_second_line = codes "TYPE : TSP/TYPE" ++ replicate 4093 32

-- a word of 65 digits
abbrev pub long_word : List ℕ
long_word = replicate 65 49

-- the line of an unknown keyword of three bytes, with this many bytes as its value
abbrev pub filled_line : ℕ → List ℕ
filled_line count = codes "FOO:" ++ replicate count 120

-- a line without a colon that is too long to be kept
abbrev pub filled_words : ℕ → List ℕ
filled_words count = codes "FOO " ++ replicate count 120

-- a second line with the keyword of this field repeats it
abbrev pub is_repeated_by : Field → Bool
is_repeated_by field = repeats_keyword (line_item (field_word field) ∷ []) (line_item (field_word field))

-- a second line with it doesn't
abbrev pub may_come_twice : Field → Bool
may_come_twice field = not (is_repeated_by field)

-- one line more is one too many after `past` lines with this text, and not after `last`
abbrev pub IsLimitOfLines : ℕ → ℕ → List ℕ → Type 0
IsLimitOfLines past last line = (is_surplus (replicate past (line_item line)) (line_item line) ≡ true)
    × (is_surplus (replicate last (line_item line)) (line_item line) ≡ false)

-- in a file of three nodes this word is one too many at the place `past`, and not at `last`
abbrev pub IsLimit : Place → Place → List ℕ → Type 0
IsLimit past last word = (is_surplus_at 3 past word ≡ true) × (is_surplus_at 3 last word ≡ false)
