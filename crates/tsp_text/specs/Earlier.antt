-- Circle 2 of docs/trust.md.
-- What the items before a place in a text say: the values of its keyword lines, the section that is open, and its words
-- so far. FaultRows.antt makes the fault at a place depend on nothing else, and tsp_read keeps just this while it
-- reads.
use Rattle.tsp_text.specs.Prelude.{find, list_any, ℕ, Bool, true, false, cond, List, [], Option, None, Some, is_some, is_none, ℤ, codes, Result, nat_abs, unwrap_or, whole_of, NumberFault, is_unknown, is_section_field, value_shape_of, shape_of, Field, TypeKey, DimensionKey, EdgeWeightTypeKey, EdgeWeightFormatKey, NodeCoordTypeKey, DisplayDataTypeKey}
use Rattle.std.specs.Option.{option_map, option_map_or, option_and_then}
use Rattle.std.specs.Prelude.{◌∷◌, ◌++◌}
use Rattle.std.specs.Result.{result_ok}
use Rattle.std.specs.Str.{bytes_eq}
use Rattle.tsp_format.specs.Words.{field_word, weighs_three, has_three, is_spatial, kind_word, weight_kind_word, weight_format_word, coord_kind_word, display_kind_word, kinds, weight_kinds, weight_formats, coord_kinds, display_kinds}
use Rattle.tsp_format.specs.declared.keyword.Keyword.{Keyword}
use Rattle.tsp_format.specs.declared.keyword.Keyword.TheVariants.{Known, EdgeDataFormat, EdgeDataSection, Eof, Unknown}
use Rattle.tsp_format.specs.declared.keyword.Shape.{Shape}
use Rattle.tsp_format.specs.declared.keyword.Shape.TheVariants.{Numbers, Points, SpacePoints, Depots, Pairs, Weights, Tours, Triples, Families, Memories, SubsetRows, Steps}
use Rattle.tsp_format.specs.declared.keyword.ValueShape.{ValueShape}
use Rattle.tsp_format.specs.declared.keyword.ValueShape.TheVariants.{Kept, KeptEach, Number, Word}
use Rattle.tsp_format.specs.declared.kinds.CoordKind.{CoordKind}
use Rattle.tsp_format.specs.declared.kinds.DisplayKind.{DisplayKind}
use Rattle.tsp_format.specs.declared.kinds.Kind.{Kind}
use Rattle.tsp_format.specs.declared.kinds.WeightFormat.{WeightFormat}
use Rattle.tsp_format.specs.declared.kinds.WeightKind.{WeightKind}
use Rattle.tsp_text.specs.Groups.{place_of_number, place_of_point, place_of_space_point, place_of_depot, place_of_fixed, place_of_triple, place_of_family}
use Rattle.tsp_text.specs.MemoryWords.{place_of_memory, place_of_row}
use Rattle.tsp_text.specs.Items.{Item, Line, NumberWord, LineEnd, first_word}
use Rattle.tsp_text.specs.SectionWords.{Place, PastEnd, place_of_weight, place_of_tour, place_of_step}

-- ---- which keyword a line has

-- whether two fields are the same one, by their words
abbrev pub same_field : Field → Field → Bool
same_field f g = bytes_eq (field_word f) (field_word g)

-- the keyword is that of this field
abbrev pub is_key : Field → Keyword → Bool
is_key f (Known g) = same_field f g
is_key f EdgeDataFormat = false
is_key f EdgeDataSection = false
is_key f Eof = false
is_key f Unknown = false

-- the section that a line opens
abbrev pub opened_by : Keyword → Option Field
opened_by (Known f) = cond (is_section_field f) (Some f) None
opened_by EdgeDataFormat = None
opened_by EdgeDataSection = None
opened_by Eof = None
opened_by Unknown = None

-- ---- keyword lines

-- some line has the keyword of this field
abbrev pub has_line : Field → List Item → Bool
has_line f [] = false
has_line f (Line key line ∷ earlier) = cond (is_key f key) true (has_line f earlier)
has_line f (NumberWord word ∷ earlier) = has_line f earlier
has_line f (LineEnd ∷ earlier) = has_line f earlier

-- the value of the line with the keyword of this field
abbrev pub value_at : Field → List Item → Option (List ℕ)
value_at f [] = None
value_at f (Line key line ∷ earlier) = cond (is_key f key) (Some line.value) (value_at f earlier)
value_at f (NumberWord word ∷ earlier) = value_at f earlier
value_at f (LineEnd ∷ earlier) = value_at f earlier

-- the values of all lines with the keyword of this field, in the order of the file
abbrev pub values_at : Field → List Item → List (List ℕ)
values_at f [] = []
values_at f (Line key line ∷ earlier) = cond (is_key f key) (values_at f earlier ++ line.value ∷ []) (values_at f earlier)
values_at f (NumberWord word ∷ earlier) = values_at f earlier
values_at f (LineEnd ∷ earlier) = values_at f earlier

-- the keyword and the value of each line whose keyword is unknown, in the order of the file
abbrev pub others_in : List Item → List (List ℕ × List ℕ)
others_in [] = []
others_in (Line key line ∷ earlier) =
    cond (is_unknown key) (others_in earlier ++ (line.keyword, line.value) ∷ []) (others_in earlier)
others_in (NumberWord word ∷ earlier) = others_in earlier
others_in (LineEnd ∷ earlier) = others_in earlier

-- ---- sections

-- the open section: that of the last word line, if this opens one
abbrev pub open_section : List Item → Option Field
open_section [] = None
open_section (Line key line ∷ earlier) = opened_by key
open_section (NumberWord word ∷ earlier) = open_section earlier
open_section (LineEnd ∷ earlier) = open_section earlier

-- whether this section is open
abbrev pub is_open : Field → Option Field → Bool
is_open f None = false
is_open f (Some g) = same_field f g

-- the words of a section: all words of number lines where it is open, in the order of the file
abbrev pub words_of : Field → List Item → List (List ℕ)
words_of f [] = []
words_of f (Line key line ∷ earlier) = words_of f earlier
words_of f (NumberWord word ∷ earlier) =
    cond (is_open f (open_section earlier)) (words_of f earlier ++ word ∷ []) (words_of f earlier)
words_of f (LineEnd ∷ earlier) = words_of f earlier

-- ---- how the value of a keyword is read: as a word from a list, as a number, or as it is

-- ---- keywords with a list of accepted words

-- the value in a list that has this word
abbrev pub named : {V : Type 0} → (V → List ℕ) → List V → List ℕ → Option V
named text values word = find (λ value. bytes_eq word (text value)) values

-- TYPE
abbrev pub kind_named : List ℕ → Option Kind
kind_named word = named kind_word kinds word

-- EDGE_WEIGHT_TYPE
abbrev pub weight_kind_named : List ℕ → Option WeightKind
weight_kind_named word = named weight_kind_word weight_kinds word

-- EDGE_WEIGHT_FORMAT
abbrev pub weight_format_named : List ℕ → Option WeightFormat
weight_format_named word = named weight_format_word weight_formats word

-- NODE_COORD_TYPE
abbrev pub coord_kind_named : List ℕ → Option CoordKind
coord_kind_named word = named coord_kind_word coord_kinds word

-- DISPLAY_DATA_TYPE
abbrev pub display_kind_named : List ℕ → Option DisplayKind
display_kind_named word = named display_kind_word display_kinds word

-- the keyword has a list of accepted words, and this isn't one of them
abbrev pub is_unknown_word : Field → List ℕ → Bool
is_unknown_word TypeKey word = is_none (kind_named word)
is_unknown_word EdgeWeightTypeKey word = is_none (weight_kind_named word)
is_unknown_word EdgeWeightFormatKey word = is_none (weight_format_named word)
is_unknown_word NodeCoordTypeKey word = is_none (coord_kind_named word)
is_unknown_word DisplayDataTypeKey word = is_none (display_kind_named word)
is_unknown_word field word = false

-- words of TSPLIB 95 that the keyword doesn't take here
abbrev pub left_out : Field → List (List ℕ)
left_out TypeKey = codes "SOP" ∷ codes "HCP" ∷ []
left_out EdgeWeightTypeKey = codes "GEO" ∷ codes "XRAY1" ∷ codes "XRAY2" ∷ codes "SPECIAL" ∷ []
left_out field = []

abbrev pub is_left_out : Field → List ℕ → Bool
is_left_out field word = list_any (bytes_eq word) (left_out field)

-- ---- keywords with a number

-- the range of a keyword with a number
abbrev pub range_in : ValueShape → Option (ℤ × ℤ)
range_in Kept = None
range_in KeptEach = None
range_in (Number low high) = Some (low, high)
range_in Word = None

-- the same by the keyword
abbrev pub range_of : Field → Option (ℤ × ℤ)
range_of field = option_and_then range_in (value_shape_of field)

abbrev pub has_number : Field → Bool
has_number field = is_some (range_of field)

-- the number, or its fault, that the first word of the value is read as
abbrev pub read_as : Field → List ℕ → Option (Result ℤ NumberFault)
read_as field value = option_map (λ range. whole_of (first_word value) range.0 range.1) (range_of field)

-- ---- keywords whose value is kept as it is

-- the value is kept as it is
abbrev pub is_kept_value : ValueShape → Bool
is_kept_value Kept = true
is_kept_value KeptEach = true
is_kept_value (Number low high) = false
is_kept_value Word = false

-- the same by the keyword
abbrev pub is_kept_as_is : Field → Bool
is_kept_as_is field = option_map_or is_kept_value (value_shape_of field) false

-- ---- the values among earlier items

-- the number of the line with this keyword
abbrev pub number_at : Field → List Item → Option ℤ
number_at field earlier = option_and_then (λ value. option_and_then result_ok (read_as field value)) (value_at field earlier)

-- the value of the line with this keyword, by the first word
abbrev pub named_at : {V : Type 0} → (List ℕ → Option V) → Field → List Item → Option V
named_at by_word field earlier = option_and_then (λ value. by_word (first_word value)) (value_at field earlier)

-- ---- points with three coordinates

-- this value of the keyword, by its first word, makes a file spatial
abbrev pub says_space : Field → List ℕ → Bool
says_space EdgeWeightTypeKey word = option_map_or weighs_three (weight_kind_named word) false
says_space NodeCoordTypeKey word = option_map_or has_three (coord_kind_named word) false
says_space field word = false

-- a file of these items is spatial
abbrev pub spatial_after : List Item → Bool
spatial_after earlier = is_spatial (named_at coord_kind_named NodeCoordTypeKey earlier)
    (named_at weight_kind_named EdgeWeightTypeKey earlier)

-- ---- the number of nodes

-- the value of DIMENSION, if a line has it
abbrev pub dimension_of : List Item → Option ℕ
dimension_of earlier = option_map nat_abs (number_at DimensionKey earlier)

-- ---- the place of the next word in each section, by the words before it

-- the place of the next word of a section of this shape after these words of it, with n nodes
abbrev pub place_by : Shape → ℕ → List (List ℕ) → Place
place_by (Numbers low high) n words = place_of_number low high n words
place_by Points n words = place_of_point n words
place_by SpacePoints n words = place_of_space_point n words
place_by Depots n words = place_of_depot n words
place_by Pairs n words = place_of_fixed n words
place_by Weights n words = place_of_weight n words
place_by Tours n words = place_of_tour words
place_by Triples n words = place_of_triple n words
place_by Families n words = place_of_family n words
place_by Memories n words = place_of_memory n words
place_by SubsetRows n words = place_of_row n words
place_by Steps n words = place_of_step n words

-- the same for a section, in a spatial file or in another; no other field has words
abbrev pub place_in : Bool → Field → ℕ → List (List ℕ) → Place
place_in in_space field n words = option_map_or (λ shape. place_by shape n words) (shape_of in_space field) PastEnd

-- n, the value of DIMENSION; 0 if there is none (a section other than the tours is then a fault)
abbrev pub dimension_in : List Item → ℕ
dimension_in earlier = unwrap_or (dimension_of earlier) 0

-- the place of a word after these items, if a section is open
abbrev pub next_place : List Item → Option Place
next_place earlier = option_map (λ field. place_in (spatial_after earlier) field (dimension_in earlier) (words_of field earlier))
    (open_section earlier)
