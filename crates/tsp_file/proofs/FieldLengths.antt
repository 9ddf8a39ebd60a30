-- How long the text of each field can be, for the law that a valid text is short enough to be read again. tsp_read
-- imports it, too.
use Rattle.tsp_file.proofs.Prelude.{◌≡◌, Bool, true, false, cond, List, [], ◌∷◌, Option, None, Some, refl, sym, subst, ℕ, ◌+◌, ◌≤◌, ◌++◌, length, arith, length-append, ◌*◌, ◌<◌, ℤ, pos, and_parts, leb-true, eqb-true, false≢true, sum_by-le-sum_by, decimal, signed_decimal, find, list_all, flat_map, sum_by, option_map, option_or, option_map_or, ◌&&◌, not, slice_index, ◌-◌, ◌==◌, nat_le, codes, neg_ℤ, unsigned_abs, spelling, Point, most_kept_bytes, shape_of, most_nodes, most_matrix_nodes, most_coordinate, most_weight, most_demand, most_capacity, most_scale, most_load_unit, most_potential, most_comments, most_others, most_depots, most_fixed, most_triples, most_multiplier, most_tour_nodes, field_word, fields_in_order, field_found, is_blank, IsFirstWithWord, kind_word, weight_kind_word, weight_format_word, coord_kind_word, display_kind_word, kinds, weight_kinds, weight_formats, coord_kinds, display_kinds, kind_found, weight_kind_found, weight_format_found, coord_kind_found, display_kind_found, Field, NameKey, TypeKey, CommentKey, OtherKey, DimensionKey, CapacityKey, ScaleKey, LoadUnitKey, EdgeWeightTypeKey, EdgeWeightFormatKey, NodeCoordTypeKey, DisplayDataTypeKey, NodeCoordPart, DisplayDataPart, DemandPart, DepotPart, FixedEdgesPart, EdgeWeightPart, TourPart, NodePotentialPart, RowPotentialPart, ColumnPotentialPart, FixedEdgePotentialPart, FamilyPart, MemoryPart, SubsetRowPart, BranchPart, WeightFormat}
use Rattle.std.proofs.Math.Nat.{mul-le-mul}
use Rattle.std.proofs.lemmas.List.Concat.{length-flat_map}
use Rattle.std.proofs.lemmas.Option.{none-some, same_Some}
use Rattle.std.specs.Ordering.{int_eq}
use Rattle.std.specs.Str.{bytes_eq}
use Rattle.tsp_number.proofs.Spelled.{spelling_short}
use Rattle.tsp_format.specs.declared.keyword.Shape.{Shape}
use Rattle.tsp_format.specs.declared.keyword.Shape.TheVariants.{Numbers, Points, SpacePoints, Depots, Pairs, Weights, Tours, Triples, Families, Memories, SubsetRows, Steps}
use Rattle.tsp_format.specs.declared.kinds.CoordKind.{CoordKind}
use Rattle.tsp_format.specs.declared.kinds.DisplayKind.{DisplayKind}
use Rattle.tsp_format.specs.declared.kinds.Kind.{Kind}
use Rattle.tsp_format.specs.declared.kinds.WeightKind.{WeightKind}
use Rattle.tsp_file.proofs.TextLengths.{within_abs, three_parts, positive_short, between_short, decimal_short, node_short, flat_short_of, by_node_short, pair_list_short, triple_list_short, node_list_short, tours_short, matrix_lines_short}
use Rattle.tsp_file.proofs.WrittenLines.{families_short, memories_short, rows_short, steps_short}
use Rattle.tsp_file.specs.CanonicalText.{line_end, blank_before, value_line, keyword_line, other_line, number_line, section_text, lines_by_node, node_list, pair_list, triple_list, family_lines, family_list, row_list, case_tree_lines, coordinate_words, whole_number, line_lens, matrix_lines, optional, text_of_section, text_of_field, text_of}
use Rattle.tsp_file.specs.Fields.{Fields, spatial, numbers_in, points_in}
use Rattle.tsp_file.specs.Rules.{standing_of, end_fault, fault_of}
use Rattle.tsp_file.specs.Validity.{fits, first_failing, bad_field, is_kept, is_unknown_keyword, is_other, if_there, with_dimension, is_node, is_pair_of, is_triple_of, is_from_to, is_within, is_point, is_by_node, are_comments, are_others, are_depots, are_fixed, are_triples, fit_matrix, is_node_list, are_tours, are_family_lists, are_memory_lists, are_subset_rows, are_tree_steps, section_fits}
use Rattle.tsp_file.specs.declared.rules.DraftFault.{DraftFault}
use Rattle.tsp_file.specs.declared.rules.DraftFault.TheVariants.{BadField, Rule}

-- one element more
found_more : {V : Type 0} (test : V → Bool) (is_it others_pass : Bool) (value first : V) (found : Option V)
    → (test first && others_pass) ≡ true → cond is_it (Some first) found ≡ Some value
    → (others_pass ≡ true → found ≡ Some value → test value ≡ true) → test value ≡ true
found_more test true others_pass value first found all is_found others =
    subst (λ other. test other ≡ true) (same_Some first value is_found) (and_parts (test first) others_pass all).0
found_more test false others_pass value first found all is_found others =
    others (and_parts (test first) others_pass all).1 is_found

-- if all elements pass the test, the one that a search finds passes it
pub found_passes : {V : Type 0} (test is_it : V → Bool) (value : V) (values : List V) → list_all test values ≡ true
    → find is_it values ≡ Some value → test value ≡ true
found_passes test is_it value [] all is_found = absurd (none-some value is_found)
found_passes test is_it value (first ∷ values) all is_found =
    found_more test (is_it first) (list_all test values) value first (find is_it values) all is_found
    (found_passes test is_it value values)

-- if there is no first fault, no field is bad
no_first : (bad : Option Field) (other : Option DraftFault) → option_or (option_map (λ field. BadField field) bad) other ≡ None
    → bad ≡ None
no_first None other none = refl
no_first (Some field) other none = absurd (none-some (BadField field) (sym none))

none_more : (passes others_pass : Bool) (first : Field) (failing : Option Field) → cond (not passes) (Some first) failing ≡ None
    → (failing ≡ None → others_pass ≡ true)
    → (passes && others_pass) ≡ true
none_more true others_pass first failing none others = others none
none_more false others_pass first failing none others = absurd (none-some first (sym none))

-- if no field fails the test, all pass it
none_failing : (test : Field → Bool) (fields : List Field) → first_failing test fields ≡ None → list_all test fields ≡ true
none_failing test [] none = refl
none_failing test (first ∷ fields) none =
    none_more (test first) (list_all test fields) first (first_failing test fields) none (none_failing test fields)

pub all_fit : (f : Fields) → fault_of f ≡ None → (field : Field) → fits f field ≡ true
all_fit f none field =
    let no_bad = no_first (bad_field f) (option_map (λ fault. Rule fault) (end_fault (standing_of f) None)) none in
    found_passes (fits f) (λ other. bytes_eq (field_word field) (field_word other)) field fields_in_order
    (none_failing (fits f) fields_in_order no_bad) (field_found field)

-- ---- the length of a line with a keyword and its value is limited

-- ---- words

-- a word is as short as all of the list are
word_short : {V : Type 0} (word : V → List ℕ) (most : ℕ) (values : List V) (value : V)
    → list_all (λ v. nat_le (length (word v)) most) values ≡ true → IsFirstWithWord word values value
    → length (word value) ≤ most
word_short word most values value all found =
    leb-true (length (word value)) most
    (found_passes (λ v. nat_le (length (word v)) most) (λ other. bytes_eq (word value) (word other)) value values all found)

pub keyword_short : (field : Field) → length (field_word field) ≤ 28
keyword_short field = word_short field_word 28 fields_in_order field refl (field_found field)

pub kind_short : (kind : Kind) → length (kind_word kind) ≤ 20
kind_short kind = word_short kind_word 20 kinds kind refl (kind_found kind)

pub weight_kind_short : (kind : WeightKind) → length (weight_kind_word kind) ≤ 20
weight_kind_short kind = word_short weight_kind_word 20 weight_kinds kind refl (weight_kind_found kind)

pub weight_format_short : (format : WeightFormat) → length (weight_format_word format) ≤ 20
weight_format_short format = word_short weight_format_word 20 weight_formats format refl (weight_format_found format)

pub coord_kind_short : (kind : CoordKind) → length (coord_kind_word kind) ≤ 20
coord_kind_short kind = word_short coord_kind_word 20 coord_kinds kind refl (coord_kind_found kind)

pub display_kind_short : (kind : DisplayKind) → length (display_kind_word kind) ≤ 20
display_kind_short kind = word_short display_kind_word 20 display_kinds kind refl (display_kind_found kind)

-- ---- lines of a keyword and a value

pub blank_short : (value : List ℕ) → length (blank_before value) ≤ length value + 1
blank_short [] = omega arith
blank_short (first ∷ rest) = omega arith

value_line_short : (keyword value : List ℕ) → length (value_line keyword value) ≤ length keyword + length value + 4
value_line_short keyword value =
    let ending = length-append (blank_before value) line_end in
    omega (arith, length-append keyword (codes " :" ++ (blank_before value ++ line_end)), ending, blank_short value)

-- the first of four tests that all pass
first_of_four : (a b c d : Bool) → (a && b && c && d) ≡ true → a ≡ true
first_of_four true b c d e = refl
first_of_four false b c d e = e

pub kept_short : (keyword value : List ℕ) → is_kept keyword value ≡ true → length (value_line keyword value) ≤ 4004
kept_short keyword value kept =
    let few = first_of_four (nat_le (length keyword + length value) most_kept_bytes) (list_all (λ b. not (b == 10)) value)
    (not (is_blank (slice_index value 0))) (not (is_blank (slice_index value (length value - 1)))) kept in
    omega (arith, value_line_short keyword value, leb-true (length keyword + length value) most_kept_bytes few)

pub other_short : (line : List ℕ × List ℕ) → is_other line ≡ true → length (other_line line) ≤ 4004
other_short line fits = kept_short line.0 line.1 (and_parts (is_unknown_keyword line.0) (is_kept line.0 line.1) fits).1

-- the line of a value with at most 20 bytes
pub keyword_line_short : (field : Field) (value : List ℕ) → length value ≤ 20 → length (keyword_line field value) ≤ 60
keyword_line_short field value short = omega (arith, value_line_short (field_word field) value, keyword_short field, short)

-- ---- the length of each field's text in a valid file is limited

-- ---- fields that may be missing

optional_short : {A : Type 0} (fits : A → Bool) (text : A → List ℕ) (k : ℕ) → ((x : A) → fits x ≡ true → length (text x) ≤ k)
    → (value : Option A) → if_there fits value ≡ true
    → length (optional text value) ≤ k
optional_short fits text k each None there = omega arith
optional_short fits text k each (Some x) there = each x there

-- the line of a word
word_line_short : {A : Type 0} (field : Field) (word : A → List ℕ) → ((x : A) → length (word x) ≤ 20) → (value : Option A)
    → length (optional (λ x. keyword_line field (word x)) value) ≤ 60
word_line_short field word each None = omega arith
word_line_short field word each (Some x) = keyword_line_short field (word x) (each x)

-- the section's line has at most 29 bytes
section_short : (field : Field) (lines : List ℕ) (k : ℕ) → length lines ≤ k → length (section_text field lines) ≤ 29 + k
section_short field lines k short =
    omega (arith, length-append (field_word field) (line_end ++ lines), keyword_short field, short)

dimension_short : (n : ℕ) → is_node most_nodes n ≡ true → n ≤ most_nodes
dimension_short n fits = leb-true n most_nodes (and_parts (nat_le 1 n) (nat_le n most_nodes) fits).1

-- a section that the number of nodes is known for
section_of_short : {A : Type 0} (field : Field) (fits : ℕ → A → Bool) (lines : A → List ℕ) (k : ℕ)
    → ((n : ℕ) (x : A) → n ≤ most_nodes → fits n x ≡ true → length (lines x) ≤ k)
    → (dimension : Option ℕ) (value : Option A) → if_there (is_node most_nodes) dimension ≡ true
    → if_there (with_dimension fits dimension) value ≡ true
    → length (optional (λ x. section_text field (lines x)) value) ≤ 29 + k
section_of_short field fits lines k each dimension None nodes there = omega arith
section_of_short field fits lines k each None (Some x) nodes there = absurd (false≢true there)
section_of_short field fits lines k each (Some n) (Some x) nodes there =
    section_short field (lines x) k (each n x (dimension_short n nodes) there)

-- one line for each node, with at most k bytes after the node
by_node_section_short : {A : Type 0} (field : Field) (fits : A → Bool) (numbers : A → List (List ℕ)) (k : ℕ)
    → ((x : A) → fits x ≡ true → length (number_line [] (numbers x)) ≤ k)
    → (dimension : Option ℕ) (value : Option (List A)) → if_there (is_node most_nodes) dimension ≡ true
    → if_there (with_dimension (is_by_node fits) dimension) value ≡ true
    → length (optional (λ xs. section_text field (lines_by_node numbers xs)) value) ≤ 29 + (6 + k) * most_nodes
by_node_section_short {A} field fits numbers k each dimension value nodes there =
    let lines : (n : ℕ) (xs : List A) → n ≤ most_nodes → is_by_node fits n xs ≡ true
    → length (lines_by_node numbers xs) ≤ (6 + k) * most_nodes = λ n xs most by_nodes.
    let parts = and_parts (length xs == n) (list_all fits xs) by_nodes in
    let count = eqb-true (length xs) n parts.0 in
    by_node_short fits numbers k each xs (omega (arith, count, most)) parts.1 in
    section_of_short field (is_by_node fits) (lines_by_node numbers) ((6 + k) * most_nodes) lines dimension value nodes there

-- ---- entries

one_number_short : (text : List ℕ) (k : ℕ) → length text ≤ k → length (number_line [] (text ∷ [])) ≤ k + 2
one_number_short text k short = omega (arith, length-append (text ++ []) line_end, length-append text [], short)

two_numbers_short : (a b : List ℕ) (k : ℕ) → length a ≤ k → length b ≤ k → length (number_line [] (a ∷ b ∷ [])) ≤ 2 * k + 3
two_numbers_short a b k first second =
    let words : List ℕ = a ++ (32 ∷ (b ++ [])) in
    omega (arith, length-append words line_end, length-append a (32 ∷ (b ++ [])), length-append b [], first, second)

coordinate_short : (z : ℤ) → is_within most_coordinate z ≡ true → length (spelling z) ≤ 21
coordinate_short z fits = spelling_short z (within_abs most_coordinate z fits)

three_numbers_short : (a b c : List ℕ) (k : ℕ) → length a ≤ k → length b ≤ k → length c ≤ k
    → length (number_line [] (a ∷ b ∷ c ∷ [])) ≤ 3 * k + 4
three_numbers_short a b c k first second third =
    let last : List ℕ = b ++ (32 ∷ (c ++ [])) in
    let words : List ℕ = a ++ (32 ∷ last) in
    omega (
      arith,
      length-append words line_end,
      length-append a (32 ∷ last),
      length-append b (32 ∷ (c ++ [])),
      length-append c [],
      first,
      second,
      third,
    )

point_short : (in_space : Bool) (point : Point) → is_point in_space point ≡ true
    → length (number_line [] (coordinate_words in_space point)) ≤ 75
point_short true point fits =
    let flat = and_parts (is_within most_coordinate point.x && is_within most_coordinate point.y)
    (is_within most_coordinate point.z) fits in
    let parts = and_parts (is_within most_coordinate point.x) (is_within most_coordinate point.y) flat.0 in
    omega (
      arith,
      three_numbers_short (spelling point.x) (spelling point.y) (spelling point.z) 21 (coordinate_short point.x parts.0)
          (coordinate_short point.y parts.1) (coordinate_short point.z flat.1),
    )
point_short false point fits =
    let flat = and_parts (is_within most_coordinate point.x && is_within most_coordinate point.y) (int_eq point.z (pos 0)) fits in
    let parts = and_parts (is_within most_coordinate point.x) (is_within most_coordinate point.y) flat.0 in
    omega (
      arith,
      two_numbers_short (spelling point.x) (spelling point.y) 21 (coordinate_short point.x parts.0)
          (coordinate_short point.y parts.1),
    )

-- numbers of a range, no larger than potentials may be
abbrev is_short : Shape → Bool
is_short (Numbers low high) = nat_le (unsigned_abs low) most_potential && nat_le (unsigned_abs high) most_potential
is_short shape = true

whole_short : (low high number : ℤ) → is_short (Numbers low high) ≡ true → is_from_to low high number ≡ true
    → length (number_line [] (whole_number number)) ≤ 20
whole_short low high number short fits =
    let parts = and_parts (nat_le (unsigned_abs low) most_potential) (nat_le (unsigned_abs high) most_potential) short in
    let inside = between_short 16 low high most_potential number (leb-true (unsigned_abs low) most_potential parts.0)
    (leb-true (unsigned_abs high) most_potential parts.1) (omega arith) (omega arith) fits in
    omega (arith, one_number_short (signed_decimal number) 17 inside)

depots_short : (n : ℕ) (depots : List ℕ) → n ≤ most_nodes → are_depots n depots ≡ true → length (node_list depots) ≤ 900000
depots_short n depots most fits =
    let parts = and_parts (nat_le (length depots) most_depots) (list_all (is_node n) depots) fits in
    let few = leb-true (length depots) most_depots parts.0 in
    omega (arith, few, node_list_short (is_node n) (λ node fit. node_short n node most fit) depots parts.1)

is_pair_short : (n : ℕ) (pair : ℕ × ℕ) → n ≤ most_nodes → is_pair_of n pair ≡ true
    → (length (decimal pair.0) ≤ 6) × (length (decimal pair.1) ≤ 6)
is_pair_short n pair most fits =
    let parts = three_parts (is_node n pair.0) (is_node n pair.1) (not (pair.0 == pair.1)) fits in
    (node_short n pair.0 most parts.0, node_short n pair.1 most parts.1)

fixed_short : (n : ℕ) (pairs : List (ℕ × ℕ)) → n ≤ most_nodes → are_fixed n pairs ≡ true → length (pair_list pairs) ≤ 1900000
fixed_short n pairs most fits =
    let parts = and_parts (nat_le (length pairs) most_fixed) (list_all (is_pair_of n) pairs) fits in
    let few = leb-true (length pairs) most_fixed parts.0 in
    omega (arith, few, pair_list_short (is_pair_of n) (λ pair fit. is_pair_short n pair most fit) pairs parts.1)

is_triple_short : (n : ℕ) (triple : ℕ × ℕ × ℤ) → n ≤ most_nodes → is_triple_of n triple ≡ true
    → (length (decimal triple.0) ≤ 6) × (length (decimal triple.1) ≤ 6) × (length (signed_decimal triple.2) ≤ 17)
is_triple_short n triple most fits =
    let parts = and_parts (is_pair_of n (triple.0, triple.1)) (is_from_to (pos 0) (pos most_multiplier) triple.2) fits in
    let nodes = is_pair_short n (triple.0, triple.1) most parts.0 in
    (nodes.0, nodes.1, positive_short 16 0 most_multiplier triple.2 (omega arith) (omega arith) parts.1)

triples_short : (n : ℕ) (triples : List (ℕ × ℕ × ℤ)) → n ≤ most_nodes → are_triples n triples ≡ true
    → length (triple_list triples) ≤ 3300000
triples_short n triples most fits =
    let parts = and_parts (nat_le (length triples) most_triples) (list_all (is_triple_of n) triples) fits in
    let few = leb-true (length triples) most_triples parts.0 in
    omega (arith, few, triple_list_short (is_triple_of n) (λ triple fit. is_triple_short n triple most fit) triples parts.1)

-- at most 5,000 * 5,000 weights
weights_short : (lens : List ℕ) (n : ℕ) (weights : List ℤ) → fit_matrix n weights ≡ true
    → length (matrix_lines lens weights) ≤ 375000000
weights_short lens n weights fits =
    let parts = three_parts (nat_le n most_matrix_nodes) (nat_le (length weights) (n * n))
    (list_all (is_within most_weight) weights) fits in
    let few = leb-true n most_matrix_nodes parts.0 in
    let count = leb-true (length weights) (n * n) parts.1 in
    omega (arith, count, mul-le-mul few few, matrix_lines_short lens weights parts.2)

all_tours_short : (tours : List (List ℕ)) → are_tours tours ≡ true → length (flat_map node_list tours) ≤ 10000000
all_tours_short tours fits =
    let parts = and_parts (list_all is_node_list tours) (nat_le (sum_by length tours) most_tour_nodes) fits in
    let few = leb-true (sum_by length tours) most_tour_nodes parts.1 in
    omega (arith, few, tours_short tours parts.0)

-- ---- all fields

-- at most this many bytes; most of all are the weights, 15 for each of 5,000 * 5,000, and the differences of a tree, 25
-- for each of 10,000,000
abbrev most_of : Shape → ℕ
most_of (Numbers low high) = 2600029
most_of Points = 8100029
most_of SpacePoints = 8100029
most_of Depots = 900029
most_of Pairs = 1900029
most_of Weights = 375000029
most_of Tours = 10000029
most_of Triples = 3300029
most_of Families = 10030032
most_of Memories = 10000032
most_of SubsetRows = 10030032
most_of Steps = 269000034

abbrev most_bytes : Field → ℕ
most_bytes NameKey = 4004
most_bytes CommentKey = 4004000
most_bytes OtherKey = 4004000
most_bytes field = option_map_or most_of (shape_of true field) 60

shape_short : (f : Fields) (field : Field) (shape : Shape) → is_short shape ≡ true
    → if_there (is_node most_nodes) f.dimension ≡ true → section_fits f field shape ≡ true
    → length (text_of_section f field shape) ≤ most_of shape
shape_short f field (Numbers low high) short one fit =
    by_node_section_short field (is_from_to low high) whole_number 20 (λ number fits. whole_short low high number short fits)
    f.dimension (numbers_in f field) one fit
shape_short f field Points short one fit =
    by_node_section_short field (is_point false) (coordinate_words false) 75 (point_short false) f.dimension (points_in f field)
    one fit
shape_short f field SpacePoints short one fit =
    by_node_section_short field (is_point true) (coordinate_words true) 75 (point_short true) f.dimension (points_in f field) one
    fit
shape_short f field Depots short one fit =
    section_of_short field are_depots node_list 900000 depots_short f.dimension f.depots one fit
shape_short f field Pairs short one fit =
    section_of_short field are_fixed pair_list 1900000 fixed_short f.dimension f.fixed one fit
shape_short f field Weights short one fit =
    let lens = line_lens f.weight_format f.dimension in
    section_of_short field fit_matrix (matrix_lines lens) 375000000 (λ n weights most fits. weights_short lens n weights fits)
    f.dimension f.weights one fit
shape_short f field Tours short one fit =
    optional_short are_tours (λ tours. section_text field (flat_map node_list tours)) 10000029
    (λ tours fits. section_short field (flat_map node_list tours) 10000000 (all_tours_short tours fits)) f.tours fit
shape_short f field Triples short one fit =
    section_of_short field are_triples triple_list 3300000 triples_short f.dimension f.fixed_potentials one fit
shape_short f field Families short one fit =
    section_of_short field are_family_lists family_list 10030003 families_short f.dimension f.families one fit
shape_short f field Memories short one fit =
    section_of_short field are_memory_lists family_lines 10000003 memories_short f.dimension f.memories one fit
shape_short f field SubsetRows short one fit =
    section_of_short field are_subset_rows row_list 10030003 rows_short f.dimension f.subset_rows one fit
shape_short f field Steps short one fit =
    section_of_short field are_tree_steps case_tree_lines 269000005 steps_short f.dimension f.branches one fit

dimension_line_short : (n : ℕ) → is_node most_nodes n ≡ true → length (keyword_line DimensionKey (decimal n)) ≤ 60
dimension_line_short n fits =
    keyword_line_short DimensionKey (decimal n) (omega (arith, decimal_short n (dimension_short n fits)))

-- the line of a whole number from 1 on
whole_line_short : (field : Field) (most : ℕ) → most ≤ most_capacity → (number : Option ℤ)
    → if_there (is_from_to (pos 1) (pos most)) number ≡ true
    → length (optional (λ z. keyword_line field (signed_decimal z)) number) ≤ 60
whole_line_short field most low number fits =
    let each : (z : ℤ) → is_from_to (pos 1) (pos most) z ≡ true → length (keyword_line field (signed_decimal z)) ≤ 60 = λ z fit.
    let short = positive_short 13 1 most z (omega (arith, low)) (omega (arith, low)) fit in
    keyword_line_short field (signed_decimal z) (omega (arith, short)) in
    optional_short (is_from_to (pos 1) (pos most)) (λ z. keyword_line field (signed_decimal z)) 60 each number fits

comments_short : (comments : List (List ℕ)) → are_comments comments ≡ true
    → length (flat_map (keyword_line CommentKey) comments) ≤ most_bytes CommentKey
comments_short comments fits =
    let parts = and_parts (nat_le (length comments) most_comments) (list_all (is_kept (field_word CommentKey)) comments) fits in
    flat_short_of (is_kept (field_word CommentKey)) (keyword_line CommentKey) 4004 most_comments
    (kept_short (field_word CommentKey)) comments parts.1
    (leb-true (length comments) most_comments parts.0)

others_short : (others : List (List ℕ × List ℕ)) → are_others others ≡ true
    → length (flat_map other_line others) ≤ most_bytes OtherKey
others_short others fits =
    let parts = and_parts (nat_le (length others) most_others) (list_all is_other others) fits in
    flat_short_of is_other other_line 4004 most_others other_short others parts.1 (leb-true (length others) most_others parts.0)

-- plan: by the field: each keyword has its limit, and each section that of its shape (`shape_short`)
field_short : (f : Fields) → ((field : Field) → fits f field ≡ true) → (field : Field)
    → length (text_of_field f field) ≤ most_bytes field
field_short f fit NameKey =
    optional_short (is_kept (field_word NameKey)) (keyword_line NameKey) 4004 (kept_short (field_word NameKey)) f.name
    (fit NameKey)
field_short f fit TypeKey = word_line_short TypeKey kind_word kind_short f.kind
field_short f fit CommentKey = comments_short f.comments (fit CommentKey)
field_short f fit OtherKey = others_short f.others (fit OtherKey)
field_short f fit DimensionKey =
    optional_short (is_node most_nodes) (λ n. keyword_line DimensionKey (decimal n)) 60 dimension_line_short f.dimension
    (fit DimensionKey)
field_short f fit CapacityKey = whole_line_short CapacityKey most_capacity (omega arith) f.capacity (fit CapacityKey)
field_short f fit ScaleKey = whole_line_short ScaleKey most_scale (omega arith) f.scale (fit ScaleKey)
field_short f fit LoadUnitKey = whole_line_short LoadUnitKey most_load_unit (omega arith) f.load_unit (fit LoadUnitKey)
field_short f fit EdgeWeightTypeKey = word_line_short EdgeWeightTypeKey weight_kind_word weight_kind_short f.weight_kind
field_short f fit EdgeWeightFormatKey = word_line_short EdgeWeightFormatKey weight_format_word weight_format_short f.weight_format
field_short f fit NodeCoordTypeKey = word_line_short NodeCoordTypeKey coord_kind_word coord_kind_short f.coord_kind
field_short f fit DisplayDataTypeKey = word_line_short DisplayDataTypeKey display_kind_word display_kind_short f.display_kind
field_short f fit NodeCoordPart = points_short (spatial f) (fit NodeCoordPart)
  where
    points_short : (in_space : Bool) → section_fits f NodeCoordPart (cond in_space SpacePoints Points) ≡ true
        → length (text_of_section f NodeCoordPart (cond in_space SpacePoints Points)) ≤ 8100029
    points_short true fit_here = shape_short f NodeCoordPart SpacePoints refl (fit DimensionKey) fit_here
    points_short false fit_here = shape_short f NodeCoordPart Points refl (fit DimensionKey) fit_here
field_short f fit DisplayDataPart = shape_short f DisplayDataPart Points refl (fit DimensionKey) (fit DisplayDataPart)
field_short f fit DemandPart =
    shape_short f DemandPart (Numbers (pos 0) (pos most_demand)) refl (fit DimensionKey) (fit DemandPart)
field_short f fit DepotPart = shape_short f DepotPart Depots refl (fit DimensionKey) (fit DepotPart)
field_short f fit FixedEdgesPart = shape_short f FixedEdgesPart Pairs refl (fit DimensionKey) (fit FixedEdgesPart)
field_short f fit EdgeWeightPart = shape_short f EdgeWeightPart Weights refl (fit DimensionKey) (fit EdgeWeightPart)
field_short f fit TourPart = shape_short f TourPart Tours refl (fit DimensionKey) (fit TourPart)
field_short f fit NodePotentialPart =
    shape_short f NodePotentialPart (Numbers (neg_ℤ (pos most_potential)) (pos most_potential)) refl (fit DimensionKey)
    (fit NodePotentialPart)
field_short f fit RowPotentialPart =
    shape_short f RowPotentialPart (Numbers (neg_ℤ (pos most_potential)) (pos most_potential)) refl (fit DimensionKey)
    (fit RowPotentialPart)
field_short f fit ColumnPotentialPart =
    shape_short f ColumnPotentialPart (Numbers (neg_ℤ (pos most_potential)) (pos most_potential)) refl (fit DimensionKey)
    (fit ColumnPotentialPart)
field_short f fit FixedEdgePotentialPart =
    shape_short f FixedEdgePotentialPart Triples refl (fit DimensionKey) (fit FixedEdgePotentialPart)
field_short f fit FamilyPart = shape_short f FamilyPart Families refl (fit DimensionKey) (fit FamilyPart)
field_short f fit MemoryPart = shape_short f MemoryPart Memories refl (fit DimensionKey) (fit MemoryPart)
field_short f fit SubsetRowPart = shape_short f SubsetRowPart SubsetRows refl (fit DimensionKey) (fit SubsetRowPart)
field_short f fit BranchPart = shape_short f BranchPart Steps refl (fit DimensionKey) (fit BranchPart)

pub text_short : (f : Fields) → fault_of f ≡ None → length (text_of f) < 750000000
text_short f none =
    let fields = sum_by-le-sum_by (λ field. length (text_of_field f field)) most_bytes fields_in_order
    (field_short f (all_fit f none)) in
    let total : sum_by most_bytes fields_in_order ≤ 730000000 = omega arith in
    omega (
      arith,
      length-append (flat_map (text_of_field f) fields_in_order) (codes "EOF" ++ line_end),
      length-flat_map (text_of_field f) fields_in_order,
      fields,
      total,
    )

-- ---- a file without families and branches

abbrev most_without_trees : Field → ℕ
most_without_trees FamilyPart = 0
most_without_trees BranchPart = 0
most_without_trees field = most_bytes field

absent_short : {A : Type 0} (text : A → List ℕ) (value : Option A) → value ≡ None → length (optional text value) ≤ 0
absent_short text None none = omega arith
absent_short {A = A} text (Some _) none = absurd (none-some _ (sym none))

-- plan: by the field: both sections of a tree of cases are absent (`absent_short`), and each other field has its limit
-- (`field_short`)
field_short_without_trees : (f : Fields) → ((field : Field) → fits f field ≡ true) → f.families ≡ None → f.branches ≡ None
    → (field : Field)
    → length (text_of_field f field) ≤ most_without_trees field
field_short_without_trees f fit families branches FamilyPart =
    absent_short (λ families. section_text FamilyPart (family_list families)) f.families families
field_short_without_trees f fit families branches BranchPart =
    absent_short (λ steps. section_text BranchPart (case_tree_lines steps)) f.branches branches
field_short_without_trees f fit families branches NameKey = field_short f fit NameKey
field_short_without_trees f fit families branches TypeKey = field_short f fit TypeKey
field_short_without_trees f fit families branches CommentKey = field_short f fit CommentKey
field_short_without_trees f fit families branches OtherKey = field_short f fit OtherKey
field_short_without_trees f fit families branches DimensionKey = field_short f fit DimensionKey
field_short_without_trees f fit families branches CapacityKey = field_short f fit CapacityKey
field_short_without_trees f fit families branches ScaleKey = field_short f fit ScaleKey
field_short_without_trees f fit families branches LoadUnitKey = field_short f fit LoadUnitKey
field_short_without_trees f fit families branches EdgeWeightTypeKey = field_short f fit EdgeWeightTypeKey
field_short_without_trees f fit families branches EdgeWeightFormatKey = field_short f fit EdgeWeightFormatKey
field_short_without_trees f fit families branches NodeCoordTypeKey = field_short f fit NodeCoordTypeKey
field_short_without_trees f fit families branches DisplayDataTypeKey = field_short f fit DisplayDataTypeKey
field_short_without_trees f fit families branches NodeCoordPart = field_short f fit NodeCoordPart
field_short_without_trees f fit families branches DisplayDataPart = field_short f fit DisplayDataPart
field_short_without_trees f fit families branches DemandPart = field_short f fit DemandPart
field_short_without_trees f fit families branches DepotPart = field_short f fit DepotPart
field_short_without_trees f fit families branches FixedEdgesPart = field_short f fit FixedEdgesPart
field_short_without_trees f fit families branches EdgeWeightPart = field_short f fit EdgeWeightPart
field_short_without_trees f fit families branches TourPart = field_short f fit TourPart
field_short_without_trees f fit families branches NodePotentialPart = field_short f fit NodePotentialPart
field_short_without_trees f fit families branches RowPotentialPart = field_short f fit RowPotentialPart
field_short_without_trees f fit families branches ColumnPotentialPart = field_short f fit ColumnPotentialPart
field_short_without_trees f fit families branches MemoryPart = field_short f fit MemoryPart
field_short_without_trees f fit families branches SubsetRowPart = field_short f fit SubsetRowPart
field_short_without_trees f fit families branches FixedEdgePotentialPart = field_short f fit FixedEdgePotentialPart

pub text_short_without_trees : (f : Fields) → fault_of f ≡ None → f.families ≡ None → f.branches ≡ None
    → length (text_of f) < 500000000
text_short_without_trees f none families branches =
    let fields = sum_by-le-sum_by (λ field. length (text_of_field f field)) most_without_trees fields_in_order
    (field_short_without_trees f (all_fit f none) families branches) in
    let total : sum_by most_without_trees fields_in_order ≤ 460000000 = omega arith in
    omega (
      arith,
      length-append (flat_map (text_of_field f) fields_in_order) (codes "EOF" ++ line_end),
      length-flat_map (text_of_field f) fields_in_order,
      fields,
      total,
    )
