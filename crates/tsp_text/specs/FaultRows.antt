-- Circle 2 of docs/trust.md.
-- The table of the faults of a line or a word. Each row has a section below, which says when it applies to an item,
-- given the items before it (the last one first). Where a word may stand follows TSPLIB 95 (G. Reinelt); the rows and
-- their order are this project's profile, and decide which fault tsp_read finds and a user sees.
use Rattle.tsp_text.specs.Prelude.{ℕ, Bool, true, false, cond, not, nat_lt, nat_le, List, [], length, Option, None, Some, is_none, list_any, NumberFault, decimal_of, whole_of, Field, CommentKey, OtherKey, DimensionKey, NodeCoordPart, EdgeWeightPart, TourPart, most_nodes, most_matrix_nodes, most_weight, most_line_bytes, most_kept_bytes, most_comments, most_others, most_depots, most_fixed, most_tour_nodes, most_families, most_family_nodes, most_branches, most_changes, is_section_field}
use Rattle.std.specs.Prelude.{◌+◌, ◌&&◌, ◌||◌, ◌∷◌}
use Rattle.std.specs.Option.{option_map, option_and_then, option_map_or, option_or}
use Rattle.std.specs.Result.{result_err}
use Rattle.tsp_format.specs.declared.keyword.Keyword.TheVariants.{Known, EdgeDataFormat, EdgeDataSection, Eof, Unknown}
use Rattle.tsp_text.specs.declared.fault.LineFault.{LineFault}
use Rattle.tsp_text.specs.declared.fault.LineFault.TheVariants as row
use Rattle.tsp_text.specs.Items.{is_not_empty, first_word, WordLine, Item, Line, NumberWord, LineEnd}
use Rattle.tsp_text.specs.Earlier.{same_field, has_line, values_at, others_in, open_section, is_unknown_word, is_left_out, has_number, read_as, is_kept_as_is, says_space, spatial_after, dimension_in, next_place}
use Rattle.tsp_text.specs.SectionWords.{reads_as, node, whole_of_size, node_or_end, is_end, is_minus_one, Place, NodeAfter, Coordinate, Amount, PastGroups, DepotAfter, FirstAfter, SecondOf, PastEnd, Weight, PastWeights, TourNode, SetNode, StepAfter, IndexAfter, index_or_leaf, begins_leaf, index_or_end, ends_leaf}

-- a test of a word at its place, if a section is open
abbrev pub at_place : (ℕ → Place → List ℕ → Bool) → List Item → List ℕ → Bool
at_place test earlier word = option_map_or (λ place. test (dimension_in earlier) place word) (next_place earlier) false

-- ---- LongLine: a word line has more bytes than it may have

abbrev pub is_long : List Item → Item → Bool
is_long earlier (Line key line) = nat_lt most_line_bytes line.size
is_long earlier (NumberWord word) = false
is_long earlier LineEnd = false

-- ---- UnknownLine: an unknown keyword without a colon

abbrev pub is_unknown_line : List Item → Item → Bool
is_unknown_line earlier (Line (Known field) line) = false
is_unknown_line earlier (Line EdgeDataFormat line) = false
is_unknown_line earlier (Line EdgeDataSection line) = false
is_unknown_line earlier (Line Eof line) = false
is_unknown_line earlier (Line Unknown line) = not line.has_colon
is_unknown_line earlier (NumberWord word) = false
is_unknown_line earlier LineEnd = false

-- ---- Repeated: a keyword other than COMMENT, or a section, that an earlier line has (the two keywords that are
-- refused have a fault at once)

abbrev pub may_repeat : Field → Bool
may_repeat CommentKey = true
may_repeat OtherKey = true
may_repeat field = false

abbrev pub repeats_keyword : List Item → Item → Bool
repeats_keyword earlier (Line (Known field) line) = not (may_repeat field) && has_line field earlier
repeats_keyword earlier (Line EdgeDataFormat line) = false
repeats_keyword earlier (Line EdgeDataSection line) = false
repeats_keyword earlier (Line Eof line) = false
repeats_keyword earlier (Line Unknown line) = false
repeats_keyword earlier (NumberWord word) = false
repeats_keyword earlier LineEnd = false

-- ---- Outside: EDGE_DATA_FORMAT, EDGE_DATA_SECTION, or a first word that is left out

abbrev pub says_left_out : List Item → Item → Bool
says_left_out earlier (Line (Known field) line) = is_left_out field (first_word line.value)
says_left_out earlier (Line EdgeDataFormat line) = true
says_left_out earlier (Line EdgeDataSection line) = true
says_left_out earlier (Line Eof line) = false
says_left_out earlier (Line Unknown line) = false
says_left_out earlier (NumberWord word) = false
says_left_out earlier LineEnd = false

-- ---- BadValue: a first word that the keyword doesn't accept, or none; a number keyword without a value; too many
-- bytes to be kept

abbrev pub is_too_long_to_keep : WordLine → Bool
is_too_long_to_keep line = nat_lt most_kept_bytes (length line.keyword + length line.value)

abbrev pub has_bad_value : List Item → Item → Bool
has_bad_value earlier (Line (Known field) line) = cond (is_unknown_word field (first_word line.value)) true
    (cond (has_number field) (not (is_not_empty line.value)) (is_kept_as_is field && is_too_long_to_keep line))
has_bad_value earlier (Line EdgeDataFormat line) = false
has_bad_value earlier (Line EdgeDataSection line) = false
has_bad_value earlier (Line Eof line) = false
has_bad_value earlier (Line Unknown line) = is_too_long_to_keep line
has_bad_value earlier (NumberWord word) = false
has_bad_value earlier LineEnd = false

-- ---- SectionValue: a section line with a value

abbrev pub has_section_value : List Item → Item → Bool
has_section_value earlier (Line (Known field) line) = is_section_field field && is_not_empty line.value
has_section_value earlier (Line EdgeDataFormat line) = false
has_section_value earlier (Line EdgeDataSection line) = is_not_empty line.value
has_section_value earlier (Line Eof line) = false
has_section_value earlier (Line Unknown line) = false
has_section_value earlier (NumberWord word) = false
has_section_value earlier LineEnd = false

-- ---- SectionEarly: a section other than the tours, and no earlier line of DIMENSION

abbrev pub is_early : List Item → Item → Bool
is_early earlier (Line (Known field) line) = is_section_field field && not (same_field TourPart field)
    && not (has_line DimensionKey earlier)
is_early earlier (Line EdgeDataFormat line) = false
is_early earlier (Line EdgeDataSection line) = not (has_line DimensionKey earlier)
is_early earlier (Line Eof line) = false
is_early earlier (Line Unknown line) = false
is_early earlier (NumberWord word) = false
is_early earlier LineEnd = false

-- ---- TooManyNodes: EDGE_WEIGHT_SECTION, and more nodes than a matrix may have

abbrev pub has_too_many_nodes : List Item → Item → Bool
has_too_many_nodes earlier (Line (Known field) line) = same_field EdgeWeightPart field
    && nat_lt most_matrix_nodes (dimension_in earlier)
has_too_many_nodes earlier (Line EdgeDataFormat line) = false
has_too_many_nodes earlier (Line EdgeDataSection line) = false
has_too_many_nodes earlier (Line Eof line) = false
has_too_many_nodes earlier (Line Unknown line) = false
has_too_many_nodes earlier (NumberWord word) = false
has_too_many_nodes earlier LineEnd = false

-- ---- StrayNumber: a word of a number line where no section is open

abbrev pub is_stray : List Item → Item → Bool
is_stray earlier (Line key line) = false
is_stray earlier (NumberWord word) = is_none (open_section earlier)
is_stray earlier LineEnd = false

-- ---- Number: the fault of a word that is read, in the first word of a number keyword's value or in a word at a place
-- of its section

abbrev pub number_fault_at : ℕ → Place → List ℕ → Option NumberFault
number_fault_at n (NodeAfter nodes) word = result_err (node n word)
number_fault_at n Coordinate word = result_err (decimal_of word)
number_fault_at n (Amount low high) word = result_err (whole_of word low high)
number_fault_at n PastGroups word = None
number_fault_at n (DepotAfter count) word = result_err (node_or_end n word)
number_fault_at n (FirstAfter count) word = result_err (node_or_end n word)
number_fault_at n (SecondOf first) word = result_err (node n word)
number_fault_at n PastEnd word = None
number_fault_at n Weight word = result_err (whole_of_size most_weight word)
number_fault_at n PastWeights word = None
number_fault_at n (TourNode count) word = result_err (node_or_end most_nodes word)
number_fault_at n (SetNode begun families count) word = result_err (node_or_end n word)
number_fault_at n (StepAfter branches) word = result_err (index_or_leaf n word)
number_fault_at n (IndexAfter count) word = result_err (index_or_end n word)

abbrev pub number_fault : List Item → Item → Option NumberFault
number_fault earlier (Line (Known field) line) = option_and_then result_err (read_as field line.value)
number_fault earlier (Line EdgeDataFormat line) = None
number_fault earlier (Line EdgeDataSection line) = None
number_fault earlier (Line Eof line) = None
number_fault earlier (Line Unknown line) = None
number_fault earlier (NumberWord word) =
    option_and_then (λ place. number_fault_at (dimension_in earlier) place word) (next_place earlier)
number_fault earlier LineEnd = None

-- ---- RepeatedNode: a group's node that an earlier group of the section has

abbrev pub is_repeated_node_at : ℕ → Place → List ℕ → Bool
is_repeated_node_at n (NodeAfter nodes) word = list_any (λ earlier. reads_as earlier (node n word)) nodes
is_repeated_node_at n place word = false

abbrev pub is_repeated_node : List Item → Item → Bool
is_repeated_node earlier (Line key line) = false
is_repeated_node earlier (NumberWord word) = at_place is_repeated_node_at earlier word
is_repeated_node earlier LineEnd = false

-- ---- SelfEdge: the second node of a fixed pair, of one with a multiplier or of a branch, that equals the first

abbrev pub is_self_edge_at : ℕ → Place → List ℕ → Bool
is_self_edge_at n (SecondOf first) word = reads_as first (node n word)
is_self_edge_at n place word = false

abbrev pub is_self_edge : List Item → Item → Bool
is_self_edge earlier (Line key line) = false
is_self_edge earlier (NumberWord word) = at_place is_self_edge_at earlier word
is_self_edge earlier LineEnd = false

-- ---- Surplus: a line of COMMENT or of an unknown keyword after the most of them; past the groups or a whole tree a
-- word other than `-1`; a word past the weights; after the most of them a depot, a first node of a pair, triple, family,
-- row or branch, a node of the tours, of a family, of a memory or of a row, or an index of a leaf (no -1, and no 0 that
-- begins a leaf)

-- a node of families or rows is beyond the limit, by whether one has begun, after this many of them and nodes
abbrev pub is_past_families : Bool → ℕ → ℕ → Bool
is_past_families begun families count = nat_le most_family_nodes count || (not begun && nat_le most_families families)

abbrev pub is_surplus_at : ℕ → Place → List ℕ → Bool
is_surplus_at n (NodeAfter nodes) word = false
is_surplus_at n Coordinate word = false
is_surplus_at n (Amount low high) word = false
is_surplus_at n PastGroups word = not (is_minus_one word)
is_surplus_at n (DepotAfter count) word = nat_le most_depots count && not (is_end n word)
is_surplus_at n (FirstAfter count) word = nat_le most_fixed count && not (is_end n word)
is_surplus_at n (SecondOf first) word = false
is_surplus_at n PastEnd word = false
is_surplus_at n Weight word = false
is_surplus_at n PastWeights word = true
is_surplus_at n (TourNode count) word = nat_le most_tour_nodes count && not (is_end most_nodes word)
is_surplus_at n (SetNode begun families count) word = is_past_families begun families count && not (is_end n word)
is_surplus_at n (StepAfter branches) word = nat_le most_branches branches && not (begins_leaf n word)
is_surplus_at n (IndexAfter count) word = nat_le most_changes count && not (ends_leaf n word)

abbrev pub is_surplus : List Item → Item → Bool
is_surplus earlier (Line (Known field) line) = same_field CommentKey field
    && nat_le most_comments (length (values_at CommentKey earlier))
is_surplus earlier (Line EdgeDataFormat line) = false
is_surplus earlier (Line EdgeDataSection line) = false
is_surplus earlier (Line Eof line) = false
is_surplus earlier (Line Unknown line) = nat_le most_others (length (others_in earlier))
is_surplus earlier (NumberWord word) = at_place is_surplus_at earlier word
is_surplus earlier LineEnd = false

-- ---- AfterEnd: a word other than `-1` after the -1 that ended the list, the families or the rows

abbrev pub is_after_end_at : ℕ → Place → List ℕ → Bool
is_after_end_at n PastEnd word = not (is_minus_one word)
is_after_end_at n place word = false

abbrev pub is_after_end : List Item → Item → Bool
is_after_end earlier (Line key line) = false
is_after_end earlier (NumberWord word) = at_place is_after_end_at earlier word
is_after_end earlier LineEnd = false

-- ---- LateSpace: a line that makes the file spatial, after a section of points of the plane

abbrev pub is_late : List Item → Item → Bool
is_late earlier (Line (Known field) line) = says_space field (first_word line.value) && has_line NodeCoordPart earlier
    && not (spatial_after earlier)
is_late earlier (Line EdgeDataFormat line) = false
is_late earlier (Line EdgeDataSection line) = false
is_late earlier (Line Eof line) = false
is_late earlier (Line Unknown line) = false
is_late earlier (NumberWord word) = false
is_late earlier LineEnd = false

-- ---- the table

abbrev pub when : {F : Type 0} → Bool → F → Option F
when test fault = cond test (Some fault) None

-- the rows in the order of their numbers: the fault of each that applies
abbrev pub table : List Item → Item → List (Option LineFault)
table earlier item = when (is_long earlier item) row.LongLine
    ∷ when (is_unknown_line earlier item) row.UnknownLine
    ∷ when (repeats_keyword earlier item) row.Repeated
    ∷ when (says_left_out earlier item) row.Outside
    ∷ when (has_bad_value earlier item) row.BadValue
    ∷ when (has_section_value earlier item) row.SectionValue
    ∷ when (is_early earlier item) row.SectionEarly
    ∷ when (has_too_many_nodes earlier item) row.TooManyNodes
    ∷ when (is_stray earlier item) row.StrayNumber
    ∷ option_map (λ fault. row.Number fault) (number_fault earlier item)
    ∷ when (is_repeated_node earlier item) row.RepeatedNode
    ∷ when (is_self_edge earlier item) row.SelfEdge
    ∷ when (is_surplus earlier item) row.Surplus
    ∷ when (is_after_end earlier item) row.AfterEnd
    ∷ when (is_late earlier item) row.LateSpace ∷ []

-- the first row that applies
abbrev pub first_row : {F : Type 0} → List (Option F) → Option F
first_row [] = None
first_row (fault ∷ rows) = option_or fault (first_row rows)

-- the fault of an item: the first row that applies
abbrev pub row_of : List Item → Item → Option LineFault
row_of earlier item = first_row (table earlier item)

-- the fault of a word at this place: the first row of words that applies
abbrev pub word_fault : ℕ → Place → List ℕ → Option LineFault
word_fault n place word = first_row (option_map (λ fault. row.Number fault) (number_fault_at n place word)
    ∷ when (is_repeated_node_at n place word) row.RepeatedNode
    ∷ when (is_self_edge_at n place word) row.SelfEdge
    ∷ when (is_surplus_at n place word) row.Surplus
    ∷ when (is_after_end_at n place word) row.AfterEnd ∷ [])
