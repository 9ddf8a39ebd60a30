-- Circle 2 of docs/trust.md.
-- Which file a text parses to, or its first fault, and the printed words for each fault. Every text has exactly one of
-- the two. tsp_read promises to find it, and every statement about a file reaches a user's bytes through `ParsesTo`.
-- Crates above import it, too.
use Rattle.tsp_text.specs.Prelude.{find, filter, ℕ, List, codes, decimal, [], Option, None, Some, Bool, true, false, cond, ℤ, pos, neg_ℤ, not, nat_lt, length, take, reverse, Result, Ok, Err, number_fault_text, most_demand, most_potential, is_section_field, most_file_bytes, most_matrix_nodes, Field, NameKey, TypeKey, CommentKey, CapacityKey, ScaleKey, LoadUnitKey, EdgeWeightTypeKey, EdgeWeightFormatKey, NodeCoordTypeKey, DisplayDataTypeKey, NodeCoordPart, DisplayDataPart, DemandPart, DepotPart, FixedEdgesPart, EdgeWeightPart, TourPart, NodePotentialPart, RowPotentialPart, ColumnPotentialPart, FixedEdgePotentialPart, FamilyPart, MemoryPart, SubsetRowPart, BranchPart}
use Rattle.std.specs.Option.{option_or, option_map}
use Rattle.std.specs.Prelude.{◌++◌, ◌≡◌, ◌∷◌, ◌&&◌}
use Rattle.tsp_format.specs.Words.{fields_in_order}
use Rattle.tsp_format.specs.declared.keyword.Shape.{Shape}
use Rattle.tsp_format.specs.declared.keyword.Shape.TheVariants.{Weights, Tours}
use Rattle.tsp_file.specs.Fields.{Fields}
use Rattle.tsp_file.specs.Rules.{end_fault_text, standing_of, end_fault}
use Rattle.tsp_file.specs.declared.rules.EndFault.{EndFault}
use Rattle.tsp_text.specs.Earlier.{has_line, value_at, values_at, others_in, words_of, kind_named, weight_kind_named, weight_format_named, coord_kind_named, display_kind_named, number_at, named_at, dimension_of, spatial_after, place_in, dimension_in}
use Rattle.tsp_text.specs.FaultRows.{row_of, when, first_row}
use Rattle.tsp_text.specs.Groups.{numbers_by_node, points_by_node, coords_by_node, depots_in, fixed_in, fixed_triples_in, whole_families}
use Rattle.tsp_text.specs.MemoryWords.{whole_memories, whole_rows}
use Rattle.tsp_text.specs.Items.{Item, line_number, word_number, items_of, settled_items, to_end_line, has_end_line, is_not_empty}
use Rattle.tsp_text.specs.SectionWords.{Place, NodeAfter, Coordinate, Amount, PastGroups, DepotAfter, FirstAfter, SecondOf, PastEnd, Weight, PastWeights, TourNode, SetNode, StepAfter, IndexAfter, weights_in, tours_in, whole_steps}
use Rattle.tsp_text.specs.declared.fault.LineFault.{LineFault}
use Rattle.tsp_text.specs.declared.fault.LineFault.TheVariants.{LongLine, UnknownLine, Repeated, Outside, BadValue, SectionValue, SectionEarly, TooManyNodes, StrayNumber, Number, RepeatedNode, SelfEdge, Surplus, AfterEnd, LateSpace}
use Rattle.tsp_text.specs.declared.fault.LineFault.TheVariants as row
use Rattle.tsp_text.specs.declared.fault.ReadFault.{ReadFault}
use Rattle.tsp_text.specs.declared.fault.ReadFault.TheVariants.{Line, End, OutOfMemory, Device, TooLong}
use Rattle.tsp_text.specs.declared.fault.ReadFault.TheVariants as faults

-- the name of a fault of a line or a word
abbrev pub line_fault_text : LineFault → List ℕ
line_fault_text LongLine = codes "LongLine"
line_fault_text UnknownLine = codes "UnknownLine"
line_fault_text Repeated = codes "Repeated"
line_fault_text Outside = codes "Outside"
line_fault_text BadValue = codes "BadValue"
line_fault_text SectionValue = codes "SectionValue"
line_fault_text SectionEarly = codes "SectionEarly"
line_fault_text TooManyNodes = codes "TooManyNodes"
line_fault_text StrayNumber = codes "StrayNumber"
line_fault_text (Number fault) = codes "Number " ++ number_fault_text fault
line_fault_text RepeatedNode = codes "RepeatedNode"
line_fault_text SelfEdge = codes "SelfEdge"
line_fault_text Surplus = codes "Surplus"
line_fault_text AfterEnd = codes "AfterEnd"
line_fault_text LateSpace = codes "LateSpace"

-- its line and word, or the fault at the end, or what else failed
abbrev pub read_fault_text : ReadFault → List ℕ
read_fault_text (Line line word fault) = codes "line " ++ (decimal line ++ (codes " word " ++ (decimal word
    ++ (codes ": " ++ line_fault_text fault))))
read_fault_text (End fault) = codes "end: " ++ end_fault_text fault
read_fault_text OutOfMemory = codes "out of memory"
read_fault_text Device = codes "device"
read_fault_text TooLong = codes "too long"

-- ---- the first fault of a text's items

-- a fault with the line and the word of its item
abbrev pub fault_here : List Item → Item → LineFault → ReadFault
fault_here earlier item fault = faults.Line (line_number earlier) (word_number earlier item) fault

-- the first fault of these items, the last one first
abbrev pub fault_in : List Item → Option ReadFault
fault_in [] = None
fault_in (item ∷ earlier) = option_or (fault_in earlier) (option_map (fault_here earlier item) (row_of earlier item))

-- none of these items has a fault
abbrev pub IsClean : List Item → Type 0
IsClean items = fault_in items ≡ None

-- The same in other words: some item has this fault, and no item before it has one.
pub record IsFirstFault (items : List Item) (found : ReadFault) : Type 0 where
  pub later : List Item
  pub item : Item
  pub earlier : List Item
  pub fault : LineFault
  pub parts : items ≡ later ++ item ∷ earlier
  pub clean : IsClean earlier
  pub row : row_of earlier item ≡ Some fault
  pub here : found ≡ fault_here earlier item fault

-- ---- the fields of a text's items, and the fault at their end

-- ---- the fields

-- the potentials of a section, by node
abbrev pub potentials_by_node : ℕ → List (List ℕ) → List ℤ
potentials_by_node n words = numbers_by_node (neg_ℤ (pos most_potential)) (pos most_potential) n words

-- the demands, by node
abbrev pub demands_in : ℕ → List (List ℕ) → List ℤ
demands_in n words = numbers_by_node (pos 0) (pos most_demand) n words

-- the value of a section by its words, if `stands` says that it is present
abbrev pub section_value : {A : Type 0} → (Field → Bool) → (List (List ℕ) → A) → Field → List Item → Option A
section_value stands value field items = cond (stands field) (Some (value (words_of field items))) None

-- the fields of these items; `stands` says which sections are present
abbrev pub fields_by : (Field → Bool) → List Item → Fields
fields_by stands items = record {
  name = value_at NameKey items;
  kind = named_at kind_named TypeKey items;
  comments = values_at CommentKey items;
  others = others_in items;
  dimension = dimension_of items;
  capacity = number_at CapacityKey items;
  scale = number_at ScaleKey items;
  load_unit = number_at LoadUnitKey items;
  weight_kind = named_at weight_kind_named EdgeWeightTypeKey items;
  weight_format = named_at weight_format_named EdgeWeightFormatKey items;
  coord_kind = named_at coord_kind_named NodeCoordTypeKey items;
  display_kind = named_at display_kind_named DisplayDataTypeKey items;
  coords = section_value stands (coords_by_node (spatial_after items) (dimension_in items)) NodeCoordPart items;
  display = section_value stands (points_by_node (dimension_in items)) DisplayDataPart items;
  demands = section_value stands (demands_in (dimension_in items)) DemandPart items;
  depots = section_value stands (depots_in (dimension_in items)) DepotPart items;
  fixed = section_value stands (fixed_in (dimension_in items)) FixedEdgesPart items;
  weights = section_value stands weights_in EdgeWeightPart items;
  tours = section_value stands tours_in TourPart items;
  node_potentials = section_value stands (potentials_by_node (dimension_in items)) NodePotentialPart items;
  row_potentials = section_value stands (potentials_by_node (dimension_in items)) RowPotentialPart items;
  column_potentials = section_value stands (potentials_by_node (dimension_in items)) ColumnPotentialPart items;
  fixed_potentials = section_value stands (fixed_triples_in (dimension_in items)) FixedEdgePotentialPart items;
  families = section_value stands (whole_families (dimension_in items)) FamilyPart items;
  memories = section_value stands (whole_memories (dimension_in items)) MemoryPart items;
  subset_rows = section_value stands (whole_rows (dimension_in items)) SubsetRowPart items;
  branches = section_value stands (whole_steps (dimension_in items)) BranchPart items;
}

-- a section is present if a line opens it
abbrev pub stands : List Item → Field → Bool
stands items field = has_line field items

-- the fields of all items of a text
abbrev pub spelled : List Item → Fields
spelled items = fields_by (stands items) items

-- ---- the end

-- at this place the section isn't complete: a group is to come, a pair, triple, family, list or row
-- isn't whole, or the tree isn't
abbrev pub wants_more : Place → Bool
wants_more (NodeAfter nodes) = true
wants_more Coordinate = true
wants_more (Amount low high) = true
wants_more PastGroups = false
wants_more (DepotAfter count) = false
wants_more (FirstAfter count) = false
wants_more (SecondOf first) = true
wants_more PastEnd = false
wants_more Weight = false
wants_more PastWeights = false
wants_more (TourNode count) = false
wants_more (SetNode begun families count) = begun
wants_more (StepAfter branches) = true
wants_more (IndexAfter count) = true

-- a section was opened and isn't complete
abbrev pub is_incomplete : List Item → Field → Bool
is_incomplete items field = has_line field items
    && wants_more (place_in (spatial_after items) field (dimension_in items) (words_of field items))

-- the sections, in canonical order
abbrev pub sections_in_order : List Field
sections_in_order = filter is_section_field fields_in_order

-- the first section that is incomplete
abbrev pub first_incomplete : List Item → Option Field
first_incomplete items = find (is_incomplete items) sections_in_order

-- the fault at the end of these items, none of which has a fault
abbrev pub fault_at_end : List Item → Option EndFault
fault_at_end items = end_fault (standing_of (spelled items)) (first_incomplete items)

-- ---- which file a text of bytes parses to (`ParsesTo`), and its first fault

-- the text is longer than a file may be
abbrev pub is_too_long : List ℕ → Bool
is_too_long bytes = nat_lt most_file_bytes (length bytes)

-- The items that count, the last one first: all of them up to and with the EOF line. Of a text that is too long those
-- that are settled in the bytes that a file may have.
abbrev pub part : List ℕ → List Item
part bytes = reverse (to_end_line (cond (is_too_long bytes) (settled_items (take most_file_bytes bytes)) (items_of bytes)))

-- the first fault: that of a line, that of the length, that of the end
abbrev pub fault : List ℕ → Option ReadFault
fault bytes = first_row (fault_in (part bytes)
    ∷ when (is_too_long bytes && not (has_end_line (part bytes))) faults.TooLong
    ∷ option_map (λ fault. faults.End fault) (fault_at_end (part bytes)) ∷ [])

-- the text parses to this file
pub record ParsesTo (bytes : List ℕ) (file : Fields) : Type 0 where
  pub no_fault : fault bytes ≡ None
  pub fields : file ≡ spelled (part bytes)

-- ---- the settled part before the end of a text has come

-- the settled items that count, the last one first, of a text that goes on
abbrev pub settled_part : List ℕ → List Item
settled_part bytes = reverse (to_end_line (settled_items (take most_file_bytes bytes)))

-- the fault of a text that begins with these bytes, if they decide it
abbrev pub settled_fault : List ℕ → Option ReadFault
settled_fault bytes = first_row
    (fault_in (settled_part bytes) ∷ when (is_too_long bytes && not (has_end_line (settled_part bytes))) faults.TooLong ∷ [])

-- ---- that each text has one answer

-- none of these items has a fault by the table, each after the items before it; the last item comes first
abbrev pub NoneHasRow : List Item → Type 0
NoneHasRow items = (later : List Item) (item : Item) (earlier : List Item) → items ≡ later ++ item ∷ earlier
    → row_of earlier item ≡ None

-- the answer for a text: the file that it parses to, or its first fault
abbrev pub IsAnswer : List ℕ → Result Fields ReadFault → Type 0
IsAnswer bytes (Ok file) = ParsesTo bytes file
IsAnswer bytes (Err found) = fault bytes ≡ Some found

-- there is an answer, and no other
abbrev pub HasOneAnswer : List ℕ → Type 0
HasOneAnswer bytes = (answer : Result Fields ReadFault) × IsAnswer bytes answer
    × ((other : Result Fields ReadFault) → IsAnswer bytes other → other ≡ answer)

-- the fault is one of the text, and not of memory or a device
abbrev pub is_of_text : ReadFault → Bool
is_of_text (faults.Line line word fault) = true
is_of_text (faults.End fault) = true
is_of_text faults.OutOfMemory = false
is_of_text faults.Device = false
is_of_text faults.TooLong = true

-- ---- the fault of a line that opens a section, by the section's shape

-- the section needs DIMENSION: each but the tours
abbrev pub needs_nodes : Shape → Bool
needs_nodes Tours = false
needs_nodes shape = true

-- the section is EDGE_WEIGHT_SECTION
abbrev pub is_matrix : Shape → Bool
is_matrix Weights = true
is_matrix shape = false

-- The first row that applies: `stands` says whether an earlier line opens the section, `has_nodes` whether DIMENSION
-- has come, and n is its value.
abbrev pub opening_rows : Shape → Bool → List ℕ → Bool → ℕ → Option LineFault
opening_rows shape stands value has_nodes n = first_row (when stands row.Repeated ∷ when (is_not_empty value) row.SectionValue
    ∷ when (needs_nodes shape && not has_nodes) row.SectionEarly
    ∷ when (is_matrix shape && nat_lt most_matrix_nodes n) row.TooManyNodes ∷ [])
