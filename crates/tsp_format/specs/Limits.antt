-- Circle 2 of docs/trust.md.
-- The limits of files, which field the first word of a line names, and what shape each section has. A limit here is the
-- one that docs/format.md promises; src/limits.rt has to agree. Crates above import it, too.
use Rattle.std.specs.List.{find}
use Rattle.std.specs.Prelude.{ℕ, Bool, true, false, cond, List, Option, None, Some, codes, is_some, ℤ, pos, neg_ℤ, ◌≤ℤ◌}
use Rattle.std.specs.Str.{bytes_eq}
use Rattle.tsp_format.specs.Words.{field_word, fields_in_order}
use Rattle.tsp_format.specs.declared.keyword.Field.{Field}
use Rattle.tsp_format.specs.declared.keyword.Field.TheVariants.{OtherKey, FixedEdgesPart, NameKey, TypeKey, CommentKey, DimensionKey, CapacityKey, ScaleKey, LoadUnitKey, EdgeWeightTypeKey, EdgeWeightFormatKey, NodeCoordTypeKey, DisplayDataTypeKey, NodeCoordPart, DisplayDataPart, DemandPart, DepotPart, EdgeWeightPart, TourPart, NodePotentialPart, RowPotentialPart, ColumnPotentialPart, FixedEdgePotentialPart, FamilyPart, MemoryPart, SubsetRowPart, BranchPart}
use Rattle.tsp_format.specs.declared.keyword.Keyword.{Keyword}
use Rattle.tsp_format.specs.declared.keyword.Keyword.TheVariants.{Known, EdgeDataFormat, EdgeDataSection, Eof, Unknown}
use Rattle.tsp_format.specs.declared.keyword.Shape.{Shape}
use Rattle.tsp_format.specs.declared.keyword.Shape.TheVariants.{Numbers, Points, SpacePoints, Depots, Pairs, Weights, Tours, Triples, Families, Memories, SubsetRows, Steps}
use Rattle.tsp_format.specs.declared.keyword.ValueShape.{ValueShape}
use Rattle.tsp_format.specs.declared.keyword.ValueShape.TheVariants.{Kept, KeptEach, Number, Word}

-- whether it is the field of the unknown keywords, for which files have no word
abbrev pub is_other_key : Field → Bool
is_other_key field = bytes_eq (field_word field) (field_word OtherKey)

-- the field with this word
abbrev pub field_of : List ℕ → Option Field
field_of word = find (λ field. bytes_eq word (field_word field)) fields_in_order

-- the field with the word as a keyword; `Unknown` if no field has it
abbrev pub known_or_not : Option Field → Keyword
known_or_not (Some field) = cond (is_other_key field) Unknown (Known field)
known_or_not None = Unknown

-- A field's word names that field. Fixed edges have another word too. Two words are refused, and EOF ends the file.
abbrev pub keyword_of : List ℕ → Keyword
keyword_of word = cond (bytes_eq word (codes "FIXED_EDGES")) (Known FixedEdgesPart)
    (cond (bytes_eq word (codes "EDGE_DATA_FORMAT")) EdgeDataFormat
    (cond (bytes_eq word (codes "EDGE_DATA_SECTION")) EdgeDataSection
    (cond (bytes_eq word (codes "EOF")) Eof (known_or_not (field_of word)))))

abbrev pub is_unknown : Keyword → Bool
is_unknown (Known field) = false
is_unknown EdgeDataFormat = false
is_unknown EdgeDataSection = false
is_unknown Eof = false
is_unknown Unknown = true

-- ---- the limits of files

-- nodes of a file
abbrev pub most_nodes : ℕ
most_nodes = 100000

-- nodes of a file with an EDGE_WEIGHT_SECTION
abbrev pub most_matrix_nodes : ℕ
most_matrix_nodes = 5000

-- a coordinate's size, as a count of 10^-9
abbrev pub most_coordinate : ℕ
most_coordinate = 1000000000000000000

-- a weight's size
abbrev pub most_weight : ℕ
most_weight = 1000000000000

-- a demand
abbrev pub most_demand : ℕ
most_demand = 1000000000

-- the capacity of a CVRP
abbrev pub most_capacity : ℕ
most_capacity = 1000000000000

-- SCALE of a certificate
abbrev pub most_scale : ℕ
most_scale = 1000000

-- LOAD_UNIT of a certificate
abbrev pub most_load_unit : ℕ
most_load_unit = 1000000000000

-- a potential's size
abbrev pub most_potential : ℕ
most_potential = 1000000000000000

-- bytes of a word that is read as a number
abbrev pub most_word_bytes : ℕ
most_word_bytes = 64

-- bytes of a word line, which has a keyword
abbrev pub most_line_bytes : ℕ
most_line_bytes = 4096

-- bytes of a kept value with its keyword
abbrev pub most_kept_bytes : ℕ
most_kept_bytes = 4000

-- COMMENT lines
abbrev pub most_comments : ℕ
most_comments = 1000

-- lines of unknown keywords
abbrev pub most_others : ℕ
most_others = 1000

-- entries of DEPOT_SECTION
abbrev pub most_depots : ℕ
most_depots = 100000

-- fixed pairs
abbrev pub most_fixed : ℕ
most_fixed = 100000

-- multipliers of fixed pairs
abbrev pub most_triples : ℕ
most_triples = 100000

-- a multiplier
abbrev pub most_multiplier : ℕ
most_multiplier = 1000000000000000

-- nodes of all tours of a file
abbrev pub most_tour_nodes : ℕ
most_tour_nodes = 1000000

-- families of sets
abbrev pub most_families : ℕ
most_families = 10000

-- nodes of all sets of all families; of all lists of a memory; of all subset rows
abbrev pub most_family_nodes : ℕ
most_family_nodes = 1000000

-- subset rows
abbrev pub most_rows : ℕ
most_rows = 10000

-- branches of a tree of cases
abbrev pub most_branches : ℕ
most_branches = 1000000

-- differences of all leaves of a tree
abbrev pub most_changes : ℕ
most_changes = 10000000

-- a difference's size
abbrev pub most_difference : ℕ
most_difference = 2000000000000000

-- bytes of a file
abbrev pub most_file_bytes : ℕ
most_file_bytes = 1073741824

-- ---- how the words of each section are read

-- the shape of a section, in a spatial file or another; a keyword has none
abbrev pub shape_of : Bool → Field → Option Shape
shape_of spatial NodeCoordPart = Some (cond spatial SpacePoints Points)
shape_of spatial DisplayDataPart = Some Points
shape_of spatial DemandPart = Some (Numbers (pos 0) (pos most_demand))
shape_of spatial DepotPart = Some Depots
shape_of spatial FixedEdgesPart = Some Pairs
shape_of spatial EdgeWeightPart = Some Weights
shape_of spatial TourPart = Some Tours
shape_of spatial NodePotentialPart = Some (Numbers (neg_ℤ (pos most_potential)) (pos most_potential))
shape_of spatial RowPotentialPart = Some (Numbers (neg_ℤ (pos most_potential)) (pos most_potential))
shape_of spatial ColumnPotentialPart = Some (Numbers (neg_ℤ (pos most_potential)) (pos most_potential))
shape_of spatial FixedEdgePotentialPart = Some Triples
shape_of spatial FamilyPart = Some Families
shape_of spatial MemoryPart = Some Memories
shape_of spatial SubsetRowPart = Some SubsetRows
shape_of spatial BranchPart = Some Steps
shape_of spatial field = None

-- whether a field is a section
abbrev pub is_section_field : Field → Bool
is_section_field field = is_some (shape_of false field)

-- what the value of a keyword is read as; a section has none, nor have the unknown keywords
abbrev pub value_shape_of : Field → Option ValueShape
value_shape_of NameKey = Some Kept
value_shape_of TypeKey = Some Word
value_shape_of CommentKey = Some KeptEach
value_shape_of DimensionKey = Some (Number (pos 1) (pos most_nodes))
value_shape_of CapacityKey = Some (Number (pos 1) (pos most_capacity))
value_shape_of ScaleKey = Some (Number (pos 1) (pos most_scale))
value_shape_of LoadUnitKey = Some (Number (pos 1) (pos most_load_unit))
value_shape_of EdgeWeightTypeKey = Some Word
value_shape_of EdgeWeightFormatKey = Some Word
value_shape_of NodeCoordTypeKey = Some Word
value_shape_of DisplayDataTypeKey = Some Word
value_shape_of field = None

-- the number is in the range of a keyword whose value is read as one
abbrev pub IsNumberOf : Option ValueShape → ℤ → Type 0
IsNumberOf None number = Unit {0}
IsNumberOf (Some Kept) number = Unit {0}
IsNumberOf (Some KeptEach) number = Unit {0}
IsNumberOf (Some (Number low high)) number = (low ≤ℤ number) × (number ≤ℤ high)
IsNumberOf (Some Word) number = Unit {0}
