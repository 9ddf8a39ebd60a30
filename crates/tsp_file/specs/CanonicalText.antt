-- The canonical text of a file, which `tsp convert` writes: the texts of its fields in canonical order, then the EOF
-- line. A missing field has no text. src/writer.rt promises it byte for byte, and by the laws of tsp_read it parses
-- back to the file. In no circle of docs/trust.md, because no `yes` rests on it. Crates above import it, too.
use Rattle.tsp_file.specs.Prelude.{ℕ, Bool, true, false, cond, List, [], take, drop, map, length, codes, Option, Some, None, ℤ, option_map_or, flat_map, enumerate_from, decimal, Point, WeightFormat, Listed, Field, NameKey, TypeKey, CommentKey, OtherKey, DimensionKey, EdgeWeightTypeKey, EdgeWeightFormatKey, NodeCoordTypeKey, DisplayDataTypeKey, shape_of, value_shape_of, field_word, kind_word, weight_kind_word, weight_format_word, coord_kind_word, display_kind_word, fields_in_order, nodes_to, cells_of_line, Step, SubsetRow, Branch, Leaf}
use Rattle.std.specs.Prelude.{◌∷◌, ◌++◌}
use Rattle.std.specs.Fmt.{signed_decimal}
use Rattle.tsp_number.specs.NumberWord.{spelling}
use Rattle.tsp_format.specs.declared.keyword.Shape.{Shape}
use Rattle.tsp_format.specs.declared.keyword.Shape.TheVariants.{Numbers, Points, SpacePoints, Depots, Pairs, Weights, Tours, Triples, Families, Memories, SubsetRows, Steps}
use Rattle.tsp_format.specs.declared.keyword.ValueShape.{ValueShape}
use Rattle.tsp_format.specs.declared.keyword.ValueShape.TheVariants.{Kept, KeptEach, Number, Word}
use Rattle.tsp_file.specs.Fields.{Fields, spatial, one_number_in, numbers_in, points_in}

-- ---- lines

-- the end of a line
abbrev pub line_end : List ℕ
line_end = 10 ∷ []

-- a blank before a text that isn't empty
abbrev pub blank_before : List ℕ → List ℕ
blank_before [] = []
blank_before (first ∷ rest) = 32 ∷ first ∷ rest

-- a keyword, a blank, a colon and the value
abbrev pub value_line : List ℕ → List ℕ → List ℕ
value_line keyword value = keyword ++ (codes " :" ++ (blank_before value ++ line_end))

-- the line of a keyword that is a field
abbrev pub keyword_line : Field → List ℕ → List ℕ
keyword_line field value = value_line (field_word field) value

-- the line of an unknown keyword
abbrev pub other_line : List ℕ × List ℕ → List ℕ
other_line other = value_line other.0 other.1

-- a number, and more of them, each after a blank
abbrev pub number_line : List ℕ → List (List ℕ) → List ℕ
number_line first more = first ++ (flat_map (λ word. 32 ∷ word) more ++ line_end)

-- a word and the blank after it
abbrev pub before_blank : List ℕ → List ℕ
before_blank word = word ++ (32 ∷ [])

-- some words and then -1, all in one line
abbrev pub ended_line : List (List ℕ) → List ℕ
ended_line words = flat_map before_blank words ++ (codes "-1" ++ line_end)

-- ---- sections

-- the section's line, then its lines of numbers
abbrev pub section_text : Field → List ℕ → List ℕ
section_text field lines = field_word field ++ (line_end ++ lines)

-- one line for each node in rising order: the node and its numbers
abbrev pub lines_by_node : {A : Type 0} → (A → List (List ℕ)) → List A → List ℕ
lines_by_node numbers entries = flat_map (λ entry. number_line (decimal entry.0) (numbers entry.1)) (enumerate_from 1 entries)

-- lines that -1 ends
abbrev pub ended_by_mark : List ℕ → List ℕ
ended_by_mark lines = lines ++ (codes "-1" ++ line_end)

-- one node per line, then -1
abbrev pub node_list : List ℕ → List ℕ
node_list nodes = ended_by_mark (flat_map (λ node. number_line (decimal node) []) nodes)

-- one pair per line, then -1
abbrev pub pair_list : List (ℕ × ℕ) → List ℕ
pair_list pairs = ended_by_mark (flat_map (λ pair. number_line (decimal pair.0) (decimal pair.1 ∷ [])) pairs)

-- one pair with its number per line, then -1
abbrev pub triple_list : List (ℕ × ℕ × ℤ) → List ℕ
triple_list triples =
    ended_by_mark (flat_map (λ triple. number_line (decimal triple.0) (decimal triple.1 ∷ signed_decimal triple.2 ∷ [])) triples)

-- the nodes of a set in one line, then -1
abbrev pub set_line : List ℕ → List ℕ
set_line set = ended_line (map decimal set)

-- a line for each set of a family, or for each list of a memory, then the line -1
abbrev pub family_lines : List (List ℕ) → List ℕ
family_lines family = ended_by_mark (flat_map set_line family)

-- all families, then one more line -1
abbrev pub family_list : List (List (List ℕ)) → List ℕ
family_list families = ended_by_mark (flat_map family_lines families)

-- the two lines of a subset row: its set, and its further nodes
abbrev pub row_lines : SubsetRow → List ℕ
row_lines row = set_line row.set ++ set_line row.further

-- all rows, then the line -1
abbrev pub row_list : List SubsetRow → List ℕ
row_list rows = ended_by_mark (flat_map row_lines rows)

-- the index of a number, and its difference
abbrev pub change_words : ℕ × ℤ → List (List ℕ)
change_words change = decimal change.0 ∷ signed_decimal change.1 ∷ []

-- the two numbers of a branch; of a leaf 0, its differences and -1
abbrev pub step_line : Step → List ℕ
step_line (Branch first second) = number_line (decimal first) (decimal second ∷ [])
step_line (Leaf changes) = ended_line (codes "0" ∷ flat_map change_words changes)

-- a line for each step; the tree is whole where they end, so that no -1 ends it
abbrev pub case_tree_lines : List Step → List ℕ
case_tree_lines steps = flat_map step_line steps

-- the coordinates of a point, three in space and two in the plane
abbrev pub coordinate_words : Bool → Point → List (List ℕ)
coordinate_words in_space point = spelling point.x ∷ spelling point.y ∷ cond in_space (spelling point.z ∷ []) []

-- one number, as the words of a line
abbrev pub whole_number : ℤ → List (List ℕ)
whole_number number = signed_decimal number ∷ []

-- ---- the matrix of weights

-- how many cells each row of the layout has, or each column of a layout by columns
abbrev pub line_lens : Option WeightFormat → Option ℕ → List ℕ
line_lens (Some (Listed layout)) (Some n) = map (λ k. length (cells_of_line layout n k)) (nodes_to n)
line_lens format dimension = []

-- the line of some weights; no line if there are none
abbrev pub weight_line : List ℤ → List ℕ
weight_line [] = []
weight_line (first ∷ rest) = number_line (signed_decimal first) (map signed_decimal rest)

-- The weights in lines of these lengths. Weights that no line takes, which a valid file doesn't have, get a last line.
abbrev pub matrix_lines : List ℕ → List ℤ → List ℕ
matrix_lines [] weights = weight_line weights
matrix_lines (len ∷ lens) weights = weight_line (take len weights) ++ matrix_lines lens (drop len weights)

-- ---- the whole text

-- a field that is missing has no text
abbrev pub optional : {A : Type 0} → (A → List ℕ) → Option A → List ℕ
optional text None = []
optional text (Some value) = text value

-- the text of a section of this shape
abbrev pub text_of_section : Fields → Field → Shape → List ℕ
text_of_section f field (Numbers low high) =
    optional (λ numbers. section_text field (lines_by_node whole_number numbers)) (numbers_in f field)
text_of_section f field Points =
    optional (λ points. section_text field (lines_by_node (coordinate_words false) points)) (points_in f field)
text_of_section f field SpacePoints =
    optional (λ points. section_text field (lines_by_node (coordinate_words true) points)) (points_in f field)
text_of_section f field Depots = optional (λ depots. section_text field (node_list depots)) f.depots
text_of_section f field Pairs = optional (λ pairs. section_text field (pair_list pairs)) f.fixed
text_of_section f field Weights =
    optional (λ weights. section_text field (matrix_lines (line_lens f.weight_format f.dimension) weights)) f.weights
text_of_section f field Tours = optional (λ tours. section_text field (flat_map node_list tours)) f.tours
text_of_section f field Triples = optional (λ triples. section_text field (triple_list triples)) f.fixed_potentials
text_of_section f field Families = optional (λ families. section_text field (family_list families)) f.families
text_of_section f field Memories = optional (λ lists. section_text field (family_lines lists)) f.memories
text_of_section f field SubsetRows = optional (λ rows. section_text field (row_list rows)) f.subset_rows
text_of_section f field Steps = optional (λ steps. section_text field (case_tree_lines steps)) f.branches

-- the text of a keyword whose value is a number; the others have their text in `text_of_field`
abbrev pub text_of_value : Fields → Field → Option ValueShape → List ℕ
text_of_value f field None = []
text_of_value f field (Some Kept) = []
text_of_value f field (Some KeptEach) = []
text_of_value f field (Some (Number low high)) =
    optional (λ number. keyword_line field (signed_decimal number)) (one_number_in f field)
text_of_value f field (Some Word) = []

-- the text of a field
abbrev pub text_of_field : Fields → Field → List ℕ
text_of_field f NameKey = optional (keyword_line NameKey) f.name
text_of_field f TypeKey = optional (λ kind. keyword_line TypeKey (kind_word kind)) f.kind
text_of_field f CommentKey = flat_map (keyword_line CommentKey) f.comments
text_of_field f OtherKey = flat_map other_line f.others
text_of_field f DimensionKey = optional (λ n. keyword_line DimensionKey (decimal n)) f.dimension
text_of_field f EdgeWeightTypeKey = optional (λ kind. keyword_line EdgeWeightTypeKey (weight_kind_word kind)) f.weight_kind
text_of_field f EdgeWeightFormatKey =
    optional (λ format. keyword_line EdgeWeightFormatKey (weight_format_word format)) f.weight_format
text_of_field f NodeCoordTypeKey = optional (λ kind. keyword_line NodeCoordTypeKey (coord_kind_word kind)) f.coord_kind
text_of_field f DisplayDataTypeKey = optional (λ kind. keyword_line DisplayDataTypeKey (display_kind_word kind)) f.display_kind
text_of_field f field =
    option_map_or (text_of_section f field) (shape_of (spatial f) field) (text_of_value f field (value_shape_of field))

-- the canonical text
abbrev pub text_of : Fields → List ℕ
text_of f = flat_map (text_of_field f) fields_in_order ++ (codes "EOF" ++ line_end)
