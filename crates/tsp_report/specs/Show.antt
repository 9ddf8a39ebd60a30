-- The lines that `tsp show` prints for a file, which src/shown.rt writes. Each line ends with byte 10, and words are
-- separated by one blank. In no circle of docs/trust.md, because the lines contain no `yes`. tsp_c and tsp_judge import
-- it, too.
use Rattle.std.specs.Prelude.{ℕ, List, [], ◌∷◌, ◌++◌, length, codes, decimal, cond, ℤ, Option, None, Some, unwrap_or}
use Rattle.std.specs.List.{flat_map, enumerate_from}
use Rattle.std.specs.Option.{option_map_or}
use Rattle.std.specs.Fmt.{signed_decimal}
use Rattle.tsp_format.specs.declared.kinds.Kind.{Kind}
use Rattle.tsp_format.specs.declared.kinds.Kind.TheVariants.{Tsp, Atsp, Cvrp, Tour, Potentials, Branches}
use Rattle.tsp_format.specs.declared.kinds.WeightKind.{WeightKind}
use Rattle.tsp_format.specs.declared.kinds.WeightFormat.{WeightFormat}
use Rattle.tsp_format.specs.Words.{weight_kind_word, weight_format_word}
use Rattle.tsp_format.specs.Nodes.{nodes_to}
use Rattle.tsp_format.specs.Steps.{Step, SubsetRow, leaf_count}
use Rattle.tsp_file.specs.Fields.{Fields, nodes_of}
use Rattle.tsp_file.specs.Rules.{is_explicit}
use Rattle.tsp_file.specs.Cost.{meant_scale, cost}
use Rattle.tsp_theory.specs.Tour.{length_of}
use Rattle.tsp_report.specs.Report.{type_line, nodes_line, not_judged}

-- ---- any file

-- the value of NAME, if it isn't empty
abbrev pub name_line : Option (List ℕ) → List ℕ
name_line None = []
name_line (Some []) = []
name_line (Some (first ∷ rest)) = codes "name " ++ (first ∷ rest) ++ codes "\n"

-- the name, the TYPE, and the number of nodes if it is present
abbrev pub head_lines : Fields → List ℕ
head_lines f = name_line f.name ++ (type_line f.kind ++ option_map_or nodes_line f.dimension [])

-- ---- instances

-- after listed weights, a blank and the word of their layout
abbrev pub layout_part : Option WeightKind → Option WeightFormat → List ℕ
layout_part kind format = cond (is_explicit kind) (codes " " ++ option_map_or weight_format_word format []) []

-- the weight type, and for listed weights their layout
abbrev pub weights_line : Option WeightKind → Option WeightFormat → List ℕ
weights_line kind format = codes "weights " ++ option_map_or weight_kind_word kind [] ++ layout_part kind format ++ codes "\n"

-- the length of the tour 1, 2, .., n
abbrev pub canonical_of : Fields → ℤ
canonical_of f = length_of (cost f) (nodes_to (nodes_of f))

-- the line of that length
abbrev pub canonical_line : ℤ → List ℕ
canonical_line canonical = codes "canonical " ++ signed_decimal canonical ++ codes "\n"

-- how many fixed pairs are listed, if a section lists them
abbrev pub fixed_line : Option (List (ℕ × ℕ)) → List ℕ
fixed_line None = []
fixed_line (Some pairs) = codes "fixed " ++ decimal (length pairs) ++ codes "\n"

-- the lines on the costs and the fixed pairs of an instance
abbrev pub cost_lines : Fields → List ℕ
cost_lines f = weights_line f.weight_kind f.weight_format ++ (canonical_line (canonical_of f) ++ fixed_line f.fixed)

-- ---- tours, potentials and trees of cases

-- a tour with its number
abbrev pub tour_line : ℕ × List ℕ → List ℕ
tour_line tour = codes "tour " ++ decimal tour.0 ++ codes " nodes " ++ decimal (length tour.1) ++ codes "\n"

-- how many tours there are, and a line for each, numbered from 1
abbrev pub all_tour_lines : List (List ℕ) → List ℕ
all_tour_lines tours = codes "tours " ++ decimal (length tours) ++ codes "\n" ++ flat_map tour_line (enumerate_from 1 tours)

-- the scale, which is 1 if SCALE is missing
abbrev pub scale_line : Option ℤ → List ℕ
scale_line scale = codes "scale " ++ signed_decimal (meant_scale scale) ++ codes "\n"

-- the load unit, if LOAD_UNIT is present
abbrev pub load_unit_line : Option ℤ → List ℕ
load_unit_line None = []
load_unit_line (Some unit) = codes "load unit " ++ signed_decimal unit ++ codes "\n"

-- how many families there are, if a section lists them
abbrev pub families_line : Option (List (List (List ℕ))) → List ℕ
families_line None = []
families_line (Some families) = codes "combs " ++ decimal (length families) ++ codes "\n"

-- how many lists a memory has, if a section has them
abbrev pub memory_line : Option (List (List ℕ)) → List ℕ
memory_line None = []
memory_line (Some lists) = codes "memory " ++ decimal (length lists) ++ codes "\n"

-- how many subset rows there are, if a section lists them
abbrev pub rows_line : Option (List SubsetRow) → List ℕ
rows_line None = []
rows_line (Some rows) = codes "rows " ++ decimal (length rows) ++ codes "\n"

-- the lines on what a leaf has multipliers for, or what walks remember
abbrev pub part_lines : Fields → List ℕ
part_lines f = families_line f.families ++ (memory_line f.memories ++ rows_line f.subset_rows)

-- how many leaves a tree has
abbrev pub leaves_line : List Step → List ℕ
leaves_line steps = codes "leaves " ++ decimal (leaf_count steps) ++ codes "\n"

-- the lines on a tree of cases
abbrev pub tree_lines : Fields → List ℕ
tree_lines f = scale_line f.scale ++ (load_unit_line f.load_unit ++ (part_lines f ++ leaves_line (unwrap_or f.branches [])))

-- ---- the whole

-- the lines that a file of this TYPE has
abbrev pub lines_by_type : Option Kind → Fields → List ℕ
lines_by_type (Some Tsp) f = cost_lines f
lines_by_type (Some Atsp) f = cost_lines f
lines_by_type (Some Cvrp) f = cost_lines f
lines_by_type (Some Tour) f = all_tour_lines (unwrap_or f.tours [])
lines_by_type (Some Potentials) f = scale_line f.scale
lines_by_type (Some Branches) f = tree_lines f
lines_by_type None f = []

-- all lines of `tsp show`
abbrev pub shown : Fields → List ℕ
shown f = head_lines f ++ lines_by_type f.kind f ++ not_judged f.others
