-- Circle 2 of docs/trust.md.
-- The rules over several fields of a file: what a file of each TYPE must have and may not have. They are in order, and
-- src/rules.rt promises to find the first that fails, which is the fault that a user sees. Its words are here, too.
-- Crates above import it, too.
use Rattle.tsp_file.specs.Prelude.{option_map, option_or, ℕ, List, codes, Bool, true, false, cond, not, [], length, Option, None, Some, is_some, cells, field_word, Field, TypeKey, DimensionKey, CapacityKey, EdgeWeightTypeKey, EdgeWeightFormatKey, NodeCoordPart, DemandPart, DepotPart, EdgeWeightPart, TourPart, NodePotentialPart, RowPotentialPart, ColumnPotentialPart, FixedEdgePotentialPart, BranchPart, WeightFormat, WeightKind}
use Rattle.std.specs.Prelude.{◌++◌, ◌&&◌, ◌||◌, ◌==◌, ◌∷◌}
use Rattle.tsp_format.specs.declared.kinds.Kind.{Kind}
use Rattle.tsp_format.specs.declared.kinds.Kind.TheVariants as kinds
use Rattle.tsp_format.specs.declared.kinds.WeightFormat.TheVariants as formats
use Rattle.tsp_format.specs.declared.kinds.WeightKind.TheVariants as weight_kinds
use Rattle.tsp_file.specs.Fields.{Fields, stands_in}
use Rattle.tsp_file.specs.Validity.{first_failing, bad_field}
use Rattle.tsp_file.specs.declared.rules.DraftFault.{DraftFault}
use Rattle.tsp_file.specs.declared.rules.DraftFault.TheVariants.{BadField, Rule}
use Rattle.tsp_file.specs.declared.rules.EndFault.{EndFault}
use Rattle.tsp_file.specs.declared.rules.EndFault.TheVariants.{Missing, Incomplete, WrongFormat, WrongCount}

-- a rule over several fields that fails
abbrev pub end_fault_text : EndFault → List ℕ
end_fault_text (Missing field) = codes "Missing " ++ field_word field
end_fault_text (Incomplete field) = codes "Incomplete " ++ field_word field
end_fault_text WrongFormat = codes "WrongFormat"
end_fault_text WrongCount = codes "WrongCount"

-- a field that is invalid on its own, or such a rule
abbrev pub draft_fault_text : DraftFault → List ℕ
draft_fault_text (BadField field) = codes "BadField " ++ field_word field
draft_fault_text (Rule fault) = end_fault_text fault

-- ---- the rules over several fields of a file, which are judged by which fields it has

-- ---- the present fields

-- Which fields a file has, its TYPE, how its weights are given, and how many they are.
pub record Standing : Type 0 where
  pub stands : Field → Bool
  pub kind : Option Kind
  pub weight_kind : Option WeightKind
  pub weight_format : Option WeightFormat
  pub dimension : Option ℕ
  pub weight_count : ℕ

-- how many elements a list has; 0 if it is missing
abbrev pub count_of : {A : Type 0} → Option (List A) → ℕ
count_of None = 0
count_of (Some xs) = length xs

-- the same, taken from the fields
abbrev pub standing_of : Fields → Standing
standing_of f = record {
  stands = stands_in f;
  kind = f.kind;
  weight_kind = f.weight_kind;
  weight_format = f.weight_format;
  dimension = f.dimension;
  weight_count = count_of f.weights;
}

-- ---- what a file is

-- TYPE TSP, ATSP or CVRP
abbrev pub is_instance : Option Kind → Bool
is_instance (Some kinds.Tsp) = true
is_instance (Some kinds.Atsp) = true
is_instance (Some kinds.Cvrp) = true
is_instance (Some kinds.Tour) = false
is_instance (Some kinds.Potentials) = false
is_instance (Some kinds.Branches) = false
is_instance None = false

-- TYPE CVRP
abbrev pub is_routing : Option Kind → Bool
is_routing (Some kinds.Cvrp) = true
is_routing (Some kinds.Tsp) = false
is_routing (Some kinds.Atsp) = false
is_routing (Some kinds.Tour) = false
is_routing (Some kinds.Potentials) = false
is_routing (Some kinds.Branches) = false
is_routing None = false

-- TYPE TOUR
abbrev pub is_tour_file : Option Kind → Bool
is_tour_file (Some kinds.Tour) = true
is_tour_file (Some kinds.Tsp) = false
is_tour_file (Some kinds.Atsp) = false
is_tour_file (Some kinds.Cvrp) = false
is_tour_file (Some kinds.Potentials) = false
is_tour_file (Some kinds.Branches) = false
is_tour_file None = false

-- TYPE POTENTIALS
abbrev pub is_potentials_file : Option Kind → Bool
is_potentials_file (Some kinds.Potentials) = true
is_potentials_file (Some kinds.Tsp) = false
is_potentials_file (Some kinds.Atsp) = false
is_potentials_file (Some kinds.Cvrp) = false
is_potentials_file (Some kinds.Tour) = false
is_potentials_file (Some kinds.Branches) = false
is_potentials_file None = false

-- TYPE BRANCHES
abbrev pub is_branches_file : Option Kind → Bool
is_branches_file (Some kinds.Branches) = true
is_branches_file (Some kinds.Tsp) = false
is_branches_file (Some kinds.Atsp) = false
is_branches_file (Some kinds.Cvrp) = false
is_branches_file (Some kinds.Tour) = false
is_branches_file (Some kinds.Potentials) = false
is_branches_file None = false

-- EDGE_WEIGHT_TYPE EXPLICIT
abbrev pub is_explicit : Option WeightKind → Bool
is_explicit (Some weight_kinds.Explicit) = true
is_explicit (Some weight_kinds.Euc2d) = false
is_explicit (Some weight_kinds.Ceil2d) = false
is_explicit (Some weight_kinds.Man2d) = false
is_explicit (Some weight_kinds.Max2d) = false
is_explicit (Some weight_kinds.Att) = false
is_explicit (Some weight_kinds.Euc3d) = false
is_explicit (Some weight_kinds.Man3d) = false
is_explicit (Some weight_kinds.Max3d) = false
is_explicit None = false

-- EDGE_WEIGHT_FORMAT FUNCTION
abbrev pub is_function : Option WeightFormat → Bool
is_function (Some formats.ByFunction) = true
is_function (Some (formats.Listed layout)) = false
is_function None = false

-- an instance whose weights are listed
abbrev pub has_explicit_weights : Standing → Bool
has_explicit_weights s = is_instance s.kind && is_explicit s.weight_kind

-- an instance whose weights are distances
abbrev pub has_distances : Standing → Bool
has_distances s = is_instance s.kind && is_some s.weight_kind && not (is_explicit s.weight_kind)

-- potentials of rows or of columns, which belong to an ATSP
abbrev pub has_row_or_column : Standing → Bool
has_row_or_column s = s.stands RowPotentialPart || s.stands ColumnPotentialPart

-- ---- what may be missing

-- the file has to have the field
abbrev pub is_asked : Standing → Field → Bool
is_asked s TypeKey = true
is_asked s DimensionKey = not (is_tour_file s.kind)
is_asked s CapacityKey = is_routing s.kind
is_asked s EdgeWeightTypeKey = is_instance s.kind
is_asked s EdgeWeightFormatKey = has_explicit_weights s || s.stands EdgeWeightPart
is_asked s NodeCoordPart = has_distances s
is_asked s DemandPart = is_routing s.kind
is_asked s DepotPart = is_routing s.kind
is_asked s EdgeWeightPart = has_explicit_weights s
is_asked s TourPart = is_tour_file s.kind
is_asked s NodePotentialPart = is_potentials_file s.kind && not (has_row_or_column s)
is_asked s RowPotentialPart = is_potentials_file s.kind && s.stands ColumnPotentialPart
is_asked s ColumnPotentialPart = is_potentials_file s.kind && s.stands RowPotentialPart
is_asked s BranchPart = is_branches_file s.kind
is_asked s field = false

-- the field is there, or needn't be
abbrev pub is_there : Standing → Field → Bool
is_there s field = not (is_asked s field) || s.stands field

-- the fields that some file has to have, in the order in which a missing one is reported
abbrev pub asked_in_order : List Field
asked_in_order = TypeKey ∷ DimensionKey ∷ EdgeWeightTypeKey ∷ EdgeWeightFormatKey ∷ CapacityKey ∷ NodeCoordPart ∷ EdgeWeightPart
    ∷ DemandPart ∷ DepotPart ∷ TourPart ∷ NodePotentialPart ∷ RowPotentialPart ∷ ColumnPotentialPart
    ∷ BranchPart ∷ []

-- ---- what may not go together

-- numbers that belong to a TSP: potentials of nodes, or multipliers of fixed edges
abbrev pub has_node_or_multiplier : Standing → Bool
has_node_or_multiplier s = s.stands NodePotentialPart || s.stands FixedEdgePotentialPart

-- weights by a function in place of listed ones; or potentials for a TSP and for an ATSP in one file
abbrev pub has_wrong_format : Standing → Bool
has_wrong_format s = (is_function s.weight_format && (has_explicit_weights s || s.stands EdgeWeightPart))
    || (is_potentials_file s.kind && has_node_or_multiplier s && has_row_or_column s)

-- this many weights are as many as the cells of the layout
abbrev pub is_count : Option ℕ → Option WeightFormat → ℕ → Bool
is_count (Some n) (Some (formats.Listed layout)) count = count == length (cells layout n)
is_count (Some n) (Some formats.ByFunction) count = true
is_count (Some n) None count = true
is_count None format count = true

-- there are more or fewer weights than cells
abbrev pub has_wrong_count : Standing → Bool
has_wrong_count s = s.stands EdgeWeightPart && not (is_count s.dimension s.weight_format s.weight_count)

-- ---- the end table

-- the last two rows of the table
abbrev pub format_or_count : Standing → Option EndFault
format_or_count s = cond (has_wrong_format s) (Some WrongFormat) (cond (has_wrong_count s) (Some WrongCount) None)

-- The fault at the end of a file, by its fields and its first incomplete section: the first row of the table that
-- applies.
abbrev pub end_fault : Standing → Option Field → Option EndFault
end_fault s incomplete = option_or (option_map (λ field. Missing field) (first_failing (is_there s) asked_in_order))
    (option_or (option_map (λ field. Incomplete field) incomplete) (format_or_count s))

-- the first fault of a draft: the first field that isn't valid on its own, or else the first row of the end table; no
-- section is incomplete
abbrev pub fault_of : Fields → Option DraftFault
fault_of f = option_or (option_map (λ field. BadField field) (bad_field f))
    (option_map (λ fault. Rule fault) (end_fault (standing_of f) None))
