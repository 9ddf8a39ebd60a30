-- Small files for src/examples.rt: some that lack fields or have wrong ones, matrices in several layouts, and texts
-- with a field of each sort. No other contract uses them.
use Rattle.tsp_file.specs.Prelude.{[], Bool, Some, not, pos, ℕ, List, ℤ, negsuc, codes, on_plane, SubsetRow, Branch, Leaf, Field, fields_in_order, ByFunction, Listed, Explicit, Euc2d, Layout, FullMatrix, LowerDiagRow, UpperRow}
use Rattle.std.specs.List.{filter}
use Rattle.std.specs.Prelude.{◌∷◌, ◌≡◌, ◌++◌, ◌&&◌}
use Rattle.tsp_format.specs.declared.kinds.CoordKind.TheVariants as coord_kinds
use Rattle.tsp_format.specs.declared.kinds.DisplayKind.TheVariants as display_kinds
use Rattle.tsp_format.specs.declared.kinds.Kind.TheVariants.{Tsp, Atsp, Cvrp, Tour, Potentials, Branches}
use Rattle.tsp_format.specs.declared.kinds.Kind.TheVariants as kinds
use Rattle.tsp_format.specs.declared.kinds.WeightKind.TheVariants as weight_kinds
use Rattle.tsp_file.specs.CanonicalText.{text_of_field}
use Rattle.tsp_file.specs.Cost.{listed_cost}
use Rattle.tsp_file.specs.Fields.{Fields, blank_fields, stands_in}
use Rattle.tsp_file.specs.Relayout.{costs_in}

-- three nodes whose costs depend on the direction, and which aren't at 0 from themselves
abbrev pub directed_matrix : Fields
directed_matrix = record blank_fields {
  kind = Some Atsp;
  dimension = Some 3;
  weight_kind = Some Explicit;
  weight_format = Some (Listed FullMatrix);
  weights = Some (pos 9999 ∷ pos 1 ∷ pos 10 ∷ pos 10 ∷ pos 9999 ∷ pos 2 ∷ pos 3 ∷ pos 10 ∷ pos 9999 ∷ []);
}

-- an instance over points, without its coordinates
abbrev pub plane : Fields
plane = record blank_fields { kind = Some Tsp; dimension = Some 3; weight_kind = Some Euc2d }

-- the DIMENSION 0, which isn't valid; that is a fault before any missing field
abbrev pub no_nodes : Fields
no_nodes = record blank_fields { dimension = Some 0 }

-- one weight in the place of nine
abbrev pub one_weight : Fields
one_weight = record directed_matrix { weights = Some (pos 1 ∷ []) }

-- ---- files that get one field after the other that their TYPE asks for

-- routes: with a number of nodes, listed weights, their layout, a capacity, the weights, demands and depots
abbrev pub bare_routes : Fields
bare_routes = record blank_fields { kind = Some Cvrp }

abbrev pub routing_nodes : Fields
routing_nodes = record bare_routes { dimension = Some 1 }

abbrev pub routing_listed : Fields
routing_listed = record routing_nodes { weight_kind = Some Explicit }

abbrev pub routing_full : Fields
routing_full = record routing_listed { weight_format = Some (Listed FullMatrix) }

abbrev pub routing_capacity : Fields
routing_capacity = record routing_full { capacity = Some (pos 4) }

abbrev pub routing_weights : Fields
routing_weights = record routing_capacity { weights = Some (pos 0 ∷ []) }

abbrev pub routing_demands : Fields
routing_demands = record routing_weights { demands = Some [] }

abbrev pub routing_depots : Fields
routing_depots = record routing_demands { depots = Some [] }

-- routes over points, without their coordinates
abbrev pub routing_plane : Fields
routing_plane = record routing_nodes { weight_kind = Some Euc2d; capacity = Some (pos 4) }

-- a file of TYPE TOUR without tours
abbrev pub bare_tours : Fields
bare_tours = record blank_fields { kind = Some Tour }

-- the same with weights of no layout
abbrev pub touring_weights : Fields
touring_weights = record bare_tours { weights = Some [] }

-- a file with a list of tours, which is empty
abbrev pub touring_whole : Fields
touring_whole = record bare_tours { tours = Some [] }

-- the same with weights by a function
abbrev pub touring_function : Fields
touring_function = record touring_whole { weights = Some []; weight_format = Some ByFunction }

-- the same with one weight too many
abbrev pub touring_surplus : Fields
touring_surplus = record touring_whole {
  dimension = Some 1;
  weights = Some (pos 0 ∷ pos 0 ∷ []);
  weight_format = Some (Listed FullMatrix);
}

-- potentials: none, of nodes, of columns, of rows, of both, and of nodes beside both
abbrev pub bare_potentials : Fields
bare_potentials = record blank_fields { kind = Some Potentials; dimension = Some 1 }

abbrev pub with_node_numbers : Fields
with_node_numbers = record bare_potentials { node_potentials = Some [] }

abbrev pub with_column_numbers : Fields
with_column_numbers = record bare_potentials { column_potentials = Some [] }

abbrev pub with_row_numbers : Fields
with_row_numbers = record bare_potentials { row_potentials = Some [] }

abbrev pub with_both_numbers : Fields
with_both_numbers = record with_row_numbers { column_potentials = Some [] }

abbrev pub with_all_numbers : Fields
with_all_numbers = record with_both_numbers { node_potentials = Some [] }

-- the same with multipliers in the place of those of nodes, and with one weight too many
abbrev pub with_both_and_pairs : Fields
with_both_and_pairs = record with_both_numbers { fixed_potentials = Some [] }

abbrev pub with_all_and_weights : Fields
with_all_and_weights = record with_all_numbers { weights = Some (pos 0 ∷ pos 0 ∷ []); weight_format = Some (Listed FullMatrix) }

-- a tree of cases without its steps
abbrev pub bare_tree : Fields
bare_tree = record blank_fields { kind = Some Branches; dimension = Some 1 }

-- ---- small matrices in several layouts

-- a list of six weights
abbrev pub six : ℤ → ℤ → ℤ → ℤ → ℤ → ℤ → List ℤ
six a b c d e f = a ∷ b ∷ c ∷ d ∷ e ∷ f ∷ []

-- four nodes with the weights 1 to 6 in this layout: the cost of two nodes
abbrev pub CostIs : Layout → ℕ → ℕ → ℤ → Type 0
CostIs layout i j cost = listed_cost layout 4 (six (pos 1) (pos 2) (pos 3) (pos 4) (pos 5) (pos 6)) i j ≡ cost

-- three nodes with the weights 1 to 6 in a layout: those in another one
abbrev pub LaysOutAs : Layout → Layout → List ℤ → Type 0
LaysOutAs from to weights =
    costs_in to 3 (listed_cost from 3 (six (pos 1) (pos 2) (pos 3) (pos 4) (pos 5) (pos 6))) ≡ weights

-- ---- a small file with a field of each sort, which no valid file has, and its canonical text

-- a row of these lists
abbrev pub row : List ℕ → List ℕ → SubsetRow
row set further = record { set = set; further = further }

-- a file with a field of each sort
abbrev pub small : Fields
small = record blank_fields {
  name = Some (codes "x y");
  kind = Some kinds.Tsp;
  comments = codes "a" ∷ [] ∷ [];
  others = (codes "FOO", codes "BAR") ∷ [];
  dimension = Some 2;
  capacity = Some (pos 8);
  scale = Some (pos 3);
  load_unit = Some (pos 5);
  weight_kind = Some weight_kinds.Explicit;
  weight_format = Some (Listed LowerDiagRow);
  coord_kind = Some coord_kinds.TwoD;
  display_kind = Some display_kinds.TwoD;
  coords = Some (on_plane (pos 1500000000) (pos 0) ∷ on_plane (negsuc 0) (pos 4000000000) ∷ []);
  display = Some (on_plane (pos 0) (pos 0) ∷ on_plane (pos 0) (pos 1000000000) ∷ []);
  demands = Some (pos 0 ∷ pos 5 ∷ []);
  depots = Some (1 ∷ []);
  fixed = Some ((1, 2) ∷ []);
  weights = Some (pos 0 ∷ negsuc 6 ∷ pos 9 ∷ []);
  tours = Some ((2 ∷ 1 ∷ []) ∷ (1 ∷ []) ∷ []);
  node_potentials = Some (pos 0 ∷ negsuc 1 ∷ []);
  row_potentials = Some (pos 1 ∷ pos 2 ∷ []);
  column_potentials = Some (pos 3 ∷ pos 4 ∷ []);
  fixed_potentials = Some ((1, 2, pos 7) ∷ []);
  families = Some (((1 ∷ 2 ∷ 3 ∷ []) ∷ (1 ∷ 4 ∷ []) ∷ []) ∷ ((2 ∷ []) ∷ []) ∷ []);
  memories = Some ((3 ∷ 4 ∷ 5 ∷ []) ∷ (2 ∷ []) ∷ []);
  subset_rows = Some (row (2 ∷ 3 ∷ []) [] ∷ row (4 ∷ []) (2 ∷ 5 ∷ []) ∷ []);
  branches = Some (Branch 1 2 ∷ Leaf ((2, pos 1) ∷ (7, negsuc 2) ∷ []) ∷ Leaf [] ∷ []);
}

-- its canonical text
abbrev pub small_text : List ℕ
small_text = codes "NAME : x y\n" ++ codes "TYPE : TSP\n" ++ codes "COMMENT : a\nCOMMENT :\n" ++ codes "FOO : BAR\n"
    ++ codes "DIMENSION : 2\n" ++ codes "CAPACITY : 8\n" ++ codes "SCALE : 3\n" ++ codes "LOAD_UNIT : 5\n"
    ++ codes "EDGE_WEIGHT_TYPE : EXPLICIT\n"
    ++ codes "EDGE_WEIGHT_FORMAT : LOWER_DIAG_ROW\n" ++ codes "NODE_COORD_TYPE : TWOD_COORDS\n"
    ++ codes "DISPLAY_DATA_TYPE : TWOD_DISPLAY\n" ++ codes "NODE_COORD_SECTION\n1 1.5 0\n2 -0.000000001 4\n"
    ++ codes "DISPLAY_DATA_SECTION\n1 0 0\n2 0 1\n" ++ codes "DEMAND_SECTION\n1 0\n2 5\n" ++ codes "DEPOT_SECTION\n1\n-1\n"
    ++ codes "FIXED_EDGES_SECTION\n1 2\n-1\n" ++ codes "EDGE_WEIGHT_SECTION\n0\n-7 9\n"
    ++ codes "TOUR_SECTION\n2\n1\n-1\n1\n-1\n" ++ codes "NODE_POTENTIAL_SECTION\n1 0\n2 -2\n"
    ++ codes "ROW_POTENTIAL_SECTION\n1 1\n2 2\n" ++ codes "COLUMN_POTENTIAL_SECTION\n1 3\n2 4\n"
    ++ codes "FIXED_EDGE_POTENTIAL_SECTION\n1 2 7\n-1\n" ++ codes "COMB_SECTION\n1 2 3 -1\n1 4 -1\n-1\n2 -1\n-1\n-1\n"
    ++ codes "MEMORY_SECTION\n3 4 5 -1\n2 -1\n-1\n" ++ codes "SUBSET_ROW_SECTION\n2 3 -1\n-1\n4 -1\n2 5 -1\n-1\n"
    ++ codes "BRANCH_SECTION\n1 2\n0 2 1 7 -3 -1\n0 -1\n" ++ codes "EOF\n"

-- a node in space, which is shown on a plane
abbrev pub spatial_node : Fields
spatial_node = record blank_fields {
  dimension = Some 1;
  weight_kind = Some weight_kinds.Max3d;
  coords = Some (record { x = pos 1500000000; y = pos 0; z = negsuc 1999999999 } ∷ []);
  display = Some (on_plane (pos 0) (pos 1000000000) ∷ []);
}

-- two tours of two nodes
abbrev pub two_tours : Fields
two_tours = record blank_fields { kind = Some kinds.Tour; dimension = Some 2; tours = Some ((2 ∷ 1 ∷ []) ∷ (1 ∷ []) ∷ []) }

-- a file whose list of families is empty
abbrev pub without_families : Fields
without_families = record blank_fields { families = Some [] }

-- a file whose memory and whose rows are empty
abbrev pub without_memory : Fields
without_memory = record blank_fields { memories = Some []; subset_rows = Some [] }

-- three nodes with a weight for each pair; the layout's last row has none
abbrev pub three_weights : Fields
three_weights = record blank_fields { dimension = Some 3; weight_format = Some (Listed UpperRow); weights = Some (pos 1 ∷ pos 2 ∷ pos 3 ∷ []) }

-- ---- files of one field

-- for each field but comments and unknown keywords, in canonical order, a file with it alone
abbrev pub lone_fields : List Fields
lone_fields = record blank_fields { name = Some [] }
    ∷ record blank_fields { kind = Some kinds.Tsp }
    ∷ record blank_fields { dimension = Some 1 }
    ∷ record blank_fields { capacity = Some (pos 1) }
    ∷ record blank_fields { scale = Some (pos 1) }
    ∷ record blank_fields { load_unit = Some (pos 1) }
    ∷ record blank_fields { weight_kind = Some Explicit }
    ∷ record blank_fields { weight_format = Some ByFunction }
    ∷ record blank_fields { coord_kind = Some coord_kinds.TwoD }
    ∷ record blank_fields { display_kind = Some display_kinds.TwoD }
    ∷ record blank_fields { coords = Some [] }
    ∷ record blank_fields { display = Some [] }
    ∷ record blank_fields { demands = Some [] }
    ∷ record blank_fields { depots = Some [] }
    ∷ record blank_fields { fixed = Some [] }
    ∷ record blank_fields { weights = Some [] }
    ∷ record blank_fields { tours = Some [] }
    ∷ record blank_fields { node_potentials = Some [] }
    ∷ record blank_fields { row_potentials = Some [] }
    ∷ record blank_fields { column_potentials = Some [] }
    ∷ record blank_fields { fixed_potentials = Some [] }
    ∷ record blank_fields { families = Some [] }
    ∷ record blank_fields { memories = Some [] }
    ∷ record blank_fields { subset_rows = Some [] }
    ∷ record blank_fields { branches = Some [] }
    ∷ []

-- the field is present in the file, and not in every file
abbrev pub stands_alone : Fields → Field → Bool
stands_alone file field = stands_in file field && not (stands_in blank_fields field)

-- the fields that are present in the file, in canonical order, but for those that always are
abbrev pub standing_in : Fields → List Field
standing_in file = filter (stands_alone file) fields_in_order

-- the text of the field in the small file
abbrev pub IsSmallText : Field → List ℕ → Type 0
IsSmallText field text = text_of_field small field ≡ text
