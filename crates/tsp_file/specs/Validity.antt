-- Circle 2 of docs/trust.md.
-- When a field is valid on its own, as tests that can be evaluated, which src/validity.rt and src/table.rt promise to
-- make; Valid.antt says the same as statements. The ranges are this project's profile of TSPLIB 95, so a user's file
-- may become invalid by a change here. tsp_read and tsp_text import it, too.
use Rattle.tsp_file.specs.Prelude.{ℕ, Bool, true, false, cond, not, nat_le, List, length, slice_index, Option, None, Some, ℤ, pos, neg_ℤ, int_le, option_map_or, list_all, find, sum_by, Point, Field, NameKey, CommentKey, OtherKey, DimensionKey, most_nodes, most_matrix_nodes, most_coordinate, most_weight, most_demand, most_kept_bytes, most_comments, most_others, most_depots, most_fixed, most_triples, most_multiplier, most_tour_nodes, most_families, most_family_nodes, most_rows, most_branches, most_changes, most_difference, keyword_of, is_unknown, shape_of, value_shape_of, is_blank, is_letter, is_keyword_byte, field_word, fields_in_order, Step, SubsetRow, row_size, Branch, Leaf, are_whole, branch_count, change_count}
use Rattle.std.specs.Prelude.{◌+◌, ◌-◌, ◌*◌, ◌&&◌, ◌==◌}
use Rattle.std.specs.Ordering.{int_eq}
use Rattle.tsp_format.specs.declared.keyword.Shape.{Shape}
use Rattle.tsp_format.specs.declared.keyword.Shape.TheVariants.{Numbers, Points, SpacePoints, Depots, Pairs, Weights, Tours, Triples, Families, Memories, SubsetRows, Steps}
use Rattle.tsp_format.specs.declared.keyword.ValueShape.{ValueShape}
use Rattle.tsp_format.specs.declared.keyword.ValueShape.TheVariants.{Kept, KeptEach, Number, Word}
use Rattle.tsp_file.specs.Fields.{Fields, spatial, one_number_in, numbers_in, points_in}

-- a field that is missing is valid
abbrev pub if_there : {A : Type 0} → (A → Bool) → Option A → Bool
if_there fits None = true
if_there fits (Some x) = fits x

-- ---- kept values

-- a value that is kept has no byte 10 and no blank at either end, and with its keyword it isn't too long
abbrev pub is_kept : List ℕ → List ℕ → Bool
is_kept keyword value = nat_le (length keyword + length value) most_kept_bytes && list_all (λ b. not (b == 10)) value
    && not (is_blank (slice_index value 0)) && not (is_blank (slice_index value (length value - 1)))

-- an unknown keyword: a letter first, bytes that a keyword can have, and no word that TSPLIB or this project knows
abbrev pub is_unknown_keyword : List ℕ → Bool
is_unknown_keyword word = is_letter (slice_index word 0) && list_all is_keyword_byte word && is_unknown (keyword_of word)

-- the line of an unknown keyword, with a value that is kept
abbrev pub is_other : List ℕ × List ℕ → Bool
is_other line = is_unknown_keyword line.0 && is_kept line.0 line.1

-- the values of COMMENT lines
abbrev pub are_comments : List (List ℕ) → Bool
are_comments comments = nat_le (length comments) most_comments && list_all (is_kept (field_word CommentKey)) comments

-- the lines of unknown keywords
abbrev pub are_others : List (List ℕ × List ℕ) → Bool
are_others others = nat_le (length others) most_others && list_all is_other others

-- ---- numbers

-- an integer in a range
abbrev pub is_from_to : ℤ → ℤ → ℤ → Bool
is_from_to low high z = int_le low z && int_le z high

-- an integer of at most this size
abbrev pub is_within : ℕ → ℤ → Bool
is_within most z = is_from_to (neg_ℤ (pos most)) (pos most) z

-- a node of 1..n
abbrev pub is_node : ℕ → ℕ → Bool
is_node n node = nat_le 1 node && nat_le node n

-- ---- sections

-- a section whose test depends on the number of nodes; without DIMENSION none is valid
abbrev pub with_dimension : {A : Type 0} → (ℕ → A → Bool) → Option ℕ → A → Bool
with_dimension fits None x = false
with_dimension fits (Some n) x = fits n x

-- one entry for each node, each of them valid
abbrev pub is_by_node : {A : Type 0} → (A → Bool) → ℕ → List A → Bool
is_by_node fits n xs = length xs == n && list_all fits xs

-- the third coordinate of a point: 0 in a file that isn't spatial
abbrev pub is_third : Bool → ℤ → Bool
is_third in_space z = cond in_space (is_within most_coordinate z) (int_eq z (pos 0))

-- a point of a spatial file, or of another
abbrev pub is_point : Bool → Point → Bool
is_point in_space point = is_within most_coordinate point.x && is_within most_coordinate point.y && is_third in_space point.z

-- a demand from 0 to the limit
abbrev pub is_demand : ℤ → Bool
is_demand demand = is_from_to (pos 0) (pos most_demand) demand

-- depots that are nodes, and as many as the limit allows
abbrev pub are_depots : ℕ → List ℕ → Bool
are_depots n depots = nat_le (length depots) most_depots && list_all (is_node n) depots

-- two different nodes
abbrev pub is_pair_of : ℕ → ℕ × ℕ → Bool
is_pair_of n pair = is_node n pair.0 && is_node n pair.1 && not (pair.0 == pair.1)

-- fixed pairs of nodes, as many as the limit allows
abbrev pub are_fixed : ℕ → List (ℕ × ℕ) → Bool
are_fixed n pairs = nat_le (length pairs) most_fixed && list_all (is_pair_of n) pairs

-- two different nodes, and a number that a multiplier may have
abbrev pub is_triple_of : ℕ → ℕ × ℕ × ℤ → Bool
is_triple_of n triple = is_pair_of n (triple.0, triple.1) && is_from_to (pos 0) (pos most_multiplier) triple.2

-- multipliers of fixed pairs of nodes, as many as the limit allows
abbrev pub are_triples : ℕ → List (ℕ × ℕ × ℤ) → Bool
are_triples n triples = nat_le (length triples) most_triples && list_all (is_triple_of n) triples

-- weights within their limit, at most one for each pair of nodes
abbrev pub fit_matrix : ℕ → List ℤ → Bool
fit_matrix n weights = nat_le n most_matrix_nodes && nat_le (length weights) (n * n) && list_all (is_within most_weight) weights

-- a tour or route: not empty, and of nodes that some file can have
abbrev pub is_node_list : List ℕ → Bool
is_node_list tour = nat_le 1 (length tour) && list_all (is_node most_nodes) tour

-- tours that have as many nodes in all as the limit allows
abbrev pub are_tours : List (List ℕ) → Bool
are_tours tours = list_all is_node_list tours && nat_le (sum_by length tours) most_tour_nodes

-- a set of nodes, not empty
abbrev pub is_set_of : ℕ → List ℕ → Bool
is_set_of n set = nat_le 1 (length set) && list_all (is_node n) set

-- the sets of a family, one at least, the handle first; whether they are a comb is judged later
abbrev pub are_sets : ℕ → List (List ℕ) → Bool
are_sets n family = nat_le 1 (length family) && list_all (is_set_of n) family

-- families of sets of nodes, as many as the limits allow
abbrev pub are_family_lists : ℕ → List (List (List ℕ)) → Bool
are_family_lists n families = nat_le (length families) most_families && list_all (are_sets n) families
    && nat_le (sum_by (sum_by length) families) most_family_nodes

-- lists of nodes, none of them empty, with as many nodes as the limit allows; whether they are a memory is judged later
abbrev pub are_memory_lists : ℕ → List (List ℕ) → Bool
are_memory_lists n lists = list_all (is_set_of n) lists && nat_le (sum_by length lists) most_family_nodes

-- a subset row: a set of nodes, not empty, and further nodes; whether it is one of customers is judged later
abbrev pub is_row_of : ℕ → SubsetRow → Bool
is_row_of n row = is_set_of n row.set && list_all (is_node n) row.further

-- subset rows, as many as the limits allow
abbrev pub are_subset_rows : ℕ → List SubsetRow → Bool
are_subset_rows n rows = nat_le (length rows) most_rows && list_all (is_row_of n) rows
    && nat_le (sum_by row_size rows) most_family_nodes

-- an index of a node, of some family or of some row, and a difference within its limit
abbrev pub is_change : ℕ → ℕ × ℤ → Bool
is_change n change = is_node (n + most_families + most_rows) change.0 && is_within most_difference change.1

-- a branch on two different nodes, or on some family and a number of 1..n
abbrev pub is_branch_of : ℕ → ℕ × ℕ → Bool
is_branch_of n branch = is_node (n + most_families) branch.0 && is_node n branch.1 && not (branch.0 == branch.1)

-- a branch or a leaf whose numbers are in their ranges
abbrev pub is_step : ℕ → Step → Bool
is_step n (Branch first second) = is_branch_of n (first, second)
is_step n (Leaf changes) = list_all (is_change n) changes

-- the steps of one whole tree, as many as the limits allow
abbrev pub are_tree_steps : ℕ → List Step → Bool
are_tree_steps n steps = list_all (is_step n) steps && nat_le (branch_count steps) most_branches
    && nat_le (change_count steps) most_changes && are_whole 1 steps

-- ---- all fields

-- the value of a keyword is valid, by what it is read as; a value from a list of words always is
abbrev pub value_fits : Fields → Field → Option ValueShape → Bool
value_fits f field None = true
value_fits f field (Some Kept) = true
value_fits f field (Some KeptEach) = true
value_fits f field (Some (Number low high)) = if_there (is_from_to low high) (one_number_in f field)
value_fits f field (Some Word) = true

-- a section of this shape is valid
abbrev pub section_fits : Fields → Field → Shape → Bool
section_fits f field (Numbers low high) =
    if_there (with_dimension (is_by_node (is_from_to low high)) f.dimension) (numbers_in f field)
section_fits f field Points = if_there (with_dimension (is_by_node (is_point false)) f.dimension) (points_in f field)
section_fits f field SpacePoints = if_there (with_dimension (is_by_node (is_point true)) f.dimension) (points_in f field)
section_fits f field Depots = if_there (with_dimension are_depots f.dimension) f.depots
section_fits f field Pairs = if_there (with_dimension are_fixed f.dimension) f.fixed
section_fits f field Weights = if_there (with_dimension fit_matrix f.dimension) f.weights
section_fits f field Tours = if_there are_tours f.tours
section_fits f field Triples = if_there (with_dimension are_triples f.dimension) f.fixed_potentials
section_fits f field Families = if_there (with_dimension are_family_lists f.dimension) f.families
section_fits f field Memories = if_there (with_dimension are_memory_lists f.dimension) f.memories
section_fits f field SubsetRows = if_there (with_dimension are_subset_rows f.dimension) f.subset_rows
section_fits f field Steps = if_there (with_dimension are_tree_steps f.dimension) f.branches

-- the field is valid on its own
abbrev pub fits : Fields → Field → Bool
fits f NameKey = if_there (is_kept (field_word NameKey)) f.name
fits f CommentKey = are_comments f.comments
fits f OtherKey = are_others f.others
fits f DimensionKey = if_there (is_node most_nodes) f.dimension
fits f field = option_map_or (section_fits f field) (shape_of (spatial f) field) (value_fits f field (value_shape_of field))

-- the first field of a list that fails the test
abbrev pub first_failing : (Field → Bool) → List Field → Option Field
first_failing test fields = find (λ field. not (test field)) fields

-- the first field, in canonical order, that is not valid on its own
abbrev pub bad_field : Fields → Option Field
bad_field f = first_failing (fits f) fields_in_order
