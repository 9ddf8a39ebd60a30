-- Circle 2 of docs/trust.md.
-- Sections whose words come in groups, by node or in lists that -1 ends, and the sets of families: which group a word
-- belongs to, and what the whole groups mean. ParsesTo.antt takes the values of a file's fields from here, and the
-- lists of tsp_read are proved to hold them.
use Rattle.tsp_text.specs.Prelude.{list_any, fold, ℕ, Bool, cond, nat_le, List, [], length, map, take, get_or, Option, None, Some, ℤ, pos, unwrap_or, nat_abs, true, false, decimal_of, whole_of, most_multiplier, shape_of, Field}
use Rattle.std.specs.List.Sorted.{IsPermutation}
use Rattle.std.specs.Ordering.{int_eq}
use Rattle.std.specs.Prelude.{◌+◌, ◌*◌, ◌==◌, ◌∷◌, ◌++◌, ◌||◌}
use Rattle.tsp_number.specs.Distances.{on_plane}
use Rattle.tsp_number.specs.declared.decimal.Point.{Point}
use Rattle.tsp_format.specs.Nodes.{nodes_to}
use Rattle.tsp_format.specs.declared.keyword.Shape.{Shape}
use Rattle.tsp_format.specs.declared.keyword.Shape.TheVariants.{Numbers, Points, SpacePoints}
use Rattle.tsp_file.specs.Cost.{origin}
use Rattle.tsp_text.specs.Items.{is_not_empty}
use Rattle.tsp_text.specs.SectionWords.{number, node, Place, NodeAfter, Coordinate, Amount, PastGroups, node_or_end, is_end, DepotAfter, FirstAfter, SecondOf, PastEnd, SetNode}

-- ---- words in groups

-- the whole groups of `size` words each; `begun` has the words of a group that isn't whole
abbrev pub groups_after : {A : Type 0} → ℕ → List A → List A → List (List A)
groups_after size begun [] = []
groups_after size begun (word ∷ words) = cond (length begun + 1 == size)
    ((begun ++ word ∷ []) ∷ groups_after size [] words) (groups_after size (begun ++ word ∷ []) words)

-- the words of the group that isn't whole after these words
abbrev pub begun_after : {A : Type 0} → ℕ → List A → List A → List A
begun_after size begun [] = begun
begun_after size begun (word ∷ words) = begun_after size (cond (length begun + 1 == size) [] (begun ++ word ∷ [])) words

-- the whole groups of all words of a section
abbrev pub groups_in : {A : Type 0} → ℕ → List A → List (List A)
groups_in size words = groups_after size [] words

-- the words of its last group, which isn't whole
abbrev pub begun_in : {A : Type 0} → ℕ → List A → List A
begun_in size words = begun_after size [] words

-- the word of a group at this index, from 0 on
abbrev pub word_at : List (List ℕ) → ℕ → List ℕ
word_at group i = get_or group i []

-- ---- groups as numbers: a node with its value

-- the first n groups, each as its node and its value; words after them are in no group
abbrev pub node_groups : {X : Type 0} → ℕ → (List (List ℕ) → X) → ℕ → List (List ℕ) → List (ℤ × X)
node_groups size value n words =
    map (λ group. (number (node n (word_at group 0)), value group)) (groups_in size (take (size * n) words))

-- the number of a group of two words
abbrev pub number_value : ℤ → ℤ → List (List ℕ) → ℤ
number_value low high group = number (whole_of (word_at group 1) low high)

-- the nodes with their numbers
abbrev pub number_groups : ℤ → ℤ → ℕ → List (List ℕ) → List (ℤ × ℤ)
number_groups low high n words = node_groups 2 (number_value low high) n words

-- a coordinate of a group
abbrev pub coordinate_at : List (List ℕ) → ℕ → ℤ
coordinate_at group i = number (decimal_of (word_at group i))

-- the point of a group of three words
abbrev pub point_in : List (List ℕ) → Point
point_in group = on_plane (coordinate_at group 1) (coordinate_at group 2)

-- the nodes with their points in the plane
abbrev pub point_groups : ℕ → List (List ℕ) → List (ℤ × Point)
point_groups n words = node_groups 3 point_in n words

-- the point of a group of four words
abbrev pub space_point_in : List (List ℕ) → Point
space_point_in group = record { x = coordinate_at group 1; y = coordinate_at group 2; z = coordinate_at group 3 }

-- the nodes with their points in space
abbrev pub space_point_groups : ℕ → List (List ℕ) → List (ℤ × Point)
space_point_groups n words = node_groups 4 space_point_in n words

-- the value of a node: that of its first group
abbrev pub entry_of : {X : Type 0} → List (ℤ × X) → ℤ → Option X
entry_of [] z = None
entry_of (group ∷ groups) z = cond (int_eq group.0 z) (Some group.1) (entry_of groups z)

-- The values by node, from 1 to n; `missing` is that of a node without a group. (A section that lacks a node is
-- incomplete, which is a fault.)
abbrev pub by_node : {X : Type 0} → X → ℕ → List (ℤ × X) → List X
by_node missing n groups = map (λ i. unwrap_or (entry_of groups (pos i)) missing) (nodes_to n)

-- the numbers by node
abbrev pub numbers_by_node : ℤ → ℤ → ℕ → List (List ℕ) → List ℤ
numbers_by_node low high n words = by_node (pos 0) n (number_groups low high n words)

-- the points by node, in the plane
abbrev pub points_by_node : ℕ → List (List ℕ) → List Point
points_by_node n words = by_node origin n (point_groups n words)

-- the points by node, in space
abbrev pub space_points_by_node : ℕ → List (List ℕ) → List Point
space_points_by_node n words = by_node origin n (space_point_groups n words)

-- the points by node, in a spatial file or another
abbrev pub coords_by_node : Bool → ℕ → List (List ℕ) → List Point
coords_by_node in_space n words = cond in_space (space_points_by_node n words) (points_by_node n words)

-- ---- the place of the next word

-- the next word is a node, after whole groups of these nodes; in a group that isn't whole it is a number
abbrev pub place_in_group : Place → List ℤ → List (List ℕ) → Place
place_in_group number_place nodes [] = NodeAfter nodes
place_in_group number_place nodes (word ∷ begun) = number_place

-- the nodes of these groups
abbrev pub nodes_of_groups : {X : Type 0} → List (ℤ × X) → List ℤ
nodes_of_groups groups = map (λ group. group.0) groups

-- the place of the next word: in a group, or after all n groups
abbrev pub place_by_node : {X : Type 0} → ℕ → Place → List (ℤ × X) → ℕ → List (List ℕ) → Place
place_by_node size number_place groups n words = cond (nat_le (size * n) (length words)) PastGroups
    (place_in_group number_place (nodes_of_groups groups) (begun_in size words))

-- the same in a section of numbers
abbrev pub place_of_number : ℤ → ℤ → ℕ → List (List ℕ) → Place
place_of_number low high n words = place_by_node 2 (Amount low high) (number_groups low high n words) n words

-- the same in a section of points in the plane
abbrev pub place_of_point : ℕ → List (List ℕ) → Place
place_of_point n words = place_by_node 3 Coordinate (point_groups n words) n words

-- the same in a section of points in space
abbrev pub place_of_space_point : ℕ → List (List ℕ) → Place
place_of_space_point n words = place_by_node 4 Coordinate (space_point_groups n words) n words

-- ---- sections that -1 ends

-- the elements before the first that passes the test
abbrev pub before : {A : Type 0} → (A → Bool) → List A → List A
before test [] = []
before test (x ∷ xs) = cond (test x) [] (x ∷ before test xs)

-- ---- depots

-- the depots: the words before the first -1
abbrev pub depots_in : ℕ → List (List ℕ) → List ℕ
depots_in n words = map (λ word. nat_abs (number (node_or_end n word))) (before (is_end n) words)

-- the place of the next word
abbrev pub place_of_depot : ℕ → List (List ℕ) → Place
place_of_depot n words = cond (list_any (is_end n) words) PastEnd (DepotAfter (length words))

-- ---- groups

-- the groups before the first whose first word is -1
abbrev pub listed_in : ℕ → ℕ → List (List ℕ) → List (List (List ℕ))
listed_in size n words = before (λ group. is_end n (word_at group 0)) (groups_in size words)

-- the first word of each group, also of one that isn't whole
abbrev pub firsts_in : ℕ → List (List ℕ) → List (List ℕ)
firsts_in size words = map (λ group. word_at group 0) (groups_in size words) ++ take 1 (begun_in size words)

-- the place of the next word; before the -1 it depends on how many groups are whole, and on the words of one that isn't
abbrev pub place_in_list : ℕ → (ℕ → List (List ℕ) → Place) → ℕ → List (List ℕ) → Place
place_in_list size in_group n words = cond (list_any (is_end n) (firsts_in size words)) PastEnd
    (in_group (length (groups_in size words)) (begun_in size words))

-- ---- fixed pairs

-- the two nodes that a group of two words is read as
abbrev pub fixed_pair : ℕ → List (List ℕ) → ℕ × ℕ
fixed_pair n pair = (nat_abs (number (node_or_end n (word_at pair 0))), nat_abs (number (node n (word_at pair 1))))

-- the fixed pairs
abbrev pub fixed_in : ℕ → List (List ℕ) → List (ℕ × ℕ)
fixed_in n words = map (fixed_pair n) (listed_in 2 n words)

-- the next word is the first node of a pair, or its second one
abbrev pub place_in_pair : ℕ → ℕ → List (List ℕ) → Place
place_in_pair n count [] = FirstAfter count
place_in_pair n count (first ∷ begun) = SecondOf (number (node_or_end n first))

-- the place of the next word among fixed pairs
abbrev pub place_of_fixed : ℕ → List (List ℕ) → Place
place_of_fixed n words = place_in_list 2 (place_in_pair n) n words

-- ---- multipliers of fixed edges

-- the two nodes and the multiplier that a group of three words is read as
abbrev pub fixed_triple : ℕ → List (List ℕ) → ℕ × ℕ × ℤ
fixed_triple n triple = (
  nat_abs (number (node_or_end n (word_at triple 0))),
  nat_abs (number (node n (word_at triple 1))),
  number (whole_of (word_at triple 2) (pos 0) (pos most_multiplier)),
)

-- the multipliers of fixed pairs
abbrev pub fixed_triples_in : ℕ → List (List ℕ) → List (ℕ × ℕ × ℤ)
fixed_triples_in n words = map (fixed_triple n) (listed_in 3 n words)

-- the next word is the first node of a triple, its second one, or its multiplier
abbrev pub place_in_triple : ℕ → ℕ → List (List ℕ) → Place
place_in_triple n count [] = FirstAfter count
place_in_triple n count (first ∷ []) = SecondOf (number (node_or_end n first))
place_in_triple n count (first ∷ second ∷ begun) = Amount (pos 0) (pos most_multiplier)

-- the place of the next word among multipliers
abbrev pub place_of_triple : ℕ → List (List ℕ) → Place
place_of_triple n words = place_in_list 3 (place_in_triple n) n words

-- ---- the nodes of the groups in a section by node, and that each node has one group

-- a section of this shape has a group for each node
abbrev pub has_groups : Option Shape → Bool
has_groups (Some (Numbers low high)) = true
has_groups (Some Points) = true
has_groups (Some SpacePoints) = true
has_groups shape = false

-- the section is one by node
abbrev pub is_by_node_field : Field → Bool
is_by_node_field field = has_groups (shape_of false field)

-- the nodes of the groups of such a section with n nodes, as they are read
abbrev pub nodes_by : Option Shape → ℕ → List (List ℕ) → List ℤ
nodes_by (Some (Numbers low high)) n words = nodes_of_groups (number_groups low high n words)
nodes_by (Some Points) n words = nodes_of_groups (point_groups n words)
nodes_by (Some SpacePoints) n words = nodes_of_groups (space_point_groups n words)
nodes_by shape n words = []

-- the same for a section, in a spatial file or in another
abbrev pub group_nodes : Bool → Field → ℕ → List (List ℕ) → List ℤ
group_nodes in_space field n words = nodes_by (shape_of in_space field) n words

-- the nodes are 1..n, each once, in any order
abbrev pub HasEachNodeOnce : ℕ → List ℤ → Type 0
HasEachNodeOnce n nodes = IsPermutation nodes (map (λ k. pos k) (nodes_to n))

-- ---- COMB_SECTION, this project's own: its words, as families of sets of nodes

-- the contents after some words of the section
pub record FamiliesSoFar : Type 0 where
  -- the whole families
  pub families : List (List (List ℕ))
  -- of a family that has begun the whole sets, and of a set that has begun the nodes
  pub sets : List (List ℕ)
  pub nodes : List ℕ
  -- how many nodes came in all
  pub count : ℕ
  -- whether the section has ended
  pub ended : Bool

-- the contents before the first word
abbrev pub no_families : FamiliesSoFar
no_families = record { families = []; sets = []; nodes = []; count = 0; ended = false }

-- ---- one word more

-- the node that a word is read as
abbrev pub family_node : ℕ → List ℕ → ℕ
family_node n word = nat_abs (number (node_or_end n word))

-- a node: the next one of the set that isn't whole, or the first of a new set
abbrev pub with_node : FamiliesSoFar → ℕ → FamiliesSoFar
with_node so_far node = record so_far { nodes = so_far.nodes ++ node ∷ []; count = so_far.count + 1 }

-- the end of a set
abbrev pub with_set : FamiliesSoFar → FamiliesSoFar
with_set so_far = record so_far { sets = so_far.sets ++ so_far.nodes ∷ []; nodes = [] }

-- the end of a family
abbrev pub with_family : FamiliesSoFar → FamiliesSoFar
with_family so_far = record so_far { families = so_far.families ++ so_far.sets ∷ []; sets = [] }

-- a -1: it ends the set that isn't whole; if there is none, the family; if there is none, the section
abbrev pub with_end : FamiliesSoFar → FamiliesSoFar
with_end so_far = cond (is_not_empty so_far.nodes) (with_set so_far)
    (cond (is_not_empty so_far.sets) (with_family so_far) (record so_far { ended = true }))

-- a word; after the end of the section nothing changes
abbrev pub with_family_word : ℕ → FamiliesSoFar → List ℕ → FamiliesSoFar
with_family_word n so_far word =
    cond so_far.ended so_far (cond (is_end n word) (with_end so_far) (with_node so_far (family_node n word)))

-- ---- all words

-- the contents after all these words
abbrev pub families_after : ℕ → List (List ℕ) → FamiliesSoFar
families_after n words = fold (with_family_word n) no_families words

-- the families that are whole
abbrev pub whole_families : ℕ → List (List ℕ) → List (List (List ℕ))
whole_families n words = (families_after n words).families

-- ---- the place of the next word

-- a family has begun that isn't whole
abbrev pub has_begun_family : FamiliesSoFar → Bool
has_begun_family so_far = is_not_empty so_far.nodes || is_not_empty so_far.sets

-- the place of the next word, by the contents
abbrev pub place_in_families : FamiliesSoFar → Place
place_in_families so_far = cond so_far.ended PastEnd (SetNode (has_begun_family so_far) (length so_far.families) so_far.count)

-- the place of the next word, by the words before it
abbrev pub place_of_family : ℕ → List (List ℕ) → Place
place_of_family n words = place_in_families (families_after n words)
