-- How the list of an open section takes one more word (`Takes`), and what the list holds in between, such as a node
-- whose second coordinate is still to come. Every list promises `Takes`, for example in `src/node_sections.rt` and
-- `src/list_sections.rt`; `specs/states/HeldParts.antt` says by the rest what a filled list means. You may change the
-- rest with the lists.
use Rattle.tsp_read.specs.Prelude.{ℕ, ℤ, pos, negsuc, Bool, true, false, not, List, [], length, map, slice_index_or, Option, None, Some, is_some, unwrap_or, Result, Ok, Err, option_map, filter, slice_split, list_any, decimal_of, is_not_empty, node, node_or_end, is_end, Place, weights_in, ends_tour, tour_node, tours_in, groups_in, begun_in, node_groups, number_value, point_in, space_point_in, entry_of, depots_in, listed_in, firsts_in, fixed_pair, fixed_triple, word_fault}
use Rattle.std.specs.Prelude.{◌≡◌, ◌+◌, ◌*◌, ◌<◌, ◌≤◌, ◌-◌, ◌∷◌, ◌++◌}
use Rattle.tsp_number.specs.declared.decimal.Point.{Point}
use Rattle.tsp_number.specs.declared.number_word.NumberFault.{NumberFault}
use Rattle.tsp_file.specs.declared.coords.Coords.{Coords}
use Rattle.tsp_file.specs.declared.coords.Coords.TheVariants.{Plane, Space}
use Rattle.tsp_file.specs.Cost.{origin}
use Rattle.tsp_text.specs.declared.fault.LineFault.{LineFault}
use Rattle.tsp_text.specs.declared.fault.LineFault.TheVariants as row
use Rattle.tsp_read.specs.declared.step_fault.StepFault.{StepFault}
use Rattle.tsp_read.specs.declared.step_fault.StepFault.TheVariants as steps

-- ---- a word at its place

-- The result for a word at this place: it has no fault and `Held` holds, or it has this fault; or memory was refused.
abbrev pub Takes : ℕ → Place → List ℕ → Type 0 → Result (Unit {0}) StepFault → Type 0
Takes n place word Held (Ok done) = (word_fault n place word ≡ None) × Held
Takes n place word Held (Err (steps.Memory refused)) = Unit {0}
Takes n place word Held (Err (steps.Fault fault)) = word_fault n place word ≡ Some fault

-- ---- the numbers that nodes are read as

-- a node as an integer
abbrev pub as_number : Result ℕ NumberFault → Result ℤ NumberFault
as_number (Ok k) = Ok (pos k)
as_number (Err fault) = Err fault

-- a node as an integer; None is the -1 that ends a list
abbrev pub as_node_or_end : Result (Option ℕ) NumberFault → Result ℤ NumberFault
as_node_or_end (Ok (Some k)) = Ok (pos k)
as_node_or_end (Ok None) = Ok (negsuc 0)
as_node_or_end (Err fault) = Err fault

-- an index as an integer; None is the 0 that begins a leaf
abbrev pub as_index_or_leaf : Result (Option ℕ) NumberFault → Result ℤ NumberFault
as_index_or_leaf (Ok (Some k)) = Ok (pos k)
as_index_or_leaf (Ok None) = Ok (pos 0)
as_index_or_leaf (Err fault) = Err fault

-- the words of a group that isn't whole are read as these numbers, one after the other, and there is no other number
abbrev pub AreReadAs : List (List ℕ → Result ℤ NumberFault) → List (Option ℤ) → List (List ℕ) → Type 0
AreReadAs [] [] [] = Unit {0}
AreReadAs (read ∷ reads) (None ∷ kept) [] = AreReadAs reads kept []
AreReadAs (read ∷ reads) (Some z ∷ kept) (word ∷ words) = (read word ≡ Ok z) × AreReadAs reads kept words
AreReadAs reads kept words = ⊥

-- k is a node of 1..n
abbrev pub IsNodeOf : ℕ → ℕ → Type 0
IsNodeOf n k = (1 ≤ k) × (k ≤ n)

-- ---- by-node sections

-- For n nodes: the marks of those that have a group, their entries, how many groups are to come, and the node of a
-- group that isn't whole, all as the whole groups so far say.
pub record NodesHold {X : Type 0} (missing : X) (seen : List Bool) (entries : List X) (left : ℕ) (begun : Option ℕ) (n : ℕ)
    (groups : List (ℤ × X)) : Type 0 where
  pub wide : length seen ≡ n
  pub sized : length entries ≡ n
  pub to_come : length groups + left ≡ n
  pub within : (k : ℕ) → begun ≡ Some k → IsNodeOf n k
  pub fresh : (k : ℕ) → begun ≡ Some k → entry_of groups (pos k) ≡ None
  pub marks : (i : ℕ) → i < n → slice_index_or seen i false ≡ is_some (entry_of groups (pos (i + 1)))
  pub filled : (i : ℕ) → i < n → slice_index_or entries i missing ≡ unwrap_or (entry_of groups (pos (i + 1))) missing

-- the node of a new group: one of 1..n without a mark, or a fault
abbrev pub IsNewNode : List Bool → List ℕ → Result ℕ LineFault → Type 0
IsNewNode seen word (Ok k) = (node (length seen) word ≡ Ok (pos k)) × IsNodeOf (length seen) k
    × (slice_index_or seen (k - 1) false ≡ false)
IsNewNode seen word (Err (row.Number fault)) = node (length seen) word ≡ Err fault
IsNewNode seen word (Err row.RepeatedNode) = (k : ℕ) × (node (length seen) word ≡ Ok (pos k)) × IsNodeOf (length seen) k
    × (slice_index_or seen (k - 1) false ≡ true)
IsNewNode seen word (Err fault) = ⊥

-- The same by the words of a section: groups of this size, with a node and the words of its value. Of a group that
-- isn't whole the part has the node, and the numbers after it.
pub record GroupsHold {X : Type 0} (size : ℕ) (value : List (List ℕ) → X) (missing : X) (reads : List (List ℕ → Result ℤ NumberFault))
    (seen : List Bool) (entries : List X) (left : ℕ) (begun : Option ℕ) (kept : List (Option ℤ)) (n : ℕ)
    (words : List (List ℕ)) : Type 0 where
  pub nodes : NodesHold missing seen entries left begun n (node_groups size value n words)
  pub cut : 0 < left → AreReadAs (node n ∷ reads) (option_map pos begun ∷ kept) (begun_in size words)
  pub open_ended : 0 < left → length words < size * n
  pub full : left ≡ 0 → size * n ≤ length words

-- a section by node with numbers of this range
abbrev pub NumbersHold : List Bool → List ℤ → ℕ → Option ℕ → ℤ → ℤ → ℕ → List (List ℕ) → Type 0
NumbersHold seen entries left begun low high n words =
    GroupsHold 2 (number_value low high) (pos 0) [] seen entries left begun [] n words

-- a section of points in the plane
abbrev pub PointsHold : List Bool → List Point → ℕ → Option ℕ → Option ℤ → ℕ → List (List ℕ) → Type 0
PointsHold seen entries left begun x n words =
    GroupsHold 3 point_in origin (decimal_of ∷ []) seen entries left begun (x ∷ []) n words

-- a section of points in space
abbrev pub SpacePointsHold : List Bool → List Point → ℕ → Option ℕ → Option ℤ → Option ℤ → ℕ → List (List ℕ) → Type 0
SpacePointsHold seen entries left begun x y n words =
    GroupsHold 4 space_point_in origin (decimal_of ∷ decimal_of ∷ []) seen entries left begun (x ∷ y ∷ []) n words

-- a section of points, in space or in the plane
abbrev pub CoordsHold : Bool → List Bool → List Point → ℕ → Option ℕ → Option ℤ → Option ℤ → ℕ → List (List ℕ) → Type 0
CoordsHold false seen entries left begun x y n words = PointsHold seen entries left begun x n words
CoordsHold true seen entries left begun x y n words = SpacePointsHold seen entries left begun x y n words

-- whether the points of a list are in space
abbrev pub are_in_space : Coords → Bool
are_in_space (Plane points) = false
are_in_space (Space points) = true

-- ---- lists that -1 ends

-- the depots so far, and whether the list has ended
pub record DepotsHold (depots : List ℕ) (ended : Bool) (n : ℕ) (words : List (List ℕ)) : Type 0 where
  pub list : depots ≡ depots_in n words
  pub closed : ended ≡ list_any (is_end n) words
  pub count : ended ≡ false → length depots ≡ length words

-- The whole groups of this size so far, and whether a first word -1 has ended the list. Of a group that isn't whole the
-- part has the first node, and the numbers after it.
pub record ListHolds {X : Type 0} (size : ℕ) (value : List (List ℕ) → X) (reads : List (List ℕ → Result ℤ NumberFault))
    (groups : List X) (first : Option ℕ) (kept : List (Option ℤ)) (ended : Bool) (n : ℕ) (words : List (List ℕ)) : Type 0 where
  pub list : groups ≡ map value (listed_in size n words)
  pub closed : ended ≡ list_any (is_end n) (firsts_in size words)
  pub cut : ended ≡ false → AreReadAs (node_or_end n ∷ reads) (option_map pos first ∷ kept) (begun_in size words)
  pub count : ended ≡ false → length groups ≡ length (groups_in size words)
  pub whole : ended ≡ true → first ≡ None

-- fixed pairs
abbrev pub PairsHold : List (ℕ × ℕ) → Option ℕ → Bool → ℕ → List (List ℕ) → Type 0
PairsHold pairs first ended n words = ListHolds 2 (fixed_pair n) [] pairs first [] ended n words

-- multipliers of fixed pairs
abbrev pub TriplesHold : List (ℕ × ℕ × ℤ) → Option ℕ → Option ℕ → Bool → ℕ → List (List ℕ) → Type 0
TriplesHold triples first second ended n words =
    ListHolds 3 (fixed_triple n) (node n ∷ []) triples first (option_map pos second ∷ []) ended n words

-- ---- weights

-- the weights so far, at most one for each pair of nodes
pub record WeightsHold (weights : List ℤ) (most : ℕ) (n : ℕ) (words : List (List ℕ)) : Type 0 where
  pub list : weights ≡ weights_in words
  pub room : most ≡ n * n
  pub few : length words ≤ n * n

-- ---- tours

-- the tours that have ended, the nodes of the open one, and how many nodes came
pub record ToursHold (done : List (List ℕ)) (run : List ℕ) (count : ℕ) (words : List (List ℕ)) : Type 0 where
  pub pieces : List (List (List ℕ))
  pub last : List (List ℕ)
  pub split : slice_split ends_tour words ≡ pieces ++ last ∷ []
  pub tours : done ≡ map (map tour_node) (filter is_not_empty pieces)
  pub rest : run ≡ map tour_node last
  pub nodes : count ≡ length (filter (λ word. not (ends_tour word)) words)

-- the tour that was open is among the tours, and the next one has no node yet
pub record EndsRun (done : List (List ℕ)) (run : List ℕ) (words : List (List ℕ)) : Type 0 where
  pub tours : done ≡ tours_in words
  pub rest : run ≡ []
