-- Circle 2 of docs/trust.md.
-- The words of a section one by one: what may come at each place, and the numbers that the words are read as. Here for
-- tours, weights, and the steps of a tree, which src/list_sections.rt and src/tree_sections.rt in tsp_read promise to
-- read so. FaultRows.antt says what is a fault.
use Rattle.tsp_text.specs.Prelude.{slice_split, filter, fold, ℕ, ℤ, Bool, List, false, cond, Result, Ok, Err, pos, negsuc, neg_ℤ, codes, not, length, map, nat_abs, nat_le, true, [], Option, None, Some, whole_of, NumberFault, most_nodes, most_weight, most_families, most_rows, most_difference}
use Rattle.std.specs.Ordering.{int_eq}
use Rattle.std.specs.Prelude.{◌≡◌, ◌≤ℤ◌, ◌*◌, ◌+◌, ◌-◌, ◌==◌, ◌∷◌, ◌++◌}
use Rattle.std.specs.Result.{result_unwrap_or}
use Rattle.std.specs.Str.{bytes_eq}
use Rattle.tsp_number.specs.declared.number_word.NumberFault.TheVariants.{OutOfRange}
use Rattle.tsp_format.specs.Steps.{Step, Branch, Leaf}
use Rattle.tsp_text.specs.Items.{is_not_empty}

-- a place, with the numbers on which its faults depend
pub data Place : Type 0 where
  -- by-node sections: a group's node, after groups of these nodes; a coordinate; a whole number of this range, which a
  -- triple has too; past the last group, or past a whole tree
  NodeAfter : (nodes : List ℤ) → Place
  Coordinate : Place
  Amount : (low high : ℤ) → Place
  PastGroups : Place
  -- lists that -1 ends: a depot, after this many; the first node of a pair or a triple, after this many of them (the
  -- most of either is the same); its second node, after this one; past the -1
  DepotAfter : (count : ℕ) → Place
  FirstAfter : (count : ℕ) → Place
  SecondOf : (first : ℤ) → Place
  PastEnd : Place
  -- a weight, and past the last one
  Weight : Place
  PastWeights : Place
  -- a node of the tours, after this many, or a -1
  TourNode : (count : ℕ) → Place
  -- families and subset rows: a node of a set, or a -1, by whether a family or row has begun, after this many whole ones
  -- (the most of either is the same) and nodes in all; so too a memory, of which no whole lists are counted
  SetNode : (begun : Bool) (families count : ℕ) → Place
  -- a tree of cases: the first word of a step, after this many branches (the second node of a branch is as that of a
  -- pair); an index of a leaf, or its -1, after this many of all leaves (its difference is a whole number of a range)
  StepAfter : (branches : ℕ) → Place
  IndexAfter : (count : ℕ) → Place

-- ---- the numbers that words of a section are read as

-- The number that is read. A word that isn't read counts as 0: its text has a fault, and parses to no file.
abbrev pub number : Result ℤ NumberFault → ℤ
number r = result_unwrap_or r (pos 0)

-- the word is read as this number
abbrev pub reads_as : ℤ → Result ℤ NumberFault → Bool
reads_as z (Ok y) = int_eq y z
reads_as z (Err fault) = false

-- the word is read as this whole number, wherever that is in range
abbrev pub IsWhole : List ℕ → ℤ → Type 0
IsWhole word z = (low high : ℤ) → low ≤ℤ z → z ≤ℤ high → whole_of word low high ≡ Ok z

-- a node of 1..n
abbrev pub node : ℕ → List ℕ → Result ℤ NumberFault
node n word = whole_of word (pos 1) (pos n)

-- a whole number of at most this size
abbrev pub whole_of_size : ℕ → List ℕ → Result ℤ NumberFault
whole_of_size most word = whole_of word (neg_ℤ (pos most)) (pos most)

-- 0 is out of range
abbrev pub not_zero : Result ℤ NumberFault → Result ℤ NumberFault
not_zero (Ok z) = cond (int_eq z (pos 0)) (Err OutOfRange) (Ok z)
not_zero (Err fault) = Err fault

-- a node of 1..n or the -1 that ends a list
abbrev pub node_or_end : ℕ → List ℕ → Result ℤ NumberFault
node_or_end n word = not_zero (whole_of word (negsuc 0) (pos n))

-- the word is the -1 that ends a list of nodes
abbrev pub is_end : ℕ → List ℕ → Bool
is_end n word = reads_as (negsuc 0) (node_or_end n word)

-- the word is the two bytes `-1`
abbrev pub is_minus_one : List ℕ → Bool
is_minus_one word = bytes_eq word (codes "-1")

-- ---- TOUR_SECTION: tours or routes, each ended by -1 (TSPLIB 95, G

-- the word is -1
abbrev pub ends_tour : List ℕ → Bool
ends_tour word = is_end most_nodes word

-- the node that a word is read as
abbrev pub tour_node : List ℕ → ℕ
tour_node word = nat_abs (number (node_or_end most_nodes word))

-- the lists of nodes between words -1, without empty ones
abbrev pub tours_in : List (List ℕ) → List (List ℕ)
tours_in words = map (map tour_node) (filter is_not_empty (slice_split ends_tour words))

-- the next word is a node or -1, after this many nodes
abbrev pub place_of_tour : List (List ℕ) → Place
place_of_tour words = TourNode (length (filter (λ word. not (ends_tour word)) words))

-- ---- EDGE_WEIGHT_SECTION

-- the numbers that all words of the section are read as
abbrev pub weights_in : List (List ℕ) → List ℤ
weights_in words = map (λ word. number (whole_of_size most_weight word)) words

-- the next word is a weight, as long as there are fewer than n * n
abbrev pub place_of_weight : ℕ → List (List ℕ) → Place
place_of_weight n words = cond (nat_le (n * n) (length words)) PastWeights Weight

-- ---- BRANCH_SECTION, this project's own

-- the contents after some words of the section
pub record TreeSoFar : Type 0 where
  -- the whole steps
  pub steps : List Step
  -- the first number of a branch that has begun; in a leaf the index of a difference that has begun
  pub first : Option ℕ
  -- whether a leaf has begun, and its whole differences
  pub in_leaf : Bool
  pub leaf : List (ℕ × ℤ)
  -- how many trees are still to come
  pub to_come : ℕ
  -- how many branches and differences have begun in all
  pub branches : ℕ
  pub changes : ℕ

-- the contents before the first word: one tree is to come
abbrev pub no_steps : TreeSoFar
no_steps = record { steps = []; first = None; in_leaf = false; leaf = []; to_come = 1; branches = 0; changes = 0 }

-- ---- what a word is read as

-- the first number of a step: the index of a node or of a family, or the 0 that begins a leaf
abbrev pub index_or_leaf : ℕ → List ℕ → Result ℤ NumberFault
index_or_leaf n word = whole_of word (pos 0) (pos (n + most_families))

-- the word is that 0
abbrev pub begins_leaf : ℕ → List ℕ → Bool
begins_leaf n word = reads_as (pos 0) (index_or_leaf n word)

-- an index of a node, of a family or of a subset row, or the -1 that ends a leaf
abbrev pub index_or_end : ℕ → List ℕ → Result ℤ NumberFault
index_or_end n word = node_or_end (n + most_families + most_rows) word

-- the word is that -1
abbrev pub ends_leaf : ℕ → List ℕ → Bool
ends_leaf n word = is_end (n + most_families + most_rows) word

-- ---- one word more

-- the first word of a step: a leaf begins, or a branch with its first number
abbrev pub with_first : ℕ → TreeSoFar → List ℕ → TreeSoFar
with_first n so_far word = cond (begins_leaf n word) (record so_far { in_leaf = true })
    (record so_far { first = Some (nat_abs (number (index_or_leaf n word))); branches = so_far.branches + 1 })

-- the second number of a branch: in place of its tree two are to come
abbrev pub with_second : ℕ → TreeSoFar → ℕ → List ℕ → TreeSoFar
with_second n so_far first word = record so_far {
  steps = so_far.steps ++ Branch first (nat_abs (number (node n word))) ∷ [];
  first = None;
  to_come = so_far.to_come + 1;
}

-- the leaf has ended, and with it a tree that was to come
abbrev pub with_leaf : TreeSoFar → TreeSoFar
with_leaf so_far =
    record so_far { steps = so_far.steps ++ Leaf so_far.leaf ∷ []; in_leaf = false; leaf = []; to_come = so_far.to_come - 1 }

-- a word in a leaf in place of an index: the end of the leaf, or an index
abbrev pub with_index : ℕ → TreeSoFar → List ℕ → TreeSoFar
with_index n so_far word = cond (ends_leaf n word) (with_leaf so_far)
    (record so_far { first = Some (nat_abs (number (index_or_end n word))); changes = so_far.changes + 1 })

-- the difference after an index
abbrev pub with_difference : TreeSoFar → ℕ → List ℕ → TreeSoFar
with_difference so_far index word =
    record so_far { leaf = so_far.leaf ++ (index, number (whole_of_size most_difference word)) ∷ []; first = None }

-- a word, by whether a leaf has begun, and whether a number is to come after another
abbrev pub with_word_of : ℕ → Bool → Option ℕ → TreeSoFar → List ℕ → TreeSoFar
with_word_of n false None so_far word = with_first n so_far word
with_word_of n false (Some first) so_far word = with_second n so_far first word
with_word_of n true None so_far word = with_index n so_far word
with_word_of n true (Some index) so_far word = with_difference so_far index word

-- a word; after the end of the tree nothing changes
abbrev pub with_tree_word : ℕ → TreeSoFar → List ℕ → TreeSoFar
with_tree_word n so_far word = cond (so_far.to_come == 0) so_far (with_word_of n so_far.in_leaf so_far.first so_far word)

-- ---- all words

-- the contents after all these words
abbrev pub tree_after : ℕ → List (List ℕ) → TreeSoFar
tree_after n words = fold (with_tree_word n) no_steps words

-- the steps that are whole
abbrev pub whole_steps : ℕ → List (List ℕ) → List Step
whole_steps n words = (tree_after n words).steps

-- ---- the place of the next word

-- the place of the next word, before the end of the tree
abbrev pub place_in_step : Bool → Option ℕ → TreeSoFar → Place
place_in_step false None so_far = StepAfter so_far.branches
place_in_step false (Some first) so_far = SecondOf (pos first)
place_in_step true None so_far = IndexAfter so_far.changes
place_in_step true (Some index) so_far = Amount (neg_ℤ (pos most_difference)) (pos most_difference)

-- the place of the next word, by the contents
abbrev pub place_in_tree : TreeSoFar → Place
place_in_tree so_far = cond (so_far.to_come == 0) PastGroups (place_in_step so_far.in_leaf so_far.first so_far)

-- the place of the next word, by the words before it
abbrev pub place_of_step : ℕ → List (List ℕ) → Place
place_of_step n words = place_in_tree (tree_after n words)
