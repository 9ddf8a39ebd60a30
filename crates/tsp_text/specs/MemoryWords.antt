-- Circle 2 of docs/trust.md.
-- MEMORY_SECTION and SUBSET_ROW_SECTION, this project's own sections: which words may come where, and the lists of
-- nodes and the subset rows that they mean. src/memory_lists.rt in tsp_read promises to read them so.
use Rattle.tsp_text.specs.Prelude.{fold, ℕ, Bool, cond, List, [], length, true, false}
use Rattle.std.specs.Prelude.{◌+◌, ◌∷◌, ◌++◌, ◌||◌}
use Rattle.tsp_format.specs.Steps.{SubsetRow}
use Rattle.tsp_text.specs.Groups.{family_node}
use Rattle.tsp_text.specs.Items.{is_not_empty}
use Rattle.tsp_text.specs.SectionWords.{Place, is_end, PastEnd, SetNode}

-- ---- MEMORY_SECTION

-- the contents after some words of the section
pub record MemoriesSoFar : Type 0 where
  -- the whole lists, and the nodes of a list that has begun
  pub lists : List (List ℕ)
  pub nodes : List ℕ
  -- how many nodes came in all
  pub count : ℕ
  -- whether the section has ended
  pub ended : Bool

-- the contents before the first word
abbrev pub no_memories : MemoriesSoFar
no_memories = record { lists = []; nodes = []; count = 0; ended = false }

-- a node: the next one of the list that isn't whole, or the first of a new list
abbrev pub with_memory_node : MemoriesSoFar → ℕ → MemoriesSoFar
with_memory_node so_far node = record so_far { nodes = so_far.nodes ++ node ∷ []; count = so_far.count + 1 }

-- the end of a list
abbrev pub with_list : MemoriesSoFar → MemoriesSoFar
with_list so_far = record so_far { lists = so_far.lists ++ so_far.nodes ∷ []; nodes = [] }

-- a -1: it ends the list that isn't whole; if there is none, the section
abbrev pub with_list_end : MemoriesSoFar → MemoriesSoFar
with_list_end so_far = cond (is_not_empty so_far.nodes) (with_list so_far) (record so_far { ended = true })

-- a word; after the end of the section nothing changes
abbrev pub with_memory_word : ℕ → MemoriesSoFar → List ℕ → MemoriesSoFar
with_memory_word n so_far word =
    cond so_far.ended so_far (cond (is_end n word) (with_list_end so_far) (with_memory_node so_far (family_node n word)))

-- the contents after all these words
abbrev pub memories_after : ℕ → List (List ℕ) → MemoriesSoFar
memories_after n words = fold (with_memory_word n) no_memories words

-- the lists that are whole
abbrev pub whole_memories : ℕ → List (List ℕ) → List (List ℕ)
whole_memories n words = (memories_after n words).lists

-- the place of the next word, by the contents; only the nodes have a limit
abbrev pub place_in_memories : MemoriesSoFar → Place
place_in_memories so_far = cond so_far.ended PastEnd (SetNode (is_not_empty so_far.nodes) 0 so_far.count)

-- the place of the next word, by the words before it
abbrev pub place_of_memory : ℕ → List (List ℕ) → Place
place_of_memory n words = place_in_memories (memories_after n words)

-- ---- SUBSET_ROW_SECTION

-- the contents after some words of the section
pub record RowsSoFar : Type 0 where
  -- the whole rows
  pub rows : List SubsetRow
  -- of a row that has begun its set, which is empty as long as it isn't whole, and the nodes of a list that has begun
  pub set : List ℕ
  pub nodes : List ℕ
  -- how many nodes came in all
  pub count : ℕ
  -- whether the section has ended
  pub ended : Bool

-- the contents before the first word
abbrev pub no_subset_rows : RowsSoFar
no_subset_rows = record { rows = []; set = []; nodes = []; count = 0; ended = false }

-- a node: the next one of the list that isn't whole, or the first of a new list
abbrev pub with_row_node : RowsSoFar → ℕ → RowsSoFar
with_row_node so_far node = record so_far { nodes = so_far.nodes ++ node ∷ []; count = so_far.count + 1 }

-- the end of the set of a row
abbrev pub with_row_set : RowsSoFar → RowsSoFar
with_row_set so_far = record so_far { set = so_far.nodes; nodes = [] }

-- a row of these two lists
abbrev pub row_with : List ℕ → List ℕ → SubsetRow
row_with set further = record { set = set; further = further }

-- the end of the further nodes of a row, which may be none
abbrev pub with_row : RowsSoFar → RowsSoFar
with_row so_far = record so_far { rows = so_far.rows ++ row_with so_far.set so_far.nodes ∷ []; set = []; nodes = [] }

-- a -1: after the set of a row it ends the row; otherwise the set that isn't whole, or if there is none, the section
abbrev pub with_row_end : RowsSoFar → RowsSoFar
with_row_end so_far = cond (is_not_empty so_far.set) (with_row so_far)
    (cond (is_not_empty so_far.nodes) (with_row_set so_far) (record so_far { ended = true }))

-- a word; after the end of the section nothing changes
abbrev pub with_row_word : ℕ → RowsSoFar → List ℕ → RowsSoFar
with_row_word n so_far word =
    cond so_far.ended so_far (cond (is_end n word) (with_row_end so_far) (with_row_node so_far (family_node n word)))

-- the contents after all these words
abbrev pub rows_after : ℕ → List (List ℕ) → RowsSoFar
rows_after n words = fold (with_row_word n) no_subset_rows words

-- the rows that are whole
abbrev pub whole_rows : ℕ → List (List ℕ) → List SubsetRow
whole_rows n words = (rows_after n words).rows

-- a row has begun that isn't whole
abbrev pub has_begun_row : RowsSoFar → Bool
has_begun_row so_far = is_not_empty so_far.set || is_not_empty so_far.nodes

-- the place of the next word, by the contents
abbrev pub place_in_rows : RowsSoFar → Place
place_in_rows so_far = cond so_far.ended PastEnd (SetNode (has_begun_row so_far) (length so_far.rows) so_far.count)

-- the place of the next word, by the words before it
abbrev pub place_of_row : ℕ → List (List ℕ) → Place
place_of_row n words = place_in_rows (rows_after n words)
