-- The lists of a memory and the subset rows of a section without a fault are within their limits, and of nodes. For
-- ValidItems.antt.
use Rattle.tsp_text.proofs.Prelude.{◌≡◌, ℕ, ◌+◌, Bool, true, false, cond, List, [], ◌∷◌, ◌++◌, length, refl, sym, ap, ◌∙◌, arith, None, ◌<◌, ◌≤◌, subst, and_from, le-leb, false≢true, length_push, list_all, sum_by, ◌&&◌, ◌||◌, nat_le, nat_abs, most_rows, most_family_nodes, MemoryPart, SubsetRowPart, is_node, is_set_of, are_memory_lists, is_row_of, are_subset_rows}
use Rattle.std.proofs.lemmas.List.Sums.{fold-append, sum_by_push}
use Rattle.tsp_format.specs.Steps.{SubsetRow, row_size}
use Rattle.tsp_text.proofs.ValidCuts.{all_push, has_room}
use Rattle.tsp_text.proofs.ValidKeywords.{read_listed, first_of_both}
use Rattle.tsp_text.proofs.ValidRows.{is_taken, Grows, grown}
use Rattle.tsp_text.specs.Earlier.{words_of, dimension_in}
use Rattle.tsp_text.specs.FaultRows.{word_fault, is_past_families}
use Rattle.tsp_text.specs.Groups.{family_node}
use Rattle.tsp_text.specs.Items.{is_not_empty, Item}
use Rattle.tsp_text.specs.MemoryWords.{MemoriesSoFar, no_memories, with_list_end, with_memory_word, memories_after, whole_memories, place_in_memories, RowsSoFar, no_subset_rows, row_with, with_row_end, with_row_word, rows_after, whole_rows, has_begun_row, place_in_rows}
use Rattle.tsp_text.specs.SectionWords.{number, is_end, SetNode, PastEnd}
use Rattle.tsp_text.specs.ParsesTo.{IsClean}

-- ---- memories

-- whole lists, and the nodes of one that has begun, are valid
pub record MemoriesHold (n : ℕ) (lists : List (List ℕ)) (nodes : List ℕ) (count : ℕ) : Type 0 where
  pub all_lists : list_all (is_set_of n) lists ≡ true
  pub all_nodes : list_all (is_node n) nodes ≡ true
  pub total : sum_by length lists + length nodes ≡ count
  pub few_nodes : count ≤ most_family_nodes

abbrev AreLists : ℕ → MemoriesSoFar → Type 0
AreLists n s = MemoriesHold n s.lists s.nodes s.count

list_end_holds : (n : ℕ) (lists : List (List ℕ)) (nodes : List ℕ) (count : ℕ) → MemoriesHold n lists nodes count
    → AreLists n (with_list_end (record { lists = lists; nodes = nodes; count = count; ended = false }))
list_end_holds n lists (k ∷ nodes) count h = record {
  all_lists = all_push (is_set_of n) lists (k ∷ nodes) h.all_lists
      (and_from (nat_le 1 (length (k ∷ nodes))) (list_all (is_node n) (k ∷ nodes)) (le-leb 1 (length (k ∷ nodes)) (omega arith)) h.all_nodes);
  all_nodes = refl;
  total = omega (arith, h.total, sum_by_push (λ (list : List ℕ). length list) lists (k ∷ nodes));
  few_nodes = h.few_nodes;
}
list_end_holds n lists [] count h = h

list_node_holds : (n : ℕ) (lists : List (List ℕ)) (nodes : List ℕ) (count node : ℕ) → MemoriesHold n lists nodes count
    → is_node n node ≡ true → count < most_family_nodes → MemoriesHold n lists (nodes ++ node ∷ []) (count + 1)
list_node_holds n lists nodes count node h passes few = record {
  all_lists = h.all_lists;
  all_nodes = all_push (is_node n) nodes node h.all_nodes passes;
  total = omega (arith, h.total, length_push nodes node);
  few_nodes = omega (arith, few);
}

list_word_holds : (n : ℕ) (s : MemoriesSoFar) (word : List ℕ) (ended end : Bool) → s.ended ≡ ended → is_end n word ≡ end
    → word_fault n (place_in_memories s) word ≡ None
    → AreLists n s → AreLists n (with_memory_word n s word)
list_word_holds n s word true end e is row h = rw e h
list_word_holds n s word false true e is row h = rw (e, is) (list_end_holds n s.lists s.nodes s.count h)
list_word_holds n s word false false e is row h =
    let begun = is_not_empty s.nodes in
    let place = SetNode begun 0 s.count in
    let t = is_taken n place word (subst (λ (b : Bool). word_fault n (cond b PastEnd place) word ≡ None) e row) in
    let found = read_listed n word t.is_read is in
    let node : is_node n (family_node n word) ≡ true = ap (λ r. is_node n (nat_abs (number r))) found.1 ∙ found.2 in
    let past = first_of_both (is_past_families begun 0 s.count) (is_end n word) t.has_room is in
    let room = has_room begun 0 s.count past (λ _. omega arith) in
    rw (e, is) (list_node_holds n s.lists s.nodes s.count (family_node n word) h node room.0)

all_memories_taken : Grows false MemoryPart (λ n words. AreLists n (memories_after n words))
all_memories_taken = record {
  none = λ n. record { all_lists = refl; all_nodes = refl; total = refl; few_nodes = omega arith };
  more = λ b same n words word held row.
      let s = memories_after n words in
      subst (AreLists n) (sym (fold-append (with_memory_word n) no_memories words (word ∷ []))) (list_word_holds n s word s.ended (is_end n word) refl refl row held);
  any_nodes = λ n m words tours held. absurd (false≢true tours);
}

pub memories_fit : (items : List Item) → IsClean items
    → are_memory_lists (dimension_in items) (whole_memories (dimension_in items) (words_of MemoryPart items)) ≡ true
memories_fit items clean =
    let n = dimension_in items in
    let lists = whole_memories n (words_of MemoryPart items) in
    let h : AreLists n (memories_after n (words_of MemoryPart items)) =
    grown MemoryPart (λ n words. AreLists n (memories_after n words)) refl all_memories_taken items clean in
    and_from (list_all (is_set_of n) lists) (nat_le (sum_by length lists) most_family_nodes) h.all_lists
    (le-leb (sum_by length lists) most_family_nodes (omega (arith, h.total, h.few_nodes)))

-- ---- subset rows

-- whole rows, and the set and the nodes of one that has begun, are valid, with the row within the limit
pub record RowsHold (n : ℕ) (rows : List SubsetRow) (set nodes : List ℕ) (count : ℕ) : Type 0 where
  pub all_rows : list_all (is_row_of n) rows ≡ true
  pub all_set : list_all (is_node n) set ≡ true
  pub all_nodes : list_all (is_node n) nodes ≡ true
  pub few : length rows ≤ most_rows
  pub room : (is_not_empty set || is_not_empty nodes) ≡ true → length rows < most_rows
  pub total : sum_by row_size rows + length set + length nodes ≡ count
  pub few_nodes : count ≤ most_family_nodes

abbrev AreRows : ℕ → RowsSoFar → Type 0
AreRows n s = RowsHold n s.rows s.set s.nodes s.count

row_end_holds : (n : ℕ) (rows : List SubsetRow) (set nodes : List ℕ) (count : ℕ) → RowsHold n rows set nodes count
    → AreRows n (with_row_end (record { rows = rows; set = set; nodes = nodes; count = count; ended = false }))
row_end_holds n rows (k ∷ set) nodes count h =
    let row = row_with (k ∷ set) nodes in
    record {
      all_rows = all_push (is_row_of n) rows row h.all_rows (and_from (is_set_of n (k ∷ set)) (list_all (is_node n) nodes)
          (and_from (nat_le 1 (length (k ∷ set))) (list_all (is_node n) (k ∷ set)) (le-leb 1 (length (k ∷ set)) (omega arith)) h.all_set) h.all_nodes);
      all_set = refl;
      all_nodes = refl;
      few = omega (arith, h.room refl, length_push rows row);
      room = λ begun. absurd (false≢true begun);
      total = omega (arith, h.total, sum_by_push row_size rows row);
      few_nodes = h.few_nodes;
    }
row_end_holds n rows [] (k ∷ nodes) count h = record {
  all_rows = h.all_rows;
  all_set = h.all_nodes;
  all_nodes = refl;
  few = h.few;
  room = λ begun. h.room refl;
  total = omega (arith, h.total);
  few_nodes = h.few_nodes;
}
row_end_holds n rows [] [] count h = h

row_node_holds : (n : ℕ) (rows : List SubsetRow) (set nodes : List ℕ) (count node : ℕ) → RowsHold n rows set nodes count
    → is_node n node ≡ true → count < most_family_nodes → length rows < most_rows
    → RowsHold n rows set (nodes ++ node ∷ []) (count + 1)
row_node_holds n rows set nodes count node h passes few room = record {
  all_rows = h.all_rows;
  all_set = h.all_set;
  all_nodes = all_push (is_node n) nodes node h.all_nodes passes;
  few = h.few;
  room = λ begun. room;
  total = omega (arith, h.total, length_push nodes node);
  few_nodes = omega (arith, few);
}

row_word_holds : (n : ℕ) (s : RowsSoFar) (word : List ℕ) (ended end : Bool) → s.ended ≡ ended → is_end n word ≡ end
    → word_fault n (place_in_rows s) word ≡ None
    → AreRows n s → AreRows n (with_row_word n s word)
row_word_holds n s word true end e is row h = rw e h
row_word_holds n s word false true e is row h = rw (e, is) (row_end_holds n s.rows s.set s.nodes s.count h)
row_word_holds n s word false false e is row h =
    let begun = has_begun_row s in
    let place = SetNode begun (length s.rows) s.count in
    let t = is_taken n place word (subst (λ (b : Bool). word_fault n (cond b PastEnd place) word ≡ None) e row) in
    let found = read_listed n word t.is_read is in
    let node : is_node n (family_node n word) ≡ true = ap (λ r. is_node n (nat_abs (number r))) found.1 ∙ found.2 in
    let past = first_of_both (is_past_families begun (length s.rows) s.count) (is_end n word) t.has_room is in
    let room = has_room begun (length s.rows) s.count past h.room in
    rw (e, is) (row_node_holds n s.rows s.set s.nodes s.count (family_node n word) h node room.0 room.1)

all_rows_taken : Grows false SubsetRowPart (λ n words. AreRows n (rows_after n words))
all_rows_taken = record {
  none = λ n. record {
    all_rows = refl;
    all_set = refl;
    all_nodes = refl;
    few = omega arith;
    room = λ begun. absurd (false≢true begun);
    total = refl;
    few_nodes = omega arith;
  };
  more = λ b same n words word held row.
      let s = rows_after n words in
      subst (AreRows n) (sym (fold-append (with_row_word n) no_subset_rows words (word ∷ []))) (row_word_holds n s word s.ended (is_end n word) refl refl row held);
  any_nodes = λ n m words tours held. absurd (false≢true tours);
}

pub rows_fit : (items : List Item) → IsClean items
    → are_subset_rows (dimension_in items) (whole_rows (dimension_in items) (words_of SubsetRowPart items)) ≡ true
rows_fit items clean =
    let n = dimension_in items in
    let rows = whole_rows n (words_of SubsetRowPart items) in
    let h : AreRows n (rows_after n (words_of SubsetRowPart items)) =
    grown SubsetRowPart (λ n words. AreRows n (rows_after n words)) refl all_rows_taken items clean in
    and_from (nat_le (length rows) most_rows && list_all (is_row_of n) rows) (nat_le (sum_by row_size rows) most_family_nodes)
    (and_from (nat_le (length rows) most_rows) (list_all (is_row_of n) rows) (le-leb (length rows) most_rows h.few) h.all_rows)
    (le-leb (sum_by row_size rows) most_family_nodes (omega (arith, h.total, h.few_nodes)))
