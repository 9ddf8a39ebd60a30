-- If a section by node is complete, each node has exactly one group in it (`each_once`), as the law
-- `each_node_has_one_group` says.
use Rattle.tsp_text.proofs.Prelude.{◌≡◌, ◌≢◌, ℕ, zero, suc, ◌-◌, ◌<◌, ◌≤◌, true, false, List, [], ◌∷◌, ◌++◌, length, map, sym, ap, subst, ◌∙◌, arith, None, ◌+◌, ◌*◌, Bool, cond, refl, take, true≢false, and_parts, or_parts, leb-true, false≢true, le-leb, leb-false, Decides-int_eq, length_push, length-map, length-take-le, take_all, take-append-le, map_push, AllByRecursion, Contains, list_any, remove, option_map, nat_le, ℤ, pos, ◌==◌, neg_ℤ, result_err, most_demand, most_potential, Field, NameKey, TypeKey, CommentKey, OtherKey, DimensionKey, CapacityKey, ScaleKey, LoadUnitKey, EdgeWeightTypeKey, EdgeWeightFormatKey, NodeCoordTypeKey, DisplayDataTypeKey, NodeCoordPart, DisplayDataPart, DemandPart, DepotPart, FixedEdgesPart, EdgeWeightPart, TourPart, NodePotentialPart, RowPotentialPart, ColumnPotentialPart, FixedEdgePotentialPart, FamilyPart, MemoryPart, SubsetRowPart, BranchPart, is_node}
use Rattle.std.proofs.lemmas.List.FromFn.{length-map-range_with_len, get_or-map-range_with_len}
use Rattle.std.proofs.lemmas.List.Sorted.{IsPermutation-refl, IsPermutation-remove, IsPermutation-cons, IsPermutation-sym, IsPermutation-trans, Contains-permutation, length_permutation}
use Rattle.std.specs.List.Sorted.{IsPermutation}
use Rattle.std.specs.Ordering.{int_eq}
use Rattle.tsp_format.proofs.Basics.{none_map, in_tail, and_right_from}
use Rattle.tsp_format.specs.Nodes.{nodes_to}
use Rattle.tsp_text.proofs.GroupWords.{Words, length_groups, begun_short, goes_on, group_ends, nodes_read}
use Rattle.tsp_text.proofs.ValidKeywords.{read_node}
use Rattle.tsp_text.proofs.ValidRows.{when_none, none_applies, Grows, grown_in}
use Rattle.tsp_text.specs.Earlier.{same_field, has_line, words_of, spatial_after, place_in, dimension_in}
use Rattle.tsp_text.specs.FaultRows.{when, number_fault_at, is_repeated_node_at, is_self_edge_at, is_surplus_at, is_after_end_at, word_fault}
use Rattle.tsp_text.specs.Groups.{HasEachNodeOnce, groups_in, begun_in, word_at, node_groups, number_value, number_groups, point_in, space_point_in, place_in_group, place_by_node, nodes_of_groups, place_of_number, is_by_node_field, group_nodes}
use Rattle.tsp_text.specs.Items.{Item}
use Rattle.tsp_text.specs.SectionWords.{number, reads_as, node, Place, NodeAfter, Coordinate, Amount, PastGroups}
use Rattle.tsp_text.specs.ParsesTo.{IsClean, wants_more, is_incomplete}
use Rattle.tsp_text.specs.declared.fault.LineFault.TheVariants as row

-- ---- different elements

-- no two elements are the same, by recursion
abbrev pub AllApart : {X : Type 0} → List X → Type 0
AllApart [] = Unit {0}
AllApart (x ∷ xs) = AllByRecursion (λ y. x ≢ y) xs × AllApart xs

still_inside : {X : Type 0} (xs ys zs : List X) (x : X) → IsPermutation ys (x ∷ zs) → AllByRecursion (λ y. x ≢ y) xs
    → AllByRecursion (Contains ys) xs → AllByRecursion (Contains zs) xs
still_inside [] ys zs x p other inside = tt
still_inside (w ∷ xs) ys zs x p other inside =
    let found = Contains-permutation ys (x ∷ zs) w p inside.0 in
    (in_tail x zs w found.0 found.1 found.2 other.0, still_inside xs ys zs x p other.1 inside.1)

-- different elements, all from a list that is no longer, are that list in another order
permutation_from_inside : {X : Type 0} (xs ys : List X) → AllApart xs → AllByRecursion (Contains ys) xs → length ys ≤ length xs
    → IsPermutation xs ys
permutation_from_inside [] [] apart inside few = IsPermutation-refl []
permutation_from_inside [] (y ∷ ys) apart inside few = absurd (omega arith)
permutation_from_inside (x ∷ xs) ys apart inside few =
    let i = inside.0.0 in
    let taken : IsPermutation ys (x ∷ remove ys i) = IsPermutation-remove ys i x inside.0.1 (sym inside.0.2) in
    let counted = length_permutation ys (x ∷ remove ys i) taken in
    let fewer : length (remove ys i) ≤ length xs = omega arith in
    let rest = permutation_from_inside xs (remove ys i) apart.1 (still_inside xs ys (remove ys i) x taken apart.0 inside.1) fewer in
    IsPermutation-trans (x ∷ xs) (x ∷ remove ys i) ys (IsPermutation-cons x xs (remove ys i) rest) (IsPermutation-sym ys (x ∷ remove ys i) taken)

all_more : {X : Type 0} (P : X → Type 0) (xs : List X) (z : X) → AllByRecursion P xs → P z → AllByRecursion P (xs ++ z ∷ [])
all_more P [] z all here = (here, tt)
all_more P (x ∷ xs) z all here = (all.0, all_more P xs z all.1 here)

apart_more : {X : Type 0} (xs : List X) (z : X) → AllApart xs → AllByRecursion (λ x. x ≢ z) xs → AllApart (xs ++ z ∷ [])
apart_more [] z apart others = (tt, tt)
apart_more (x ∷ xs) z apart others = (all_more (λ y. x ≢ y) xs z apart.0 others.0, apart_more xs z apart.1 others.1)

-- ---- nodes

-- different nodes, each of 1..n
abbrev pub AreOnce : ℕ → List ℤ → Type 0
AreOnce n nodes = AllApart nodes × AllByRecursion (Contains (map (λ k. pos k) (nodes_to n))) nodes

-- the word is a node of 1..n that isn't among these
abbrev pub IsFree : ℕ → List ℤ → List ℕ → Type 0
IsFree n nodes word = (result_err (node n word) ≡ None) × (list_any (λ other. reads_as other (node n word)) nodes ≡ false)

others_differ : (z : ℤ) (nodes : List ℤ) → list_any (λ other. int_eq z other) nodes ≡ false → AllByRecursion (λ x. x ≢ z) nodes
others_differ z [] e = tt
others_differ z (x ∷ nodes) e =
    let both = or_parts (int_eq z x) (list_any (λ other. int_eq z other) nodes) e in
    (λ same. true≢false (sym ((Decides-int_eq z x).1 (sym same)) ∙ both.0), others_differ z nodes both.1)

node_inside : (n k : ℕ) → is_node n k ≡ true → Contains (map (λ i. pos i) (nodes_to n)) (pos k)
unfolding nodes_to
node_inside n k e =
    let both = and_parts (nat_le 1 k) (nat_le k n) e in
    let low = leb-true 1 k both.0 in
    let high = leb-true k n both.1 in
    let long = length-map-range_with_len (λ (i : ℕ). pos i) 1 n in
    (k - 1, omega (arith, low, high, long), get_or-map-range_with_len (λ (i : ℕ). pos i) 1 n (k - 1) k (pos k) (omega (arith, low, high)) (omega (arith, low)))

pub once_more : (n : ℕ) (nodes : List ℤ) (word : List ℕ) → AreOnce n nodes → IsFree n nodes word
    → AreOnce n (nodes ++ number (node n word) ∷ [])
once_more n nodes word once free =
    let read = read_node n word free.0 in
    let is : number (node n word) ≡ pos read.0 = ap number read.1 in
    let others = others_differ (pos read.0) nodes (subst (λ r. list_any (λ other. reads_as other r) nodes ≡ false) read.1 free.1) in
    subst (λ (z : ℤ). AreOnce n (nodes ++ z ∷ [])) (sym is)
    (apart_more nodes (pos read.0) once.0 others, all_more (Contains (map (λ k. pos k) (nodes_to n))) nodes (pos read.0) once.1 (node_inside n read.0 read.2))

pub all_once : (n : ℕ) (nodes : List ℤ) → AreOnce n nodes → length nodes ≡ n → HasEachNodeOnce n nodes
unfolding nodes_to
all_once n nodes once count =
    let long = length-map-range_with_len (λ (i : ℕ). pos i) 1 n in
    permutation_from_inside nodes (map (λ k. pos k) (nodes_to n)) once.0 once.1 (omega (arith, long, count))

-- ---- a section by node that isn't incomplete has one group for each node

-- ---- what holds of the words so far

-- the nodes of the whole groups, as many as there may be
abbrev nodes_by : ℕ → ℕ → Words → List ℤ
nodes_by size n words = map (λ group. number (node n (word_at group 0))) (groups_in size (take (size * n) words))

-- each node is there once, and that of a group that has begun is new
record NodesHold (size n : ℕ) (words : Words) : Type 0 where
  once : AreOnce n (nodes_by size n words)
  free : (first : List ℕ) (rest : Words) → begun_in size words ≡ first ∷ rest → nat_le (size * n) (length words) ≡ false → IsFree n (nodes_by size n words) first

not_both : (words : Words) (first : List ℕ) (rest : Words) → words ≡ [] → words ≡ first ∷ rest → ⊥
not_both words first rest none some = absurd cc

same_first : (words : Words) (first other : List ℕ) (rest more : Words) → words ≡ first ∷ rest → words ≡ other ∷ more
    → first ≡ other
same_first words first other rest more e f = cc

free_node : (n : ℕ) (nodes : List ℤ) (word : List ℕ) → word_fault n (NodeAfter nodes) word ≡ None → IsFree n nodes word
free_node n nodes word e =
    let place : Place = NodeAfter nodes in
    let rows = none_applies (option_map (λ fault. row.Number fault) (number_fault_at n place word)
    ∷ when (is_repeated_node_at n place word) row.RepeatedNode
    ∷ when (is_self_edge_at n place word) row.SelfEdge
    ∷ when (is_surplus_at n place word) row.Surplus
    ∷ when (is_after_end_at n place word) row.AfterEnd ∷ []) e in
    (none_map (λ fault. row.Number fault) (result_err (node n word)) rows.0, when_none (is_repeated_node_at n place word) row.RepeatedNode rows.1.0)

-- ---- one word more without a fault

module _ (size n : ℕ) where
  none_hold : NodesHold size n []
  none_hold =
      let empty : nodes_by size n [] ≡ [] = ap (λ (words : Words). map (λ group. number (node n (word_at group 0))) (groups_in size words)) (take_all (size * n) [] (omega arith)) in
      record { once = subst (AreOnce n) (sym empty) (tt, tt); free = λ first rest e room. absurd (not_both [] first rest refl e) }

  -- words past the groups change nothing
  full_holds : (words : Words) (word : List ℕ) → nat_le (size * n) (length words) ≡ true → NodesHold size n words → NodesHold size n (words ++ word ∷ [])
  full_holds words word full h =
      let le = leb-true (size * n) (length words) full in
      let same : nodes_by size n (words ++ word ∷ []) ≡ nodes_by size n words = ap (λ (ws : Words). map (λ group. number (node n (word_at group 0))) (groups_in size ws)) (take-append-le (size * n) words (word ∷ []) le) in
      record {
        once = subst (AreOnce n) (sym same) h.once;
        free = λ first rest e room. absurd (true≢false (sym (le-leb (size * n) (length (words ++ word ∷ [])) (omega (arith, length_push words word, le))) ∙ room));
      }

  -- the nodes with one word more within the limit
  room_nodes : (words : Words) (word : List ℕ) (found : List Words) → nat_le (size * n) (length words) ≡ false → groups_in size (words ++ word ∷ []) ≡ found
      → (nodes_by size n (words ++ word ∷ []) ≡ map (λ group. number (node n (word_at group 0))) found)
      × (nodes_by size n words ≡ map (λ group. number (node n (word_at group 0))) (groups_in size words))
  room_nodes words word found room e =
      let lt = leb-false (size * n) (length words) room in
      let nodes : List Words → List ℤ = map (λ group. number (node n (word_at group 0))) in (
        ap (λ (ws : Words). nodes (groups_in size ws)) (take_all (size * n) (words ++ word ∷ []) (omega (arith, length_push words word, lt))) ∙ ap nodes e,
        ap (λ (ws : Words). nodes (groups_in size ws)) (take_all (size * n) words (omega (arith, lt))),
      )

  -- the groups stay, and the word that has begun one is free
  same_holds : (words : Words) (word first : List ℕ) (rest : Words) → nat_le (size * n) (length words) ≡ false → NodesHold size n words
      → groups_in size (words ++ word ∷ []) ≡ groups_in size words → begun_in size (words ++ word ∷ []) ≡ first ∷ rest
      → IsFree n (nodes_by size n words) first → NodesHold size n (words ++ word ∷ [])
  same_holds words word first rest room h groups next free =
      let both = room_nodes words word (groups_in size words) room groups in
      let same : nodes_by size n (words ++ word ∷ []) ≡ nodes_by size n words = both.0 ∙ sym both.1 in
      record {
        once = subst (AreOnce n) (sym same) h.once;
        free = λ other more e still. subst (λ (w : List ℕ). IsFree n (nodes_by size n (words ++ word ∷ [])) w) (same_first (begun_in size (words ++ word ∷ [])) first other rest more next e)
            (subst (λ (nodes : List ℤ). IsFree n nodes first) (sym same) free);
      }

  -- a group ends
  ended_holds : (words : Words) (word first : List ℕ) (rest : Words) → nat_le (size * n) (length words) ≡ false → NodesHold size n words
      → groups_in size (words ++ word ∷ []) ≡ groups_in size words ++ (first ∷ rest) ∷ [] → begun_in size (words ++ word ∷ []) ≡ []
      → IsFree n (nodes_by size n words) first → NodesHold size n (words ++ word ∷ [])
  ended_holds words word first rest room h one_more next free =
      let both = room_nodes words word (groups_in size words ++ (first ∷ rest) ∷ []) room one_more in
      let more : nodes_by size n (words ++ word ∷ []) ≡ nodes_by size n words ++ number (node n first) ∷ [] =
      both.0 ∙ map_push (λ (group : Words). number (node n (word_at group 0))) (groups_in size words) (first ∷ rest) ∙ ap (λ (nodes : List ℤ). nodes ++ number (node n first) ∷ []) (sym both.1) in
      record {
        once = subst (AreOnce n) (sym more) (once_more n (nodes_by size n words) first h.once free);
        free = λ other more e still. absurd (not_both (begun_in size (words ++ word ∷ [])) other more next e);
      }

  -- the word that has begun a group is free
  begun_holds : (words : Words) (word : List ℕ) (found : Words) (first : List ℕ) (rest : Words) → begun_in size words ≡ found → found ++ word ∷ [] ≡ first ∷ rest
      → nat_le (size * n) (length words) ≡ false → NodesHold size n words → IsFree n (nodes_by size n words) first → NodesHold size n (words ++ word ∷ [])
  begun_holds words word found first rest e is room h free = by_case (length found + 1 == size) refl
    where
      by_case : (ends : Bool) → (length found + 1 == size) ≡ ends → NodesHold size n (words ++ word ∷ [])
      by_case false on =
          let next = goes_on size words found word e on in
          same_holds words word first rest room h next.0 (next.1 ∙ is) free
      by_case true ends =
          let next = group_ends size words found word e ends in
          ended_holds words word first rest room h (next.0 ∙ ap (λ (group : Words). groups_in size words ++ group ∷ []) is) next.1 free

  room_holds : (words : Words) (word : List ℕ) (number_place : Place) (nodes : List ℤ) (found : Words) → begun_in size words ≡ found
      → nodes ≡ nodes_by size n words → nat_le (size * n) (length words) ≡ false → NodesHold size n words
      → word_fault n (place_in_group number_place nodes found) word ≡ None → NodesHold size n (words ++ word ∷ [])
  room_holds words word number_place nodes [] e is room h none =
      begun_holds words word [] word [] e refl room h (subst (λ (ns : List ℤ). IsFree n ns word) is (free_node n nodes word none))
  room_holds words word number_place nodes (first ∷ rest) e is room h none =
      begun_holds words word (first ∷ rest) first (rest ++ word ∷ []) e refl room h (h.free first rest e room)

  more_hold : (words : Words) (word : List ℕ) (number_place : Place) (nodes : List ℤ) (full : Bool) → nat_le (size * n) (length words) ≡ full
      → nodes ≡ nodes_by size n words → NodesHold size n words
      → word_fault n (cond full PastGroups (place_in_group number_place nodes (begun_in size words))) word ≡ None
      → NodesHold size n (words ++ word ∷ [])
  more_hold words word number_place nodes true e is h none = full_holds words word e h
  more_hold words word number_place nodes false e is h none =
      room_holds words word number_place nodes (begun_in size words) refl is e h none

-- ---- the end

full_end : (full : Bool) (number_place : Place) (nodes : List ℤ) (begun : Words) → wants_more number_place ≡ true
    → wants_more (cond full PastGroups (place_in_group number_place nodes begun)) ≡ false
    → full ≡ true
full_end true number_place nodes begun more e = refl
full_end false number_place nodes [] more e = absurd (true≢false e)
full_end false number_place nodes (word ∷ begun) more e = absurd (true≢false (sym more ∙ e))

counted : (size n count left : ℕ) → size * n ≡ size * count + left → left < size → count ≡ n
counted size zero zero left e short = refl
counted size zero (suc count) left e short = absurd (omega (arith, e, short))
counted size (suc n) zero left e short = absurd (omega (arith, e, short))
counted size (suc n) (suc count) left e short = ap suc (counted size n count left (omega (arith, e)) short)

-- all groups of a section are there at its end
all_there : {X : Type 0} (size : ℕ) (value : Words → X) (number_place : Place) → 0 < size → wants_more number_place ≡ true → (n : ℕ) (words : Words)
    → wants_more (place_by_node size number_place (node_groups size value n words) n words) ≡ false → NodesHold size n words
    → HasEachNodeOnce n (nodes_of_groups (node_groups size value n words))
all_there size value number_place some wants n words ended h =
    let nodes = nodes_of_groups (node_groups size value n words) in
    let full = full_end (nat_le (size * n) (length words)) number_place nodes (begun_in size words) wants ended in
    let front = take (size * n) words in
    let is : nodes ≡ nodes_by size n words = nodes_read value n (groups_in size front) in
    let long : length front ≡ size * n = length-take-le (size * n) words (leb-true (size * n) (length words) full) in
    let count = counted size n (length (groups_in size front)) (length (begun_in size front)) (sym long ∙ length_groups size front) (begun_short size front some) in
    all_once n nodes (subst (AreOnce n) (sym is) h.once) (ap length is ∙ length-map (groups_in size front) (λ (group : Words). number (node n (word_at group 0))) ∙ count)

-- ---- numbers by node, and points

-- the place of the next word of a section, in a spatial file or in another
abbrev StandsAt : Bool → Field → (ℕ → Words → Place) → Type 0
StandsAt in_space field place =
    (b : Bool) → (same_field NodeCoordPart field ≡ true → b ≡ in_space) → (n : ℕ) (words : Words) → place_in b field n words ≡ place n words

module _ {X : Type 0} (size : ℕ) (value : Words → X) (number_place : Place) (in_space : Bool) (field : Field) (some : 0 < size) (wants : wants_more number_place ≡ true)
    (other : same_field TourPart field ≡ false) (at : StandsAt in_space field (λ n words. place_by_node size number_place (node_groups size value n words) n words)) where
  nodes_grow : Grows in_space field (NodesHold size)
  nodes_grow = record {
    none = λ n. none_hold size n;
    more = λ b same n words word h none. more_hold size n words word number_place (nodes_of_groups (node_groups size value n words)) (nat_le (size * n) (length words)) refl
        (nodes_read value n (groups_in size (take (size * n) words))) h (subst (λ (place : Place). word_fault n place word ≡ None) (at b same n words) none);
    any_nodes = λ n m words tours h. absurd (true≢false (sym tours ∙ other));
  }

  nodes_once : (items : List Item) → (same_field NodeCoordPart field ≡ true → spatial_after items ≡ in_space) → IsClean items → has_line field items ≡ true
      → is_incomplete items field ≡ false → HasEachNodeOnce (dimension_in items) (nodes_of_groups (node_groups size value (dimension_in items) (words_of field items)))
  nodes_once items is clean stands whole =
      let n = dimension_in items in
      let words = words_of field items in
      let ended = and_right_from (has_line field items) (wants_more (place_in (spatial_after items) field n words)) stands whole in
      all_there size value number_place some wants n words (ap wants_more (sym (at (spatial_after items) is n words)) ∙ ended)
      (grown_in in_space field (NodesHold size) nodes_grow items clean (λ coords there. is coords))

numbers_once : (low high : ℤ) (field : Field) → same_field TourPart field ≡ false → same_field NodeCoordPart field ≡ false
    → ((b : Bool) (n : ℕ) (words : Words) → place_in b field n words ≡ place_of_number low high n words) → (items : List Item)
    → IsClean items → has_line field items ≡ true → is_incomplete items field ≡ false
    → HasEachNodeOnce (dimension_in items) (nodes_of_groups (number_groups low high (dimension_in items) (words_of field items)))
numbers_once low high field other flat at items =
    nodes_once 2 (number_value low high) (Amount low high) false field (omega arith) refl other (λ b same n words. at b n words) items (λ coords. absurd (true≢false (sym coords ∙ flat)))

coords_once : (items : List Item) (in_space : Bool) → spatial_after items ≡ in_space → IsClean items → has_line NodeCoordPart items ≡ true
    → is_incomplete items NodeCoordPart ≡ false
    → HasEachNodeOnce (dimension_in items) (group_nodes in_space NodeCoordPart (dimension_in items) (words_of NodeCoordPart items))
coords_once items false is =
    nodes_once 3 point_in Coordinate false NodeCoordPart (omega arith) refl refl (λ b same n words. ap (λ (in_space : Bool). place_in in_space NodeCoordPart n words) (same refl)) items (λ coords. is)
coords_once items true is =
    nodes_once 4 space_point_in Coordinate true NodeCoordPart (omega arith) refl refl (λ b same n words. ap (λ (in_space : Bool). place_in in_space NodeCoordPart n words) (same refl)) items (λ coords. is)

-- plan: by the field: points, points to display, and sections with a number for each node
pub each_once : (items : List Item) (field : Field) → IsClean items → is_by_node_field field ≡ true → has_line field items ≡ true
    → is_incomplete items field ≡ false
    → HasEachNodeOnce (dimension_in items) (group_nodes (spatial_after items) field (dimension_in items) (words_of field items))
each_once items NameKey clean by_node = absurd (false≢true by_node)
each_once items TypeKey clean by_node = absurd (false≢true by_node)
each_once items CommentKey clean by_node = absurd (false≢true by_node)
each_once items OtherKey clean by_node = absurd (false≢true by_node)
each_once items DimensionKey clean by_node = absurd (false≢true by_node)
each_once items CapacityKey clean by_node = absurd (false≢true by_node)
each_once items ScaleKey clean by_node = absurd (false≢true by_node)
each_once items LoadUnitKey clean by_node = absurd (false≢true by_node)
each_once items EdgeWeightTypeKey clean by_node = absurd (false≢true by_node)
each_once items EdgeWeightFormatKey clean by_node = absurd (false≢true by_node)
each_once items NodeCoordTypeKey clean by_node = absurd (false≢true by_node)
each_once items DisplayDataTypeKey clean by_node = absurd (false≢true by_node)
each_once items NodeCoordPart clean by_node = coords_once items (spatial_after items) refl clean
each_once items DisplayDataPart clean by_node =
    nodes_once 3 point_in Coordinate false DisplayDataPart (omega arith) refl refl (λ b same n words. refl) items (λ coords. absurd (false≢true coords)) clean
each_once items DemandPart clean by_node =
    numbers_once (pos 0) (pos most_demand) DemandPart refl refl (λ b n words. refl) items clean
each_once items DepotPart clean by_node = absurd (false≢true by_node)
each_once items FixedEdgesPart clean by_node = absurd (false≢true by_node)
each_once items EdgeWeightPart clean by_node = absurd (false≢true by_node)
each_once items TourPart clean by_node = absurd (false≢true by_node)
each_once items NodePotentialPart clean by_node =
    numbers_once (neg_ℤ (pos most_potential)) (pos most_potential) NodePotentialPart refl refl (λ b n words. refl) items clean
each_once items RowPotentialPart clean by_node =
    numbers_once (neg_ℤ (pos most_potential)) (pos most_potential) RowPotentialPart refl refl (λ b n words. refl) items clean
each_once items ColumnPotentialPart clean by_node =
    numbers_once (neg_ℤ (pos most_potential)) (pos most_potential) ColumnPotentialPart refl refl (λ b n words. refl) items clean
each_once items FixedEdgePotentialPart clean by_node = absurd (false≢true by_node)
each_once items FamilyPart clean by_node = absurd (false≢true by_node)
each_once items MemoryPart clean by_node = absurd (false≢true by_node)
each_once items SubsetRowPart clean by_node = absurd (false≢true by_node)
each_once items BranchPart clean by_node = absurd (false≢true by_node)
