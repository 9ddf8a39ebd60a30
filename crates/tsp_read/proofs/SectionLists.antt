-- One word more of sections whose words come in groups: points, triples, tours, weights and the steps of trees. For
-- src/section_builder.rt and the lists in src/list_sections.rt, src/memory_lists.rt and src/tree_sections.rt.
use Rattle.tsp_read.proofs.Prelude.{◌≡◌, ◌≢◌, ℕ, ◌+◌, ◌-◌, ◌<◌, ◌≤◌, Bool, true, false, cond, ◌||◌, List, [], ◌∷◌, ◌++◌, length, set, refl, sym, ap, ◌∙◌, Option, None, Some, Ok, Err, inl, inr, arith, rules, get_or-set_other, get_or-set_same, ap₂, subst, map, Result, ◌*◌, false_from_ne_true, Decides-int_eq, same_from_decides, nat_tests, ints, length-set, length_push, length-replicate, get_or-replicate, ext_get_or, map_push, length-map, fold-append, list_any, slice_split, onto_first, filter, int_eq, ℤ, pos, negsuc, nat_abs, ◌⊎◌, replicate, slice_index_or, is_some, unwrap_or, ◌==◌, nat_le, not, MatchResult, OnOk, neg_ℤ, whole_of, NumberFault, most_multiplier, most_nodes, most_tour_nodes, most_weight, most_difference, Words, word_fault, entry_of, nodes_of_groups, by_node, place_in_group, fixed_triple, place_in_triple, place_of_triple, node, reads_as, IsWhole, Place, NodeAfter, number, node_or_end, Amount, TourNode, ends_tour, tour_node, place_of_tour, whole_of_size, Weight, place_of_weight, TreeSoFar, no_steps, with_tree_word, tree_after, place_in_tree, place_of_step, wants_more, LineFault}
use Rattle.std.proofs.Math.Bool.{and-false}
use Rattle.std.proofs.lemmas.List.FromFn.{length-map-range_with_len, get_or-map-range_with_len}
use Rattle.std.specs.Int.{FitsUnsignedBits}
use Rattle.tsp_format.specs.Nodes.{nodes_to}
use Rattle.tsp_text.specs.declared.fault.LineFault.TheVariants as row
use Rattle.tsp_read.proofs.ListSteps.{HasNodes, one_begun, place_open, second_same as second_same_of, second_clean, group_goes_on, group_taken}
use Rattle.tsp_read.proofs.NumbersReadBack.{no_zero}
use Rattle.tsp_read.specs.declared.list_sections.TourList.{TourList}
use Rattle.tsp_read.specs.states.HeldParts.{HoldsTours, EndsRunOf}
use Rattle.tsp_read.specs.states.Parts.{IsNodeOf, IsNewNode, NodesHold, AreReadAs, TriplesHold, WeightsHold}

-- ---- the entry of a node, by the groups

int_eq_turned : (x y : ℤ) → int_eq x y ≡ int_eq y x
int_eq_turned x y =
    let there = Decides-int_eq x y in
    let back = Decides-int_eq y x in
    same_from_decides (int_eq x y) (int_eq y x) there (λ e. sym (back.0 e), λ e. back.1 (sym e))

found_step : {X : Type 0} (b : Bool) (x : X) (o : Option X) → is_some (cond b (Some x) o) ≡ (b || is_some o)
found_step true x o = refl
found_step false x o = refl

-- an earlier group has the node exactly if the node has an entry
is_entry : {X : Type 0} (groups : List (ℤ × X)) (z : ℤ)
    → list_any (λ earlier. reads_as earlier (Ok z)) (nodes_of_groups groups) ≡ is_some (entry_of groups z)
is_entry [] z = refl
is_entry (group ∷ groups) z =
    rw (int_eq_turned z group.0) (ap (λ b. int_eq group.0 z || b) (is_entry groups z) ∙ sym (found_step (int_eq group.0 z) group.1 (entry_of groups z)))

-- another group leaves the entry of a node alone
entry_other : {X : Type 0} (groups : List (ℤ × X)) (first z : ℤ) (x : X) → int_eq first z ≡ false
    → entry_of (groups ++ (first, x) ∷ []) z ≡ entry_of groups z
entry_other [] first z x e = rw e refl
entry_other (group ∷ groups) first z x e = ap (cond (int_eq group.0 z) (Some group.1)) (entry_other groups first z x e)

new_step : {X : Type 0} (b : Bool) (x y : X) (o p : Option X) → (o ≡ None → p ≡ Some x) → cond b (Some y) o ≡ None
    → cond b (Some y) p ≡ Some x
new_step true x y o p h e = cc
new_step false x y o p h e = h e

-- the entry of a node that has none yet
entry_new : {X : Type 0} (groups : List (ℤ × X)) (z : ℤ) (x : X) → entry_of groups z ≡ None
    → entry_of (groups ++ (z, x) ∷ []) z ≡ Some x
entry_new [] z x e = rw ((Decides-int_eq z z).1 refl) refl
entry_new (group ∷ groups) z x e =
    new_step (int_eq group.0 z) x group.1 (entry_of groups z) (entry_of (groups ++ (z, x) ∷ []) z) (entry_new groups z x) e

-- ---- marks

none_of : {X : Type 0} (o : Option X) → is_some o ≡ false → o ≡ None
none_of None e = refl
none_of (Some x) e = cc

-- a node has a mark exactly if it has an entry
mark_is_entry : {X : Type 0} (missing : X) (seen : List Bool) (entries : List X) (left : ℕ) (begun : Option ℕ) (n k : ℕ) (groups : List (ℤ × X))
    → IsNodeOf n k
    → NodesHold missing seen entries left begun n groups → slice_index_or seen (k - 1) false ≡ is_some (entry_of groups (pos k))
mark_is_entry missing seen entries left begun n k groups within h =
    let place : k - 1 + 1 ≡ k = omega (arith, within.0) in
    h.marks (k - 1) (omega (arith, within.0, within.1)) ∙ ap (λ i. is_some (entry_of groups (pos i))) place

-- ---- a node by the number that its word was read as

pub natural : (z : ℤ) → FitsUnsignedBits 32 z → z ≡ pos (nat_abs z)
natural (pos n) fits = refl
natural (negsuc n) fits = absurd fits

pub unmarked : (seen : List Bool) (z : ℤ) (k : ℕ) (word : List ℕ) → IsWhole word z → FitsUnsignedBits 32 z × (k ≡ nat_abs z)
    → 1 ≤ k → k ≤ length seen
    → slice_index_or seen (k - 1) false ≡ false → IsNewNode seen word (Ok k)
unmarked seen z k word whole from some within free =
    let is : z ≡ pos k = natural z from.0 ∙ ap (λ (j : ℕ). pos j) (sym from.1) in
    let read : whole_of word (pos 1) (pos (length seen)) ≡ Ok z = whole (pos 1) (pos (length seen)) (omega (arith, ints, is, some)) (omega (arith, ints, is, within)) in
    (read ∙ ap (λ (y : ℤ). Ok y) is, (some, within), free)

-- ---- no groups so far

pub nodes_unmarked : {X : Type 0} (missing : X) (seen : List Bool) (entries : List X) (n : ℕ) → seen ≡ replicate n false
    → entries ≡ replicate n missing
    → NodesHold missing seen entries n None n []
nodes_unmarked missing seen entries n unseen empty = record {
  wide = ap length unseen ∙ length-replicate n false;
  sized = ap length empty ∙ length-replicate n missing;
  to_come = omega arith;
  within = λ k e. cc;
  fresh = λ k e. cc;
  marks = λ i lt. ap (λ xs. slice_index_or xs i false) unseen ∙ get_or-replicate n i false false lt;
  filled = λ i lt. ap (λ xs. slice_index_or xs i missing) empty ∙ get_or-replicate n i missing missing lt;
}

-- ---- the node of a new group

-- it has no fault, and the group has begun
pub node_begins : {X : Type 0} (missing : X) (seen : List Bool) (entries : List X) (left : ℕ) (begun : Option ℕ) (n k : ℕ) (groups : List (ℤ × X)) (place : Place)
    (word : List ℕ) → place ≡ NodeAfter (nodes_of_groups groups) → IsNewNode seen word (Ok k) → NodesHold missing seen entries left begun n groups
    → (word_fault n place word ≡ None) × (node n word ≡ Ok (pos k)) × NodesHold missing seen entries left (Some k) n groups
node_begins missing seen entries left begun n k groups place word is new h =
    let read : node n word ≡ Ok (pos k) = ap (λ i. node i word) (sym h.wide) ∙ new.0 in
    let within : IsNodeOf n k = (new.1.0, omega (arith, new.1.1, h.wide)) in
    let none : entry_of groups (pos k) ≡ None =
    none_of (entry_of groups (pos k)) (sym (mark_is_entry missing seen entries left begun n k groups within h) ∙ new.2) in
    let any : list_any (λ earlier. reads_as earlier (Ok (pos k))) (nodes_of_groups groups) ≡ false = is_entry groups (pos k) ∙ ap is_some none in (
      rw (is, read, any) refl,
      read,
      record {
        wide = h.wide;
        sized = h.sized;
        to_come = h.to_come;
        within = λ j e. let same : k ≡ j = cc in rw (← same) within;
        fresh = λ j e. let same : k ≡ j = cc in rw (← same) none;
        marks = h.marks;
        filled = h.filled;
      },
    )

-- it isn't read as a node
node_bad : (n : ℕ) (nodes : List ℤ) (place : Place) (word : List ℕ) (fault : NumberFault) → place ≡ NodeAfter nodes
    → node n word ≡ Err fault
    → word_fault n place word ≡ Some (row.Number fault)
node_bad n nodes place word fault is read = rw (is, read) refl

-- an earlier group has it
node_repeats : {X : Type 0} (n k : ℕ) (groups : List (ℤ × X)) (place : Place) (word : List ℕ)
    → place ≡ NodeAfter (nodes_of_groups groups) → node n word ≡ Ok (pos k)
    → is_some (entry_of groups (pos k)) ≡ true → word_fault n place word ≡ Some row.RepeatedNode
node_repeats n k groups place word is read found =
    let any : list_any (λ earlier. reads_as earlier (Ok (pos k))) (nodes_of_groups groups) ≡ true = is_entry groups (pos k) ∙ found in
    rw (is, read, any) refl

-- the fault of a word that begins no group
pub node_faulty : {X : Type 0} (missing : X) (seen : List Bool) (entries : List X) (left : ℕ) (begun : Option ℕ) (n : ℕ) (groups : List (ℤ × X)) (place : Place)
    (word : List ℕ) (fault : LineFault) → place ≡ NodeAfter (nodes_of_groups groups) → IsNewNode seen word (Err fault)
    → NodesHold missing seen entries left begun n groups → word_fault n place word ≡ Some fault
node_faulty missing seen entries left begun n groups place word (row.Number fault) is new h =
    node_bad n (nodes_of_groups groups) place word fault is (ap (λ i. node i word) (sym h.wide) ∙ new)
node_faulty missing seen entries left begun n groups place word row.RepeatedNode is new h =
    let k = new.0 in
    let within : IsNodeOf n k = (new.2.0, omega (arith, new.2.1, h.wide)) in
    node_repeats n k groups place word is (ap (λ i. node i word) (sym h.wide) ∙ new.1)
    (sym (mark_is_entry missing seen entries left begun n k groups within h) ∙ new.3)
node_faulty missing seen entries left begun n groups place word fault is new h = absurd new

-- ---- the entry of a group that has begun

at_or_other : (i k : ℕ) → (i ≡ k) ⊎ (i ≢ k)
at_or_other i k = search rules

-- plan: by cases of the place: that of the node, which is filled (`entry_new`), or another one (`entry_other`)
pub entry_fills : {X : Type 0} (missing x : X) (seen : List Bool) (entries : List X) (left n k : ℕ) (groups : List (ℤ × X))
    → 0 < left
    → NodesHold missing seen entries left (Some k) n groups
    → NodesHold missing (set seen (k - 1) true) (set entries (k - 1) x) (left - 1) None n (groups ++ (pos k, x) ∷ [])
entry_fills missing x seen entries left n k groups some h =
    let within = h.within k refl in record {
      wide = length-set seen (k - 1) true ∙ h.wide;
      sized = length-set entries (k - 1) x ∙ h.sized;
      to_come = omega (arith, length_push groups (pos k, x), h.to_come);
      within = λ j e. cc;
      fresh = λ j e. cc;
      marks = λ i lt. (there i lt (at_or_other i (k - 1)) within).0;
      filled = λ i lt. (there i lt (at_or_other i (k - 1)) within).1;
    }
  where
    there : (i : ℕ) → i < n → (i ≡ k - 1) ⊎ (i ≢ k - 1) → IsNodeOf n k
        → (slice_index_or (set seen (k - 1) true) i false ≡ is_some (entry_of (groups ++ (pos k, x) ∷ []) (pos (i + 1))))
        × (slice_index_or (set entries (k - 1) x) i missing ≡ unwrap_or (entry_of (groups ++ (pos k, x) ∷ []) (pos (i + 1))) missing)
    there i lt (inl e) within =
        let is : i + 1 ≡ k = omega (arith, within.0) in
        let entry = entry_new groups (pos k) x (h.fresh k refl) in
        let mark = get_or-set_same seen (k - 1) true false (omega (arith, h.wide, within.0, within.1)) in
        let value = get_or-set_same entries (k - 1) x missing (omega (arith, h.sized, within.0, within.1)) in
        rw (is, e, entry) (mark, value)
    there i lt (inr ne) within =
        let other : int_eq (pos k) (pos (i + 1)) ≡ false =
        false_from_ne_true (int_eq (pos k) (pos (i + 1))) (λ t. let e = (Decides-int_eq (pos k) (pos (i + 1))).0 t in let same : k ≡ i + 1 = cc in ne (omega arith)) in
        let entry = entry_other groups (pos k) (pos (i + 1)) x other in
        rw entry (get_or-set_other seen (k - 1) i true false ne ∙ h.marks i lt, get_or-set_other entries (k - 1) i x missing ne ∙ h.filled i lt)

-- ---- the end

pub entries_by_node : {X : Type 0} (missing : X) (seen : List Bool) (entries : List X) (left : ℕ) (begun : Option ℕ) (n : ℕ) (groups : List (ℤ × X))
    → NodesHold missing seen entries left begun n groups → entries ≡ by_node missing n groups
unfolding nodes_to
entries_by_node missing seen entries left begun n groups h =
    let f : ℕ → _ = λ i. unwrap_or (entry_of groups (pos i)) missing in
    ext_get_or missing entries (by_node missing n groups) (h.sized ∙ sym (length-map-range_with_len f 1 n))
    (λ i lt. h.filled i (omega (arith, h.sized)) ∙ sym (get_or-map-range_with_len f 1 n i (i + 1) missing (omega (arith, h.sized)) (omega arith)))

-- a group is still to come if words are wanted
pub wants_in_group : (place : Place) (nodes : List ℤ) (begun : List (List ℕ)) → wants_more place ≡ true
    → wants_more (place_in_group place nodes begun) ≡ true
wants_in_group place nodes [] e = refl
wants_in_group place nodes (word ∷ begun) e = e

-- ---- one word more of the multipliers of fixed edges

more_wanted : (n count : ℕ) (word : List ℕ) (begun : Words) → wants_more (place_in_triple n count (word ∷ begun)) ≡ true
more_wanted n count word [] = refl
more_wanted n count word (other ∷ begun) = refl

pub triple_places : (n : ℕ) → HasNodes n (place_in_triple n)
triple_places n = record { first = λ count. refl; second = λ count word. refl; more = more_wanted n }

-- if the second node isn't kept, it hasn't come
alone : (n : ℕ) (rest : Words) → AreReadAs (node n ∷ []) (None ∷ []) rest → rest ≡ []
alone n [] kept = refl
alone n (word ∷ rest) kept = absurd kept

amount_next : (n count : ℕ) (z : ℤ) (one : List ℕ) (rest : Words) → AreReadAs (node n ∷ []) (Some z ∷ []) rest
    → place_in_triple n count (one ∷ rest) ≡ Amount (pos 0) (pos most_multiplier)
amount_next n count z one [] kept = absurd kept
amount_next n count z one (other ∷ rest) kept = refl

triple_read : (n i j : ℕ) (l : ℤ) (word one : List ℕ) (rest : Words) → whole_of word (pos 0) (pos most_multiplier) ≡ Ok l → node_or_end n one ≡ Ok (pos i)
    → AreReadAs (node n ∷ []) (Some (pos j) ∷ []) rest
    → ((length (one ∷ rest) + 1 == 3) ≡ true) × (fixed_triple n (one ∷ (rest ++ word ∷ [])) ≡ (i, j, l))
triple_read n i j l word one [] read first kept = absurd kept
triple_read n i j l word one (other ∷ []) read first kept = (
  refl,
  ap₂ (λ r s. (nat_abs (number r), nat_abs (number s), number (whole_of word (pos 0) (pos most_multiplier)))) first kept.0 ∙ ap (λ r. (i, j, number r)) read,
)
triple_read n i j l word one (other ∷ more ∷ rest) read first kept = absurd kept.1

module _ {triples : List (ℕ × ℕ × ℤ)} {first second : Option ℕ} {ended : Bool} {n : ℕ} {words : Words} (h : TriplesHold triples first second ended n words) where
  -- ---- the second node

  before_second : second ≡ None → TriplesHold triples first None ended n words
  before_second is = subst (λ (o : Option ℕ). TriplesHold triples first o ended n words) is h

  pub second_same : (word : List ℕ) (i : ℕ) → ended ≡ false → first ≡ Some i → second ≡ None → node n word ≡ Ok (pos i)
      → word_fault n (place_of_triple n words) word ≡ Some row.SelfEdge
  second_same word i open_ended is also read = second_same_of (triple_places n) (before_second also) word i (alone n) open_ended is read

  pub triple_goes_on : (word : List ℕ) (i j : ℕ) → ended ≡ false → first ≡ Some i → second ≡ None → node n word ≡ Ok (pos j) → j ≢ i
      → (word_fault n (place_of_triple n words) word ≡ None) × TriplesHold triples first (Some j) ended n (words ++ word ∷ [])
  triple_goes_on word i j e is also read apart = (
    second_clean (triple_places n) (before_second also) word i j (alone n) e is read apart,
    group_goes_on (triple_places n) (before_second also) (node n) [] [] word i (pos j) refl e is refl read,
  )

  -- ---- the multiplier

  before_multiplier : (j : ℕ) → second ≡ Some j → TriplesHold triples first (Some j) ended n words
  before_multiplier j is = subst (λ (o : Option ℕ). TriplesHold triples first o ended n words) is h

  place_of_multiplier : (i j : ℕ) → ended ≡ false → first ≡ Some i → second ≡ Some j → place_of_triple n words ≡ Amount (pos 0) (pos most_multiplier)
  place_of_multiplier i j open_ended is also =
      let held = before_multiplier j also in
      let begun = one_begun (triple_places n) held i open_ended is in
      place_open (triple_places n) held (begun.0 ∷ begun.1) open_ended begun.2 ∙ amount_next n (length triples) (pos j) begun.0 begun.1 begun.4

  pub triple_ends : (word : List ℕ) (i j : ℕ) (l : ℤ) → ended ≡ false → first ≡ Some i → second ≡ Some j
      → whole_of word (pos 0) (pos most_multiplier) ≡ Ok l
      → (word_fault n (place_of_triple n words) word ≡ None) × TriplesHold (triples ++ (i, j, l) ∷ []) None None ended n (words ++ word ∷ [])
  triple_ends word i j l e is also read = (
    rw (place_of_multiplier i j e is also, read) refl,
    group_taken (triple_places n) (before_multiplier j also) (i, j, l) (None ∷ []) word i tt (λ one rest. triple_read n i j l word one rest read) e is,
  )

-- ---- a list in pieces, as the words of tours between the -1, with one element more at its end

abbrev IsFilled : {X : Type 0} → List X → Type 0
IsFilled {X} xs = (x : X) × (rest : List X) × (xs ≡ x ∷ rest)

filled_step : {X : Type 0} (b : Bool) (x : X) (pieces : List (List X)) → IsFilled pieces
    → IsFilled (cond b ([] ∷ pieces) (onto_first x pieces))
filled_step true x pieces h = ([], pieces, refl)
filled_step false x pieces h = (x ∷ h.0, h.1, ap (onto_first x) h.2)

-- there is at least one piece
split_filled : {X : Type 0} (p : X → Bool) (xs : List X) → IsFilled (slice_split p xs)
split_filled p [] = ([], [], refl)
split_filled p (x ∷ xs) = filled_step (p x) x (slice_split p xs) (split_filled p xs)

end_step : {X : Type 0} (b : Bool) (y : X) (pieces : List (List X)) → IsFilled pieces
    → cond b ([] ∷ (pieces ++ [] ∷ [])) (onto_first y (pieces ++ [] ∷ [])) ≡ cond b ([] ∷ pieces) (onto_first y pieces) ++ [] ∷ []
end_step true y pieces h = refl
end_step false y pieces h = rw h.2 refl

-- an element that ends a piece
pub split_end : {X : Type 0} (p : X → Bool) (xs : List X) (x : X) → p x ≡ true
    → slice_split p (xs ++ x ∷ []) ≡ slice_split p xs ++ [] ∷ []
split_end p [] x e = rw e refl
split_end p (y ∷ xs) x e = rw (split_end p xs x e) (end_step (p y) y (slice_split p xs) (split_filled p xs))

onto_last : {X : Type 0} → X → List (List X) → List (List X)
onto_last x [] = (x ∷ []) ∷ []
onto_last x (piece ∷ []) = (piece ++ x ∷ []) ∷ []
onto_last x (piece ∷ next ∷ pieces) = piece ∷ onto_last x (next ∷ pieces)

first_last : {X : Type 0} (x y : X) (piece : List X) (pieces : List (List X))
    → onto_first y (onto_last x (piece ∷ pieces)) ≡ onto_last x ((y ∷ piece) ∷ pieces)
unfolding onto_last
first_last x y piece [] = refl
first_last x y piece (next ∷ pieces) = refl

last_step : {X : Type 0} (b : Bool) (x y : X) (pieces : List (List X)) → IsFilled pieces
    → cond b ([] ∷ onto_last x pieces) (onto_first y (onto_last x pieces)) ≡ onto_last x (cond b ([] ∷ pieces) (onto_first y pieces))
unfolding onto_last
last_step true x y pieces h = rw h.2 refl
last_step false x y pieces h = rw h.2 (first_last x y h.0 h.1)

split_last : {X : Type 0} (p : X → Bool) (xs : List X) (x : X) → p x ≡ false
    → slice_split p (xs ++ x ∷ []) ≡ onto_last x (slice_split p xs)
unfolding onto_last
split_last p [] x e = rw e refl
split_last p (y ∷ xs) x e = rw (split_last p xs x e) (last_step (p y) x y (slice_split p xs) (split_filled p xs))

last_of : {X : Type 0} (x : X) (pieces : List (List X)) (piece : List X)
    → onto_last x (pieces ++ piece ∷ []) ≡ pieces ++ (piece ++ x ∷ []) ∷ []
unfolding onto_last
last_of x [] piece = refl
last_of x (first ∷ []) piece = refl
last_of x (first ∷ next ∷ pieces) piece = ap (λ (rest : List (List _)). first ∷ rest) (last_of x (next ∷ pieces) piece)

-- an element that the last piece goes on with
pub split_more : {X : Type 0} (p : X → Bool) (xs : List X) (x : X) (pieces : List (List X)) (last : List X) → p x ≡ false
    → slice_split p xs ≡ pieces ++ last ∷ []
    → slice_split p (xs ++ x ∷ []) ≡ pieces ++ (last ++ x ∷ []) ∷ []
split_more p xs x pieces last e h = split_last p xs x e ∙ ap (onto_last x) h ∙ last_of x pieces last

length_cond : {X : Type 0} (b : Bool) (x : X) (xs : List X) → length (cond b (x ∷ xs) xs) ≡ length xs + cond b 1 0
length_cond true x xs = omega arith
length_cond false x xs = omega arith

-- how many pass, with one element more
pub count_push : {X : Type 0} (p : X → Bool) (xs : List X) (x : X)
    → length (filter p (xs ++ x ∷ [])) ≡ length (filter p xs) + cond (p x) 1 0
count_push p [] x = length_cond (p x) x []
count_push p (y ∷ xs) x =
    omega (arith, length_cond (p y) y (filter p (xs ++ x ∷ [])), length_cond (p y) y (filter p xs), count_push p xs x)

-- ---- one word more of TOUR_SECTION: a node, or the -1 that ends a tour

-- ---- the rows

end_clean : (n count : ℕ) (word : List ℕ) → node_or_end most_nodes word ≡ Ok (negsuc 0)
    → word_fault n (TourNode count) word ≡ None
end_clean n count word read = rw (read, and-false (nat_le most_tour_nodes count)) refl

node_clean : (n count k : ℕ) (word : List ℕ) → node_or_end most_nodes word ≡ Ok (pos k) → nat_le most_tour_nodes count ≡ false
    → word_fault n (TourNode count) word ≡ None
node_clean n count k word read few = rw (read, few) refl

-- if another node may come, not as many came as may
pub few_left : (count room : ℕ) → room ≤ most_tour_nodes - count → 1 ≤ room → nat_le most_tour_nodes count ≡ false
few_left count room within some =
    let less : count < most_tour_nodes = omega (arith, within, some) in
    grind (arith, nat_tests)

-- ---- the words

-- a whole number among the nodes is read as that node
pub whole_node : (z : ℤ) (k : ℕ) (word : List ℕ) → IsWhole word z → FitsUnsignedBits 32 z × (k ≡ nat_abs z) → 1 ≤ k
    → k ≤ most_nodes → node_or_end most_nodes word ≡ Ok (pos k)
whole_node z k word whole from some within =
    let is : z ≡ pos k = natural z from.0 ∙ ap (λ (j : ℕ). pos j) (sym from.1) in
    let read : whole_of word (negsuc 0) (pos most_nodes) ≡ Ok z = whole (negsuc 0) (pos most_nodes) (omega (arith, ints, is)) (omega (arith, ints, is, within)) in
    rw (read, is, no_zero k some) refl

pub after_end : (n : ℕ) (words : List (List ℕ)) (word : List ℕ) (old new : TourList)
    → node_or_end most_nodes word ≡ Ok (negsuc 0)
    → ((words : List (List ℕ)) → HoldsTours old words → EndsRunOf new words) → new.count ≡ old.count
    → HoldsTours old words → (word_fault n (place_of_tour words) word ≡ None) × HoldsTours new (words ++ word ∷ [])
after_end n words word old new read ok same h =
    let ended = ok words h in
    let ends : ends_tour word ≡ true = rw read refl in
    let none : ◌≡◌ {A = ℕ} (cond (not (ends_tour word)) 1 0) 0 = rw ends refl in
    let counted = count_push (λ w. not (ends_tour w)) words word in (
      end_clean n (length (filter (λ w. not (ends_tour w)) words)) word read,
      record {
        pieces = slice_split ends_tour words;
        last = [];
        split = split_end ends_tour words word ends;
        tours = ended.tours;
        rest = ended.rest;
        nodes = omega (arith, same, h.nodes, counted, none);
      },
    )

pub after_node : (n k : ℕ) (words : List (List ℕ)) (word : List ℕ) (old new : TourList) → node_or_end most_nodes word ≡ Ok (pos k)
    → nat_le most_tour_nodes old.count ≡ false
    → new.done ≡ old.done → new.run.items ≡ old.run.items ++ k ∷ [] → new.count ≡ old.count + 1
    → HoldsTours old words → (word_fault n (place_of_tour words) word ≡ None) × HoldsTours new (words ++ word ∷ [])
after_node n k words word old new read few same more counted h =
    let ends : ends_tour word ≡ false = rw read refl in
    let node : tour_node word ≡ k = rw read refl in
    let one : ◌≡◌ {A = ℕ} (cond (not (ends_tour word)) 1 0) 1 = rw ends refl in
    let pushed = count_push (λ w. not (ends_tour w)) words word in (
      node_clean n (length (filter (λ w. not (ends_tour w)) words)) k word read (ap (λ (c : ℕ). nat_le most_tour_nodes c) (sym h.nodes) ∙ few),
      record {
        pieces = h.pieces;
        last = h.last ++ word ∷ [];
        split = split_more ends_tour words word h.pieces h.last ends h.split;
        tours = rw same h.tours;
        rest = more ∙ ap (λ (ns : List ℕ). ns ++ k ∷ []) h.rest ∙ ap (λ (j : ℕ). map tour_node h.last ++ j ∷ []) (sym node) ∙ sym (map_push tour_node h.last word);
        nodes = omega (arith, counted, h.nodes, pushed, one);
      },
    )

-- ---- one word more of EDGE_WEIGHT_SECTION, which is one weight more

pub weight_more : (weights : List ℤ) (most n : ℕ) (words : List (List ℕ)) (word : List ℕ) (z : ℤ) → length weights < most
    → whole_of_size most_weight word ≡ Ok z
    → WeightsHold weights most n words
    → (word_fault n (place_of_weight n words) word ≡ None) × WeightsHold (weights ++ z ∷ []) most n (words ++ word ∷ [])
weight_more weights most n words word z room read h =
    let f : List ℕ → ℤ = λ word. number (whole_of_size most_weight word) in
    let is : f word ≡ z = ap number read in
    let same : length weights ≡ length words = ap length h.list ∙ length-map words f in
    let size : most ≡ n * n = h.room in
    let few : nat_le (n * n) (length words) ≡ false = grind (arith, nat_tests) in
    let place : place_of_weight n words ≡ Weight = rw few refl in (
      rw (place, read) refl,
      record {
        list = ap (λ zs. zs ++ z ∷ []) h.list ∙ ap (λ y. map f words ++ y ∷ []) (sym is) ∙ sym (map_push f words word);
        room = h.room;
        few = omega (arith, length_push words word);
      },
    )

-- ---- a list was moved to the end of a list of lists

-- from what holds of both lists if it has moved
pub where_moved : {X E A B C : Type 0} (r : Result X E) (P Q : E → Type 0) → MatchResult r (λ done. A) P → MatchResult r (λ done. B) Q
    → (A → B → C) → OnOk r C
where_moved (Ok done) P Q a b f = f a b
where_moved (Err refused) P Q a b f = tt

-- ---- one word more of a tree of cases

pub one_more : (n : ℕ) (words : List (List ℕ)) (word : List ℕ)
    → tree_after n (words ++ word ∷ []) ≡ with_tree_word n (tree_after n words) word
one_more n words word = fold-append (with_tree_word n) no_steps words (word ∷ [])

open_ended : (count : ℕ) → count ≢ 0 → (count == 0) ≡ false
open_ended count some = grind (arith, nat_tests)

-- a word is taken after these words if it is at their place
taken : (n : ℕ) (words : List (List ℕ)) (word : List ℕ) (s new : TreeSoFar) → s ≡ tree_after n words
    → word_fault n (place_in_tree s) word ≡ None
    → new ≡ with_tree_word n s word
    → (word_fault n (place_of_step n words) word ≡ None) × (new ≡ tree_after n (words ++ word ∷ []))
taken n words word s new is clean next =
    (rw (← is) clean, next ∙ ap (λ s. with_tree_word n s word) is ∙ sym (one_more n words word))

-- the difference of an index
pub difference_taken : (n : ℕ) (words : List (List ℕ)) (word : List ℕ) (s : TreeSoFar) (index : ℕ) (z : ℤ)
    → s ≡ tree_after n words → s.to_come ≢ 0 → s.in_leaf ≡ true
    → s.first ≡ Some index → whole_of word (neg_ℤ (pos most_difference)) (pos most_difference) ≡ Ok z
    → (word_fault n (place_of_step n words) word ≡ None)
    × (record s { leaf = s.leaf ++ (index, z) ∷ []; first = None } ≡ tree_after n (words ++ word ∷ []))
difference_taken n words word s index z is some inside begun read =
    let more : (s.to_come == 0) ≡ false = open_ended s.to_come some in
    taken n words word s (record s { leaf = s.leaf ++ (index, z) ∷ []; first = None }) is (rw (more, inside, begun, read) refl) (rw (more, inside, begun, read) refl)
