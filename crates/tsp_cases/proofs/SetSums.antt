-- For src/sets.rt: sums over the sets that have a node, set by set, and the weights that they and the decisions give.
-- tsp_branch and tsp_routing import it, too.
use Rattle.tsp_cases.proofs.Prelude.{◌≡◌, ◌≢◌, ℕ, suc, ◌+◌, ◌<◌, ◌==◌, Bool, true, false, not, List, [], ◌∷◌, ◌++◌, length, get_or, inl, inr, refl, ap, sym, subst, ◌∙◌, arith, drop, drop-cons, add-one, ◌≤◌, Option, None, Some, ◌≤ℤ◌, set, ∥∥₁_elim, props, cases_Bool, cases_eq, eq-eqb, ne_eqb, or_parts, ints, int_wrap-add_right, int_wrap-add_same, int_wrap_fits, SFits-int_wrap, fits_signed_from_abs, append_assoc, get_or-set_same, get_or-set_other, recursion_from_All, All-from_recursion, Vec, w64, int_wrap, All, AllByRecursion, ℤ, pos, neg_ℤ, ◌+ℤ◌, ◌*ℤ◌, if◌then◌else◌, FitsSigned, slice_index_or, ◌-ℤ◌, MatchOption, IsFromTo, moved_on, moved_to, size_of, weight_between, is_same_pair, total, sum_int_by, crossing, IsMoved, both_ways, zero}
use Rattle.tsp_format.proofs.Basics.{both_all}
use Rattle.tsp_cases.proofs.LeavesBoundCycles.{agreed_rows}
use Rattle.tsp_cases.proofs.FamilyCrossings.{combed_size, combed_fits, families_crossed_few, multipliers_below, sets_tell_combs, sets_give_leaves}
use Rattle.tsp_cases.proofs.PartWalks.{apart_from_pairs}
use Rattle.tsp_cases.specs.CaseTrees.{combed, least_of, leaf_weight, HasNoLink, IsRowBound, multiplied, IsFoundAt}
use Rattle.tsp_cases.specs.Cases.{on_taken, on_avoided, decided_number}
use Rattle.tsp_cases.specs.Crossings.{has, AllApart, lists_of, families_in}
use Rattle.tsp_cases.specs.Families.{HasEachOnce, Family, IsFamily, families_with, sum_with}
use Rattle.tsp_cases.specs.ListedCases.{most_crossed, AreGoodNumbers, as_leaf_numbers}
use Rattle.tsp_cases.specs.declared.family.Crossings.{Crossings}
use Rattle.tsp_cases.specs.declared.decision.Decision.{Decision}
use Rattle.tsp_cases.specs.declared.sets.SetPlace.{SetPlace}
use Rattle.tsp_cases.specs.states.OpenCases.{decided, change_of, changes}
use Rattle.tsp_cases.specs.states.Sets.{added, times, places_in, places_with, place_at, IsPlaceIn, summed_from, set_crossings, multipliers_at, twice_in, inside_both, IsApart, most_combed, set_weight, AreSmallMultipliers, AreFewCrossings}

-- a node that isn't in a list
pub absent : (node : ℕ) (nodes : List ℕ) (x : ℕ) → node ≡ x → AllByRecursion (λ other. node ≢ other) nodes → has nodes x ≡ false
absent node [] x same h = refl
absent node (other ∷ nodes) x same h = rw (ne_eqb other x (λ e. h.0 (same ∙ sym e))) (absent node nodes x same h.1)

none_added : (number : ℤ) (nodes : List ℕ) (x : ℕ) → has nodes x ≡ false → added number nodes x ≡ pos 0
none_added number [] x h = refl
none_added number (node ∷ nodes) x h = let two = or_parts (node == x) (has nodes x) h in rw two.0 (let rest = none_added number nodes x two.1 in omega (arith, ints, rest))

-- in a list of different nodes a node gets the number once
pub added_once : (number : ℤ) (nodes : List ℕ) (x : ℕ) → AllApart nodes → added number nodes x ≡ (if has nodes x then number else pos 0)
added_once number [] x h = refl
added_once number (node ∷ nodes) x h = elim (cases_eq node x) [
  | inl same ↦ rw (eq-eqb node x same) (let rest = none_added number nodes x (absent node nodes x same h.0) in omega (arith, ints, rest))
  | inr other ↦ rw (ne_eqb node x other) (let rest = added_once number nodes x h.1 in omega (arith, ints, rest))
]

none_times : (place : SetPlace) (nodes : List ℕ) (x : ℕ) → has nodes x ≡ false → times place nodes x ≡ []
none_times place [] x h = refl
none_times place (node ∷ nodes) x h = let two = or_parts (node == x) (has nodes x) h in rw two.0 (none_times place nodes x two.1)

times_once : (place : SetPlace) (nodes : List ℕ) (x : ℕ) → AllApart nodes → times place nodes x ≡ (if has nodes x then (place ∷ []) else [])
times_once place [] x h = refl
times_once place (node ∷ nodes) x h = elim (cases_eq node x) [
  | inl same ↦ rw (eq-eqb node x same) (ap (λ ps. place ∷ ps) (none_times place nodes x (absent node nodes x same h.0)))
  | inr other ↦ rw (ne_eqb node x other) (times_once place nodes x h.1)
]

pub both_sums : (g : SetPlace → ℤ) (xs ys : List SetPlace) → sum_int_by g (xs ++ ys) ≡ sum_int_by g xs +ℤ sum_int_by g ys
both_sums g [] ys = omega (arith, ints)
both_sums g (x ∷ xs) ys = let rest = both_sums g xs ys in omega (arith, ints, rest)

-- one set, by whether it has each of both nodes
one_set : (p q : Bool) (m : ℤ) → (neg_ℤ (if p then m else pos 0) +ℤ neg_ℤ (if q then m else pos 0)) +ℤ (if p then (if q then (pos 2 *ℤ m) else pos 0) else pos 0)
    ≡ neg_ℤ (m *ℤ (if (if p then not q else q) then pos 1 else pos 0))
one_set true true m = omega (arith, ints)
one_set true false m = omega (arith, ints)
one_set false true m = omega (arith, ints)
one_set false false m = omega (arith, ints)

one_or_none : (p : Bool) (place : SetPlace) (g : SetPlace → ℤ) (z : ℤ) → g place ≡ z → sum_int_by g (if p then (place ∷ []) else []) ≡ (if p then z else pos 0)
one_or_none true place g z h = omega (arith, ints, h)
one_or_none false place g z h = refl

put_together : (ai a ax b t c all_i all_x both rest_in crossing_own crossing_rest : ℤ) → ai ≡ a → ax ≡ b → t ≡ c → both ≡ t +ℤ rest_in → (neg_ℤ a +ℤ neg_ℤ b) +ℤ c ≡ neg_ℤ crossing_own
    → (neg_ℤ all_i +ℤ neg_ℤ all_x) +ℤ rest_in ≡ neg_ℤ crossing_rest
    → (neg_ℤ (ai +ℤ all_i) +ℤ neg_ℤ (ax +ℤ all_x)) +ℤ both ≡ neg_ℤ (crossing_own +ℤ crossing_rest)
put_together ai a ax b t c all_i all_x both rest_in crossing_own crossing_rest h1 h2 h3 h4 h5 h6 = omega (arith, ints, h1, h2, h3, h4, h5, h6)

put_families : (a b c all_i all_x both rest_in crossing_own crossing_rest : ℤ) → both ≡ c +ℤ rest_in → (neg_ℤ a +ℤ neg_ℤ b) +ℤ c ≡ neg_ℤ crossing_own
    → (neg_ℤ all_i +ℤ neg_ℤ all_x) +ℤ rest_in ≡ neg_ℤ crossing_rest
    → (neg_ℤ (a +ℤ all_i) +ℤ neg_ℤ (b +ℤ all_x)) +ℤ both ≡ neg_ℤ (crossing_own +ℤ crossing_rest)
put_families a b c all_i all_x both rest_in crossing_own crossing_rest h1 h2 h3 = omega (arith, ints, h1, h2, h3)

-- the sets of one family, whose places begin at a first one
family_comes_to : (g : SetPlace → ℤ) (family first : ℕ) (m : ℤ) (sets : List (List ℕ)) (i x : ℕ)
    → ((k : ℕ) → k < length sets → g (place_at family (first + k)) ≡ added (pos 2 *ℤ m) (get_or sets k []) x) → AllByRecursion HasEachOnce sets
    → (neg_ℤ (sum_int_by (λ set. added m set i) sets) +ℤ neg_ℤ (sum_int_by (λ set. added m set x) sets)) +ℤ sum_int_by g (places_in family first sets i)
    ≡ neg_ℤ (sum_int_by (λ set. m *ℤ crossing (has set) i x) sets)
family_comes_to g family first m [] i x at once = omega (arith, ints)
family_comes_to g family first m (set ∷ sets) i x at once =
    let apart : AllApart set = apart_from_pairs set once.0 in
    let here : place_at family first ≡ place_at family (first + 0) = ap (place_at family) (omega arith) in
    let own : g (place_at family first) ≡ (if has set x then (pos 2 *ℤ m) else pos 0) = ap g here ∙ at 0 (omega arith) ∙ added_once (pos 2 *ℤ m) set x apart in
    let gained : sum_int_by g (times (place_at family first) set i) ≡ (if has set i then (if has set x then (pos 2 *ℤ m) else pos 0) else pos 0) =
    ap (sum_int_by g) (times_once (place_at family first) set i apart) ∙ one_or_none (has set i) (place_at family first) g (if has set x then (pos 2 *ℤ m) else pos 0) own in
    let split = both_sums g (times (place_at family first) set i) (places_in family (suc first) sets i) in
    let set_is = one_set (has set i) (has set x) m in
    let rest = family_comes_to g family (suc first) m sets i x (λ k lt. ap (λ n. g (place_at family n)) (omega arith) ∙ at (suc k) (omega (arith, lt))) once.1 in
    put_together _ _ _ _ _ _ _ _ _ _ _ _ (added_once m set i apart) (added_once m set x apart) gained split set_is rest

families_come_to : (g : SetPlace → ℤ) (first : ℕ) (ms : List ℤ) (families : List (List (List ℕ))) (i x : ℕ)
    → ((k s : ℕ) → k < length families → g (place_at (first + k) s) ≡ added (pos 2 *ℤ get_or ms (first + k) (pos 0)) (get_or (get_or families k []) s []) x)
    → AllByRecursion (All HasEachOnce) families
    → (neg_ℤ (summed_from first (λ m set. added m set i) ms families) +ℤ neg_ℤ (summed_from first (λ m set. added m set x) ms families))
    +ℤ sum_int_by g (places_with first families i) ≡ neg_ℤ (summed_from first (λ m set. m *ℤ crossing (has set) i x) ms families)
families_come_to g first ms [] i x at once = omega (arith, ints)
families_come_to g first ms (sets ∷ families) i x at once =
    let m : ℤ = get_or ms first (pos 0) in
    let here : first + 0 ≡ first = omega arith in
    let own = family_comes_to g first 0 m sets i x
    (λ k lt. ap (λ s. g (place_at first s)) (omega arith) ∙ subst (λ (f : ℕ). g (place_at f k) ≡ added (pos 2 *ℤ get_or ms f (pos 0)) (get_or sets k []) x) here (at 0 k (omega arith)))
    (recursion_from_All HasEachOnce sets once.0) in
    let split = both_sums g (places_in first 0 sets i) (places_with (suc first) families i) in
    let rest = families_come_to g (suc first) ms families i x
    (λ k s lt. subst (λ (f : ℕ). g (place_at f s) ≡ added (pos 2 *ℤ get_or ms f (pos 0)) (get_or (get_or families k []) s []) x) (let e : first + suc k ≡ suc first + k = omega arith in e)
    (at (suc k) s (omega (arith, lt)))) once.1 in
    put_families (sum_int_by (λ set. added m set i) sets) (sum_int_by (λ set. added m set x) sets) (sum_int_by g (places_in first 0 sets i))
    (summed_from (suc first) (λ number set. added number set i) ms families) (summed_from (suc first) (λ number set. added number set x) ms families)
    _ (sum_int_by g (places_with (suc first) families i)) _ _ split own rest

pub sets_come_to : (ms : List ℤ) (families : List (List (List ℕ))) (i x : ℕ) → All (All HasEachOnce) families
    → (neg_ℤ (multipliers_at ms families i) +ℤ neg_ℤ (multipliers_at ms families x)) +ℤ inside_both ms families (places_with 0 families i) x
    ≡ neg_ℤ (set_crossings ms families i x)
sets_come_to ms families i x once = families_come_to (λ place. twice_in ms families place x) 0 ms families i x
    (λ k s lt. ap (λ (f : ℕ). added (pos 2 *ℤ get_or ms (0 + k) (pos 0)) (get_or (get_or families f []) s []) x) (let e : 0 + k ≡ k = omega arith in e))
    (recursion_from_All (All HasEachOnce) families once)

-- ---- each place in a node's list is that of a set

times_hold : (P : SetPlace → Type 0) (place : SetPlace) (nodes : List ℕ) (x : ℕ) → P place → AllByRecursion P (times place nodes x)
times_hold P place [] x h = tt
times_hold P place (node ∷ nodes) x h = elim (cases_Bool (node == x)) [
  | inl here ↦ rw here (h, times_hold P place nodes x h)
  | inr other ↦ rw other (times_hold P place nodes x h)
]

in_family_hold : (P : SetPlace → Type 0) (family first : ℕ) (sets : List (List ℕ)) (x : ℕ) → ((k : ℕ) → k < length sets → P (place_at family (first + k)))
    → AllByRecursion P (places_in family first sets x)
in_family_hold P family first [] x h = tt
in_family_hold P family first (set ∷ sets) x h = both_all P (times (place_at family first) set x) (places_in family (suc first) sets x)
    (times_hold P (place_at family first) set x (subst (λ (n : ℕ). P (place_at family n)) (let e : first + 0 ≡ first = omega arith in e) (h 0 (omega arith))))
    (in_family_hold P family (suc first) sets x (λ k lt. subst (λ (n : ℕ). P (place_at family n)) (let e : first + suc k ≡ suc first + k = omega arith in e) (h (suc k) (omega (arith, lt)))))

in_families_hold : (P : SetPlace → Type 0) (first : ℕ) (families : List (List (List ℕ))) (x : ℕ)
    → ((k s : ℕ) → k < length families → s < length (get_or families k []) → P (place_at (first + k) s)) → AllByRecursion P (places_with first families x)
in_families_hold P first [] x h = tt
in_families_hold P first (sets ∷ families) x h = both_all P (places_in first 0 sets x) (places_with (suc first) families x)
    (in_family_hold P first 0 sets x (λ s lt. subst (λ (n : ℕ). P (place_at first n)) (let e : s ≡ 0 + s = omega arith in e)
    (subst (λ (f : ℕ). P (place_at f s)) (let e : first + 0 ≡ first = omega arith in e) (h 0 s (omega arith) lt))))
    (in_families_hold P (suc first) families x (λ k s lt less. subst (λ (f : ℕ). P (place_at f s)) (let e : first + suc k ≡ suc first + k = omega arith in e) (h (suc k) s (omega (arith, lt)) less)))

pub places_inside : (families : List (List (List ℕ))) (x : ℕ) → All (IsPlaceIn families) (places_with 0 families x)
places_inside families x = All-from_recursion (IsPlaceIn families) (places_with 0 families x) (in_families_hold (IsPlaceIn families) 0 families x (λ k s lt less.
    subst (λ (f : ℕ). IsPlaceIn families (place_at f s)) (let e : k ≡ 0 + k = omega arith in e) (lt, less)))

-- ---- sums in 64 bits

pub apart_is : (scaled p q a b m k both result : ℤ) → int_wrap w64 m ≡ int_wrap w64 (p +ℤ neg_ℤ a) → int_wrap w64 k ≡ int_wrap w64 (q +ℤ neg_ℤ b) → both ≡ int_wrap w64 (m +ℤ k)
    → result ≡ int_wrap w64 (scaled +ℤ both)
    → result ≡ int_wrap w64 ((scaled +ℤ (p +ℤ q)) +ℤ (neg_ℤ a +ℤ neg_ℤ b))
apart_is scaled p q a b m k both result m_is k_is both_is result_is =
    let first : scaled +ℤ (m +ℤ k) ≡ m +ℤ (scaled +ℤ k) = omega (arith, ints) in
    let second : (p +ℤ neg_ℤ a) +ℤ (scaled +ℤ k) ≡ k +ℤ (scaled +ℤ (p +ℤ neg_ℤ a)) = omega (arith, ints) in
    let third : (q +ℤ neg_ℤ b) +ℤ (scaled +ℤ (p +ℤ neg_ℤ a)) ≡ (scaled +ℤ (p +ℤ q)) +ℤ (neg_ℤ a +ℤ neg_ℤ b) = omega (arith, ints) in
    result_is
    ∙ ap (λ z. int_wrap w64 (scaled +ℤ z)) both_is
    ∙ int_wrap-add_right w64 scaled (m +ℤ k)
    ∙ ap (int_wrap w64) first
    ∙ int_wrap-add_same w64 m (p +ℤ neg_ℤ a) (scaled +ℤ k) m_is
    ∙ ap (int_wrap w64) second
    ∙ int_wrap-add_same w64 k (q +ℤ neg_ℤ b) (scaled +ℤ (p +ℤ neg_ℤ a)) k_is
    ∙ ap (int_wrap w64) third

-- ---- a number added to the row entries of a set's nodes

pub added_left : (number : ℤ) (nodes : List ℕ) (index x default : ℕ) → index < length nodes
    → added number (drop index nodes) x ≡ (if get_or nodes index default == x then number else pos 0) +ℤ added number (drop (index + 1) nodes) x
added_left number nodes index x default lt = ap (λ ns. added number ns x) (drop-cons nodes index default lt) ∙ rw (add-one index) refl

-- ---- lists by node

times_left : (place : SetPlace) (nodes : List ℕ) (index x default : ℕ) → index < length nodes
    → times place (drop index nodes) x ≡ (if get_or nodes index default == x then (place ∷ times place (drop (index + 1) nodes) x) else times place (drop (index + 1) nodes) x)
times_left place nodes index x default lt = ap (λ ns. times place ns x) (drop-cons nodes index default lt) ∙ rw (add-one index) refl

-- a place is put at the end of a node's list
pub listed_more : (place : SetPlace) (nodes : List ℕ) (index node : ℕ) (lists : List (Vec SetPlace)) (slot new : Vec SetPlace) (x : ℕ) (a : Vec SetPlace) (all : List SetPlace) → index < length nodes
    → node ≡ get_or nodes index 0 → node < length lists → slot ≡ get_or lists node slot → new.items ≡ slot.items ++ place ∷ []
    → ((b : Vec SetPlace) → (get_or lists x b).items ++ times place (drop index nodes) x ≡ all)
    → (get_or (set lists node new) x a).items ++ times place (drop (index + 1) nodes) x ≡ all
listed_more place nodes index node lists slot new x a all lt node_is inside slot_is new_is said =
    let rest : List SetPlace = times place (drop (index + 1) nodes) x in
    let left : times place (drop index nodes) x ≡ (if node == x then (place ∷ rest) else rest) =
    times_left place nodes index x 0 lt ∙ ap (λ y. if y == x then (place ∷ rest) else rest) (sym node_is) in
    elim (cases_eq node x) [
      | inl same ↦
          let here : times place (drop index nodes) x ≡ place ∷ rest = left ∙ rw (eq-eqb node x same) refl in
          ap (λ ys. ys ++ rest) (ap (λ (v : Vec SetPlace). v.items) (subst (λ (y : ℕ). get_or (set lists node new) y a ≡ new) same (get_or-set_same lists node new a inside)) ∙ new_is)
          ∙ append_assoc slot.items (place ∷ []) rest
          ∙ ap (λ ys. ys ++ place ∷ rest) (ap (λ (v : Vec SetPlace). v.items) (slot_is ∙ ap (λ y. get_or lists y slot) same))
          ∙ ap (λ ys. (get_or lists x slot).items ++ ys) (sym here)
          ∙ said slot
      | inr other ↦
          let here : times place (drop index nodes) x ≡ rest = left ∙ rw (ne_eqb node x other) refl in
          ap (λ (v : Vec SetPlace). v.items ++ rest) (get_or-set_other lists node x new a (λ e. other (sym e)))
          ∙ ap (λ ys. (get_or lists x a).items ++ ys) (sym here)
          ∙ said a
    ]

-- one set more of a family
pub set_listed : (family number : ℕ) (sets : List (Vec ℕ)) (x : ℕ) (own : Vec ℕ) (old new all : List SetPlace) → number < length sets → own ≡ get_or sets number own
    → new ≡ old ++ times (place_at family number) own.items x → old ++ places_in family number (lists_of (drop number sets)) x ≡ all
    → new ++ places_in family (number + 1) (lists_of (drop (number + 1) sets)) x ≡ all
set_listed family number sets x own old new all lt own_is new_is said =
    let here : List SetPlace = times (place_at family number) own.items x in
    let rest : List SetPlace = places_in family (number + 1) (lists_of (drop (number + 1) sets)) x in
    let left : places_in family number (lists_of (drop number sets)) x ≡ here ++ rest =
    ap (λ ss. places_in family number (lists_of ss) x) (drop-cons sets number own lt)
    ∙ rw (add-one number) (ap (λ (s : Vec ℕ). times (place_at family number) s.items x ++ places_in family (suc number) (lists_of (drop (suc number) sets)) x) (sym own_is)) in
    ap (λ ys. ys ++ rest) new_is ∙ append_assoc old here rest ∙ ap (λ ys. old ++ ys) (sym left) ∙ said

-- one family more
pub family_listed : (number : ℕ) (families : List (Vec (Vec ℕ))) (x : ℕ) (own : Vec (Vec ℕ)) (old new all : List SetPlace) → number < length families → own ≡ get_or families number own
    → new ≡ old ++ places_in number 0 (lists_of own.items) x → old ++ places_with number (families_in (drop number families)) x ≡ all
    → new ++ places_with (number + 1) (families_in (drop (number + 1) families)) x ≡ all
family_listed number families x own old new all lt own_is new_is said =
    let here : List SetPlace = places_in number 0 (lists_of own.items) x in
    let rest : List SetPlace = places_with (number + 1) (families_in (drop (number + 1) families)) x in
    let left : places_with number (families_in (drop number families)) x ≡ here ++ rest =
    ap (λ fs. places_with number (families_in fs) x) (drop-cons families number own lt)
    ∙ rw (add-one number) (ap (λ (f : Vec (Vec ℕ)). places_in number 0 (lists_of f.items) x ++ places_with (suc number) (families_in (drop (suc number) families)) x) (sym own_is)) in
    ap (λ ys. ys ++ rest) new_is ∙ append_assoc old here rest ∙ ap (λ ys. old ++ ys) (sym left) ∙ said

-- ---- what the sets that have a node add to its row of weights, set by set

none_if : (b : Bool) → (if b then pos 0 else pos 0) ≡ pos 0
none_if true = refl
none_if false = refl

pub added_none : (nodes : List ℕ) (x : ℕ) → added (pos 0) nodes x ≡ pos 0
added_none [] x = refl
added_none (node ∷ nodes) x = let first = none_if (node == x) in omega (arith, ints, first, added_none nodes x)

pub inside_left : (multipliers : List ℤ) (families : List (List (List ℕ))) (places : List SetPlace) (index x : ℕ) (default : SetPlace) → index < length places
    → inside_both multipliers families (drop index places) x ≡ twice_in multipliers families (get_or places index default) x +ℤ inside_both multipliers families (drop (index + 1) places) x
inside_left multipliers families places index x default lt = ap (λ ps. inside_both multipliers families ps x) (drop-cons places index default lt) ∙ rw (add-one index) refl

-- ---- the multipliers of a node's sets, taken off its potential set by set

pub added_less : (number : ℤ) (nodes : List ℕ) (x : ℕ) → added (neg_ℤ number) nodes x ≡ neg_ℤ (added number nodes x)
added_less number [] x = refl
added_less number (node ∷ nodes) x =
    let rest = added_less number nodes x in
    elim (cases_Bool (node == x)) [
      | inl here ↦ rw here (omega (arith, ints, rest))
      | inr other ↦ rw other (omega (arith, ints, rest))
    ]

-- the same for the sets of a family
pub all_less : (number : ℤ) (sets : List (List ℕ)) (x : ℕ) → sum_int_by (λ set. added (neg_ℤ number) set x) sets ≡ neg_ℤ (sum_int_by (λ set. added number set x) sets)
all_less number [] x = refl
all_less number (set ∷ sets) x = let own = added_less number set x in let rest = all_less number sets x in omega (arith, ints, own, rest)

-- the family that is next
pub multipliers_left : (multipliers : List ℤ) (families : List (Vec (Vec ℕ))) (index x : ℕ) (default : Vec (Vec ℕ)) → index < length families
    → neg_ℤ (summed_from index (λ multiplier set. added multiplier set x) multipliers (families_in (drop index families)))
    ≡ neg_ℤ (sum_int_by (λ set. added (get_or multipliers index (pos 0)) set x) (lists_of (get_or families index default).items))
    +ℤ neg_ℤ (summed_from (index + 1) (λ multiplier set. added multiplier set x) multipliers (families_in (drop (index + 1) families)))
multipliers_left multipliers families index x default lt =
    let all = ap (λ fs. summed_from index (λ multiplier set. added multiplier set x) multipliers (families_in fs)) (drop-cons families index default lt) in
    rw (add-one index) (omega (arith, ints, all))

pub sets_left : (number : ℤ) (sets : List (Vec ℕ)) (index x : ℕ) (default : Vec ℕ) → index < length sets
    → sum_int_by (λ set. added number set x) (lists_of (drop index sets)) ≡ added number (get_or sets index default).items x
    +ℤ sum_int_by (λ set. added number set x) (lists_of (drop (index + 1) sets))
sets_left number sets index x default lt = ap (λ ss. sum_int_by (λ set. added number set x) (lists_of ss)) (drop-cons sets index default lt) ∙ rw (add-one index) refl

pub wrapped_by : (change old new base : ℤ) → IsMoved change old new → old ≡ base → int_wrap w64 new ≡ int_wrap w64 (base +ℤ change)
wrapped_by change old new base (inl same) is = ap (int_wrap w64) (let kept = same.0 in let none = same.1 in omega (arith, ints, kept, none, is))
wrapped_by change old new base (inr wrapped) is =
    ap (int_wrap w64) wrapped ∙ int_wrap_fits w64 (int_wrap w64 (old +ℤ change)) (SFits-int_wrap w64 (old +ℤ change)) ∙ ap (λ z. int_wrap w64 (z +ℤ change)) is

-- ---- the weight between two nodes as if no set had both, moved by the sets that have both

pub combed_at : (scale : ℤ) (potentials multipliers : List ℤ) (families : List (List (List ℕ))) (cost : ℕ → ℕ → ℤ) (from x : ℕ) (apart value : ℤ)
    → All (All HasEachOnce) families → IsFromTo (pos 0) (pos most_crossed) (set_crossings multipliers families from x) → IsApart scale potentials multipliers families cost from x apart
    → IsMoved (inside_both multipliers families (places_with 0 families from) x) apart value
    → (value ≡ set_weight scale potentials multipliers families cost from x) × IsFromTo (neg_ℤ (pos most_combed)) (pos most_combed) value
combed_at scale potentials multipliers families cost from x apart value once crossed is gained =
    let base : ℤ = weight_between scale potentials cost from x in
    let w : ℤ = set_weight scale potentials multipliers families cost from x in
    let crossings : ℤ = set_crossings multipliers families from x in
    let size : IsFromTo (neg_ℤ (pos most_combed)) (pos most_combed) w = combed_size base crossings is.1 crossed in
    let come = sets_come_to multipliers families from x once in
    let to : value ≡ w = moved_to (neg_ℤ crossings) base value w (omega (arith, ints)) (combed_fits w size)
    (subst (λ (z : ℤ). IsMoved z base value) come (moved_on _ _ _ _ _ is.0 gained)) in
    (to, subst (λ (z : ℤ). IsFromTo (neg_ℤ (pos most_combed)) (pos most_combed) z) (sym to) size)

-- ---- the weight between two nodes under the decisions of a case

pub changes_are : (decisions : List Decision) (w : ℕ → ℕ → ℤ) (i j : ℕ) → decided decisions w i j ≡ w i j +ℤ changes decisions i j
changes_are [] w i j = omega (arith, ints)
changes_are (decision ∷ decisions) w i j =
    let rest = changes_are decisions w i j in
    elim (cases_Bool decision.taken) [
      | inl taken ↦ elim (cases_Bool (is_same_pair decision.pair (i, j))) [
        | inl same ↦ rw (taken, same) (omega (arith, ints, rest))
        | inr other ↦ rw (taken, other) (omega (arith, ints, rest))
      ]
      | inr avoided ↦ elim (cases_Bool (is_same_pair decision.pair (i, j))) [
        | inl same ↦ rw (avoided, same) (omega (arith, ints, rest))
        | inr other ↦ rw (avoided, other) (omega (arith, ints, rest))
      ]
    ]

pub changes_left : (decisions : List Decision) (index i j : ℕ) (default : Decision) → index < length decisions
    → changes (drop index decisions) i j ≡ change_of (slice_index_or decisions index default) i j +ℤ changes (drop (index + 1) decisions) i j
changes_left decisions index i j default inside = ap (λ ds. changes ds i j) (drop-cons decisions index default inside) ∙ rw (add-one index)

pub within : (z : ℤ) → IsFromTo (neg_ℤ (pos 9000000000000000000)) (pos 9000000000000000000) z → FitsSigned w64 z
within z h = fits_signed_from_abs w64 z (let size = size_of 9000000000000000000 z h in omega (arith, size))

-- ---- the weights, the row bounds and the sum given back, by sets and their multipliers

-- the weights by sets, changed by the decisions of a case, are the weights of the leaf
pub case_weight : (w : ℕ → ℕ → ℤ) (scale : ℤ) (crossed : List Crossings) (potentials multipliers : List ℤ) (families : List (List (List ℕ))) (case : List Decision) (cost : ℕ → ℕ → ℤ) (i j : ℕ)
    → length crossed ≡ length families → length multipliers ≡ length families → w i j ≡ set_weight scale potentials multipliers families cost i j
    → decided case w i j
    ≡ leaf_weight scale potentials (on_taken decided_number case) (on_avoided decided_number case)
    (multiplied (families_with crossed families) multipliers) cost i j
case_weight w scale crossed potentials multipliers families case cost i j many long is =
    let v : ℕ → ℕ → ℤ = set_weight scale potentials multipliers families cost in
    let leaf = sets_give_leaves scale crossed potentials multipliers (on_taken decided_number case) (on_avoided decided_number case) families cost i j many long in
    let by = changes_are case v i j in
    let own = changes_are case w i j in
    omega (arith, ints, leaf, by, own, is)

-- ---- good numbers

each_below : (ms : List ℤ) → AllByRecursion (λ m. pos 0 ≤ℤ m) ms → (pos 0 ≤ℤ total ms) × AllByRecursion (λ m. IsFromTo (pos 0) (total ms) m) ms
each_below [] signs = (omega (arith, ints), tt)
each_below (m ∷ ms) signs =
    let rest = each_below ms signs.1 in
    (omega (arith, ints, rest.0, signs.0), ((signs.0, omega (arith, ints, rest.0)), wider (total ms) (m +ℤ total ms) ms (omega (arith, ints, signs.0)) rest.1))
  where
    wider : (a b : ℤ) (xs : List ℤ) → a ≤ℤ b → AllByRecursion (λ x. IsFromTo (pos 0) a x) xs → AllByRecursion (λ x. IsFromTo (pos 0) b x) xs
    wider a b [] h k = tt
    wider a b (x ∷ xs) h k = ((k.0.0, let most = k.0.1 in omega (arith, ints, most, h)), wider a b xs h k.1)

-- the multipliers are small, as some two nodes cross each family
pub few_multipliers : (crossed : List Crossings) (multipliers : List ℤ) → length multipliers ≡ length crossed → All (λ own. 1 ≤ own.most) crossed → All (λ m. pos 0 ≤ℤ m) multipliers
    → sum_with true crossed multipliers ≤ℤ pos most_crossed → total multipliers ≤ℤ pos most_crossed
few_multipliers crossed ms long some signs sum =
    let below = multipliers_below crossed ms long (recursion_from_All (λ own. 1 ≤ own.most) crossed some) (recursion_from_All (λ m. pos 0 ≤ℤ m) ms signs) in
    omega (arith, ints, below, sum)

pub small_multipliers : (n : ℕ) (crossed : List Crossings) (potentials multipliers : List ℤ) → All (λ own. 1 ≤ own.most) crossed → AreGoodNumbers n crossed (as_leaf_numbers potentials multipliers)
    → AreSmallMultipliers multipliers
small_multipliers n crossed potentials ms some good =
    let each = (each_below ms (recursion_from_All (λ m. pos 0 ≤ℤ m) ms good.signs)).1 in
    λ k default lt.
    let own = All-from_recursion (λ m. IsFromTo (pos 0) (total ms) m) ms each k default lt in
    (own.0, let most = own.1 in let sum = few_multipliers crossed ms good.each_family some good.signs good.sum in omega (arith, ints, most, sum))

pub few_crossings : (n : ℕ) (crossed : List Crossings) (potentials multipliers : List ℤ) (families : List (List (List ℕ))) → AreGoodNumbers n crossed (as_leaf_numbers potentials multipliers)
    → length crossed ≡ length families → ∥ All (IsFamily n) (families_with crossed families) ∥₁ → AreFewCrossings n multipliers families
few_crossings n crossed potentials ms families good many are = λ i j in_i in_j. ∥∥₁_elim are (hlevel props) (λ sure.
    let few = families_crossed_few n crossed families ms i j in_i in_j many (recursion_from_All (IsFamily n) (families_with crossed families) sure)
    (recursion_from_All (λ m. pos 0 ≤ℤ m) ms good.signs) in
    let same = sets_tell_combs crossed ms families i j many (good.each_family ∙ many) in
    let sum = good.sum in
    (let low = few.0 in omega (arith, ints, low, same), let high = few.1 in omega (arith, ints, high, same, sum)))

-- ---- the least links from each node

-- the weights by sets are those of a leaf by rows
pub row_weight : (crossed : List Crossings) (scale : ℤ) (potentials multipliers : List ℤ) (families : List (List (List ℕ))) (cost : ℕ → ℕ → ℤ) (i j : ℕ) → length crossed ≡ length families
    → length multipliers ≡ length families
    → set_weight scale potentials multipliers families cost i j ≡ combed (multiplied (families_with crossed families) multipliers) (weight_between scale potentials cost) i j
row_weight crossed scale ps ms families cost i j many long = ap (λ (z : ℤ). weight_between scale ps cost i j -ℤ z) (sym (sets_tell_combs crossed ms families i j many long))

-- the bound that code finds by rows is that of the leaf
pub found_by_rows : (n k : ℕ) (cost : ℕ → ℕ → ℤ) (scale held number : ℤ) (families : List Family) (case : List Decision) (potentials multipliers : List ℤ) (w : ℕ → ℕ → ℤ) (back : ℤ)
    (found : Option ℤ) → k ≡ n → held ≡ scale
    → ((i j : ℕ) → w i j ≡ combed (multiplied families multipliers) (weight_between scale potentials cost) i j)
    → back ≡ least_of (multiplied families multipliers) -ℤ (pos 2 *ℤ total potentials)
    → MatchOption found (HasNoLink k case) (λ bound. IsRowBound k w case held back bound)
    → IsFoundAt true n cost scale number families (case, as_leaf_numbers potentials multipliers) found
found_by_rows n k cost scale held number families case ps ms w back None nodes_are scale_is agree back_is none = subst (λ (m : ℕ). HasNoLink m case) nodes_are none
found_by_rows n k cost scale held number families case ps ms w back (Some bound) nodes_are scale_is agree back_is is =
    let v : ℕ → ℕ → ℤ = combed (multiplied families ms) (weight_between scale ps cost) in
    subst (λ (z : ℤ). IsRowBound n v case scale z bound) back_is
    (agreed_rows n w v case scale back bound agree
    (subst (λ (m : ℕ). IsRowBound m w case scale back bound) nodes_are
    (subst (λ (z : ℤ). IsRowBound k w case z back bound) scale_is is)))

-- the sum that a leaf gives back, in the order of the code
pub back_of : (taken less taken_sum least_sum twice : ℤ) → taken ≡ taken_sum → less ≡ least_sum -ℤ twice → taken +ℤ less ≡ (taken_sum +ℤ least_sum) -ℤ twice
back_of taken less taken_sum least_sum twice p q = omega (arith, ints, p, q)

-- the potential of a node plus its end is the potential less its multipliers
pub moved_from_ends : (potential end held taken : ℤ) → held ≡ int_wrap w64 (potential +ℤ end) → int_wrap w64 end ≡ int_wrap w64 taken → int_wrap w64 held ≡ int_wrap w64 (potential +ℤ taken)
moved_from_ends potential end held taken held_is end_is =
    let turned : potential +ℤ end ≡ end +ℤ potential = omega (arith, ints) in
    let back : taken +ℤ potential ≡ potential +ℤ taken = omega (arith, ints) in
    ap (int_wrap w64) held_is ∙ int_wrap_fits w64 (int_wrap w64 (potential +ℤ end)) (SFits-int_wrap w64 (potential +ℤ end)) ∙ ap (int_wrap w64) turned
    ∙ int_wrap-add_same w64 end taken potential end_is ∙ ap (int_wrap w64) back

pub some_left : (k : ℕ) → (k == 0) ≡ false → 1 ≤ k
some_left zero is = absurd (both_ways true is refl)
some_left (suc k) is = omega arith
