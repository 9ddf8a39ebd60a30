-- For src/boxed.rt: the sets that have both of two nodes, the least that an edge can weigh in a box, and that boxes and
-- rows have equal weights.
use Rattle.tsp_branch.proofs.Prelude.{◌≡◌, ◌≢◌, ℕ, zero, suc, ◌+◌, ◌<◌, ◌==◌, ◌&&◌, ◌||◌, Bool, true, false, List, [], ◌∷◌, ◌++◌, length, drop, drop-cons, add-one, get_or, inl, inr, refl, ap, sym, ◌∙◌, arith, map, subst, ◌*◌, ◌^◌, ap₂, to_z, of_z, cases_Bool, eq-eqb, ne_eqb, cases_eq, ints, int_wrap_fits, int_wrap-add_same, reverse-append, w64, int_wrap, w128, All, AllByRecursion, filter, ℤ, pos, ◌+ℤ◌, ◌*ℤ◌, ◌≤ℤ◌, if◌then◌else◌, negsuc, neg_ℤ, ◌<ℤ◌, reverse, ◌-ℤ◌, most_nodes, IsFromTo, entry, weight_between, most_between, total, IsLeastBound, triples_total, changes_borne, changes_turned, both_sums, added_once, changes_are, sets_come_to, places_inside, case_weight, multiplied, least_of, leaf_weight, on_taken, on_avoided, decided_number, HasEachOnce, families_with, Decision, SetPlace, decided, change_of, changes, stack_of, bears_on, added, times, places_in, places_with, place_at, IsPlaceIn, summed_from, multipliers_at, set_in, twice_in, inside_both, AreSmallMultipliers, set_crossings, most_combed, set_weight}
use Rattle.std.proofs.Math.Bool.{and-false, or-false}
use Rattle.std.proofs.Math.ListN.{get_or-map}
use Rattle.std.proofs.lemmas.List.Elements.{recursion_from_All}
use Rattle.tsp_format.specs.Words.{IsSymmetric}
use Rattle.tsp_theory.specs.Tour.{sum_int_by}
use Rattle.tsp_theory.specs.Tree.{weight_of, IsLeastOneTree}
use Rattle.tsp_bound.specs.states.ByNode.{node_in}
use Rattle.tsp_cases.proofs.LeavesBoundCycles.{leaf_even}
use Rattle.tsp_cases.proofs.FamilyCrossings.{combed_size, combed_fits}
use Rattle.tsp_cases.proofs.PartWalks.{apart_from_pairs}
use Rattle.tsp_cases.specs.Crossings.{has}
use Rattle.tsp_cases.specs.ListedCases.{most_crossed}
use Rattle.tsp_cases.specs.declared.family.Crossings.{Crossings}
use Rattle.tsp_branch.specs.BranchVerdicts.{IsBoundOfWeights, BoundsEachLeaf}
use Rattle.tsp_branch.specs.states.LeafRows.{is_same_place, has_place, shared_by, sum_at_places, upwards, raised, other_of, others_of}

-- ---- the multipliers of the sets that have a node, summed over its list

times_sum : (g : SetPlace → ℤ) (place : SetPlace) (nodes : List ℕ) (x : ℕ) → sum_int_by g (times place nodes x) ≡ added (g place) nodes x
times_sum g place [] x = refl
times_sum g place (node ∷ nodes) x = let rest = times_sum g place nodes x in elim (cases_Bool (node == x)) [
  | inl here ↦ rw here (omega (arith, ints, rest))
  | inr other ↦ rw other (omega (arith, ints, rest))
]

family_sum : (ms : List ℤ) (family first : ℕ) (sets : List (List ℕ)) (x : ℕ)
    → sum_at_places ms (places_in family first sets x) ≡ sum_int_by (λ set. added (get_or ms family (pos 0)) set x) sets
family_sum ms family first [] x = refl
family_sum ms family first (set ∷ sets) x =
    let own = times_sum (λ place. get_or ms place.family (pos 0)) (place_at family first) set x in
    let split = both_sums (λ place. get_or ms place.family (pos 0)) (times (place_at family first) set x) (places_in family (suc first) sets x) in
    let rest = family_sum ms family (suc first) sets x in
    omega (arith, ints, own, split, rest)

families_sum : (ms : List ℤ) (first : ℕ) (families : List (List (List ℕ))) (x : ℕ)
    → sum_at_places ms (places_with first families x) ≡ summed_from first (λ m set. added m set x) ms families
families_sum ms first [] x = refl
families_sum ms first (sets ∷ families) x =
    let own = family_sum ms first 0 sets x in
    let split = both_sums (λ place. get_or ms place.family (pos 0)) (places_in first 0 sets x) (places_with (suc first) families x) in
    let rest = families_sum ms (suc first) families x in
    omega (arith, ints, own, split, rest)

pub number_is : (ms : List ℤ) (families : List (List (List ℕ))) (x : ℕ) → sum_at_places ms (places_with 0 families x) ≡ multipliers_at ms families x
number_is ms families x = families_sum ms 0 families x

-- ---- a node's list has the place of a set if the set has the node

or_assoc : (a b c : Bool) → ((a || b) || c) ≡ (a || (b || c))
or_assoc true b c = refl
or_assoc false b c = refl

has_both : (xs ys : List SetPlace) (p : SetPlace) → has_place (xs ++ ys) p ≡ (has_place xs p || has_place ys p)
has_both [] ys p = refl
has_both (x ∷ xs) ys p = ap (λ b. is_same_place p x || b) (has_both xs ys p) ∙ sym (or_assoc (is_same_place p x) (has_place xs p) (has_place ys p))

has_times : (place : SetPlace) (nodes : List ℕ) (x : ℕ) (p : SetPlace) → is_same_place p place ≡ true → has_place (times place nodes x) p ≡ has nodes x
has_times place [] x p is = refl
has_times place (node ∷ nodes) x p is = elim (cases_Bool (node == x)) [
  | inl here ↦ rw (here, is) refl
  | inr other ↦ rw other (has_times place nodes x p is)
]

no_times : (place : SetPlace) (nodes : List ℕ) (x : ℕ) (p : SetPlace) → is_same_place p place ≡ false → has_place (times place nodes x) p ≡ false
no_times place [] x p not = refl
no_times place (node ∷ nodes) x p not = elim (cases_Bool (node == x)) [
  | inl here ↦ rw (here, not) (no_times place nodes x p not)
  | inr other ↦ rw other (no_times place nodes x p not)
]

own_place : (family set : ℕ) → is_same_place (place_at family set) (place_at family set) ≡ true
own_place family set = rw (eq-eqb family family refl, eq-eqb set set refl) refl

other_family : (f s family set : ℕ) → family ≢ f → is_same_place (place_at f s) (place_at family set) ≡ false
other_family f s family set apart = rw (ne_eqb family f apart) refl

other_set : (f s family set : ℕ) → set ≢ s → is_same_place (place_at f s) (place_at family set) ≡ false
other_set f s family set apart = rw (ne_eqb set s apart) (and-false (family == f))

-- a list of the places of one family's sets, from a first set on, has no set before it and none of another family
none_before : (family first s : ℕ) (sets : List (List ℕ)) (x : ℕ) → s < first → has_place (places_in family first sets x) (place_at family s) ≡ false
none_before family first s [] x below = refl
none_before family first s (set ∷ sets) x below =
    has_both (times (place_at family first) set x) (places_in family (suc first) sets x) (place_at family s)
    ∙ ap (λ b. b || has_place (places_in family (suc first) sets x) (place_at family s))
    (no_times (place_at family first) set x (place_at family s) (other_set family s family first (λ e. absurd (omega (arith, e, below)))))
    ∙ none_before family (suc first) s sets x (omega (arith, below))

none_of_another : (family first f s : ℕ) (sets : List (List ℕ)) (x : ℕ) → family ≢ f → has_place (places_in family first sets x) (place_at f s) ≡ false
none_of_another family first f s [] x apart = refl
none_of_another family first f s (set ∷ sets) x apart =
    has_both (times (place_at family first) set x) (places_in family (suc first) sets x) (place_at f s)
    ∙ ap (λ b. b || has_place (places_in family (suc first) sets x) (place_at f s)) (no_times (place_at family first) set x (place_at f s) (other_family f s family first apart))
    ∙ none_of_another family (suc first) f s sets x apart

in_family : (family first k : ℕ) (sets : List (List ℕ)) (x : ℕ) → k < length sets → has_place (places_in family first sets x) (place_at family (first + k)) ≡ has (get_or sets k []) x
in_family family first k [] x lt = absurd (omega (arith, lt))
in_family family first zero (set ∷ sets) x lt =
    ap (λ s. has_place (places_in family first (set ∷ sets) x) (place_at family s)) (let e : first + 0 ≡ first = omega arith in e)
    ∙ has_both (times (place_at family first) set x) (places_in family (suc first) sets x) (place_at family first)
    ∙ ap (λ b. b || has_place (places_in family (suc first) sets x) (place_at family first)) (has_times (place_at family first) set x (place_at family first) (own_place family first))
    ∙ ap (λ b. has set x || b) (none_before family (suc first) first sets x (omega arith)) ∙ or-false (has set x)
in_family family first (suc k) (set ∷ sets) x lt =
    has_both (times (place_at family first) set x) (places_in family (suc first) sets x) (place_at family (first + suc k))
    ∙ ap (λ b. b || has_place (places_in family (suc first) sets x) (place_at family (first + suc k)))
    (no_times (place_at family first) set x (place_at family (first + suc k)) (other_set family (first + suc k) family first (λ e. absurd (omega (arith, e)))))
    ∙ ap (λ s. has_place (places_in family (suc first) sets x) (place_at family s)) (let e : first + suc k ≡ suc first + k = omega arith in e)
    ∙ in_family family (suc first) k sets x (omega (arith, lt))

none_with : (first f s : ℕ) (families : List (List (List ℕ))) (x : ℕ) → f < first → has_place (places_with first families x) (place_at f s) ≡ false
none_with first f s [] x below = refl
none_with first f s (sets ∷ families) x below =
    has_both (places_in first 0 sets x) (places_with (suc first) families x) (place_at f s)
    ∙ ap (λ b. b || has_place (places_with (suc first) families x) (place_at f s)) (none_of_another first 0 f s sets x (λ e. absurd (omega (arith, e, below))))
    ∙ none_with (suc first) f s families x (omega (arith, below))

in_families : (first k s : ℕ) (families : List (List (List ℕ))) (x : ℕ) → k < length families → s < length (get_or families k [])
    → has_place (places_with first families x) (place_at (first + k) s) ≡ has (get_or (get_or families k []) s []) x
in_families first k s [] x lt inside = absurd (omega (arith, lt))
in_families first zero s (sets ∷ families) x lt inside =
    ap (λ f. has_place (places_with first (sets ∷ families) x) (place_at f s)) (let e : first + 0 ≡ first = omega arith in e)
    ∙ has_both (places_in first 0 sets x) (places_with (suc first) families x) (place_at first s)
    ∙ ap (λ b. b || has_place (places_with (suc first) families x) (place_at first s))
    (ap (λ k. has_place (places_in first 0 sets x) (place_at first k)) (let e : s ≡ 0 + s = omega arith in e) ∙ in_family first 0 s sets x inside)
    ∙ ap (λ b. has (get_or sets s []) x || b) (none_with (suc first) first s families x (omega arith)) ∙ or-false (has (get_or sets s []) x)
in_families first (suc k) s (sets ∷ families) x lt inside =
    has_both (places_in first 0 sets x) (places_with (suc first) families x) (place_at (first + suc k) s)
    ∙ ap (λ b. b || has_place (places_with (suc first) families x) (place_at (first + suc k) s)) (none_of_another first 0 (first + suc k) s sets x (λ e. absurd (omega (arith, e))))
    ∙ ap (λ f. has_place (places_with (suc first) families x) (place_at f s)) (let e : first + suc k ≡ suc first + k = omega arith in e)
    ∙ in_families (suc first) k s families x (omega (arith, lt)) inside

has_is : (families : List (List (List ℕ))) (p : SetPlace) (x : ℕ) → IsPlaceIn families p → has_place (places_with 0 families x) p ≡ has (set_in families p) x
has_is families p x inside = ap (λ f. has_place (places_with 0 families x) (place_at f p.set)) (let e : p.family ≡ 0 + p.family = omega arith in e)
    ∙ in_families 0 p.family p.set families x inside.0 inside.1

-- ---- so the multipliers of the sets with both nodes are those of the places in both lists

shared_one : (ms : List ℤ) (families : List (List (List ℕ))) (p : SetPlace) (x : ℕ) → All (All HasEachOnce) families → IsPlaceIn families p
    → (if has_place (places_with 0 families x) p then (pos 2 *ℤ get_or ms p.family (pos 0)) else pos 0) ≡ twice_in ms families p x
shared_one ms families p x once inside =
    ap (λ b. if b then (pos 2 *ℤ get_or ms p.family (pos 0)) else pos 0) (has_is families p x inside)
    ∙ sym (added_once (pos 2 *ℤ get_or ms p.family (pos 0)) (set_in families p) x (apart_from_pairs (set_in families p) (once p.family [] inside.0 p.set [] inside.1)))

shared_all : (ms : List ℤ) (families : List (List (List ℕ))) (places : List SetPlace) (x : ℕ) → All (All HasEachOnce) families → AllByRecursion (IsPlaceIn families) places
    → shared_by ms (places_with 0 families x) places ≡ inside_both ms families places x
shared_all ms families [] x once inside = refl
shared_all ms families (p ∷ places) x once inside =
    let own = shared_one ms families p x once inside.0 in
    let rest = shared_all ms families places x once inside.1 in
    omega (arith, ints, own, rest)

pub shared_is : (ms : List ℤ) (families : List (List (List ℕ))) (places : List SetPlace) (x : ℕ) → All (All HasEachOnce) families → All (IsPlaceIn families) places
    → shared_by ms (places_with 0 families x) places ≡ inside_both ms families places x
shared_is ms families places x once inside = shared_all ms families places x once (recursion_from_All (IsPlaceIn families) places inside)

-- ---- their sum isn't negative

added_some : (number : ℤ) (nodes : List ℕ) (x : ℕ) → pos 0 ≤ℤ number → pos 0 ≤ℤ added number nodes x
added_some number [] x some = omega (arith, ints)
added_some number (node ∷ nodes) x some = let rest = added_some number nodes x some in elim (cases_Bool (node == x)) [
  | inl here ↦ rw here (omega (arith, ints, rest, some))
  | inr other ↦ rw other (omega (arith, ints, rest))
]

inside_some : (ms : List ℤ) (families : List (List (List ℕ))) (places : List SetPlace) (x : ℕ) → AreSmallMultipliers ms → AllByRecursion (λ p. p.family < length ms) places
    → pos 0 ≤ℤ inside_both ms families places x
inside_some ms families [] x small inside = omega (arith, ints)
inside_some ms families (p ∷ places) x small inside =
    let own = small p.family (pos 0) inside.0 in
    let rest = inside_some ms families places x small inside.1 in
    let here = added_some (pos 2 *ℤ get_or ms p.family (pos 0)) (set_in families p) x (let low = own.0 in omega (arith, ints, low)) in
    omega (arith, ints, here, rest)

pub inside_no_less : (ms : List ℤ) (families : List (List (List ℕ))) (places : List SetPlace) (x : ℕ) → AreSmallMultipliers ms → All (λ p. p.family < length ms) places
    → pos 0 ≤ℤ inside_both ms families places x
inside_no_less ms families places x small inside = inside_some ms families places x small (recursion_from_All (λ p. p.family < length ms) places inside)

-- ---- one place of a list after the other

pub has_left : (places : List SetPlace) (index : ℕ) (p default : SetPlace) → index < length places
    → has_place (drop index places) p ≡ (is_same_place p (get_or places index default) || has_place (drop (index + 1) places) p)
has_left places index p default lt = ap (λ ps. has_place ps p) (drop-cons places index default lt) ∙ rw (add-one index) refl

pub shared_left : (numbers : List ℤ) (others places : List SetPlace) (index : ℕ) (default : SetPlace) → index < length places
    → shared_by numbers others (drop index places)
    ≡ (if has_place others (get_or places index default) then (pos 2 *ℤ get_or numbers (get_or places index default).family (pos 0)) else pos 0) +ℤ shared_by numbers others (drop (index + 1) places)
shared_left numbers others places index default lt = ap (shared_by numbers others) (drop-cons places index default lt) ∙ rw (add-one index) refl

-- ---- the weight of an edge of a leaf is at least its base

module _ (scale : ℤ) (potentials multipliers : List ℤ) (families : List (List (List ℕ))) (cost : ℕ → ℕ → ℤ) (from x : ℕ) (p q base : ℤ) (once : All (All HasEachOnce) families)
    (p_is : p ≡ entry potentials from +ℤ neg_ℤ (multipliers_at multipliers families from)) (q_is : q ≡ entry potentials x +ℤ neg_ℤ (multipliers_at multipliers families x))
    (base_is : base ≡ (scale *ℤ cost from x) +ℤ (p +ℤ q)) where
  -- the base plus the multipliers of the sets that have both nodes is the weight by sets
  pub base_and_inside : base +ℤ inside_both multipliers families (places_with 0 families from) x ≡ set_weight scale potentials multipliers families cost from x
  base_and_inside =
      let come = sets_come_to multipliers families from x once in
      omega (arith, ints, come, p_is, q_is, base_is)

  pub boxed_at : (shared value : ℤ) → IsFromTo (neg_ℤ (pos most_between)) (pos most_between) (weight_between scale potentials cost from x)
      → IsFromTo (pos 0) (pos most_crossed) (set_crossings multipliers families from x)
      → int_wrap w64 shared ≡ int_wrap w64 (inside_both multipliers families (places_with 0 families from) x) → value ≡ int_wrap w64 (base +ℤ shared)
      → (value ≡ set_weight scale potentials multipliers families cost from x) × IsFromTo (neg_ℤ (pos most_combed)) (pos most_combed) value
  boxed_at shared value between crossed shared_is value_is =
      let w : ℤ = set_weight scale potentials multipliers families cost from x in
      let inside : ℤ = inside_both multipliers families (places_with 0 families from) x in
      let size : IsFromTo (neg_ℤ (pos most_combed)) (pos most_combed) w = combed_size (weight_between scale potentials cost from x) (set_crossings multipliers families from x) between crossed in
      let first : base +ℤ shared ≡ shared +ℤ base = omega (arith, ints) in
      let second : inside +ℤ base ≡ w = (let e : inside +ℤ base ≡ base +ℤ inside = omega (arith, ints) in e) ∙ base_and_inside in
      let is : value ≡ w = value_is ∙ ap (int_wrap w64) first ∙ int_wrap-add_same w64 shared inside base shared_is ∙ ap (int_wrap w64) second ∙ int_wrap_fits w64 w (combed_fits w size) in
      (is, subst (λ (z : ℤ). IsFromTo (neg_ℤ (pos most_combed)) (pos most_combed) z) (sym is) size)

-- ---- decisions that raise a weight, and those that lower it

pub upwards_some : (z : ℤ) → pos 0 ≤ℤ upwards z
upwards_some (pos k) = omega (arith, ints)
upwards_some (negsuc k) = omega (arith, ints)

module _ (scale : ℤ) (potentials multipliers : List ℤ) (families : List (List (List ℕ))) (cost : ℕ → ℕ → ℤ) (from x : ℕ) (p q base : ℤ) (once : All (All HasEachOnce) families)
    (p_is : p ≡ entry potentials from +ℤ neg_ℤ (multipliers_at multipliers families from)) (q_is : q ≡ entry potentials x +ℤ neg_ℤ (multipliers_at multipliers families x))
    (base_is : base ≡ (scale *ℤ cost from x) +ℤ (p +ℤ q)) where
  -- neither the sets of both nor avoided pairs make a weight less
  pub base_below : {lent crossed : ℕ} (case : List Decision) → AreSmallMultipliers multipliers → length multipliers ≡ lent → crossed ≡ length families → crossed ≡ lent
      → base ≤ℤ raised case (set_weight scale potentials multipliers families cost) from x
  base_below case small as_many many same =
      let sum = base_and_inside scale potentials multipliers families cost from x p q base once p_is q_is base_is in
      let places : All (λ p. p.family < length multipliers) (places_with 0 families from) = λ k d lt. let own = places_inside families from k d lt in omega (arith, own.0, as_many, many, same) in
      let some = inside_no_less multipliers families (places_with 0 families from) x small places in
      let up = upwards_some (changes case from x) in
      omega (arith, ints, sum, some, up)

pub below_upwards : (z : ℤ) → z ≤ℤ upwards z
below_upwards (pos k) = omega (arith, ints)
below_upwards (negsuc k) = omega (arith, ints)

pub upwards_less : (z : ℤ) → z <ℤ pos 0 → upwards z ≡ pos 0
upwards_less (pos k) less = absurd (omega (arith, ints, less))
upwards_less (negsuc k) less = refl

pub upwards_same : (z : ℤ) → pos 0 ≤ℤ z → upwards z ≡ z
upwards_same (pos k) some = refl
upwards_same (negsuc k) some = absurd (omega (arith, ints, some))

pub lowered_no_more : (case : List Decision) (w : ℕ → ℕ → ℤ) (i j : ℕ) → decided case w i j ≤ℤ raised case w i j
lowered_no_more case w i j =
    let own = changes_are case w i j in
    let up = below_upwards (changes case i j) in
    omega (arith, ints, own, up)

-- a pair that no decision of the case is on has the same weight
not_changed : (from to : ℕ) (d : Decision) → other_of from d ≢ to → change_of d from to ≡ pos 0
not_changed from to d apart = elim (cases_eq d.pair.0 from) [
  | inl first ↦
      let other : d.pair.1 ≢ to = λ e. apart (rw (eq-eqb d.pair.0 from first) e) in
      elim (cases_eq d.pair.1 from) [
        | inl both ↦
            let away : d.pair.0 ≢ to = λ e. other (both ∙ sym first ∙ e) in
            rw (ne_eqb d.pair.1 to other, ne_eqb d.pair.0 to away, and-false (d.pair.0 == from), and-false (d.pair.1 == from)) refl
        | inr second ↦ rw (ne_eqb d.pair.1 to other, ne_eqb d.pair.1 from second, and-false (d.pair.0 == from)) refl
      ]
  | inr first ↦
      let other : d.pair.0 ≢ to = λ e. apart (rw (ne_eqb d.pair.0 from first) e) in
      rw (ne_eqb d.pair.0 from first, ne_eqb d.pair.0 to other, and-false (d.pair.1 == from)) refl
]
  where
    and-false : (b : Bool) → (b && false) ≡ false
    and-false true = refl
    and-false false = refl

none_changed : (ds : List Decision) (from to : ℕ) → ((k : ℕ) → k < length (map (other_of from) ds) → node_in (map (other_of from) ds) k ≢ to) → changes ds from to ≡ pos 0
none_changed [] from to none = refl
none_changed (d ∷ ds) from to none =
    let own = not_changed from to d (none zero (omega arith)) in
    let rest = none_changed ds from to (λ k low. none (suc k) (omega (arith, low))) in
    omega (arith, ints, own, rest)

pub others_same : (case : List Decision) (w : ℕ → ℕ → ℤ) (from to : ℕ) → ((k : ℕ) → k < length (others_of case from) → node_in (others_of case from) k ≢ to)
    → decided case w from to ≡ raised case w from to
others_same case w from to none =
    let own = changes_are case w from to in
    let nothing : changes case from to ≡ pos 0 =
    sym (changes_turned (filter (bears_on false from) case) from to ∙ changes_borne case from to) ∙ none_changed (reverse (filter (bears_on false from) case)) from to none in
    own ∙ ap (λ (z : ℤ). w from to +ℤ z) (nothing ∙ sym (ap upwards nothing))

reverse_twice : (ds : List Decision) → reverse (reverse ds) ≡ ds
reverse_twice [] = refl
reverse_twice (d ∷ ds) = ap reverse (reverse-append (d ∷ []) ds) ∙ reverse-append (reverse ds) (d ∷ []) ∙ ap (λ es. d ∷ es) (reverse_twice ds)

pub listed_is : (case own : List Decision) (from : ℕ) → stack_of own ≡ filter (bears_on false from) case → map (other_of from) own ≡ others_of case from
listed_is case own from is = ap (map (other_of from)) (sym (reverse_twice own) ∙ ap reverse is)

pub listed_at_index : (case own : List Decision) (from index : ℕ) (d : Decision) → stack_of own ≡ filter (bears_on false from) case → other_of from d ≡ 0
    → node_in (others_of case from) index ≡ other_of from (get_or own index d)
listed_at_index case own from index d is none =
    sym (ap (λ ns. node_in ns index) (listed_is case own from is))
    ∙ ap (λ n. get_or (map (other_of from) own) index n) (sym none)
    ∙ get_or-map (other_of from) own index d

-- ---- equal weights have the same minimum 1-trees, and so the same bound

agreed_weight : (w v : ℕ → ℕ → ℤ) → ((i j : ℕ) → w i j ≡ v i j) → (pairs : List (ℕ × ℕ)) → weight_of w pairs ≡ weight_of v pairs
agreed_weight w v agree [] = refl
agreed_weight w v agree (pair ∷ pairs) = ap₂ (λ a b. a +ℤ b) (agree pair.0 pair.1) (agreed_weight w v agree pairs)

agreed_least : (n : ℕ) (w v : ℕ → ℕ → ℤ) (pairs : List (ℕ × ℕ)) → ((i j : ℕ) → w i j ≡ v i j) → IsLeastOneTree n w pairs → IsLeastOneTree n v pairs
agreed_least n w v pairs agree least = record {
  tree = least.tree;
  least = λ others tree.
      let own = agreed_weight w v agree pairs in
      let other = agreed_weight w v agree others in
      let below = least.least others tree in
      omega (arith, ints, own, other, below);
}

same_sum : (weight given_back potentials taken weighted : ℤ) → given_back ≡ (taken +ℤ weighted) -ℤ (pos 2 *ℤ potentials) → weight +ℤ given_back ≡ ((weight -ℤ (pos 2 *ℤ potentials)) +ℤ taken) +ℤ weighted
same_sum weight given_back potentials taken weighted is = omega (arith, ints, is)

pub bounds_each_leaf : (n : ℕ) (w : ℕ → ℕ → ℤ) (scale given_back bound : ℤ) → IsBoundOfWeights n w scale given_back bound → BoundsEachLeaf n w scale given_back bound
bounds_each_leaf n w scale given_back bound b cost potentials taken avoided weighted agree is =
    let v = leaf_weight scale potentials taken avoided weighted cost in
    let weight_is : b.weight ≡ weight_of v b.weighs.tree = b.weighs.weight_is ∙ agreed_weight w v agree b.weighs.tree in
    let sum = same_sum b.weight given_back (total potentials) (triples_total taken) (least_of weighted) is in
    record {
      tree = b.weighs.tree;
      least = agreed_least n w v b.weighs.tree agree b.weighs.least;
      bound_is = subst (λ (z : ℤ). IsLeastBound scale (((z -ℤ (pos 2 *ℤ total potentials)) +ℤ triples_total taken) +ℤ least_of weighted) bound) weight_is
          (subst (λ (z : ℤ). IsLeastBound scale z bound) sum b.bound_is);
    }

-- if the costs are symmetric, so are the weights of a leaf
pub decided_even : (scale : ℤ) (crossed : List Crossings) (potentials multipliers : List ℤ) (families : List (List (List ℕ)))
    (case : List Decision) (cost : ℕ → ℕ → ℤ) → length crossed ≡ length families → length multipliers ≡ length families
    → IsSymmetric cost → (i j : ℕ) → decided case (set_weight scale potentials multipliers families cost) i j
    ≡ decided case (set_weight scale potentials multipliers families cost) j i
decided_even scale crossed potentials multipliers families case cost many long even i j =
    let w : ℕ → ℕ → ℤ = set_weight scale potentials multipliers families cost in
    case_weight w scale crossed potentials multipliers families case cost i j many long refl
    ∙ leaf_even scale potentials (on_taken decided_number case) (on_avoided decided_number case)
    (multiplied (families_with crossed families) multipliers) cost even i j
    ∙ sym (case_weight w scale crossed potentials multipliers families case cost j i many long refl)

-- ---- the weight of the tree plus the number that the leaf gives back, in 128 bits

abbrev pub most_weight_of_tree : ℕ
most_weight_of_tree = (most_nodes + 2) * 2 ^ 63

pub sum_is : (weight given_back : ℤ) → IsFromTo (neg_ℤ (pos most_weight_of_tree)) (pos most_weight_of_tree) weight → IsFromTo (neg_ℤ (pos (2 ^ 99))) (pos (2 ^ 99)) given_back
    → to_z w128 (of_z w128 (to_z w128 (of_z w128 weight) +ℤ to_z w128 (of_z w128 given_back))) ≡ weight +ℤ given_back
sum_is weight given_back p q = omega (arith, ints, p.0, p.1, q.0, q.1)
