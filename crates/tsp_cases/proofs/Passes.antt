-- One pass over the steps of a tree of cases (src/case_tree.rt), and what it finds at a branch, at a leaf and at the
-- end. Crates above import it, too.
use Rattle.tsp_cases.proofs.Prelude.{◌≡◌, ◌∙◌, ℕ, ◌+◌, ◌<◌, List, ◌∷◌, ◌++◌, length, take, drop, get_or, sym, ap, subst, arith, drop-cons, add-one, zero, suc, ◌-◌, Bool, true, false, [], ℤ, inl, inr, ◌≤ℤ◌, refl, ◌≤◌, both_ways, ints, get_or-map, length-map, take-append-le, take_all, drop_all, recursion_from_All, All-from_recursion, All, Any, AllByRecursion, ◌⊎◌, Option, Some, None, IfSome, are_whole, TreeStep, step_of, steps_of, IsBoundSized}
use Rattle.tsp_format.specs.Steps as listed
use Rattle.tsp_theory.specs.First.{IsFirst}
use Rattle.tsp_cases.proofs.CaseLaws.{stacks_hold_cases}
use Rattle.tsp_cases.proofs.OpenCases.{stack_more}
use Rattle.tsp_cases.specs.CaseTrees.{IsAbove, IsLeastFound}
use Rattle.tsp_cases.specs.Cases.{LeafNumbers, decide, are_case_trees, leaves_of, cases_of, later_cases, open_cases, next_stack}
use Rattle.tsp_cases.specs.JudgedLeaves.{IsLowest, OnBound, OnLeaves, AreJudgedBy, IsJudgedLeaf, IsSizedLeaf}
use Rattle.tsp_cases.specs.ListedCases.{IsStepOf, all_grown, no_numbers_of, leaf_changes, after_leaves, IsGoodLeafBy, AreGoodLeavesBy, IsFirstBadLeafBy, is_decided, Divided, branches_of_cases, IsFirstTwice, split_at, steps_from, listed_steps}
use Rattle.tsp_cases.specs.declared.judged.JudgedLeaf.{JudgedLeaf}
use Rattle.tsp_cases.specs.declared.judged.JudgedLeaf.TheVariants as leaves
use Rattle.tsp_cases.specs.declared.judged.TreeVerdict.{TreeVerdict}
use Rattle.tsp_cases.specs.declared.judged.TreeVerdict.TheVariants as verdict
use Rattle.tsp_cases.specs.declared.decision.Decision.{Decision}
use Rattle.tsp_cases.specs.states.OpenCases.{AreSmall, stack_of, IsNextStack}

-- a list that was written over whole
pub written : {A : Type 0} (len : ℕ) (xs rest : List A) → length xs ≡ len → take len (xs ++ rest) ≡ xs
written len xs rest long = take-append-le len xs rest (omega (arith, long)) ∙ take_all len xs (omega (arith, long))

pub left_at : (steps : List TreeStep) (index : ℕ) (step : TreeStep) → index < length steps → step ≡ get_or steps index step
    → drop index steps ≡ step ∷ drop (index + 1) steps
left_at steps index step lt is =
    drop-cons steps index step lt ∙ ap (λ (k : ℕ). get_or steps index step ∷ drop k steps) (sym (add-one index)) ∙ ap
    (λ (s : TreeStep). s ∷ drop (index + 1) steps) (sym is)

pub own_step : (n : ℕ) (steps : List TreeStep) (index : ℕ) (step other : TreeStep) → All (IsStepOf n) (steps_of steps)
    → index < length steps → step ≡ get_or steps index step → step ≡ other
    → IsStepOf n (step_of other)
own_step n steps index step other each lt is same =
    subst (λ (s : TreeStep). IsStepOf n (step_of s)) (sym is ∙ same)
    (subst (IsStepOf n) (get_or-map step_of steps index step (step_of step) lt)
    (each index (step_of step) (subst (λ (k : ℕ). index < k) (sym (length-map steps step_of)) lt)))

-- ---- the first bad leaf is the same in one pass over the steps and by index

-- ---- leaves

-- all leaves are good, if the leaf before them had these numbers
abbrev pub AreGoodFrom : (LeafNumbers → Type 0) → ℕ → ℕ → List ℤ → List listed.Step → Type 0
AreGoodFrom Good n family_count numbers [] = Unit {0}
AreGoodFrom Good n family_count numbers (listed.Branch a b ∷ steps) = AreGoodFrom Good n family_count numbers steps
AreGoodFrom Good n family_count numbers (listed.Leaf changes ∷ steps) =
    IsGoodLeafBy Good n family_count numbers changes × AreGoodFrom Good n family_count (all_grown changes numbers) steps

-- the index of the first leaf that isn't good, counted from the leaf before
abbrev pub IsFirstBadFrom : (LeafNumbers → Type 0) → ℕ → ℕ → List ℤ → ℕ → List listed.Step → ℕ → Type 0
IsFirstBadFrom Good n family_count numbers leaf [] bad = ⊥
IsFirstBadFrom Good n family_count numbers leaf (listed.Branch a b ∷ steps) bad = IsFirstBadFrom Good n family_count numbers leaf steps bad
IsFirstBadFrom Good n family_count numbers leaf (listed.Leaf changes ∷ steps) bad =
    ((bad ≡ suc leaf) × (IsGoodLeafBy Good n family_count numbers changes → ⊥))
    ⊎ (IsGoodLeafBy Good n family_count numbers changes × IsFirstBadFrom Good n family_count (all_grown changes numbers) (suc leaf) steps bad)

-- the leaf after k others is good
abbrev GoodAfter : (LeafNumbers → Type 0) → ℕ → ℕ → List ℤ → List (List (ℕ × ℤ)) → ℕ → Type 0
GoodAfter Good n family_count numbers leaves k = IsGoodLeafBy Good n family_count (after_leaves (take k leaves) numbers) (get_or leaves k [])

-- the first bad one is after k others
abbrev IsBadAfter : (LeafNumbers → Type 0) → ℕ → ℕ → List ℤ → List (List (ℕ × ℤ)) → ℕ → Type 0
IsBadAfter Good n family_count numbers leaves = IsFirst (λ k. k)
    (λ k. (k < length leaves) × (GoodAfter Good n family_count numbers leaves k → ⊥)) (GoodAfter Good n family_count numbers leaves)

one_more : (P : ℕ → Type 0) (k : ℕ) → P 0 → ((j : ℕ) → j < k → P (suc j)) → (j : ℕ) → j < suc k → P j
one_more P k first more zero lt = first
one_more P k first more (suc j) lt = more j (omega (arith, lt))

bad_by_place : (Good : LeafNumbers → Type 0) (n family_count : ℕ) (numbers : List ℤ) (leaf : ℕ) (steps : List listed.Step) (bad : ℕ) → IsFirstBadFrom Good n family_count numbers leaf steps bad
    → (k : ℕ) × (bad ≡ leaf + suc k) × IsBadAfter Good n family_count numbers (leaf_changes steps) k
bad_by_place Good n family_count numbers leaf [] bad h = absurd h
bad_by_place Good n family_count numbers leaf (listed.Branch a b ∷ steps) bad h = bad_by_place Good n family_count numbers leaf steps bad h
bad_by_place Good n family_count numbers leaf (listed.Leaf changes ∷ steps) bad (inl here) = (
  0,
  omega (arith, here.0),
  record { applies = (omega arith, here.1); none_before = λ j lt. absurd (omega (arith, lt)) },
)
bad_by_place Good n family_count numbers leaf (listed.Leaf changes ∷ steps) bad (inr later) =
    let rest = bad_by_place Good n family_count (all_grown changes numbers) (suc leaf) steps bad later.1 in (
      suc rest.0,
      omega (arith, rest.1),
      record {
        applies = (omega (arith, rest.2.applies.0), rest.2.applies.1);
        none_before = one_more (GoodAfter Good n family_count numbers (changes ∷ leaf_changes steps)) rest.0 later.0 rest.2.none_before;
      },
    )

good_by_place : (Good : LeafNumbers → Type 0) (n family_count : ℕ) (numbers : List ℤ) (steps : List listed.Step) → AreGoodFrom Good n family_count numbers steps → (k : ℕ) → k < length (leaf_changes steps)
    → GoodAfter Good n family_count numbers (leaf_changes steps) k
good_by_place Good n family_count numbers [] h k lt = absurd (omega (arith, lt))
good_by_place Good n family_count numbers (listed.Branch a b ∷ steps) h k lt = good_by_place Good n family_count numbers steps h k lt
good_by_place Good n family_count numbers (listed.Leaf changes ∷ steps) h zero lt = h.0
good_by_place Good n family_count numbers (listed.Leaf changes ∷ steps) h (suc k) lt = good_by_place Good n family_count (all_grown changes numbers) steps h.1 k (omega (arith, lt))

-- of a whole tree, before whose first leaf all numbers are 0
pub first_bad_by_place : (Good : LeafNumbers → Type 0) (n family_count : ℕ) (steps : List listed.Step) (bad : ℕ) → IsFirstBadFrom Good n family_count (no_numbers_of n family_count) 0 steps bad
    → IsFirstBadLeafBy Good n family_count steps bad
first_bad_by_place Good n family_count steps bad h =
    let found = bad_by_place Good n family_count (no_numbers_of n family_count) 0 steps bad h in
    let place : found.0 ≡ bad - 1 = omega (arith, found.1) in
    record {
      applies = (
        (omega (arith, found.1), omega (arith, found.1, found.2.applies.0)),
        subst (λ (k : ℕ). GoodAfter Good n family_count (no_numbers_of n family_count) (leaf_changes steps) k → ⊥) place found.2.applies.1,
      );
      none_before = λ earlier lt from. found.2.none_before (earlier - 1) (omega (arith, from, lt, found.1));
    }

pub all_good_by_place : (Good : LeafNumbers → Type 0) (n family_count : ℕ) (steps : List listed.Step) → AreGoodFrom Good n family_count (no_numbers_of n family_count) steps → AreGoodLeavesBy Good n family_count steps
all_good_by_place Good n family_count steps h place from within = good_by_place Good n family_count (no_numbers_of n family_count) steps h (place - 1) (omega (arith, from, within))

-- ---- branches

-- the first branch on a pair that the case decides which it divides, counted on from the branches before it
abbrev pub IsFirstTwiceFrom : Bool → ℕ → List (List Decision) → List listed.Step → ℕ → Type 0
IsFirstTwiceFrom directed branch [] steps first = ⊥
IsFirstTwiceFrom directed branch (case ∷ cases) [] first = ⊥
IsFirstTwiceFrom directed branch (case ∷ cases) (listed.Branch a b ∷ steps) first =
    ((first ≡ suc branch) × (is_decided directed case (a, b) ≡ true))
    ⊎ ((is_decided directed case (a, b) ≡ false)
    × IsFirstTwiceFrom directed (suc branch) (decide (a, b) true case ∷ decide (a, b) false case ∷ cases) steps first)
IsFirstTwiceFrom directed branch (case ∷ cases) (listed.Leaf changes ∷ steps) first = IsFirstTwiceFrom directed branch cases steps first

-- the branch after k others is on a pair that its case decides
abbrev twice_after : Bool → List Divided → ℕ → Bool
twice_after directed branches k =
    is_decided directed (get_or branches k (record { case = []; pair = (0, 0) })).case (get_or branches k (record { case = []; pair = (0, 0) })).pair

abbrev IsTwiceAfter : Bool → List Divided → ℕ → Type 0
IsTwiceAfter directed branches = IsFirst (λ k. k) (λ k. (k < length branches) × (twice_after directed branches k ≡ true))
    (λ k. twice_after directed branches k ≡ false)

twice_by_place : (directed : Bool) (branch : ℕ) (cases : List (List Decision)) (steps : List listed.Step) (first : ℕ) → IsFirstTwiceFrom directed branch cases steps first
    → (k : ℕ) × (first ≡ branch + suc k) × IsTwiceAfter directed (branches_of_cases cases steps) k
twice_by_place directed branch [] steps first h = absurd h
twice_by_place directed branch (case ∷ cases) [] first h = absurd h
twice_by_place directed branch (case ∷ cases) (listed.Branch a b ∷ steps) first (inl here) = (
  0,
  omega (arith, here.0),
  record { applies = (omega arith, here.1); none_before = λ j lt. absurd (omega (arith, lt)) },
)
twice_by_place directed branch (case ∷ cases) (listed.Branch a b ∷ steps) first (inr later) =
    let after : List (List Decision) = decide (a, b) true case ∷ decide (a, b) false case ∷ cases in
    let rest = twice_by_place directed (suc branch) after steps first later.1 in (
      suc rest.0,
      omega (arith, rest.1),
      record {
        applies = (omega (arith, rest.2.applies.0), rest.2.applies.1);
        none_before = one_more (λ j. twice_after directed (record { case = case; pair = (a, b) } ∷ branches_of_cases after steps) j ≡ false) rest.0 later.0 rest.2.none_before;
      },
    )
twice_by_place directed branch (case ∷ cases) (listed.Leaf changes ∷ steps) first h = twice_by_place directed branch cases steps first h

twice_in_pass : (directed : Bool) (branch : ℕ) (cases : List (List Decision)) (steps : List listed.Step) (k : ℕ) → IsTwiceAfter directed (branches_of_cases cases steps) k
    → IsFirstTwiceFrom directed branch cases steps (branch + suc k)
twice_in_pass directed branch [] steps k h = absurd (omega (arith, h.applies.0))
twice_in_pass directed branch (case ∷ cases) [] k h = absurd (omega (arith, h.applies.0))
twice_in_pass directed branch (case ∷ cases) (listed.Branch a b ∷ steps) zero h = inl (omega arith, h.applies.1)
twice_in_pass directed branch (case ∷ cases) (listed.Branch a b ∷ steps) (suc k) h =
    let after : List (List Decision) = decide (a, b) true case ∷ decide (a, b) false case ∷ cases in
    let same : suc branch + suc k ≡ branch + suc (suc k) = omega arith in
    inr (
      h.none_before 0 (omega arith),
      subst (IsFirstTwiceFrom directed (suc branch) after steps) same (twice_in_pass directed (suc branch) after steps k (record {
        applies = (omega (arith, h.applies.0), h.applies.1);
        none_before = λ j lt. h.none_before (suc j) (omega (arith, lt));
      })),
    )
twice_in_pass directed branch (case ∷ cases) (listed.Leaf changes ∷ steps) k h = twice_in_pass directed branch cases steps k h

-- of a whole tree, which begins with the given decisions
pub first_twice_by_place : (directed : Bool) (given : List Decision) (steps : List listed.Step) (first : ℕ) → IsFirstTwiceFrom directed 0 (given ∷ []) steps first
    → IsFirstTwice directed given steps first
first_twice_by_place directed given steps first h =
    let found = twice_by_place directed 0 (given ∷ []) steps first h in
    let place : found.0 ≡ first - 1 = omega (arith, found.1) in
    record {
      applies = (
        (omega (arith, found.1), omega (arith, found.1, found.2.applies.0)),
        subst (λ (k : ℕ). twice_after directed (branches_of_cases (given ∷ []) steps) k ≡ true) place found.2.applies.1,
      );
      none_before = λ earlier lt from. found.2.none_before (earlier - 1) (omega (arith, from, lt, found.1));
    }

pub first_twice_in_pass : (directed : Bool) (given : List Decision) (steps : List listed.Step) (first : ℕ) → IsFirstTwice directed given steps first
    → IsFirstTwiceFrom directed 0 (given ∷ []) steps first
first_twice_in_pass directed given steps first h =
    let place : 0 + suc (first - 1) ≡ first = omega (arith, h.applies.0.0) in
    subst (IsFirstTwiceFrom directed 0 (given ∷ []) steps) place (twice_in_pass directed 0 (given ∷ []) steps (first - 1) (record {
      applies = (omega (arith, h.applies.0.0, h.applies.0.1), h.applies.1);
      none_before = λ j lt.
          let same : suc j - 1 ≡ j = omega arith in
          subst (λ (k : ℕ). twice_after directed (branches_of_cases (given ∷ []) steps) k ≡ false) same (h.none_before (suc j) (omega (arith, lt)) (omega arith));
    }))

-- ---- one pass over the steps with a stack of decisions

-- ---- the least of the bounds so far and of those of leaves, whichever judge finds these

module _ (Found : List Decision × LeafNumbers → Option ℤ → Type 0) where
  -- the least of the lowest bound so far and of the bounds of the leaves still to come
  abbrev pub ComesTo : Option ℤ → List (List Decision × LeafNumbers) → Option ℤ → Type 0
  ComesTo lowest leaves None = (lowest ≡ None) × AllByRecursion (λ leaf. Found leaf None) leaves
  ComesTo lowest leaves (Some bound) = AllByRecursion (IsAbove Found bound) leaves × IfSome lowest (λ low. bound ≤ℤ low)
      × ((lowest ≡ Some bound) ⊎ Any (λ leaf. Found leaf (Some bound)) leaves)

  done : (lowest : Option ℤ) → ComesTo lowest [] lowest
  done None = (refl, tt)
  done (Some low) = (tt, omega (arith, ints), inl refl)

  later : (bound : ℤ) (leaf : List Decision × LeafNumbers) (leaves : List (List Decision × LeafNumbers)) → Any
      (λ leaf. Found leaf (Some bound)) leaves → Any (λ leaf. Found leaf (Some bound)) (leaf ∷ leaves)
  later bound leaf leaves a = (suc a.0, a.1, omega (arith, a.2), a.3, a.4)

  without : (lowest final : Option ℤ) (leaf : List Decision × LeafNumbers) (leaves : List (List Decision × LeafNumbers))
      → Found leaf None → ComesTo lowest leaves final → ComesTo lowest (leaf ∷ leaves) final
  without lowest None leaf leaves none rest = (rest.0, (none, rest.1))
  without lowest (Some bound) leaf leaves none rest = (
    (inl none, rest.0),
    rest.1,
    elim rest.2 [
      | inl is ↦ inl is
      | inr there ↦ inr (later bound leaf leaves there)
    ],
  )

  with_first : (own : ℤ) (final : Option ℤ) (leaf : List Decision × LeafNumbers) (leaves : List (List Decision × LeafNumbers))
      → Found leaf (Some own) → ComesTo (Some own) leaves final
      → ComesTo None (leaf ∷ leaves) final
  with_first own None leaf leaves is rest = absurd (let none = rest.0 in cc)
  with_first own (Some bound) leaf leaves is rest = (
    (inr (own, is, rest.1), rest.0),
    tt,
    inr (elim rest.2 [
      | inl same ↦ (0, leaf, omega arith, refl, subst (λ (z : Option ℤ). Found leaf z) same is)
      | inr there ↦ later bound leaf leaves there
    ]),
  )

  with_more : (low own lower : ℤ) (final : Option ℤ) (leaf : List Decision × LeafNumbers)
      (leaves : List (List Decision × LeafNumbers)) → Found leaf (Some own) → lower ≤ℤ low → lower ≤ℤ own
      → (lower ≡ low) ⊎ (lower ≡ own) → ComesTo (Some lower) leaves final → ComesTo (Some low) (leaf ∷ leaves) final
  with_more low own lower None leaf leaves is p q one rest = absurd (let none = rest.0 in cc)
  with_more low own lower (Some bound) leaf leaves is p q one rest = (
    (inr (own, is, omega (arith, ints, rest.1, q)), rest.0),
    omega (arith, ints, rest.1, p),
    elim rest.2 [
      | inl same ↦ elim one [
        | inl a ↦ inl (cc)
        | inr b ↦ inr (
          0,
          leaf,
          omega arith,
          refl,
          subst (λ (z : Option ℤ). Found leaf z)
              (ap (λ (z : ℤ). Some z) (sym b) ∙ same) is,
        )
      ]
      | inr there ↦ inr (later bound leaf leaves there)
    ],
  )

  -- one leaf more
  on_leaf : (lowest found lower final : Option ℤ) (leaf : List Decision × LeafNumbers)
      (leaves : List (List Decision × LeafNumbers)) → Found leaf found
      → IsLowest lowest found lower → ComesTo lower leaves final → ComesTo lowest (leaf ∷ leaves) final
  on_leaf None None lower final leaf leaves none is rest = without None final leaf leaves none
      (subst (λ (o : Option ℤ). ComesTo o leaves final) is rest)
  on_leaf None (Some own) lower final leaf leaves here is rest = with_first own final leaf leaves here
      (subst (λ (o : Option ℤ). ComesTo o leaves final) is rest)
  on_leaf (Some low) None lower final leaf leaves none is rest = without (Some low) final leaf leaves none
      (subst (λ (o : Option ℤ). ComesTo o leaves final) is rest)
  on_leaf (Some low) (Some own) lower final leaf leaves here (inl is) rest =
      with_more low own low final leaf leaves here (omega (arith, ints)) is.1 (inl refl)
      (subst (λ (o : Option ℤ). ComesTo o leaves final) is.0 rest)
  on_leaf (Some low) (Some own) lower final leaf leaves here (inr is) rest =
      with_more low own own final leaf leaves here is.1 (omega (arith, ints)) (inr refl)
      (subst (λ (o : Option ℤ). ComesTo o leaves final) is.0 rest)

  least_of : (leaves : List (List Decision × LeafNumbers)) (final : Option ℤ) → ComesTo None leaves final
      → IsLeastFound Found leaves final
  least_of leaves None rest = All-from_recursion (λ leaf. Found leaf None) leaves rest.1
  least_of leaves (Some bound) rest = (
    All-from_recursion (IsAbove Found bound) leaves rest.0,
    elim rest.2 [
      | inl none ↦ absurd (cc)
      | inr there ↦ there
    ],
  )

-- ---- at a step

abbrev open_leaves : ℕ → List ℤ → List Decision → Option (List Decision) → List listed.Step → List (List Decision × LeafNumbers)
open_leaves n numbers given stack steps = leaves_of (open_cases given stack) (steps_from n numbers steps)

no_leaves : (cases : List (List Decision)) → leaves_of cases [] ≡ []
no_leaves [] = refl
no_leaves (case ∷ cases) = refl

leaf_numbers : (Good : LeafNumbers → Type 0) (n family_count : ℕ) (numbers : List ℤ) (steps : List listed.Step) (cases : List (List Decision))
    → AreGoodFrom Good n family_count numbers steps
    → AllByRecursion (λ leaf. Good leaf.1) (leaves_of cases (steps_from n numbers steps))
leaf_numbers Good n family_count numbers steps [] good = tt
leaf_numbers Good n family_count numbers [] (case ∷ cases) good = tt
leaf_numbers Good n family_count numbers (listed.Branch a b ∷ steps) (case ∷ cases) good =
    leaf_numbers Good n family_count numbers steps (decide (a, b) true case ∷ decide (a, b) false case ∷ cases) good
leaf_numbers Good n family_count numbers (listed.Leaf changes ∷ steps) (case ∷ cases) good = (
  good.0.numbers_are,
  leaf_numbers Good n family_count (all_grown changes numbers) steps cases good.1,
)

-- from a step on, the result for the other steps is the result for the whole tree
pub record IsAtStep (Found : List Decision × LeafNumbers → Option ℤ → Type 0) (Good : LeafNumbers → Type 0) (Fits : List Decision → Type 0) (n family_count : ℕ)
    (given : List Decision) (all : List listed.Step) (numbers : List ℤ)
    (stack : Option (List Decision)) (lowest : Option ℤ) (leaf : ℕ) (steps : List listed.Step) : Type 0 where
  pub least : (final : Option ℤ) → ComesTo Found lowest (open_leaves n numbers given stack steps) final → ComesTo Found None
      (leaves_of (given ∷ []) (listed_steps n family_count all)) final
  pub whole : are_case_trees (length (open_cases given stack)) (steps_from n numbers steps) ≡ true
  pub good : AreGoodFrom Good n family_count numbers steps → AreGoodFrom Good n family_count (no_numbers_of n family_count) all
  pub bad : (first : ℕ) → IsFirstBadFrom Good n family_count numbers leaf steps first → IsFirstBadFrom Good n family_count
      (no_numbers_of n family_count) 0 all first
  pub once : AllByRecursion Fits (cases_of (open_leaves n numbers given stack steps))

module _ (Found : List Decision × LeafNumbers → Option ℤ → Type 0) (Good : LeafNumbers → Type 0) (Fits : List Decision → Type 0) (n family_count : ℕ)
    (given : List Decision) (all : List listed.Step) where
  pub at_start : are_case_trees 1 (listed_steps n family_count all) ≡ true → All Fits
      (cases_of (leaves_of (given ∷ []) (listed_steps n family_count all)))
      → IsAtStep Found Good Fits n family_count given all (no_numbers_of n family_count) (Some []) None 0 all
  at_start whole once = record {
    least = λ final h. h;
    whole = whole;
    good = λ h. h;
    bad = λ first h. h;
    once = recursion_from_All Fits (cases_of (leaves_of (given ∷ []) (listed_steps n family_count all)))
        once;
  }

  pub at_branch : (numbers : List ℤ) (stack : List Decision) (lowest : Option ℤ) (leaf a b : ℕ) (steps : List listed.Step)
      → IsAtStep Found Good Fits n family_count given all numbers (Some (stack_of stack)) lowest leaf (listed.Branch a b ∷ steps)
      → IsAtStep Found Good Fits n family_count given all numbers (Some (stack_of (stack ++ decide (a, b) true []))) lowest leaf steps
  at_branch numbers stack lowest leaf a b steps h =
      let same = sym (stack_more stack (record { pair = (a, b); taken = true })) in
      record {
        least = λ final. subst (λ (st : List Decision). ComesTo Found lowest
            (leaves_of (open_cases given (Some st)) (steps_from n numbers steps)) final
            → ComesTo Found None (leaves_of (given ∷ []) (listed_steps n family_count all)) final) same (h.least final);
        whole = subst (λ (st : List Decision). are_case_trees (length (open_cases given (Some st)))
            (steps_from n numbers steps) ≡ true) same h.whole;
        good = h.good;
        bad = h.bad;
        once = subst (λ (st : List Decision). AllByRecursion Fits
            (cases_of (leaves_of (open_cases given (Some st)) (steps_from n numbers steps)))) same h.once;
      }

  pub at_leaf : (numbers : List ℤ) (stack : List Decision) (lowest : Option ℤ) (leaf : ℕ) (changes : List (ℕ × ℤ))
      (steps : List listed.Step) (next : Option (List Decision)) (own lower : Option ℤ)
      → IsAtStep Found Good Fits n family_count given all numbers (Some (stack_of stack)) lowest leaf (listed.Leaf changes ∷ steps)
      → IsGoodLeafBy Good n family_count numbers changes → Found (stack_of stack ++ given, split_at n (all_grown changes numbers)) own
      → IsLowest lowest own lower
      → next_stack (stack_of stack) ≡ next → IsAtStep Found Good Fits n family_count given all (all_grown changes numbers) next lower
      (suc leaf) steps
  at_leaf numbers stack lowest leaf changes steps next own lower h good is low turned =
      let later_are : later_cases given (stack_of stack) ≡ open_cases given next = sym (stacks_hold_cases given (stack_of stack))
      ∙ ap (open_cases given) turned in
      let ns : List ℤ = all_grown changes numbers in
      record {
        least = λ final rest. h.least final
            (on_leaf Found lowest own lower final (stack_of stack ++ given, split_at n ns)
            (leaves_of (later_cases given (stack_of stack)) (steps_from n ns steps)) is low
            (subst (λ (cs : List (List Decision)). ComesTo Found lower (leaves_of cs (steps_from n ns steps)) final)
            (sym later_are) rest));
        whole = subst (λ (cs : List (List Decision)). are_case_trees (length cs) (steps_from n ns steps) ≡ true) later_are h.whole;
        good = λ rest. h.good (good, rest);
        bad = λ first rest. h.bad first (inr (good, rest));
        once = subst (λ (cs : List (List Decision)). AllByRecursion Fits
            (cases_of (leaves_of cs (steps_from n ns steps)))) later_are h.once.1;
      }

  -- if no case is open, no step is left
  none_open : (numbers : List ℤ) (lowest : Option ℤ) (leaf : ℕ) (step : listed.Step) (steps : List listed.Step)
      → IsAtStep Found Good Fits n family_count given all numbers None lowest leaf (step ∷ steps) → ⊥
  none_open numbers lowest leaf (listed.Branch a b) steps h = both_ways false refl h.whole
  none_open numbers lowest leaf (listed.Leaf changes) steps h = both_ways false refl h.whole

  at_end : (numbers : List ℤ) (stack : Option (List Decision)) (lowest : Option ℤ) (leaf : ℕ)
      → IsAtStep Found Good Fits n family_count given all numbers stack lowest leaf []
      → AreJudgedBy Found Good n family_count given all (verdict.Bound lowest)
  at_end numbers stack lowest leaf h =
      let all_good = h.good tt in
      let leaves = leaves_of (given ∷ []) (listed_steps n family_count all) in
      let none : open_leaves n numbers given stack [] ≡ [] = no_leaves (open_cases given stack) in
      let least = h.least lowest (subst (λ (left : List (List Decision × LeafNumbers)). ComesTo Found lowest left lowest)
      (sym none) (done Found lowest)) in (
        All-from_recursion (λ leaf. Good leaf.1) leaves (leaf_numbers Good n family_count (no_numbers_of n family_count) all (given ∷ []) all_good),
        least_of Found leaves lowest least,
        all_good_by_place Good n family_count all all_good,
      )

  -- the same for the code, whose stack has an open case or none
  abbrev pub IsPassing : List ℤ → List Decision → Option ℤ → ℕ → List listed.Step → Type 0
  IsPassing numbers stack lowest leaf steps = IsAtStep Found Good Fits n family_count given all numbers
      (Some (stack_of stack)) lowest leaf steps
      ⊎ IsAtStep Found Good Fits n family_count given all numbers None lowest leaf steps

  pub at_step : (numbers : List ℤ) (stack : List Decision) (lowest : Option ℤ) (leaf : ℕ) (step : listed.Step)
      (steps : List listed.Step) → IsPassing numbers stack lowest leaf (step ∷ steps)
      → IsAtStep Found Good Fits n family_count given all numbers (Some (stack_of stack)) lowest leaf (step ∷ steps)
  at_step numbers stack lowest leaf step steps (inl h) = h
  at_step numbers stack lowest leaf step steps (inr h) = absurd (none_open numbers lowest leaf step steps h)

  pub passed : (numbers : List ℤ) (stack : List Decision) (lowest : Option ℤ) (leaf : ℕ)
      → IsPassing numbers stack lowest leaf [] → AreJudgedBy Found Good n family_count given all (verdict.Bound lowest)
  passed numbers stack lowest leaf (inl h) = at_end numbers (Some (stack_of stack)) lowest leaf h
  passed numbers stack lowest leaf (inr h) = at_end numbers None lowest leaf h

-- ---- the step that is next

-- whether steps are a whole tree doesn't depend on the numbers of its leaves
pub whole_trees : (n : ℕ) (numbers : List ℤ) (count : ℕ) (steps : List listed.Step) → are_whole count steps ≡ are_case_trees count
    (steps_from n numbers steps)
whole_trees n numbers zero [] = refl
whole_trees n numbers zero (listed.Branch a b ∷ steps) = refl
whole_trees n numbers zero (listed.Leaf changes ∷ steps) = refl
whole_trees n numbers (suc count) [] = refl
whole_trees n numbers (suc count) (listed.Branch a b ∷ steps) = whole_trees n numbers (suc (suc count)) steps
whole_trees n numbers (suc count) (listed.Leaf changes ∷ steps) = whole_trees n (all_grown changes numbers) count steps

module _ (Found : List Decision × LeafNumbers → Option ℤ → Type 0) (Good : LeafNumbers → Type 0) (Fits : List Decision → Type 0)
    (n family_count : ℕ)
    (given : List Decision) where
  pub at_next : (all : List TreeStep) (numbers : List ℤ) (stack : List Decision) (lowest : Option ℤ)
      (leaf index : ℕ) (step other : TreeStep) → index < length all → step ≡ get_or all index step → step ≡ other
      → IsPassing Found Good Fits n family_count given (steps_of all) numbers stack lowest leaf (steps_of (drop index all))
      → IsAtStep Found Good Fits n family_count given (steps_of all) numbers (Some (stack_of stack)) lowest leaf
      (step_of other ∷ steps_of (drop (index + 1) all))
  at_next all numbers stack lowest leaf index step other lt is same at =
      at_step Found Good Fits n family_count given (steps_of all) numbers stack lowest leaf (step_of other)
      (steps_of (drop (index + 1) all))
      (subst (λ (steps : List TreeStep). IsPassing Found Good Fits n family_count given (steps_of all) numbers stack lowest leaf
      (steps_of steps))
      (left_at all index step lt is ∙ ap (λ (s : TreeStep). s ∷ drop (index + 1) all) same) at)

  -- if no step is left
  pub all_passed : (all : List TreeStep) (numbers : List ℤ) (stack : List Decision) (lowest : Option ℤ) (leaf index : ℕ)
      → length all ≤ index
      → IsPassing Found Good Fits n family_count given (steps_of all) numbers stack lowest leaf (steps_of (drop index all))
      → AreJudgedBy Found Good n family_count given (steps_of all) (verdict.Bound lowest)
  all_passed all numbers stack lowest leaf index past at =
      passed Found Good Fits n family_count given (steps_of all) numbers stack lowest leaf
      (subst (λ (steps : List TreeStep). IsPassing Found Good Fits n family_count given (steps_of all) numbers stack lowest leaf
      (steps_of steps)) (drop_all index all past) at)

module _ (Found : List Decision × LeafNumbers → Option ℤ → Type 0) (Good : LeafNumbers → Type 0) (Fits : List Decision → Type 0)
    (n family_count : ℕ)
    (given : List Decision) (all : List listed.Step) where
  abbrev pub AtNext : List ℤ → List Decision → Option ℤ → ℕ → List listed.Step → Type 0
  AtNext numbers stack lowest leaf steps = IsAtStep Found Good Fits n family_count given all numbers
      (Some (stack_of stack)) lowest leaf steps

  abbrev JudgedAs : List ℤ → List Decision → List (ℕ × ℤ) → List ℤ → JudgedLeaf → Type 0
  JudgedAs numbers stack changes new found = IsJudgedLeaf Found Good n family_count (stack_of stack ++ given) numbers changes new found

  pub bad_here : (numbers : List ℤ) (stack : List Decision) (lowest : Option ℤ) (leaf : ℕ) (changes : List (ℕ × ℤ))
      (rest : List listed.Step) (new : List ℤ) (found : JudgedLeaf)
      → AtNext numbers stack lowest leaf (listed.Leaf changes ∷ rest) → JudgedAs numbers stack changes new found
      → found ≡ leaves.Bad
      → IsFirstBadLeafBy Good n family_count all (leaf + 1)
  bad_here numbers stack lowest leaf changes rest new found at judged none =
      first_bad_by_place Good n family_count all (leaf + 1) (at.bad (leaf + 1)
      (inl (add-one leaf, subst (JudgedAs numbers stack changes new) none judged)))

  after_leaf : (numbers : List ℤ) (stack : List Decision) (lowest : Option ℤ) (leaf : ℕ) (changes : List (ℕ × ℤ))
      (rest : List listed.Step) (new : List ℤ) (next : Option (List Decision))
      (found : JudgedLeaf) (own lower : Option ℤ) → AtNext numbers stack lowest leaf (listed.Leaf changes ∷ rest)
      → JudgedAs numbers stack changes new found → found ≡ leaves.Found own → IsLowest lowest own lower → next_stack
      (stack_of stack) ≡ next
      → IsAtStep Found Good Fits n family_count given all new next lower (leaf + 1) rest
  after_leaf numbers stack lowest leaf changes rest new next found own lower at judged some low turned =
      let is = subst (JudgedAs numbers stack changes new) some judged in
      subst (λ (k : ℕ). IsAtStep Found Good Fits n family_count given all new next lower k rest) (sym (add-one leaf))
      (subst (λ (ns : List ℤ). IsAtStep Found Good Fits n family_count given all ns next lower (suc leaf) rest) (sym is.1)
      (at_leaf Found Good Fits n family_count given all numbers stack lowest leaf changes rest next own lower at is.0 is.3 low turned))

  pub after_found : (numbers : List ℤ) (stack : List Decision) (lowest : Option ℤ) (leaf : ℕ) (changes : List (ℕ × ℤ))
      (rest : List listed.Step) (new : List ℤ) (is_open : Bool) (next : List Decision)
      (found : JudgedLeaf) (own lower : Option ℤ) → AtNext numbers stack lowest leaf (listed.Leaf changes ∷ rest)
      → JudgedAs numbers stack changes new found → found ≡ leaves.Found own → IsLowest lowest own lower → IsNextStack stack is_open next
      → IsPassing Found Good Fits n family_count given all new next lower (leaf + 1) rest
  after_found numbers stack lowest leaf changes rest new true next found own lower at judged some low turned =
      inl (after_leaf numbers stack lowest leaf changes rest new (Some (stack_of next)) found own lower at judged some low turned)
  after_found numbers stack lowest leaf changes rest new false next found own lower at judged some low turned =
      inr (after_leaf numbers stack lowest leaf changes rest new None found own lower at judged some low turned.0)

  pub small_found : (numbers : List ℤ) (stack : List Decision) (changes : List (ℕ × ℤ)) (new : List ℤ) (found : JudgedLeaf)
      (own : Option ℤ) → JudgedAs numbers stack changes new found → found ≡ leaves.Found own
      → AreSmall new
  small_found numbers stack changes new found own judged some = (subst (JudgedAs numbers stack changes new) some judged).2

-- the lowest bound so far fits, as the bound of each leaf does
pub low_sized : (lowest own lower : Option ℤ) (found : JudgedLeaf) → IfSome lowest IsBoundSized → IsSizedLeaf found
    → found ≡ leaves.Found own → IsLowest lowest own lower → IfSome lower IsBoundSized
low_sized lowest own lower found before here some is = sized lowest own before (subst IsSizedLeaf some here) is
  where
    sized : (lowest own : Option ℤ) → IfSome lowest IsBoundSized → IfSome own IsBoundSized → IsLowest lowest own lower
        → IfSome lower IsBoundSized
    sized None own p q is = subst (λ (o : Option ℤ). IfSome o IsBoundSized) (sym is) q
    sized (Some low) None p q is = subst (λ (o : Option ℤ). IfSome o IsBoundSized) (sym is) p
    sized (Some low) (Some own) p q (inl is) = subst (λ (o : Option ℤ). IfSome o IsBoundSized) (sym is.0) p
    sized (Some low) (Some own) p q (inr is) = subst (λ (o : Option ℤ). IfSome o IsBoundSized) (sym is.0) q

-- ---- the verdict on the leaves, by cases: a bound or a bad leaf

pub by_leaves : (OfBound : Option ℤ → Type 0) (OfLeaf : ℕ → Type 0) (Is : TreeVerdict → Type 0) (judged : TreeVerdict)
    → OnLeaves OfBound OfLeaf judged → ((found : Option ℤ) → OfBound found → Is (verdict.Bound found))
    → ((leaf : ℕ) → OfLeaf leaf → Is (verdict.BadLeaf leaf)) → Is judged
by_leaves OfBound OfLeaf Is (verdict.Bound found) is bound bad = bound found is
by_leaves OfBound OfLeaf Is (verdict.BadLeaf leaf) is bound bad = bad leaf is
by_leaves OfBound OfLeaf Is other is bound bad = absurd is

pub on_bound : (OfBound : Option ℤ → Type 0) (judged : TreeVerdict)
    → ((found : Option ℤ) → judged ≡ verdict.Bound found → OfBound found) → OnBound OfBound judged
on_bound OfBound (verdict.Bound found) bound = bound found refl
on_bound OfBound other bound = tt
