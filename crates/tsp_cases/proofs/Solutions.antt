-- The theorems on trees of cases, whatever the kind of solution: each solution is at a leaf, so the least that is found
-- of the leaves bounds all of them; and the leaves have one such number, or none. CaseTrees.antt has them for tours,
-- and tsp_routing proves those on plans by them.
use Rattle.tsp_cases.proofs.Prelude.{◌≡◌, ℕ, true, false, List, [], ◌∷◌, length, ℤ, ◌≤ℤ◌, ◌⊎◌, inl, inr, refl, ap, subst, arith, Option, None, Some, ints, both_ways, All, AllByRecursion, All-cons, All-contains, recursion_from_All}
use Rattle.tsp_cases.specs.CaseTrees.{IsAbove, IsLeastFound, LeastFoundBounds}
use Rattle.tsp_cases.specs.Cases.{CaseStep, Branch, Leaf, LeafNumbers, are_case_trees, decide, leaves_of, cases_of, SolutionKind, KeepsOne, BoundsKept, LeavesAreKept}
use Rattle.tsp_cases.specs.declared.decision.Decision.{Decision}

-- ---- a value that keeps each decision or its opposite

module _ (S : Type 0) (kind : SolutionKind S) (value : S)
    (either : (pair : ℕ × ℕ) → kind.Keeps value (record { pair = pair; taken = true })
    ⊎ kind.Keeps value (record { pair = pair; taken = false })) where
  -- a branch leaves it in
  branched : (pair : ℕ × ℕ) (case : List Decision) (cases : List (List Decision)) → KeepsOne kind value (case ∷ cases)
      → KeepsOne kind value (decide pair true case ∷ decide pair false case ∷ cases)
  branched pair case cases (inr later) = inr (inr later)
  branched pair case cases (inl here) = elim (either pair) [
    | inl taken ↦ inl (All-cons (kind.Keeps value) (record { pair = pair; taken = true }) case taken here)
    | inr avoided ↦ inr (inl (All-cons (kind.Keeps value) (record { pair = pair; taken = false }) case avoided here))
  ]

  kept : (cases : List (List Decision)) (steps : List CaseStep) → are_case_trees (length cases) steps ≡ true
      → KeepsOne kind value cases → KeepsOne kind value (cases_of (leaves_of cases steps))
  kept [] steps whole keeps = absurd keeps
  kept (case ∷ cases) [] whole keeps = absurd (both_ways false refl whole)
  kept (case ∷ cases) (Branch pair ∷ steps) whole keeps =
      kept (decide pair true case ∷ decide pair false case ∷ cases) steps whole (branched pair case cases keeps)
  kept (case ∷ cases) (Leaf numbers ∷ steps) whole (inl here) = inl here
  kept (case ∷ cases) (Leaf numbers ∷ steps) whole (inr later) = inr (kept cases steps whole later)

-- ---- the leaf whose case a solution keeps

module _ (S : Type 0) (kind : SolutionKind S) (found : List Decision × LeafNumbers → Option ℤ → Type 0) (value : S)
    (is : kind.IsSolution value) where
  abbrev bounds : List Decision × LeafNumbers → Type 0
  bounds leaf = (own : Option ℤ) → found leaf own → BoundsKept kind leaf.0 own

  at_leaf : (least : ℤ) (leaves : List (List Decision × LeafNumbers)) → AllByRecursion bounds leaves
      → AllByRecursion (IsAbove found least) leaves → KeepsOne kind value (cases_of leaves) → least ≤ℤ kind.length_is value
  at_leaf least [] each above keeps = absurd keeps
  at_leaf least (leaf ∷ leaves) each (inl none, above) (inl here) = absurd (each.0 None none value is here)
  at_leaf least (leaf ∷ leaves) each (inr has, above) (inl here) =
      let long = each.0 (Some has.0) has.1 value is here in
      omega (arith, ints, long, has.2)
  at_leaf least (leaf ∷ leaves) each above (inr later) = at_leaf least leaves each.1 above.1 later

  at_none : (leaves : List (List Decision × LeafNumbers)) → AllByRecursion bounds leaves
      → AllByRecursion (λ leaf. found leaf None) leaves → KeepsOne kind value (cases_of leaves) → ⊥
  at_none [] each none keeps = absurd keeps
  at_none (leaf ∷ leaves) each none (inl here) = each.0 None none.0 value is here
  at_none (leaf ∷ leaves) each none (inr later) = at_none leaves each.1 none.1 later

-- ---- the theorems

module _ (S : Type 0) (kind : SolutionKind S)
    (either : (value : S) (pair : ℕ × ℕ) → kind.Keeps value (record { pair = pair; taken = true })
    ⊎ kind.Keeps value (record { pair = pair; taken = false })) where
  pub leaves_are_kept : LeavesAreKept kind
  leaves_are_kept given steps value whole keeps = kept S kind value (either value) (given ∷ []) steps whole (inl keeps)

  pub least_found_bounds : (found : List Decision × LeafNumbers → Option ℤ → Type 0) → LeastFoundBounds kind found
  least_found_bounds found given steps (Some least) whole each is = λ value solution keeps.
      let leaves = leaves_of (given ∷ []) steps in
      at_leaf S kind found value solution least leaves
      (recursion_from_All (λ leaf. (own : Option ℤ) → found leaf own → BoundsKept kind leaf.0 own) leaves each)
      (recursion_from_All (IsAbove found least) leaves is.0) (leaves_are_kept given steps value whole keeps)
  least_found_bounds found given steps None whole each is = λ value solution keeps.
      let leaves = leaves_of (given ∷ []) steps in
      at_none S kind found value solution leaves
      (recursion_from_All (λ leaf. (own : Option ℤ) → found leaf own → BoundsKept kind leaf.0 own) leaves each)
      (recursion_from_All (λ leaf. found leaf None) leaves is) (leaves_are_kept given steps value whole keeps)

-- ---- where one thing is found of each leaf, the least of the leaves is one, too

module _ (found : List Decision × LeafNumbers → Option ℤ → Type 0)
    (one : (leaf : List Decision × LeafNumbers) (x y : Option ℤ) → found leaf x → found leaf y → x ≡ y)
    (leaves : List (List Decision × LeafNumbers)) where
  apart : (a : ℤ) → None ≡ Some a → ⊥
  apart a same = subst (λ (o : Option ℤ). is_none o) same tt
    where
      is_none : Option ℤ → Type 0
      is_none None = Unit {0}
      is_none (Some z) = ⊥

  inside : (a b : ℤ) → Some a ≡ Some b → a ≡ b
  inside a b same = ap (λ o. value a o) same
    where
      value : ℤ → Option ℤ → ℤ
      value d None = d
      value d (Some z) = z

  at_most : (a b : ℤ) → IsLeastFound found leaves (Some a) → IsLeastFound found leaves (Some b) → a ≤ℤ b
  at_most a b p q =
      let there = q.1 in
      let leaf = there.1 in
      elim (All-contains (IsAbove found a) leaves leaf p.0 (there.0, there.2, there.3)) [
        | inl none ↦ absurd (apart b (one leaf None (Some b) none there.4))
        | inr own ↦ let same = inside own.0 b (one leaf (Some own.0) (Some b) own.1 there.4) in omega (arith, ints, own.2, same)
      ]

  never_both : (a : ℤ) → IsLeastFound found leaves (Some a) → IsLeastFound found leaves None → ⊥
  never_both a p none =
      let there = p.1 in
      let leaf = there.1 in
      apart a (one leaf None (Some a)
      (All-contains (λ l. found l None) leaves leaf none (there.0, there.2, there.3)) there.4)

  pub one_found : (a b : Option ℤ) → IsLeastFound found leaves a → IsLeastFound found leaves b → a ≡ b
  one_found (Some a) (Some b) p q =
      let first = at_most a b p q in
      let second = at_most b a q p in
      ap (λ (z : ℤ). Some z) (omega (arith, ints, first, second))
  one_found (Some a) None p q = absurd (never_both a p q)
  one_found None (Some b) p q = absurd (never_both b q p)
  one_found None None p q = refl
