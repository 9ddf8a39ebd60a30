-- The two numbers of a family (`AreFamilyNumbers`), and marks of nodes, by which a loop sees that a node comes twice.
-- `src/good_families.rt` judges families by both, and `tsp_routing/src/plan_verdict.rt` and
-- `tsp_routing/src/judged_memory.rt` use its marks for sets of customers. You may change the marks with the code,
-- because `IsGoodFamily` defines which families are good.
use Rattle.tsp_cases.specs.Prelude.{Vec, All, ℕ, List, Option, Some, None, length, Bool, false, [], slice_index}
use Rattle.std.specs.Prelude.{◌<◌, ◌^◌, ◌≡◌, ◌≢◌, ◌==◌, ◌||◌, ◌∷◌}
use Rattle.tsp_cases.specs.Crossings.{has}
use Rattle.tsp_cases.specs.Families.{IsFamily, family_with, HasEachOnce, IsGoodFamily, IsTooth}
use Rattle.tsp_cases.specs.declared.family.Crossings.{Crossings}

-- the numbers of these sets, which are a good family; none if they aren't one
abbrev pub AreFamilyNumbers : ℕ → List (List ℕ) → Option Crossings → Type 0
AreFamilyNumbers n sets None = IsGoodFamily n sets → ⊥
AreFamilyNumbers n sets (Some own) = IsFamily n (family_with own sets) × All HasEachOnce sets

-- the numbers are so small that sums with them fit
abbrev pub IsSmall : Crossings → Type 0
IsSmall own = (own.least < 2 ^ 34) × (own.most < 2 ^ 32)

abbrev pub AreSmallCrossings : List Crossings → Type 0
AreSmallCrossings crossed = All IsSmall crossed

-- ---- marks of nodes, by which code finds out that no node is twice in a set or in two teeth

-- whether a node has a mark
abbrev pub is_marked : List ℕ → ℕ → ℕ → Bool
is_marked marks mark node = slice_index marks node == mark

-- no node has the mark
abbrev pub AreUnmarked : List ℕ → ℕ → Type 0
AreUnmarked marks mark = (node : ℕ) → is_marked marks mark node ≡ false

-- `marks` has an entry for each node of the sets
abbrev pub HavePlaces : List ℕ → List (Vec ℕ) → Type 0
HavePlaces marks sets = All (λ set. All (λ node. node < length marks) set.items) sets

-- nodes of which none is used, and none appears twice
pub record AreNew (used : ℕ → Bool) (nodes : List ℕ) : Type 0 where
  pub unused : All (λ node. used node ≡ false) nodes
  pub once : HasEachOnce nodes

-- The nodes with the mark are those that had it, and these.
pub record AreMarked (mark : ℕ) (nodes old new : List ℕ) : Type 0 where
  pub own : (node : ℕ) → is_marked new mark node ≡ (is_marked old mark node || has nodes node)
  pub length : length new ≡ length old

-- any other mark that no node had is on no node still
abbrev pub AddsNoOther : ℕ → List ℕ → List ℕ → Type 0
AddsNoOther mark old new = (other : ℕ) → other ≢ mark → AreUnmarked old other → AreUnmarked new other

-- sets that are teeth of a handle, of which none has a node that is used or in one before it
abbrev pub AreTeeth : ℕ → (ℕ → Bool) → (ℕ → Bool) → List (List ℕ) → Type 0
AreTeeth n handle used [] = Unit {0}
AreTeeth n handle used (tooth ∷ teeth) =
    AreNew used tooth × IsTooth n handle (has tooth) × AreTeeth n handle (λ node. used node || has tooth node) teeth
