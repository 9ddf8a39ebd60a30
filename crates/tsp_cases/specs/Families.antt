-- Circle 3 of docs/trust.md.
-- Families of sets of nodes, such as combs and lone sets: the least number of times that a cycle crosses each, and
-- which families of a file are good. src/good_families.rt finds the first bad one, and the file is rejected. Crates
-- above import it, too.
use Rattle.tsp_cases.specs.Prelude.{ℕ, map, Bool, true, false, List, length, ℤ, pos, zero, suc, [], slice_index_or, IsNode, IsCycle, sum_int_by, length_of, crossing}
use Rattle.std.specs.List.{All, AllPairs}
use Rattle.std.specs.Prelude.{◌≡◌, ◌+◌, ◌-◌, ◌*◌, ◌≤◌, ◌+ℤ◌, ◌≤ℤ◌, ◌∷◌, ◌⊎◌, if◌then◌else◌, ◌*ℤ◌, ◌≢◌, ◌<◌}
use Rattle.tsp_theory.specs.First.{IsFirstBad}
use Rattle.tsp_cases.specs.Crossings.{has, IsLeastLength, IsMostCost, AreTooMany}
use Rattle.tsp_cases.specs.declared.family.Crossings.{Crossings}

-- a set of nodes, the handle, and sets that have nodes in it and others, the teeth
pub record Comb : Type 0 where
  pub handle : ℕ → Bool
  pub teeth : List (ℕ → Bool)

-- a tooth has a node in the handle and one that isn't
pub record IsTooth (n : ℕ) (handle tooth : ℕ → Bool) : Type 0 where
  pub inside : ℕ
  pub outside : ℕ
  pub inside_node : IsNode n inside
  pub outside_node : IsNode n outside
  pub inside_tooth : tooth inside ≡ true
  pub outside_tooth : tooth outside ≡ true
  pub in_handle : handle inside ≡ true
  pub off_handle : handle outside ≡ false

-- no node is in both sets
abbrev pub AreApart : (ℕ → Bool) → (ℕ → Bool) → Type 0
AreApart a b = (node : ℕ) → a node ≡ true → b node ≡ false

-- a comb of n nodes has an odd number of teeth, at least three, of which no two have a node in common
pub record IsComb (n : ℕ) (comb : Comb) : Type 0 where
  pub half : ℕ
  pub some : 1 ≤ half
  pub odd : length comb.teeth ≡ 2 * half + 1
  pub reach : All (IsTooth n comb.handle) comb.teeth
  pub apart : AllPairs AreApart comb.teeth

-- how many sets of the comb have one of the two nodes and not the other
abbrev pub family_crossings : Comb → ℕ → ℕ → ℤ
family_crossings comb i j = crossing comb.handle i j +ℤ sum_int_by (λ tooth. crossing tooth i j) comb.teeth

-- how often a cycle crosses the sets of a comb of k teeth at least: 3k + 1 times
abbrev pub least_crossings : Comb → ℤ
least_crossings comb = pos (3 * length comb.teeth + 1)

-- Each cycle crosses the sets of a comb of k teeth at least 3k + 1 times.
abbrev pub CyclesCrossCombs : Type 0
CyclesCrossCombs = (n : ℕ) (comb : Comb) (nodes : List ℕ)
    → IsComb n comb → IsCycle n nodes → least_crossings comb ≤ℤ length_of (family_crossings comb) nodes

-- ---- combs by lists of nodes

-- the comb of a handle and teeth that are lists of nodes
abbrev pub comb_of : List ℕ → List (List ℕ) → Comb
comb_of handle teeth = record { handle = has handle; teeth = map has teeth }

-- ---- families of sets of nodes: lone sets, combs and others

-- sets of nodes, the first as the handle of a comb and the others as its teeth, whether they are a comb or not; and two
-- numbers: how often a cycle crosses them at least, and how many of them two nodes cross at most
pub record Family : Type 0 where
  pub sets : Comb
  pub numbers : Crossings

-- a lone set, as a handle without teeth: it contains a node of 1..n, but not all
pub record IsLoneSet (n : ℕ) (sets : Comb) : Type 0 where
  pub alone : sets.teeth ≡ []
  pub inside : ℕ
  pub outside : ℕ
  pub inside_node : IsNode n inside
  pub outside_node : IsNode n outside
  pub has_inside : sets.handle inside ≡ true
  pub lacks_outside : sets.handle outside ≡ false

-- the sets are a lone set or a comb
abbrev pub IsLoneOrComb : ℕ → Comb → Type 0
IsLoneOrComb n sets = IsLoneSet n sets ⊎ IsComb n sets

-- how often a cycle crosses sets at least, by the number of teeth: a lone set twice, a comb of k teeth 3k + 1 times
abbrev pub least_crossings_of : ℕ → ℕ
least_crossings_of zero = 2
least_crossings_of (suc k) = 3 * suc k + 1

-- a lone set or a comb, with that least number; its most is given as 3
pub record HasFormula (n : ℕ) (family : Family) : Type 0 where
  pub kind : IsLoneOrComb n family.sets
  pub least_is : family.numbers.least ≡ least_crossings_of (length family.sets.teeth)
  pub most_is : family.numbers.most ≡ 3

-- any other sets that are few and that some two nodes cross, with the least number of crossings of any cycle, and the
-- most sets that two nodes cross
pub record IsOtherFamily (n : ℕ) (family : Family) : Type 0 where
  pub unknown : IsLoneOrComb n family.sets → ⊥
  pub few : AreTooMany n (family.sets.handle ∷ family.sets.teeth) → ⊥
  pub parted : 1 ≤ family.numbers.most
  pub least_is : IsLeastLength n (family_crossings family.sets) (pos family.numbers.least)
  pub most_is : IsMostCost n (family_crossings family.sets) (pos family.numbers.most)

-- sets with the right numbers: by the formula, or by counting
abbrev pub IsFamily : ℕ → Family → Type 0
IsFamily n family = HasFormula n family ⊎ IsOtherFamily n family

-- ---- the theorems

-- Each cycle crosses a family's sets at least as often as its number says.
abbrev pub CyclesCrossFamilies : Type 0
CyclesCrossFamilies = (n : ℕ) (family : Family) (nodes : List ℕ) → IsFamily n family → IsCycle n nodes
    → pos family.numbers.least ≤ℤ length_of (family_crossings family.sets) nodes

-- The two numbers of given sets are unique.
abbrev pub NumbersAreUnique : Type 0
NumbersAreUnique = (n : ℕ) (a b : Family) → a.sets ≡ b.sets → IsFamily n a → IsFamily n b → a.numbers ≡ b.numbers

-- ---- families whose sets are lists of nodes, as a file has them

-- a handle and teeth by their lists of nodes
abbrev pub comb_with : List (List ℕ) → Comb
comb_with [] = record { handle = λ node. false; teeth = [] }
comb_with (handle ∷ teeth) = comb_of handle teeth

-- the family of sets, with its numbers
abbrev pub family_with : Crossings → List (List ℕ) → Family
family_with numbers sets = record { sets = comb_with sets; numbers = numbers }

-- the families of these sets, each with its numbers
abbrev pub families_with : List Crossings → List (List (List ℕ)) → List Family
families_with [] families = []
families_with (own ∷ crossed) [] = []
families_with (own ∷ crossed) (sets ∷ families) = family_with own sets ∷ families_with crossed families

-- of a family's two numbers the most that two nodes cross, or the least that a cycle crosses
abbrev pub most_or_least : Bool → Crossings → ℕ
most_or_least is_most own = if is_most then own.most else own.least

-- the sum of one of these numbers over families, each times its multiplier
abbrev pub sum_with : Bool → List Crossings → List ℤ → ℤ
sum_with is_most [] multipliers = pos 0
sum_with is_most (own ∷ crossed) [] = pos 0
sum_with is_most (own ∷ crossed) (multiplier ∷ multipliers) = (multiplier *ℤ pos (most_or_least is_most own))
    +ℤ sum_with is_most crossed multipliers

-- ---- whether the sets of COMB_SECTION are good families

-- no node is twice in a set
abbrev pub HasEachOnce : List ℕ → Type 0
HasEachOnce set = AllPairs (λ a b. a ≢ b) set

-- sets that are a lone set or a comb, and have no node twice
pub record IsGoodComb (n : ℕ) (sets : List (List ℕ)) : Type 0 where
  pub kind : IsLoneOrComb n (comb_with sets)
  pub once : All HasEachOnce sets

-- sets that are a family, and have no node twice
pub record IsGoodFamily (n : ℕ) (sets : List (List ℕ)) : Type 0 where
  pub numbers : Crossings
  pub family : IsFamily n (family_with numbers sets)
  pub once : All HasEachOnce sets

-- how many teeth a comb may have: an odd number, at least three
abbrev pub IsToothCount : ℕ → Type 0
IsToothCount count = (half : ℕ) × (1 ≤ half) × (count ≡ 2 * half + 1)

-- the first family that isn't good, counted from 1
abbrev pub IsFirstBadFamily : ℕ → List (List (List ℕ)) → ℕ → Type 0
IsFirstBadFamily n families first =
    IsFirstBad (λ place. IsGoodFamily n (slice_index_or families (place - 1) [])) families first

-- all are good, and `crossed` has the two numbers of each
pub record AreFamilies (n : ℕ) (families : List (List (List ℕ))) (crossed : List Crossings) : Type 0 where
  pub many : length crossed ≡ length families
  pub good : (place : ℕ) → place < length families → IsGoodFamily n (slice_index_or families place [])
  pub are : All (IsFamily n) (families_with crossed families)
  pub once : All (All HasEachOnce) families
