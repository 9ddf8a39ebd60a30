-- Circles 1 and 3 of docs/trust.md.
-- The steps of a tree of cases, as BRANCH_SECTION lists them, subset rows, and ranges of whole numbers: what
-- certificates by branching are made of, for tours and for routes. tsp_text defines which steps a text means, and
-- tsp_cases and tsp_routing which bound they give. Crates above import it, too.
use Rattle.std.specs.Prelude.{ℤ, ◌≤ℤ◌, ℕ, zero, suc, ◌+◌, Bool, true, false, List, [], ◌∷◌, length}

-- z is from `least` to `most`
abbrev pub IsFromTo : ℤ → ℤ → ℤ → Type 0
IsFromTo least most z = (least ≤ℤ z) × (z ≤ℤ most)

-- ---- the steps of a tree of cases, as BRANCH_SECTION lists them

pub data Step : Type 0 where
  -- a pair of nodes; or the index of a family, which comes after those of the nodes, and half of a number of crossings
  Branch : (first second : ℕ) → Step
  -- each number that changes since the leaf before: its index, and its difference
  Leaf : (changes : List (ℕ × ℤ)) → Step

-- whether steps are this number of whole trees, one after the other: a leaf is a tree, and so is a branch with the two
-- trees after it
abbrev pub are_whole : ℕ → List Step → Bool
are_whole zero [] = true
are_whole zero (step ∷ steps) = false
are_whole (suc count) [] = false
are_whole (suc count) (Branch first second ∷ steps) = are_whole (suc (suc count)) steps
are_whole (suc count) (Leaf changes ∷ steps) = are_whole count steps

-- how many branches there are
abbrev pub branch_count : List Step → ℕ
branch_count [] = 0
branch_count (Branch first second ∷ steps) = suc (branch_count steps)
branch_count (Leaf changes ∷ steps) = branch_count steps

-- how many leaves there are
abbrev pub leaf_count : List Step → ℕ
leaf_count [] = 0
leaf_count (Branch first second ∷ steps) = leaf_count steps
leaf_count (Leaf changes ∷ steps) = suc (leaf_count steps)

-- how many differences all leaves have together
abbrev pub change_count : List Step → ℕ
change_count [] = 0
change_count (Branch first second ∷ steps) = change_count steps
change_count (Leaf changes ∷ steps) = length changes + change_count steps

-- ---- the subset rows of SUBSET_ROW_SECTION

-- A limited-memory subset row: a set of customers, and further customers that keep its parity too.
pub record SubsetRow : Type 0 where
  pub set : List ℕ
  pub further : List ℕ

-- how many nodes both lists have
abbrev pub row_size : SubsetRow → ℕ
row_size row = length row.set + length row.further
