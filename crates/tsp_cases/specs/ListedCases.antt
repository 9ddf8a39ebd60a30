-- Circle 3 of docs/trust.md.
-- A tree of cases as BRANCH_SECTION lists it, and what makes it good: the numbers of its leaves, branches on nodes of
-- the instance, and no pair decided twice. src/case_tree.rt finds the first bad branch or leaf, counted in this list,
-- and a user sees its number. Crates above import it, too.
use Rattle.tsp_cases.specs.Prelude.{All, list_any, ℕ, true, List, length, ℤ, pos, [], take, drop, replicate, slice_set, slice_index_or, Bool, false, Option, None, Some, IsNode, ArePotentials, entry}
use Rattle.std.specs.Prelude.{◌≡◌, ◌≤ℤ◌, ◌≢◌, ◌+◌, ◌-◌, ◌^◌, ◌<◌, ◌≤◌, ◌∷◌, ◌+ℤ◌}
use Rattle.tsp_format.specs.Steps as listed
use Rattle.tsp_cases.specs.Cases.{LeafNumbers, CaseStep, Branch, Leaf, is_same, DecideOnce, decide, leaves_of, cases_of}
use Rattle.tsp_theory.specs.First.{IsFirst, IsFirstBad, IsPlace}
use Rattle.tsp_cases.specs.Families.{sum_with}
use Rattle.tsp_cases.specs.declared.family.Crossings.{Crossings}
use Rattle.tsp_cases.specs.declared.decision.Decision.{Decision}

-- the largest sum over families of the multiplier times the most sets that two nodes cross
abbrev pub most_crossed : ℕ
most_crossed = 900000000000000000

-- a potential for each node, none too large; a multiplier for each family, none negative; and that sum isn't too large
pub record AreGoodNumbers (n : ℕ) (crossed : List Crossings) (numbers : LeafNumbers) : Type 0 where
  pub each_node : length numbers.potentials ≡ n
  pub each_family : length numbers.multipliers ≡ length crossed
  pub potentials_are : ArePotentials numbers.potentials
  pub signs : All (λ multiplier. pos 0 ≤ℤ multiplier) numbers.multipliers
  pub sum : sum_with true crossed numbers.multipliers ≤ℤ pos most_crossed

-- the numbers of a leaf, of two lists
abbrev pub as_leaf_numbers : List ℤ → List ℤ → LeafNumbers
as_leaf_numbers potentials multipliers = record { potentials = potentials; multipliers = multipliers }

-- ---- a tree of cases as BRANCH_SECTION lists it

-- ---- the numbers of a leaf

-- numbers of which one grows by a difference
abbrev pub grown : ℕ × ℤ → List ℤ → List ℤ
grown change numbers = slice_set numbers (change.0 - 1) (entry numbers change.0 +ℤ change.1)

-- numbers that grow by several differences, one after the other
abbrev pub all_grown : List (ℕ × ℤ) → List ℤ → List ℤ
all_grown [] numbers = numbers
all_grown (change ∷ changes) numbers = all_grown changes (grown change numbers)

-- the numbers of a leaf: first the potentials of n nodes, then the multipliers of the families
abbrev pub split_at : ℕ → List ℤ → LeafNumbers
split_at n numbers = record { potentials = take n numbers; multipliers = drop n numbers }

-- ---- the steps

-- the steps of the tree with all numbers of each leaf, if the leaf before them had these numbers
abbrev pub steps_from : ℕ → List ℤ → List listed.Step → List CaseStep
steps_from n numbers [] = []
steps_from n numbers (listed.Branch a b ∷ steps) = Branch (a, b) ∷ steps_from n numbers steps
steps_from n numbers (listed.Leaf changes ∷ steps) =
    Leaf (split_at n (all_grown changes numbers)) ∷ steps_from n (all_grown changes numbers) steps

-- before the first leaf all numbers are 0
abbrev pub no_numbers_of : ℕ → ℕ → List ℤ
no_numbers_of n family_count = replicate (n + family_count) (pos 0)

-- the steps of a whole tree with all numbers of each leaf
abbrev pub listed_steps : ℕ → ℕ → List listed.Step → List CaseStep
listed_steps n family_count steps = steps_from n (no_numbers_of n family_count) steps

-- a branch is on two different nodes; a leaf has fewer than 2^32 differences
abbrev pub IsStepOf : ℕ → listed.Step → Type 0
IsStepOf n (listed.Branch a b) = IsNode n a × IsNode n b × (a ≢ b)
IsStepOf n (listed.Leaf changes) = length changes < 2 ^ 32

-- a step as a file has it: a branch may also begin with the number of a family, which is above n
abbrev pub IsListedStep : ℕ → listed.Step → Type 0
IsListedStep n (listed.Branch a b) = IsNode n a → IsNode n b × (a ≢ b)
IsListedStep n (listed.Leaf changes) = length changes < 2 ^ 32

-- ---- good leaves; `Good` says which numbers of a leaf are good

-- each index is that of a node or of a family, and the numbers are good
pub record IsGoodLeafBy (Good : LeafNumbers → Type 0) (n family_count : ℕ) (numbers : List ℤ) (changes : List (ℕ × ℤ)) : Type 0 where
  pub indexes : All (λ change. IsNode (n + family_count) change.0) changes
  pub numbers_are : Good (split_at n (all_grown changes numbers))

-- the differences of each leaf
abbrev pub leaf_changes : List listed.Step → List (List (ℕ × ℤ))
leaf_changes [] = []
leaf_changes (listed.Branch a b ∷ steps) = leaf_changes steps
leaf_changes (listed.Leaf changes ∷ steps) = changes ∷ leaf_changes steps

-- the numbers after all these leaves
abbrev pub after_leaves : List (List (ℕ × ℤ)) → List ℤ → List ℤ
after_leaves [] numbers = numbers
after_leaves (changes ∷ leaves) numbers = after_leaves leaves (all_grown changes numbers)

-- the leaf at a place, counted from 1, is good: its differences are added to the numbers after the leaves before it
abbrev pub IsGoodAtBy : (LeafNumbers → Type 0) → ℕ → ℕ → List (List (ℕ × ℤ)) → ℕ → Type 0
IsGoodAtBy Good n family_count leaves place = IsGoodLeafBy Good n family_count
    (after_leaves (take (place - 1) leaves) (no_numbers_of n family_count)) (slice_index_or leaves (place - 1) [])

-- all leaves are good
abbrev pub AreGoodLeavesBy : (LeafNumbers → Type 0) → ℕ → ℕ → List listed.Step → Type 0
AreGoodLeavesBy Good n family_count steps = (place : ℕ) → 1 ≤ place → place ≤ length (leaf_changes steps)
    → IsGoodAtBy Good n family_count (leaf_changes steps) place

-- the first leaf that isn't good, counted from 1
abbrev pub IsFirstBadLeafBy : (LeafNumbers → Type 0) → ℕ → ℕ → List listed.Step → ℕ → Type 0
IsFirstBadLeafBy Good n family_count steps leaf =
    IsFirstBad (IsGoodAtBy Good n family_count (leaf_changes steps)) (leaf_changes steps) leaf

-- ---- the same for cycles, where AreGoodNumbers says which numbers are good

abbrev pub AreGoodLeaves : ℕ → List Crossings → List listed.Step → Type 0
AreGoodLeaves n crossed steps = AreGoodLeavesBy (AreGoodNumbers n crossed) n (length crossed) steps

abbrev pub IsFirstBadLeaf : ℕ → List Crossings → List listed.Step → ℕ → Type 0
IsFirstBadLeaf n crossed steps leaf = IsFirstBadLeafBy (AreGoodNumbers n crossed) n (length crossed) steps leaf

-- ---- which branch of a tree comes twice

-- whether a decision of a case is on a pair
abbrev pub is_decided : Bool → List Decision → ℕ × ℕ → Bool
is_decided directed case pair = list_any (λ decision. is_same directed pair decision.pair) case

-- a branch: its pair, and the case that it divides
pub record Divided : Type 0 where
  pub case : List Decision
  pub pair : ℕ × ℕ

-- each branch of the steps with its case, if these cases are open before the steps; a branch divides the first open
-- one
abbrev pub branches_of_cases : List (List Decision) → List listed.Step → List Divided
branches_of_cases [] steps = []
branches_of_cases (case ∷ cases) [] = []
branches_of_cases (case ∷ cases) (listed.Branch a b ∷ steps) =
    record { case = case; pair = (a, b) } ∷ branches_of_cases (decide (a, b) true case ∷ decide (a, b) false case ∷ cases) steps
branches_of_cases (case ∷ cases) (listed.Leaf changes ∷ steps) = branches_of_cases cases steps

-- the branch at a place, counted from 1, is on a pair that its case decides
abbrev pub is_twice_at : Bool → List Divided → ℕ → Bool
is_twice_at directed branches place =
    let branch : Divided = slice_index_or branches (place - 1) (record { case = []; pair = (0, 0) }) in
    is_decided directed branch.case branch.pair

-- the first branch that comes twice, counted from 1
abbrev pub IsFirstTwice : Bool → List Decision → List listed.Step → ℕ → Type 0
IsFirstTwice directed given steps first =
    let branches = branches_of_cases (given ∷ []) steps in
    IsFirst (λ k. k) (λ k. IsPlace branches k × (is_twice_at directed branches k ≡ true))
    (λ k. 1 ≤ k → is_twice_at directed branches k ≡ false) first

-- None: no branch comes twice, so no case decides a pair twice, whatever the numbers of its leaves. Some: the number of
-- the first branch that does.
abbrev pub AreBranchesJudged : Bool → List Decision → List listed.Step → Option ℕ → Type 0
AreBranchesJudged directed given steps None = ((first : ℕ) → IsFirstTwice directed given steps first → ⊥)
    × ((n family_count : ℕ) → All (DecideOnce directed) (cases_of (leaves_of (given ∷ []) (listed_steps n family_count steps))))
AreBranchesJudged directed given steps (Some first) = IsFirstTwice directed given steps first

-- ---- the first bad branch of a tree: one whose first number is out of range

-- the two numbers of each branch, in the order of the branches
abbrev pub branch_pairs : List listed.Step → List (ℕ × ℕ)
branch_pairs [] = []
branch_pairs (listed.Branch a b ∷ steps) = (a, b) ∷ branch_pairs steps
branch_pairs (listed.Leaf changes ∷ steps) = branch_pairs steps

-- the first number of a branch is from `least` to `most`
abbrev pub BeginsWithin : ℕ → ℕ → ℕ × ℕ → Type 0
BeginsWithin least most pair = (least ≤ pair.0) × (pair.0 ≤ most)

-- the two numbers of the branch at a place, counted from 1
abbrev pub branch_at : List listed.Step → ℕ → ℕ × ℕ
branch_at steps place = slice_index_or (branch_pairs steps) (place - 1) (0, 0)

-- the first branch, counted from 1, whose first number isn't from `least` to `most`
abbrev pub IsFirstBadBranch : ℕ → ℕ → List listed.Step → ℕ → Type 0
IsFirstBadBranch least most steps first =
    IsFirstBad (λ place. BeginsWithin least most (branch_at steps place)) (branch_pairs steps) first

-- None: no branch is bad. Some: the number of the first bad one.
abbrev pub AreBranchesWithin : ℕ → ℕ → List listed.Step → Option ℕ → Type 0
AreBranchesWithin least most steps None = ((first : ℕ) → IsFirstBadBranch least most steps first → ⊥)
    × All (BeginsWithin least most) (branch_pairs steps)
AreBranchesWithin least most steps (Some first) = IsFirstBadBranch least most steps first
