-- The verdict on a branches file for a TSP or an ATSP: its bound, or the first reason against it (`IsBranchVerdict`),
-- which tsp_verdict puts into the report. `judge_branches` in src/tour_verdict.rt promises it. In no circle of
-- docs/trust.md: the bound that `yes` rests on is defined in tsp_cases.
use Rattle.tsp_branch.specs.Prelude.{ℕ, List, ℤ, pos, length, Bool, None, Some, total, IsLeastBound, triples_total, least_of, leaf_weight, IsLeafBound, IsCaseTree, IsCaseTreeBound, BoundsIfAny, decided_number}
use Rattle.std.specs.Prelude.{◌≡◌, ◌+ℤ◌, ◌-ℤ◌, ◌*ℤ◌}
use Rattle.tsp_format.specs.Steps as listed
use Rattle.tsp_bound.specs.Weighed.{IsLeastWeight}
use Rattle.tsp_cases.specs.Families.{Family, families_with, AreFamilies, IsFirstBadFamily}
use Rattle.tsp_cases.specs.ListedCases.{listed_steps, AreGoodLeaves, IsFirstBadLeaf, AreBranchesWithin, AreBranchesJudged}
use Rattle.tsp_cases.specs.declared.family.Crossings.{Crossings}
use Rattle.tsp_cases.specs.JudgedLeaves.{OnBound, OnLeaves}
use Rattle.tsp_cases.specs.declared.judged.TreeVerdict.{TreeVerdict}
use Rattle.tsp_cases.specs.declared.judged.TreeVerdict.TheVariants as verdict
use Rattle.tsp_cases.specs.declared.decision.Decision.{Decision}

-- the least whole number that, times the scale, is at least the weight of a minimum 1-tree plus the number given back
pub record IsBoundOfWeights (n : ℕ) (w : ℕ → ℕ → ℤ) (scale given_back bound : ℤ) : Type 0 where
  pub weight : ℤ
  pub weighs : IsLeastWeight n w weight
  pub bound_is : IsLeastBound scale (weight +ℤ given_back) bound

-- what a leaf gives back: the numbers of its taken pairs and the least crossings of its families, each times its
-- multiplier, less each potential twice
abbrev pub given_back_of : List ℤ → List (ℕ × ℕ × ℤ) → List (Family × ℤ) → ℤ
given_back_of potentials taken weighted = (triples_total taken +ℤ least_of weighted) -ℤ (pos 2 *ℤ total potentials)

-- the bound of every leaf that has these weights and gives this back
abbrev pub BoundsEachLeaf : ℕ → (ℕ → ℕ → ℤ) → ℤ → ℤ → ℤ → Type 0
BoundsEachLeaf n w scale given_back bound = (cost : ℕ → ℕ → ℤ) (potentials : List ℤ) (taken avoided : List (ℕ × ℕ × ℤ))
    (weighted : List (Family × ℤ)) → ((i j : ℕ) → w i j ≡ leaf_weight scale potentials taken avoided weighted cost i j)
    → given_back ≡ given_back_of potentials taken weighted → IsLeafBound n cost scale potentials taken avoided weighted bound

-- ---- the judgement on the leaves of a tree of cases, by 1-trees or least links

-- If all leaves are good: the bound, or none if no leaf has one. Otherwise: the first bad leaf.
abbrev pub AreJudgedLeaves : Bool → ℕ → (ℕ → ℕ → ℤ) → ℤ → List Family → List Crossings → List Decision → List listed.Step
    → TreeVerdict → Type 0
AreJudgedLeaves directed n cost scale families crossed given steps judged = OnLeaves
    (λ found. IsCaseTree n families given (listed_steps n (length crossed) steps)
    × IsCaseTreeBound directed n cost scale decided_number families given (listed_steps n (length crossed) steps) found
    × AreGoodLeaves n crossed steps)
    (IsFirstBadLeaf n crossed steps) judged

-- The bound is at most the length of every cycle that keeps the given decisions. If there is no bound, no cycle keeps
-- them.
abbrev pub BoundsCycles : Bool → ℕ → (ℕ → ℕ → ℤ) → List Decision → TreeVerdict → Type 0
BoundsCycles directed n cost given judged = OnBound (BoundsIfAny directed n cost given) judged

-- ---- the verdict on a branches file, for a TSP or an ATSP

-- all families are good, each branch begins with a node, and no branch comes twice; then the leaves are judged
pub record AreLeavesJudged (directed : Bool) (n : ℕ) (cost : ℕ → ℕ → ℤ) (scale : ℤ)
    (families : List (List (List ℕ))) (given : List Decision) (steps : List listed.Step) (found : TreeVerdict) : Type 0 where
  pub crossed : List Crossings
  pub are_families : AreFamilies n families crossed
  pub on_nodes : AreBranchesWithin 1 n steps None
  pub are_once : AreBranchesJudged directed given steps None
  pub leaves : AreJudgedLeaves directed n cost scale (families_with crossed families) crossed given steps found

-- The first of these that exists: a bad family; a branch that doesn't begin with a node; a branch that comes twice; a
-- bad leaf. Otherwise: the bound.
abbrev pub IsBranchVerdict : Bool → ℕ → (ℕ → ℕ → ℤ) → ℤ → List (List (List ℕ)) → List Decision → List listed.Step → TreeVerdict
    → Type 0
IsBranchVerdict directed n cost scale families given steps (verdict.BadFamily family) = IsFirstBadFamily n families family
IsBranchVerdict directed n cost scale families given steps (verdict.BadBranch branch) =
    (crossed : List Crossings) × AreFamilies n families crossed × AreBranchesWithin 1 n steps (Some branch)
IsBranchVerdict directed n cost scale families given steps (verdict.BranchTwice branch) = (crossed : List Crossings)
    × AreFamilies n families crossed × AreBranchesWithin 1 n steps None × AreBranchesJudged directed given steps (Some branch)
IsBranchVerdict directed n cost scale families given steps other =
    AreLeavesJudged directed n cost scale families given steps other
