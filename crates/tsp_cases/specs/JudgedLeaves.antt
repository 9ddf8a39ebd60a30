-- The judgement on the leaves of a tree, whatever gives a leaf its bound: the least bound, or the first bad leaf.
-- src/case_tree.rt promises it, for tours and routes; tsp_branch and tsp_routing say what is found for one leaf. In no
-- circle of docs/trust.md. tsp_verdict imports it, too.
use Rattle.tsp_cases.specs.Prelude.{All, Option, Some, None, ℤ, ℕ, List, [], IfSome, IsBoundSized}
use Rattle.std.specs.Prelude.{◌≡◌, ◌⊎◌, ◌≤ℤ◌, ◌∷◌}
use Rattle.tsp_format.specs.Steps as listed
use Rattle.tsp_cases.specs.CaseTrees.{IsLeastFound}
use Rattle.tsp_cases.specs.Cases.{LeafNumbers, leaves_of}
use Rattle.tsp_cases.specs.ListedCases.{listed_steps, all_grown, split_at, IsGoodLeafBy, AreGoodLeavesBy, IsFirstBadLeafBy}
use Rattle.tsp_cases.specs.declared.judged.JudgedLeaf.{JudgedLeaf}
use Rattle.tsp_cases.specs.declared.judged.JudgedLeaf.TheVariants as leaves
use Rattle.tsp_cases.specs.declared.judged.TreeVerdict.{TreeVerdict}
use Rattle.tsp_cases.specs.declared.judged.TreeVerdict.TheVariants as verdict
use Rattle.tsp_cases.specs.declared.decision.Decision.{Decision}
use Rattle.tsp_cases.specs.states.OpenCases.{AreSmall}

-- the lower one of the lowest bound so far and that of a leaf, if both exist; otherwise the one that does
abbrev pub IsLowest : Option ℤ → Option ℤ → Option ℤ → Type 0
IsLowest None own lower = lower ≡ own
IsLowest (Some lowest) None lower = lower ≡ Some lowest
IsLowest (Some lowest) (Some own) lower = ((lower ≡ Some lowest) × (lowest ≤ℤ own)) ⊎ ((lower ≡ Some own) × (own ≤ℤ lowest))

-- ---- the judgement on the leaves of a tree, whatever gives a leaf's bound

-- the verdict is a bound for which the first statement holds, or a bad leaf for which the second one holds
abbrev pub OnLeaves : (Option ℤ → Type 0) → (ℕ → Type 0) → TreeVerdict → Type 0
OnLeaves OfBound OfLeaf (verdict.Bound found) = OfBound found
OnLeaves OfBound OfLeaf (verdict.BadLeaf leaf) = OfLeaf leaf
OnLeaves OfBound OfLeaf other = ⊥

-- this is so of the bound, if the verdict is one
abbrev pub OnBound : (Option ℤ → Type 0) → TreeVerdict → Type 0
OnBound OfBound (verdict.Bound found) = OfBound found
OnBound OfBound other = Unit {0}

-- If the numbers of all leaves are good: the least bound that is found for a leaf, or none if no leaf has one.
-- Otherwise: the first bad leaf.
abbrev pub AreJudgedBy : (List Decision × LeafNumbers → Option ℤ → Type 0) → (LeafNumbers → Type 0) → ℕ → ℕ → List Decision
    → List listed.Step → TreeVerdict → Type 0
AreJudgedBy found good n families given steps judged = OnLeaves
    (λ least. All (λ leaf. good leaf.1) (leaves_of (given ∷ []) (listed_steps n families steps))
    × IsLeastFound found (leaves_of (given ∷ []) (listed_steps n families steps)) least
    × AreGoodLeavesBy good n families steps)
    (IsFirstBadLeafBy good n families steps) judged

-- The bound is so small that sums with it fit 128 bits.
abbrev pub IsSizedVerdict : TreeVerdict → Type 0
IsSizedVerdict judged = OnBound (λ found. IfSome found IsBoundSized) judged

-- ---- one leaf

-- What is found for a case by numbers that are good, to which differences can be added; of numbers that aren't good
-- nothing is found.
abbrev pub IsFoundOfCase : (List Decision × LeafNumbers → Option ℤ → Type 0) → (LeafNumbers → Type 0) → ℕ → List Decision → List ℤ
    → JudgedLeaf → Type 0
IsFoundOfCase found good n case numbers leaves.Bad = good (split_at n numbers) → ⊥
IsFoundOfCase found good n case numbers (leaves.Found own) =
    good (split_at n numbers) × AreSmall numbers × found (case, split_at n numbers) own

-- What is found for a good leaf, whose numbers are the ones that the next leaf changes; of a bad leaf nothing is found.
abbrev pub IsJudgedLeaf : (List Decision × LeafNumbers → Option ℤ → Type 0) → (LeafNumbers → Type 0) → ℕ → ℕ → List Decision
    → List ℤ → List (ℕ × ℤ) → List ℤ → JudgedLeaf → Type 0
IsJudgedLeaf found good n families case old changes new leaves.Bad = IsGoodLeafBy good n families old changes → ⊥
IsJudgedLeaf found good n families case old changes new (leaves.Found own) = IsGoodLeafBy good n families old changes
    × (new ≡ all_grown changes old) × AreSmall new × found (case, split_at n (all_grown changes old)) own

-- The bound of a leaf is so small that sums with it fit 128 bits.
abbrev pub IsSizedLeaf : JudgedLeaf → Type 0
IsSizedLeaf leaves.Bad = Unit {0}
IsSizedLeaf (leaves.Found own) = IfSome own IsBoundSized
