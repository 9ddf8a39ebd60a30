-- The judgement on the families of a certificate for tours: all of them, as `Families`, or the first bad one; and on its
-- branches: all of them, as `CheckedTree`, or the first bad one, or the first on a pair that is decided already.
-- src/good_families.rt and src/case_tree.rt promise them; Families.antt defines which families are good, and
-- ListedCases.antt which branches. tsp_branch imports it, too.
use Rattle.std.specs.Global.{Vec}
use Rattle.std.specs.Prelude.{◌≡◌, ℕ, Bool, List, ℤ, Some, None}
use Rattle.tsp_format.specs.declared.steps.TreeStep.{TreeStep}
use Rattle.tsp_format.specs.states.TreeSteps.{steps_of}
use Rattle.tsp_cases.specs.Crossings.{families_in}
use Rattle.tsp_cases.specs.Families.{AreFamilies, IsFirstBadFamily}
use Rattle.tsp_cases.specs.declared.decision.Decision.{Decision}
use Rattle.tsp_cases.specs.ListedCases.{AreBranchesWithin, AreBranchesJudged}
use Rattle.tsp_cases.specs.declared.judged.CheckedTree.{CheckedTree}
use Rattle.tsp_cases.specs.declared.judged.JudgedCases.{JudgedCases}
use Rattle.tsp_cases.specs.declared.judged.JudgedCases.TheVariants as cases
use Rattle.tsp_cases.specs.declared.judged.JudgedFamilies.{JudgedFamilies}
use Rattle.tsp_cases.specs.declared.judged.JudgedFamilies.TheVariants as families

-- Good: the families of these sets of n nodes, with their numbers. Bad: the number of the first bad family.
abbrev pub AreFamiliesJudged : ℕ → List (Vec (Vec ℕ)) → JudgedFamilies → Type 0
AreFamiliesJudged n sets (families.Good found) =
    (found.nodes ≡ n) × (found.lent.now ≡ sets) × AreFamilies n (families_in sets) found.crossed.items
AreFamiliesJudged n sets (families.Bad first) = IsFirstBadFamily n (families_in sets) first

-- ---- the branches

-- the fields of `CheckedTree` are these: the nodes, the scale, the given decisions and the steps
pub record AreCasesOf (n : ℕ) (directed : Bool) (scale : ℤ) (given : List Decision) (steps : List TreeStep)
    (tree : CheckedTree) : Type 0 where
  pub nodes : tree.nodes ≡ n
  pub direction : tree.directed ≡ directed
  pub scale_is : tree.scale ≡ scale
  pub given_are : tree.given.now ≡ given
  pub steps_are : tree.steps.now ≡ steps

-- Good: no branch is bad or comes twice. BadBranch and Twice: the number of the first such branch.
abbrev pub AreCasesJudged : ℕ → Bool → ℤ → List Decision → List TreeStep → JudgedCases → Type 0
AreCasesJudged n directed scale given steps (cases.Good tree) = AreCasesOf n directed scale given steps tree
    × AreBranchesWithin 1 n (steps_of steps) None × AreBranchesJudged directed given (steps_of steps) None
AreCasesJudged n directed scale given steps (cases.BadBranch branch) = AreBranchesWithin 1 n (steps_of steps) (Some branch)
AreCasesJudged n directed scale given steps (cases.Twice branch) =
    AreBranchesWithin 1 n (steps_of steps) None × AreBranchesJudged directed given (steps_of steps) (Some branch)
