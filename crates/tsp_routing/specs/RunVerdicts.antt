-- Circle 3 of docs/trust.md.
-- The verdict on a branches file for routes (`IsPlanVerdict`): its bound, or the first reason against it. A file
-- without memories and subset rows bounds leaves by q-routes, every other file by runs. `judge_plans` promises the
-- verdict, and tsp_verdict puts it into the report.
use Rattle.tsp_routing.specs.Prelude.{Bool, true, false, ℕ, List, [], length, ℤ, Option, Step, RoutingProblem, families_with, AreGoodLeavesBy, IsFirstBadLeafBy, listed_steps}
use Rattle.std.specs.Prelude.{◌+◌, ◌≡◌, ◌≤◌, ◌*◌}
use Rattle.tsp_format.specs.Steps.{SubsetRow}
use Rattle.tsp_cases.specs.JudgedLeaves.{OnBound}
use Rattle.tsp_cases.specs.declared.family.Crossings.{Crossings}
use Rattle.tsp_cases.specs.declared.judged.TreeVerdict.{TreeVerdict}
use Rattle.tsp_cases.specs.declared.judged.TreeVerdict.TheVariants as verdict
use Rattle.tsp_routing.specs.PlanBounds.{BoundsPlansIfAny}
use Rattle.tsp_routing.specs.PlanLinks.{AreUnits, capacity_in_parts}
use Rattle.tsp_routing.specs.PlanVerdicts.{AreGoodBranches, IsFirstBadPlanBranch, AreGoodPlanLeaves, IsFirstBadPlanLeaf, IsFirstBadSet, AreCapacityCuts, most_entries, HasTooManyLoads, HasGoodTree, IsBoundFound}
use Rattle.tsp_routing.specs.RunTrees.{AreGoodLists, IsFirstBadRow, IsGoodMemory, IsBadMemory, placed_steps, AreGoodRunLeaves, IsFirstBadRunLeaf, RunTree, AreFewNumbers, IsRunTreeBound}

-- whether a certificate lists a memory or a subset row
abbrev pub is_by_runs : List (List ℕ) → List SubsetRow → Bool
is_by_runs [] [] = false
is_by_runs lists rows = true

-- ---- leaves, by q-routes or by runs

-- each index of a leaf is that of one of its numbers, and the numbers of each leaf are good
abbrev pub AreGoodLeavesOf : Bool → ℕ → ℕ → ℕ → List Step → Type 0
AreGoodLeavesOf false n families rows steps = AreGoodPlanLeaves n families steps
AreGoodLeavesOf true n families rows steps = AreGoodRunLeaves n families rows steps

-- the first leaf that isn't good, counted from 1
abbrev pub IsFirstBadLeafOf : Bool → ℕ → ℕ → ℕ → List Step → ℕ → Type 0
IsFirstBadLeafOf false n families rows steps leaf = IsFirstBadPlanLeaf n families steps leaf
IsFirstBadLeafOf true n families rows steps leaf = IsFirstBadRunLeaf n families rows steps leaf

-- ---- how many states the leaves keep

-- what all leaves share, if these are the parts of a light load and how often plans cross each family at least
abbrev pub tree_with : RoutingProblem → ℤ → ℕ → List (List (List ℕ)) → List (List ℕ) → List SubsetRow → ℕ → List Crossings → RunTree
tree_with problem scale unit families lists rows light crossed = record {
  problem = problem;
  scale = scale;
  unit = unit;
  light = light;
  family_count = length families;
  families = families_with crossed families;
  lists = lists;
  row_count = length rows;
  rows = rows;
}

-- the numbers of each leaf are good, and no leaf has more kept states than are allowed
abbrev pub AreFewLeaves : RunTree → List Step → Type 0
AreFewLeaves tree steps = AreGoodLeavesBy (AreFewNumbers tree) tree.problem.nodes (tree.family_count + tree.row_count)
    (placed_steps tree.problem.nodes tree.family_count steps)

-- the first leaf of which that isn't so, counted from 1
abbrev pub IsFirstFullLeaf : RunTree → List Step → ℕ → Type 0
IsFirstFullLeaf tree steps leaf = IsFirstBadLeafBy (AreFewNumbers tree) tree.problem.nodes (tree.family_count + tree.row_count)
    (placed_steps tree.problem.nodes tree.family_count steps) leaf

-- the numbers of all leaves are good, and this is the first leaf that has more kept states than are allowed
pub record HasFullLeaf (problem : RoutingProblem) (scale : ℤ) (unit : ℕ) (families : List (List (List ℕ)))
    (lists : List (List ℕ)) (rows : List SubsetRow) (steps : List Step) (leaf : ℕ) : Type 0 where
  pub by_runs : is_by_runs lists rows ≡ true
  pub crossed : List Crossings
  pub cuts : AreCapacityCuts problem families crossed
  pub light : ℕ
  pub units : AreUnits problem unit light
  pub leaves : AreGoodRunLeaves problem.nodes (length families) (length rows) steps
  pub first : IsFirstFullLeaf (tree_with problem scale unit families lists rows light crossed) steps leaf

-- ---- the bound

-- the bound by runs of a certificate that is good, whose table isn't too large, and whose leaves keep few states
pub record IsRunBoundFound (problem : RoutingProblem) (scale : ℤ) (unit : ℕ) (families : List (List (List ℕ)))
    (lists : List (List ℕ)) (rows : List SubsetRow) (steps : List Step) (found : Option ℤ) : Type 0 where
  pub crossed : List Crossings
  pub cuts : AreCapacityCuts problem families crossed
  pub branches : AreGoodBranches problem.nodes (length families) steps
  pub memory : IsGoodMemory problem.nodes problem.depot lists rows
  pub leaves : AreGoodRunLeaves problem.nodes (length families) (length rows) steps
  pub light : ℕ
  pub units : AreUnits problem unit light
  pub few : problem.nodes * (capacity_in_parts problem unit light + 1) ≤ most_entries
  pub states : AreFewLeaves (tree_with problem scale unit families lists rows light crossed) steps
  pub bound : IsRunTreeBound (tree_with problem scale unit families lists rows light crossed)
      (listed_steps problem.nodes (length families + length rows) (placed_steps problem.nodes (length families) steps)) found

-- the bound by q-routes, or by runs
abbrev pub IsPlanBoundFound : Bool → RoutingProblem → ℤ → ℕ → List (List (List ℕ)) → List (List ℕ) → List SubsetRow → List Step
    → Option ℤ → Type 0
IsPlanBoundFound false problem scale unit families lists rows steps found = IsBoundFound problem scale unit families steps found
IsPlanBoundFound true problem scale unit families lists rows steps found =
    IsRunBoundFound problem scale unit families lists rows steps found

-- ---- the verdict

-- all families are sets of customers
abbrev pub HasGoodCuts : RoutingProblem → List (List (List ℕ)) → Type 0
HasGoodCuts problem families = (crossed : List Crossings) × AreCapacityCuts problem families crossed

-- In this order: the first bad family; the customer of the first bad list, or the first bad row, or the first customer
-- that keeps too much; the first bad branch; the first bad leaf; that there are too many loads; the first leaf with too
-- many kept states; and else the bound.
abbrev pub IsPlanVerdict : RoutingProblem → ℤ → ℕ → List (List (List ℕ)) → List (List ℕ) → List SubsetRow → List Step
    → TreeVerdict → Type 0
IsPlanVerdict problem scale unit families lists rows steps (verdict.BadFamily family) =
    IsFirstBadSet problem.nodes problem.depot families family
IsPlanVerdict problem scale unit families lists rows steps (verdict.BadMemory customer) =
    HasGoodCuts problem families × IsBadMemory problem.nodes problem.depot lists rows customer
IsPlanVerdict problem scale unit families lists rows steps (verdict.BadRow row) =
    HasGoodCuts problem families × AreGoodLists problem.nodes problem.depot lists
    × IsFirstBadRow problem.nodes problem.depot rows row
IsPlanVerdict problem scale unit families lists rows steps (verdict.BadBranch branch) =
    HasGoodCuts problem families × IsGoodMemory problem.nodes problem.depot lists rows
    × IsFirstBadPlanBranch problem.nodes (length families) steps branch
IsPlanVerdict problem scale unit families lists rows steps (verdict.BadLeaf leaf) =
    HasGoodTree problem families steps × IsGoodMemory problem.nodes problem.depot lists rows
    × IsFirstBadLeafOf (is_by_runs lists rows) problem.nodes (length families) (length rows) steps leaf
IsPlanVerdict problem scale unit families lists rows steps verdict.TooManyLoads =
    HasGoodTree problem families steps × IsGoodMemory problem.nodes problem.depot lists rows
    × AreGoodLeavesOf (is_by_runs lists rows) problem.nodes (length families) (length rows) steps × HasTooManyLoads problem unit
IsPlanVerdict problem scale unit families lists rows steps (verdict.TooManyStates leaf) =
    HasGoodTree problem families steps × IsGoodMemory problem.nodes problem.depot lists rows
    × (HasTooManyLoads problem unit → ⊥) × HasFullLeaf problem scale unit families lists rows steps leaf
IsPlanVerdict problem scale unit families lists rows steps (verdict.Bound found) =
    IsGoodMemory problem.nodes problem.depot lists rows
    × IsPlanBoundFound (is_by_runs lists rows) problem scale unit families lists rows steps found
IsPlanVerdict problem scale unit families lists rows steps (verdict.BranchTwice branch) = ⊥

-- A bound is at most the length of every filled plan. If there is no bound, there is no filled plan.
abbrev pub VerdictBoundsPlans : RoutingProblem → TreeVerdict → Type 0
VerdictBoundsPlans problem judged = OnBound (BoundsPlansIfAny problem) judged

-- A certificate has one bound, or none.
abbrev pub PlanBoundsFoundAreUnique : Type 0
PlanBoundsFoundAreUnique = (by_runs : Bool) (problem : RoutingProblem) (scale : ℤ) (unit : ℕ) (families : List (List (List ℕ)))
    (lists : List (List ℕ)) (rows : List SubsetRow) (steps : List Step) (a b : Option ℤ)
    → IsPlanBoundFound by_runs problem scale unit families lists rows steps a
    → IsPlanBoundFound by_runs problem scale unit families lists rows steps b → a ≡ b
