-- What is found on the way to the verdict on a certificate for routes: its sets of customers (`AreCutsJudged`), and
-- then its leaves, if they are bounded by q-routes (`IsLeafVerdict`). `src/plan_verdict.rt` promises both, and
-- `src/plan_leaf.rt` needs the limit on crossings (`IsFewCrossed`). `IsPlanVerdict` defines the whole verdict, so a new
-- reason begins there.
use Rattle.tsp_routing.specs.Prelude.{Vec, All, ℕ, Bool, true, List, length, Option, ℤ, Some, None, Step, RoutingProblem, LeafNumbers, families_in, Family, family_with, listed_steps, Decision}
use Rattle.std.specs.Prelude.{◌≡◌, ◌+◌, ◌*◌, ◌≤◌, ◌<◌}
use Rattle.tsp_cases.specs.declared.family.Crossings.{Crossings}
use Rattle.tsp_cases.specs.declared.judged.TreeVerdict.{TreeVerdict}
use Rattle.tsp_cases.specs.declared.judged.TreeVerdict.TheVariants as verdict
use Rattle.tsp_routing.specs.PlanBounds.{IsFoundByQRoutes, IsPlanTreeBound}
use Rattle.tsp_routing.specs.PlanLinks.{capacity_in_parts, IsCutFamily}
use Rattle.tsp_routing.specs.PlanVerdicts.{AreGoodPlanLeaves, IsFirstBadPlanLeaf, most_entries, IsGoodSet, IsFirstBadSet, AreCapacityCuts}
use Rattle.tsp_routing.specs.declared.demands.Demands.{Demands}
use Rattle.tsp_routing.specs.declared.plan_verdict.JudgedCuts.{JudgedCuts}
use Rattle.tsp_routing.specs.declared.plan_verdict.JudgedCuts.TheVariants as judged
use Rattle.tsp_routing.specs.declared.plan_verdict.PlanScratch.{PlanScratch}
use Rattle.tsp_routing.specs.states.Demands.{loads_problem}

-- a potential for each node, a multiplier for each family, and a row of numbers by node
pub record IsPlanScratch (n families : ℕ) (room : PlanScratch) : Type 0 where
  pub potentials : length room.potentials.items ≡ n
  pub multipliers : length room.multipliers.items ≡ families
  pub row : length room.row.items ≡ n + 1

-- what is found for a leaf if there are few loads; if there are too many, a leaf is only good or bad
abbrev pub IsFoundOfFew : Bool → RoutingProblem → ℤ → ℕ → ℕ → List Family → List Decision × LeafNumbers → Option ℤ → Type 0
IsFoundOfFew few problem scale unit light families leaf found =
    few ≡ true → IsFoundByQRoutes problem scale unit light families leaf found

-- how many entries the table by node and load has
abbrev pub entries_in : RoutingProblem → ℕ → ℕ → ℕ
entries_in problem unit light = problem.nodes * (capacity_in_parts problem unit light + 1)

-- the verdict on the leaves, if families and branches are good
abbrev pub IsLeafVerdict : RoutingProblem → ℤ → ℕ → ℕ → ℕ → List Family → List Step → TreeVerdict → Type 0
IsLeafVerdict problem scale unit light count families steps (verdict.BadLeaf leaf) =
    IsFirstBadPlanLeaf problem.nodes count steps leaf
IsLeafVerdict problem scale unit light count families steps verdict.TooManyLoads =
    AreGoodPlanLeaves problem.nodes count steps × (most_entries < entries_in problem unit light)
IsLeafVerdict problem scale unit light count families steps (verdict.Bound found) =
    AreGoodPlanLeaves problem.nodes count steps × (entries_in problem unit light ≤ most_entries)
    × IsPlanTreeBound problem scale unit light families (listed_steps problem.nodes count steps) found
IsLeafVerdict problem scale unit light count families steps other = ⊥

-- ---- the judgement on the families of a certificate for routes

-- how often a plan crosses the set at least is a count that fits
abbrev pub IsFewCrossed : Crossings → Type 0
IsFewCrossed own = own.least ≤ 200000

-- the least number of times that a plan crosses the set; None if the family isn't a set of customers
abbrev pub AreCutNumbers : Demands → List (List ℕ) → Option Crossings → Type 0
AreCutNumbers demands sets None = IsGoodSet demands.nodes demands.depot sets → ⊥
AreCutNumbers demands sets (Some own) = IsGoodSet demands.nodes demands.depot sets × IsFewCrossed own
    × ((cost : ℕ → ℕ → ℤ) → IsCutFamily (loads_problem demands cost) (family_with own sets))

-- Good: the families, each with its number. Bad: the number of the first bad one.
abbrev pub AreCutsJudged : Demands → List (Vec (Vec ℕ)) → JudgedCuts → Type 0
AreCutsJudged demands lent (judged.Good families crossed) = (families.nodes ≡ demands.nodes) × (families.lent.now ≡ lent)
    × All IsFewCrossed crossed.items
    × ((cost : ℕ → ℕ → ℤ) → AreCapacityCuts (loads_problem demands cost) (families_in lent) crossed.items)
AreCutsJudged demands lent (judged.Bad first) = IsFirstBadSet demands.nodes demands.depot (families_in lent) first
