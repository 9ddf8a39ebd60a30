-- Circle 3 of docs/trust.md.
-- Memories and subset rows of a certificate for routes, and its bound by least runs, as a theorem. Also which lists and
-- rows are good: src/judged_memory.rt finds the first bad one, which becomes a reason. tsp_verdict imports it, too.
use Rattle.tsp_routing.specs.Prelude.{All, ℕ, nat_le, Bool, true, List, [], map, take, drop, length, ℤ, pos, slice_index_or, Option, Some, None, Step, Branch, Leaf, entry, RoutingProblem, IsCustomer, LeafNumbers, CaseStep, are_case_trees, leaves_of, Family, HasEachOnce, Decision, AreGoodLeavesBy, IsFirstBadLeafBy, listed_steps, IsScale}
use Rattle.std.specs.Prelude.{◌+◌, ◌-◌, ◌*◌, ◌≡◌, ◌≢◌, ◌≤◌, ◌<◌, ◌≤ℤ◌, ◌*ℤ◌, ◌==◌, ◌∷◌, ◌++◌, ◌⊎◌, if◌then◌else◌}
use Rattle.tsp_theory.specs.First.{IsFirstBad}
use Rattle.tsp_cases.specs.CaseTrees.{IsLeastFound}
use Rattle.tsp_routing.specs.PlanBounds.{BoundsPlansIfAny}
use Rattle.tsp_routing.specs.PlanLinks.{IsRoutable, IsCutFamily, AreUnits}
use Rattle.tsp_routing.specs.PlanVerdicts.{ArePlanNumbers}
use Rattle.tsp_routing.specs.Runs.{keeps, RunRules, AreCharges}
use Rattle.tsp_format.specs.Steps.{SubsetRow}
use Rattle.tsp_routing.specs.RunBounds.{leaf_rules, IsRunBound}
use Rattle.tsp_routing.specs.KeptStates.{HasTooManyStates}

-- ---- lists of customers: the first customer of a list remembers the others

abbrev pub owner_of : List ℕ → ℕ
owner_of list = slice_index_or list 0 0

-- the customers that a customer remembers, by the first list that is its own
abbrev pub near_of : List (List ℕ) → ℕ → List ℕ
near_of [] customer = []
near_of (list ∷ lists) customer = if owner_of list == customer then drop 1 list else near_of lists customer

-- the list at a place has customers alone, none twice, and its first customer has no earlier list
pub record IsGoodList (n depot : ℕ) (lists : List (List ℕ)) (place : ℕ) : Type 0 where
  pub inside : All (IsCustomer n depot) (slice_index_or lists place [])
  pub once : HasEachOnce (slice_index_or lists place [])
  pub own : (earlier : ℕ) → earlier < place
      → owner_of (slice_index_or lists earlier []) ≢ owner_of (slice_index_or lists place [])

-- all lists are such lists
abbrev pub AreGoodLists : ℕ → ℕ → List (List ℕ) → Type 0
AreGoodLists n depot lists = (place : ℕ) → place < length lists → IsGoodList n depot lists place

-- the first customer of the first list that isn't
pub record IsFirstBadList (n depot : ℕ) (lists : List (List ℕ)) (customer : ℕ) : Type 0 where
  pub place : ℕ
  pub inside : place < length lists
  pub bad : IsGoodList n depot lists place → ⊥
  pub before : (earlier : ℕ) → earlier < place → IsGoodList n depot lists earlier
  pub first : customer ≡ owner_of (slice_index_or lists place [])

-- ---- subset rows

-- two customers or more, and further ones, none twice
pub record IsGoodRow (n depot : ℕ) (row : SubsetRow) : Type 0 where
  pub several : 2 ≤ length row.set
  pub inside : All (IsCustomer n depot) (row.set ++ row.further)
  pub once : HasEachOnce (row.set ++ row.further)

-- the row at a place; an empty one if there is none
abbrev pub row_at : List SubsetRow → ℕ → SubsetRow
row_at rows place = slice_index_or rows place (record { set = []; further = [] })

abbrev pub AreGoodRows : ℕ → ℕ → List SubsetRow → Type 0
AreGoodRows n depot rows = (place : ℕ) → place < length rows → IsGoodRow n depot (row_at rows place)

-- the first row that isn't such a row, counted from 1
abbrev pub IsFirstBadRow : ℕ → ℕ → List SubsetRow → ℕ → Type 0
IsFirstBadRow n depot rows first = IsFirstBad (λ place. IsGoodRow n depot (row_at rows (place - 1))) rows first

-- ---- how much a customer keeps

-- how many rows a customer keeps
abbrev pub rows_kept : List SubsetRow → ℕ → ℕ
rows_kept [] customer = 0
rows_kept (row ∷ rows) customer = (if keeps row customer then 1 else 0) + rows_kept rows customer

-- the customers that it remembers and the rows that it keeps are at most 64
abbrev pub FitsMemory : List (List ℕ) → List SubsetRow → ℕ → Type 0
FitsMemory lists rows customer = length (near_of lists customer) + rows_kept rows customer ≤ 64

-- the first customer that keeps more
pub record IsFirstFull (n depot : ℕ) (lists : List (List ℕ)) (rows : List SubsetRow) (customer : ℕ) : Type 0 where
  pub there : IsCustomer n depot customer
  pub full : FitsMemory lists rows customer → ⊥
  pub before : (earlier : ℕ) → IsCustomer n depot earlier → earlier < customer → FitsMemory lists rows earlier

-- lists and rows are good, and no customer keeps too much
pub record IsGoodMemory (n depot : ℕ) (lists : List (List ℕ)) (rows : List SubsetRow) : Type 0 where
  pub lists_are : AreGoodLists n depot lists
  pub rows_are : AreGoodRows n depot rows
  pub fits : (customer : ℕ) → IsCustomer n depot customer → FitsMemory lists rows customer

-- the customer of the first bad list; or, if all lists and rows are good, the first customer that keeps too much
abbrev pub IsBadMemory : ℕ → ℕ → List (List ℕ) → List SubsetRow → ℕ → Type 0
IsBadMemory n depot lists rows customer = IsFirstBadList n depot lists customer
    ⊎ (AreGoodLists n depot lists × AreGoodRows n depot rows × IsFirstFull n depot lists rows customer)

-- ---- the numbers of a leaf: the charges of rows follow on the multipliers of families

-- the place of an index among the numbers of a leaf, counted from 1: rows begin at n + 10,001. 0 for an index of nothing
-- between families and rows
abbrev pub number_place : ℕ → ℕ → ℕ → ℕ
number_place n families index =
    if nat_le index (n + families) then index else (if nat_le index (n + 10000) then 0 else index - 10000 + families)

abbrev pub placed_changes : ℕ → ℕ → List (ℕ × ℤ) → List (ℕ × ℤ)
placed_changes n families changes = map (λ (change : ℕ × ℤ). (number_place n families change.0, change.1)) changes

-- a step whose differences are at places
abbrev pub step_with_places : ℕ → ℕ → Step → Step
step_with_places n families (Branch first second) = Branch first second
step_with_places n families (Leaf changes) = Leaf (placed_changes n families changes)

abbrev pub placed_steps : ℕ → ℕ → List Step → List Step
placed_steps n families steps = map (step_with_places n families) steps

-- potentials, multipliers and charges, none too large, and no charge below 0; the sizes of multipliers and charges
-- together don't sum to too much
pub record AreRunNumbers (n families rows : ℕ) (numbers : LeafNumbers) : Type 0 where
  pub plan : ArePlanNumbers n (families + rows) numbers
  pub signs : All (λ charge. pos 0 ≤ℤ charge) (drop families numbers.multipliers)

-- each index is that of a node, a family or a row, and the numbers of each leaf are good
abbrev pub AreGoodRunLeaves : ℕ → ℕ → ℕ → List Step → Type 0
AreGoodRunLeaves n families rows steps =
    AreGoodLeavesBy (AreRunNumbers n families rows) n (families + rows) (placed_steps n families steps)

-- the first leaf that isn't good, counted from 1
abbrev pub IsFirstBadRunLeaf : ℕ → ℕ → ℕ → List Step → ℕ → Type 0
IsFirstBadRunLeaf n families rows steps leaf =
    IsFirstBadLeafBy (AreRunNumbers n families rows) n (families + rows) (placed_steps n families steps) leaf

-- ---- the bound of a certificate by least runs

-- the numbers of nodes and families
abbrev pub family_numbers : ℕ → LeafNumbers → LeafNumbers
family_numbers families numbers = record { potentials = numbers.potentials; multipliers = take families numbers.multipliers }

-- rows with their charges
abbrev pub charged_rows : List SubsetRow → List ℤ → List (SubsetRow × ℤ)
charged_rows [] charges = []
charged_rows (row ∷ rows) [] = []
charged_rows (row ∷ rows) (charge ∷ charges) = (row, charge) ∷ charged_rows rows charges

-- the rows of a leaf
abbrev pub rows_of_leaf : ℕ → List SubsetRow → LeafNumbers → List (SubsetRow × ℤ)
rows_of_leaf families rows numbers = charged_rows rows (drop families numbers.multipliers)

-- what all leaves of a certificate share
pub record RunTree : Type 0 where
  pub problem : RoutingProblem
  pub scale : ℤ
  pub unit : ℕ
  pub light : ℕ
  pub family_count : ℕ
  pub families : List Family
  pub lists : List (List ℕ)
  pub row_count : ℕ
  pub rows : List SubsetRow

-- the rules of runs of a leaf
abbrev pub rules_at : RunTree → LeafNumbers → RunRules
rules_at tree numbers = leaf_rules tree.problem tree.scale tree.unit tree.light tree.families
    (family_numbers tree.family_count numbers) (near_of tree.lists) (rows_of_leaf tree.family_count tree.rows numbers)

-- the limit of a leaf: twice the potential of the depot
abbrev pub limit_at : RunTree → LeafNumbers → ℤ
limit_at tree numbers = pos 2 *ℤ entry numbers.potentials tree.problem.depot

-- the numbers of a leaf are good, and it has no more kept states than are allowed
pub record AreFewNumbers (tree : RunTree) (numbers : LeafNumbers) : Type 0 where
  pub good : AreRunNumbers tree.problem.nodes tree.family_count tree.row_count numbers
  pub few : HasTooManyStates (rules_at tree numbers) (limit_at tree numbers) → ⊥

-- what is found of a leaf: its bound
abbrev pub IsFoundByRuns : RunTree → List Decision × LeafNumbers → Option ℤ → Type 0
IsFoundByRuns tree (case, numbers) None = ⊥
IsFoundByRuns tree (case, numbers) (Some bound) = AreCharges (rows_of_leaf tree.family_count tree.rows numbers)
    × ∥ IsRunBound tree.problem tree.scale tree.unit tree.light tree.families case (family_numbers tree.family_count numbers)
    (near_of tree.lists) (rows_of_leaf tree.family_count tree.rows numbers) bound ∥₁

-- the bound of a tree: the least bound of a leaf
abbrev pub IsRunTreeBound : RunTree → List CaseStep → Option ℤ → Type 0
IsRunTreeBound tree steps found = IsLeastFound (IsFoundByRuns tree) (leaves_of ([] ∷ []) steps) found

-- It is at most the length of every filled plan.
abbrev pub RunTreesBoundPlans : Type 0
RunTreesBoundPlans = (tree : RunTree) (steps : List CaseStep) (found : Option ℤ)
    → IsRoutable tree.problem → IsScale tree.scale → AreUnits tree.problem tree.unit tree.light
    → All (IsCutFamily tree.problem) tree.families → are_case_trees 1 steps ≡ true → IsRunTreeBound tree steps found
    → BoundsPlansIfAny tree.problem found
