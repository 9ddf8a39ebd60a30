-- Circle 3 of docs/trust.md.
-- When a reason applies to a certificate, and which bound it gives: potentials, branches for tours, and branches for
-- routes. Certified.antt chooses among the three.
use Rattle.tsp_verdict.specs.Prelude.{All, Contains, ℕ, true, List, slice_index_or, ℤ, pos, Bool, false, [], Option, None, Some, is_some, not, length, filter, nat_abs, Kind, fixed_of, scale_in, multipliers_in, cost, families_listed, memories_listed, rows_listed, load_unit_in, Fields, nodes_of, is_potentials_file, is_branches_file, pair_of, is_same_pair, AreGood, IsFirstBroken, IsDualBound, IsAdjustedBound, is_directed, depot_of, routing_of, CaseStep, take_pairs, is_same, decided_number, Reason, NotPotentials, PotentialsDimension, PotentialsKind, MultiplierNotFixed, MultiplierRepeated, DualInfeasible, NotBranches, BranchesDimension, BadFamily, BadMemory, BadRow, BadBranch, BranchTwice, BadLeaf, TooManyLoads, TooManyStates}
use Rattle.std.specs.Prelude.{◌≡◌, ◌-◌, ◌<◌, ◌≤◌, ◌⊎◌, ◌≢◌, ◌&&◌, ◌∷◌}
use Rattle.tsp_format.specs.Steps as listed
use Rattle.tsp_format.specs.declared.kinds.Kind.TheVariants as kinds
use Rattle.tsp_cases.specs.CaseTrees.{IsCaseTree, IsCaseTreeBound}
use Rattle.tsp_cases.specs.Families.{Family, IsFamily, families_with, IsGoodFamily}
use Rattle.tsp_cases.specs.ListedCases.{IsFirstBadBranch, listed_steps, IsFirstBadLeaf, IsFirstTwice}
use Rattle.tsp_cases.specs.declared.family.Crossings.{Crossings}
use Rattle.tsp_cases.specs.declared.decision.Decision.{Decision}
use Rattle.tsp_routing.specs.PlanVerdicts.{IsFirstBadSet, IsFirstBadPlanBranch, HasTooManyLoads}
use Rattle.tsp_routing.specs.RunTrees.{owner_of, IsFirstBadRow, IsBadMemory}
use Rattle.tsp_routing.specs.RunVerdicts.{is_by_runs, IsFirstBadLeafOf, HasFullLeaf, IsPlanBoundFound}
use Rattle.tsp_theory.specs.First.{IsFirstPlace}

-- a pair is listed, in either direction
abbrev pub IsListedEitherWay : List (ℕ × ℕ) → ℕ × ℕ → Type 0
IsListedEitherWay pairs pair = Contains pairs pair ⊎ Contains pairs (pair.1, pair.0)

-- the pair of each triple is listed so
abbrev pub AreListed : List (ℕ × ℕ) → List (ℕ × ℕ × ℤ) → Type 0
AreListed pairs triples = All (λ triple. IsListedEitherWay pairs (pair_of triple)) triples

-- the pair of the triple at a place, counted from 1
abbrev pub pair_at : List (ℕ × ℕ × ℤ) → ℕ → ℕ × ℕ
pair_at triples place = pair_of (slice_index_or triples (place - 1) (0, 0, pos 0))

-- the pair at the place isn't listed
abbrev pub IsUnlisted : List (ℕ × ℕ) → List (ℕ × ℕ × ℤ) → ℕ → Type 0
IsUnlisted pairs triples place = IsListedEitherWay pairs (pair_at triples place) → ⊥

-- the pair at the place is at an earlier place too, in either direction
abbrev pub IsPairRepeated : List (ℕ × ℕ × ℤ) → ℕ → Type 0
IsPairRepeated triples place =
    (earlier : ℕ) × (1 ≤ earlier) × (earlier < place) × (is_same_pair (pair_at triples earlier) (pair_at triples place) ≡ true)

-- ---- a certificate by potentials: when a reason applies to its file

-- ---- its numbers

-- the file has potentials of nodes for a TSP, or of rows and of columns for an ATSP
abbrev pub has_wanted : Option Kind → Fields → Bool
has_wanted (Some kinds.Tsp) f = is_some f.node_potentials
has_wanted (Some kinds.Atsp) f = is_some f.row_potentials && is_some f.column_potentials
has_wanted other f = false

-- the first pair whose cost is below the sum of its duals
pub record BreaksDuals (instance certificate : Fields) (i j : ℕ) : Type 0 where
  pub rows : List ℤ
  pub rows_are : certificate.row_potentials ≡ Some rows
  pub columns : List ℤ
  pub columns_are : certificate.column_potentials ≡ Some columns
  pub first : IsFirstBroken (nodes_of instance) (cost instance) (scale_in certificate) rows columns i j

-- ---- when a reason applies to it; reasons of tours and of routes never do

-- when a reason applies to the certificate
abbrev pub AppliesToPotentials : Fields → Fields → Reason → Type 0
AppliesToPotentials instance certificate NotPotentials = is_potentials_file certificate.kind ≡ false
AppliesToPotentials instance certificate PotentialsDimension = nodes_of certificate ≢ nodes_of instance
AppliesToPotentials instance certificate PotentialsKind = has_wanted instance.kind certificate ≡ false
AppliesToPotentials instance certificate (MultiplierNotFixed index) = (instance.kind ≡ Some kinds.Tsp)
    × IsFirstPlace (IsUnlisted (fixed_of instance) (multipliers_in certificate)) (multipliers_in certificate) index
AppliesToPotentials instance certificate (MultiplierRepeated index) = (instance.kind ≡ Some kinds.Tsp)
    × IsFirstPlace (IsPairRepeated (multipliers_in certificate)) (multipliers_in certificate) index
AppliesToPotentials instance certificate (DualInfeasible i j) = (instance.kind ≡ Some kinds.Atsp)
    × BreaksDuals instance certificate i j
AppliesToPotentials instance certificate reason = ⊥

-- ---- its bound

-- for a TSP: the bound of a minimum 1-tree under the potentials of nodes and the multipliers
pub record IsBoundByNodes (instance certificate : Fields) (bound : ℤ) : Type 0 where
  pub potentials : List ℤ
  pub potentials_are : certificate.node_potentials ≡ Some potentials
  pub of_tree : IsAdjustedBound (nodes_of instance) (cost instance) (scale_in certificate) potentials
      (multipliers_in certificate) [] bound

-- for an ATSP: the bound of the duals, which are good
pub record IsBoundByDuals (instance certificate : Fields) (bound : ℤ) : Type 0 where
  pub rows : List ℤ
  pub rows_are : certificate.row_potentials ≡ Some rows
  pub columns : List ℤ
  pub columns_are : certificate.column_potentials ≡ Some columns
  pub good : AreGood (nodes_of instance) (cost instance) (scale_in certificate) rows columns
  pub of_duals : IsDualBound (scale_in certificate) rows columns bound

-- ---- a certificate by branches for a TSP or an ATSP: when a reason applies to its file

-- ---- the cases, the steps and the families, by the fields of both files

-- pairs without those that come again; undirected: in either direction
abbrev pub each_once : Bool → List (ℕ × ℕ) → List (ℕ × ℕ)
each_once directed [] = []
each_once directed (pair ∷ pairs) = pair ∷ filter (λ other. not (is_same directed pair other)) (each_once directed pairs)

-- the decisions of all cases: the fixed pairs of the instance are taken
abbrev pub given_in : Fields → List Decision
given_in instance = take_pairs (each_once (is_directed instance.kind) (fixed_of instance))

-- the steps of the certificate's tree, with the potentials and the multipliers of each leaf
abbrev pub case_steps_in : Fields → Fields → List listed.Step → List CaseStep
case_steps_in instance tree steps = listed_steps (nodes_of instance) (length (families_listed tree)) steps

-- the families of the certificate, with these numbers
abbrev pub families_with_numbers : Fields → List Crossings → List Family
families_with_numbers tree crossed = families_with crossed (families_listed tree)

-- the two numbers of each family: how often a cycle crosses it at least, and how many of its sets two nodes cross at
-- most
pub record AreNumbersOf (instance tree : Fields) (crossed : List Crossings) : Type 0 where
  pub many : length crossed ≡ length (families_listed tree)
  pub are : All (IsFamily (nodes_of instance)) (families_with_numbers tree crossed)

-- ---- when a reason applies to it; reasons of tours, of routes and of potentials never do

-- the sets at the place are no family, or have a node twice
abbrev pub IsBadFamily : ℕ → List (List (List ℕ)) → ℕ → Type 0
IsBadFamily n families place = IsGoodFamily n (slice_index_or families (place - 1) []) → ⊥

-- the first node of the first list, if there is a list
abbrev pub IsFirstOwner : List (List ℕ) → ℕ → Type 0
IsFirstOwner lists node = (1 ≤ length lists) × (node ≡ owner_of (slice_index_or lists 0 []))

-- when a reason applies to the certificate; memories and subset rows are for routes alone
abbrev pub AppliesToBranches : Fields → Fields → Reason → Type 0
AppliesToBranches instance tree NotBranches = is_branches_file tree.kind ≡ false
AppliesToBranches instance tree BranchesDimension = nodes_of tree ≢ nodes_of instance
AppliesToBranches instance tree (BadFamily index) = IsFirstPlace (IsBadFamily (nodes_of instance) (families_listed tree))
    (families_listed tree) index
AppliesToBranches instance tree (BadMemory node) = IsFirstOwner (memories_listed tree) node
AppliesToBranches instance tree (BadRow index) = (1 ≤ length (rows_listed tree)) × (index ≡ 1)
AppliesToBranches instance tree (BadBranch index) = (steps : List listed.Step) × (tree.branches ≡ Some steps)
    × IsFirstBadBranch 1 (nodes_of instance) steps index
AppliesToBranches instance tree (BranchTwice index) = (steps : List listed.Step) × (tree.branches ≡ Some steps)
    × IsFirstTwice (is_directed instance.kind) (given_in instance) steps index
AppliesToBranches instance tree (BadLeaf index) = (steps : List listed.Step) × (tree.branches ≡ Some steps)
    × (crossed : List Crossings) × AreNumbersOf instance tree crossed × IsFirstBadLeaf (nodes_of instance) crossed steps index
AppliesToBranches instance tree reason = ⊥

-- ---- its bound

-- the families are good, the tree is whole with good numbers at its leaves, and `found` is the smallest bound of a
-- leaf: by 1-trees, or for an ATSP by least links
pub record HasBoundByBranches (instance tree : Fields) (found : Option ℤ) : Type 0 where
  pub steps : List listed.Step
  pub steps_are : tree.branches ≡ Some steps
  pub crossed : List Crossings
  pub numbers : AreNumbersOf instance tree crossed
  pub certificate : IsCaseTree (nodes_of instance) (families_with_numbers tree crossed) (given_in instance)
      (case_steps_in instance tree steps)
  pub bound : IsCaseTreeBound (is_directed instance.kind) (nodes_of instance) (cost instance) (scale_in tree) decided_number
      (families_with_numbers tree crossed) (given_in instance) (case_steps_in instance tree steps) found

-- the bound of the certificate
abbrev pub IsBoundByBranches : Fields → Fields → ℤ → Type 0
IsBoundByBranches instance tree bound = HasBoundByBranches instance tree (Some bound)

-- No leaf has a bound. For an ATSP that can be: the decisions of each leaf leave some node without a link.
abbrev pub HasNoBoundByBranches : Fields → Fields → Type 0
HasNoBoundByBranches instance tree = HasBoundByBranches instance tree None

-- ---- a certificate by branches for routes: when a reason applies to its file

-- the unit in which the certificate counts demands
abbrev pub unit_in : Fields → ℕ
unit_in tree = nat_abs (load_unit_in tree)

-- whether the certificate lists a memory or a subset row, so that leaves are bounded by runs
abbrev pub by_runs_in : Fields → Bool
by_runs_in tree = is_by_runs (memories_listed tree) (rows_listed tree)

-- ---- when a reason applies to it; reasons of routes and of other certificates never do

-- when a reason applies to the certificate
abbrev pub AppliesToQRoutes : Fields → Fields → Reason → Type 0
AppliesToQRoutes instance tree NotBranches = is_branches_file tree.kind ≡ false
AppliesToQRoutes instance tree BranchesDimension = nodes_of tree ≢ nodes_of instance
AppliesToQRoutes instance tree (BadFamily index) =
    IsFirstBadSet (nodes_of instance) (depot_of instance) (families_listed tree) index
AppliesToQRoutes instance tree (BadMemory node) =
    IsBadMemory (nodes_of instance) (depot_of instance) (memories_listed tree) (rows_listed tree) node
AppliesToQRoutes instance tree (BadRow index) =
    IsFirstBadRow (nodes_of instance) (depot_of instance) (rows_listed tree) index
AppliesToQRoutes instance tree (BadBranch index) = (steps : List listed.Step) × (tree.branches ≡ Some steps)
    × IsFirstBadPlanBranch (nodes_of instance) (length (families_listed tree)) steps index
AppliesToQRoutes instance tree (BadLeaf index) = (steps : List listed.Step) × (tree.branches ≡ Some steps)
    × IsFirstBadLeafOf (by_runs_in tree) (nodes_of instance) (length (families_listed tree)) (length (rows_listed tree)) steps index
AppliesToQRoutes instance tree TooManyLoads = HasTooManyLoads (routing_of instance) (unit_in tree)
AppliesToQRoutes instance tree (TooManyStates index) = (steps : List listed.Step) × (tree.branches ≡ Some steps)
    × HasFullLeaf (routing_of instance) (scale_in tree) (unit_in tree) (families_listed tree) (memories_listed tree)
    (rows_listed tree) steps index
AppliesToQRoutes instance tree reason = ⊥

-- ---- its bound

-- the families are sets of customers, the tree is whole with good numbers at its leaves, and `found` is the smallest
-- bound of a leaf, by least q-routes or least runs; None if there is no q-route
pub record HasBoundByQRoutes (instance tree : Fields) (found : Option ℤ) : Type 0 where
  pub steps : List listed.Step
  pub steps_are : tree.branches ≡ Some steps
  pub bound : IsPlanBoundFound (by_runs_in tree) (routing_of instance) (scale_in tree) (unit_in tree) (families_listed tree)
      (memories_listed tree) (rows_listed tree) steps found
