-- The verdict on routes (src/routes.rt): each test that finds nothing rules out its reasons (`after_routing`,
-- `IsMarked`, `all_served`), and if none finds anything, the plan is accepted (`is_planned`).
use Rattle.tsp_verdict.proofs.Prelude.{ℕ, ◌≤◌, arith, ◌≡◌, ◌≢◌, ◌+◌, ◌-◌, ◌<◌, Bool, true, false, List, [], length, None, refl, sym, ap, subst, ◌∙◌, ◌*◌, ◌∷◌, to_z, of_z, false≢true, ints, to_z-of_z, length-map, All-from_recursion, recursion_from_All, Vec, w64, All, Contains, AllByRecursion, slice_index_or, ℤ, pos, ◌≤ℤ◌, FitsSigned, ◌^◌, unwrap_or, nat_abs, Option, Some, most_changes, IsNode, nodes_to, cost, HoldsCases, scale_in, families_listed, Fields, nodes_of, is_branches_file, IsDemand, IsStep, AreTreeSteps, families_of, IsBoundSized, demand_of, load_of, IsCustomer, plan_length, IsLeastRoutes, RoutingProblem, depot_of, demands_of, capacity_of, routing_of, memories_listed, rows_listed, HoldsMemory, sum_by, map, inl, inr, families_with, leaf_changes, Crossings, of_customers, AreCapacityCuts, AreGoodBranches, IsFirstBadPlanBranch, routing_with, most_entries, HasTooManyLoads, IsPlanBoundFound, IsPlanVerdict, VerdictBoundsPlans, rank_of, Branches, Reason, DepotCount, DepotDemand, FixedEdgesInRoutes, NodeOutOfRange, RepeatedNode, FixedEdgeUnused, DepotInRoute, Unserved, Overload, NotBranches, BranchesDimension, BadFamily, BadMemory, BadRow, BadBranch, BadLeaf, TooManyLoads, TooManyStates, Ok, Err}
use Rattle.std.proofs.lemmas.List.Sums.{sum_by-cons}
use Rattle.tsp_file.specs.Cost.{AreSomeLists, AreSomeRows}
use Rattle.tsp_file.specs.Valid.{IsSetOf, IsRowOf}
use Rattle.tsp_format.specs.declared.steps.RowSets.{RowSets}
use Rattle.tsp_format.specs.states.TreeSteps.{subset_rows_of}
use Rattle.tsp_routing.specs.states.JudgedMemory.{AreListsOf, AreRowsOf}
use Rattle.tsp_format.specs.Steps.{SubsetRow, Step, Branch, Leaf, change_count}
use Rattle.tsp_routing.specs.RunTrees.{AreGoodLists, AreGoodRows, IsFirstBadRow, IsGoodMemory, IsBadMemory, step_with_places, placed_steps}
use Rattle.tsp_routing.specs.RunVerdicts.{is_by_runs, AreGoodLeavesOf, IsFirstBadLeafOf, tree_with, IsFirstFullLeaf, HasFullLeaf}
use Rattle.tsp_format.specs.declared.kinds.Kind.TheVariants as kinds
use Rattle.tsp_routing.proofs.QRoutesBoundPlans.{all_crossed, one_light}
use Rattle.tsp_routing.specs.PlanLinks.{IsCutFamily, AreUnits, capacity_in_parts}
use Rattle.tsp_cases.specs.JudgedLeaves.{IsSizedVerdict}
use Rattle.tsp_cases.specs.declared.judged.TreeVerdict.{TreeVerdict}
use Rattle.tsp_cases.specs.declared.judged.TreeVerdict.TheVariants as found
use Rattle.tsp_routing.specs.states.LeafWeights.{IsPlanStep}
use Rattle.tsp_report.specs.declared.verdict.Verdict.TheVariants.{Routes}
use Rattle.tsp_verdict.proofs.CarriedBounds.{fitting}
use Rattle.tsp_verdict.proofs.FirstReasons.{routes_rank}
use Rattle.tsp_verdict.proofs.OneReason.{one_value}
use Rattle.tsp_verdict.proofs.RouteFiles.{demand_low, none_fewer}
use Rattle.tsp_verdict.proofs.TourVerdicts.{all_apart, marked_there, there_marked}
use Rattle.tsp_verdict.specs.Certificates.{unit_in, by_runs_in, AppliesToQRoutes, HasBoundByQRoutes}
use Rattle.tsp_verdict.specs.Certified.{AppliesToRouting, NoneAgainstRouting, IsBoundBy, HasNoBoundBy, BoundsSolutionsBy, HasNoSolutionBy, AppliesToCertificateBy, AppliesToCertificate, FindsBound}
use Rattle.tsp_theory.specs.First.{IsFirstPlace}
use Rattle.tsp_verdict.specs.SolutionReasons.{IsLarger, IsAt, IsAtEarlierPlace, visited, tours_of, NoneBefore, IsFirstUnserved, IsOverloaded, AppliesToRoutes, NoneOfRoutesBefore, NoneOfRoutesBeforePlaces, total_of, AreCustomers, IsFirstAgainstRoutes, IsRoutesVerdict, IsFirstReason}
use Rattle.tsp_verdict.proofs.TreeReasons.{pairs_few}
use Rattle.tsp_verdict.specs.states.Marks.{Marked}
use Rattle.tsp_verdict.specs.states.TreeFound.{IsNumbered, found_by_tree}

-- ---- the reasons against the instance, whatever the routes

up_to_places : (inst sol : Fields) (rank : ℕ) → rank ≤ rank_of (DepotInRoute 1) → NoneOfRoutesBefore inst sol DepotCount
    → NoneBefore (AppliesToRouting inst) rank → NoneBefore (AppliesToRoutes inst sol) rank
up_to_places inst sol rank few before none DepotCount low applies = none DepotCount low applies
up_to_places inst sol rank few before none DepotDemand low applies = none DepotDemand low applies
up_to_places inst sol rank few before none FixedEdgesInRoutes low applies = none FixedEdgesInRoutes low applies
up_to_places inst sol rank few before none reason low applies = before reason (omega (arith, few, low)) applies

-- if none applies, the nodes of the routes are judged next
pub after_routing : (inst sol : Fields) → NoneOfRoutesBefore inst sol DepotCount → NoneAgainstRouting inst
    → NoneOfRoutesBeforePlaces inst sol
after_routing inst sol before none place =
    up_to_places inst sol (rank_of (DepotInRoute 1)) (omega arith) before (λ reason low applies. none reason applies)

-- ---- the reasons against routes

pub after_depot : (inst sol : Fields) → NoneOfRoutesBefore inst sol (DepotInRoute 1)
    → ((place : ℕ) → IsFirstPlace (IsAt (depot_of inst) (visited sol)) (visited sol) place → ⊥)
    → NoneOfRoutesBefore inst sol (NodeOutOfRange 1)
after_depot inst sol before out (DepotInRoute place) low applies = out place applies
after_depot inst sol before out reason low applies = before reason (omega (arith, low)) applies

pub after_range : (inst sol : Fields) → NoneOfRoutesBefore inst sol (NodeOutOfRange 1)
    → ((place : ℕ) → IsFirstPlace (IsLarger (nodes_of inst) (visited sol)) (visited sol) place → ⊥)
    → NoneOfRoutesBefore inst sol (RepeatedNode 1)
after_range inst sol before inside (NodeOutOfRange place) low applies = inside place applies
after_range inst sol before inside reason low applies = before reason (omega (arith, low)) applies

pub after_repeats : (inst sol : Fields) → NoneOfRoutesBefore inst sol (RepeatedNode 1)
    → ((place : ℕ) → IsFirstPlace (IsAtEarlierPlace (visited sol)) (visited sol) place → ⊥)
    → NoneOfRoutesBefore inst sol (Unserved 1)
after_repeats inst sol before once (RepeatedNode place) low applies = once place applies
after_repeats inst sol before once (FixedEdgeUnused index) low applies = applies
after_repeats inst sol before once reason low applies = before reason (omega (arith, low)) applies

pub after_served : (inst sol : Fields) → NoneOfRoutesBefore inst sol (Unserved 1)
    → ((node : ℕ) → IsFirstUnserved (nodes_of inst) (depot_of inst) (visited sol) node → ⊥)
    → NoneOfRoutesBefore inst sol (Overload 1)
after_served inst sol before served (Unserved node) low applies = served node applies
after_served inst sol before served reason low applies = before reason (omega (arith, low)) applies

pub after_loads : (inst sol : Fields) → NoneOfRoutesBefore inst sol (Overload 1)
    → ((route : ℕ) → IsFirstPlace (IsOverloaded (demands_of inst) (capacity_of inst) (tours_of sol)) (tours_of sol) route → ⊥)
    → (reason : Reason) → AppliesToRoutes inst sol reason → ⊥
after_loads inst sol before carried (Overload route) applies = carried route applies
after_loads inst sol before carried reason applies = before reason (omega (arith, routes_rank inst sol reason applies)) applies

-- ---- the verdict on routes

-- ---- places

pub depot_first : (inst sol : Fields) (nodes : List ℕ) (depot place : ℕ) → nodes ≡ visited sol → depot ≡ depot_of inst
    → NoneOfRoutesBefore inst sol (DepotInRoute 1)
    → IsFirstPlace (IsAt depot nodes) nodes place → IsFirstAgainstRoutes inst sol (DepotInRoute place)
depot_first inst sol nodes depot place are is none first = record {
  applies = subst (λ d. IsFirstPlace (IsAt d (visited sol)) (visited sol) place) is
      (subst (λ (xs : List ℕ). IsFirstPlace (IsAt depot xs) xs place) are first);
  none_before = none;
}

pub no_depot : (inst sol : Fields) (nodes : List ℕ) (depot : ℕ) → nodes ≡ visited sol → depot ≡ depot_of inst
    → NoneOfRoutesBefore inst sol (DepotInRoute 1) → All (λ node. node ≢ depot) nodes
    → NoneOfRoutesBefore inst sol (NodeOutOfRange 1)
no_depot inst sol nodes depot are is none others =
    let all : All (λ node. node ≢ depot_of inst) (visited sol) =
    subst (λ d. All (λ node. node ≢ d) (visited sol)) is (subst (λ (xs : List ℕ). All (λ node. node ≢ depot) xs) are others) in
    after_depot inst sol none (λ place first. all (place - 1) 0 (omega (arith, first.applies.0.0, first.applies.0.1)) first.applies.1)

pub larger_first : (inst sol : Fields) (nodes : List ℕ) (n place : ℕ) → nodes ≡ visited sol → n ≡ nodes_of inst
    → NoneOfRoutesBefore inst sol (NodeOutOfRange 1)
    → IsFirstPlace (IsLarger n nodes) nodes place → IsFirstAgainstRoutes inst sol (NodeOutOfRange place)
larger_first inst sol nodes n place are is none first = record {
  applies = subst (λ m. IsFirstPlace (IsLarger m (visited sol)) (visited sol) place) is
      (subst (λ (xs : List ℕ). IsFirstPlace (IsLarger n xs) xs place) are first);
  none_before = none;
}

pub customers : (inst sol : Fields) (nodes : List ℕ) (n depot : ℕ) → nodes ≡ visited sol → n ≡ nodes_of inst
    → depot ≡ depot_of inst → NoneOfRoutesBefore inst sol (NodeOutOfRange 1)
    → All (λ node. 1 ≤ node) nodes → All (λ node. node ≢ depot) nodes → All (λ node. node ≤ n) nodes
    → AreCustomers inst sol × NoneOfRoutesBefore inst sol (RepeatedNode 1)
customers inst sol nodes n depot are n_is depot_is none low other high =
    let all : All (IsCustomer n depot) nodes = λ k d lt. ((low k d lt, high k d lt), other k d lt) in
    let there : AreCustomers inst sol =
    subst (λ d. All (IsCustomer (nodes_of inst) d) (visited sol)) depot_is
    (subst (λ m. All (IsCustomer m depot) (visited sol)) n_is
    (subst (λ (xs : List ℕ). All (IsCustomer n depot) xs) are all)) in (
      there,
      after_range inst sol none
          (λ place first. omega (arith, first.applies.1, (there (place - 1) 0 (omega (arith, first.applies.0.0, first.applies.0.1))).0.1)),
    )

pub customers_in : (inst sol : Fields) (nodes : List ℕ) (n : ℕ) → nodes ≡ visited sol → n ≡ nodes_of inst → AreCustomers inst sol
    → All (IsNode n) nodes
customers_in inst sol nodes n are is all =
    subst (λ m. All (IsNode m) nodes) (sym is)
    (subst (λ (xs : List ℕ). All (IsNode (nodes_of inst)) xs) (sym are) (λ k d lt. (all k d lt).0))

pub repeated_first : (inst sol : Fields) (nodes : List ℕ) (place : ℕ) → nodes ≡ visited sol
    → NoneOfRoutesBefore inst sol (RepeatedNode 1)
    → IsFirstPlace (IsAtEarlierPlace nodes) nodes place
    → IsFirstAgainstRoutes inst sol (RepeatedNode place)
repeated_first inst sol nodes place are none first = record {
  applies = subst (λ (xs : List ℕ). IsFirstPlace (IsAtEarlierPlace xs) xs place) are first;
  none_before = none;
}

-- ---- who is served

-- the marks of all nodes, and the reasons that they rule out
pub record IsMarked (inst sol : Fields) (seen : List Bool) (size : ℕ) : Type 0 where
  pub marks : Marked (visited sol) seen (length (visited sol))
  pub wide : size ≡ nodes_of inst + 1
  pub none : NoneOfRoutesBefore inst sol (Unserved 1)

pub is_marked : (inst sol : Fields) (nodes : List ℕ) (seen : List Bool) (size : ℕ) → nodes ≡ visited sol
    → size ≡ nodes_of inst + 1 → NoneOfRoutesBefore inst sol (RepeatedNode 1)
    → Marked nodes seen (length nodes) → IsMarked inst sol seen size
is_marked inst sol nodes seen size are wide none m =
    let there : Marked (visited sol) seen (length (visited sol)) = subst (λ (xs : List ℕ). Marked xs seen (length xs)) are m in
    record {
      marks = there;
      wide = wide;
      none =
          after_repeats inst sol none (λ place first. there.once place first.applies.0.0 first.applies.0.1 first.applies.1);
    }

pub unserved_first : (inst sol : Fields) (seen : List Bool) (size depot node : ℕ) → IsMarked inst sol seen size
    → depot ≡ depot_of inst
    → (1 ≤ node) × (node < size) × (node ≢ depot) × (slice_index_or seen node false ≡ false)
    × ((other : ℕ) → 1 ≤ other → other < node → other ≢ depot → slice_index_or seen other false ≡ true)
    → IsFirstAgainstRoutes inst sol (Unserved node)
unserved_first inst sol seen size depot node m is found = record {
  applies = record {
    applies = (
      ((found.0, omega (arith, found.1, m.wide)), λ same. found.2 (same ∙ sym is)),
      λ there. false≢true (sym found.3 ∙ there_marked (visited sol) seen node m.marks there),
    );
    none_before = λ other less of_customers. marked_there (visited sol) seen other m.marks
        (found.4 other of_customers.0.0 less (λ same. of_customers.1 (same ∙ is)));
  };
  none_before = m.none;
}

-- all customers are served
pub all_served : (inst sol : Fields) (seen : List Bool) (size depot : ℕ) → IsMarked inst sol seen size → depot ≡ depot_of inst
    → ((node : ℕ) → 1 ≤ node → node < size → node ≢ depot → slice_index_or seen node false ≡ true) → (node : ℕ)
    → IsCustomer (nodes_of inst) (depot_of inst) node → Contains (visited sol) node
all_served inst sol seen size depot m is all node of_customers =
    marked_there (visited sol) seen node m.marks
    (all node of_customers.0.0 (omega (arith, of_customers.0.1, m.wide)) (λ same. of_customers.1 (same ∙ is)))

pub none_unserved : (inst sol : Fields) → NoneOfRoutesBefore inst sol (Unserved 1)
    → ((node : ℕ) → IsCustomer (nodes_of inst) (depot_of inst) node → Contains (visited sol) node)
    → NoneOfRoutesBefore inst sol (Overload 1)
none_unserved inst sol none served = after_served inst sol none (λ node first. first.applies.1 (served node first.applies.0))

-- ---- the carried demands

pub overload_first : (inst sol : Fields) (routes : List (List ℕ)) (demands : List ℤ) (capacity : ℤ) (place : ℕ)
    → routes ≡ tours_of sol → demands ≡ demands_of inst → capacity ≡ capacity_of inst
    → NoneOfRoutesBefore inst sol (Overload 1) → IsFirstPlace (IsOverloaded demands capacity routes) routes place
    → IsFirstAgainstRoutes inst sol (Overload place)
overload_first inst sol routes demands capacity place are demands_are capacity_is none first = record {
  applies = subst (λ (z : ℤ). IsFirstPlace (IsOverloaded (demands_of inst) z (tours_of sol)) (tours_of sol) place) capacity_is
      (subst (λ (ds : List ℤ). IsFirstPlace (IsOverloaded ds capacity (tours_of sol)) (tours_of sol) place) demands_are
      (subst (λ (xs : List (List ℕ)). IsFirstPlace (IsOverloaded demands capacity xs) xs place) are first));
  none_before = none;
}

-- if no test finds anything, the plan is accepted
-- plan: each test found nothing, so no reason applies; `after_loads` for the loads, `none_fewer` for the least number
pub is_planned : (inst sol : Fields) (seen : List Bool) (size : ℕ) (routes : List (List ℕ)) (demands : List ℤ) (capacity : ℤ)
    (depot : ℕ) (measured : ℤ) (count least : ℕ)
    → routes ≡ tours_of sol → demands ≡ demands_of inst → length demands ≡ nodes_of inst → capacity ≡ capacity_of inst
    → depot ≡ depot_of inst
    → AreCustomers inst sol → All (λ route. route ≢ []) (tours_of sol) → IsMarked inst sol seen size
    → ((node : ℕ) → IsCustomer (nodes_of inst) (depot_of inst) node → Contains (visited sol) node)
    → All IsDemand demands → demand_of (demands_of inst) depot ≡ pos 0
    → All (λ route. load_of demands route ≤ℤ capacity) routes → measured ≡ plan_length (cost inst) depot routes
    → count ≡ length routes
    → IsLeastRoutes (load_of demands (nodes_to (length demands))) capacity least
    → IsRoutesVerdict inst sol (Routes measured count least None)
is_planned inst sol seen size routes demands capacity depot measured count least are demands_are each capacity_is depot_is all filled m
    served range empty within long counted is_least =
    let carried : All (λ route. load_of (demands_of inst) route ≤ℤ capacity_of inst) (tours_of sol) =
    subst (λ (z : ℤ). All (λ route. load_of (demands_of inst) route ≤ℤ z) (tours_of sol)) capacity_is
    (subst (λ (ds : List ℤ). All (λ route. load_of ds route ≤ℤ capacity) (tours_of sol)) demands_are
    (subst (λ (xs : List (List ℕ)). All (λ route. load_of demands route ≤ℤ capacity) xs) are within)) in
    let least_here : IsLeastRoutes (total_of inst) (capacity_of inst) least =
    subst (λ (z : ℤ). IsLeastRoutes (total_of inst) z least) capacity_is
    (subst (λ (ds : List ℤ). IsLeastRoutes (load_of ds (nodes_to (nodes_of inst))) capacity least) demands_are
    (subst (λ n. IsLeastRoutes (load_of demands (nodes_to n)) capacity least) each is_least)) in
    let low : (node : ℕ) → pos 0 ≤ℤ demand_of (demands_of inst) node =
    subst (λ (ds : List ℤ). (node : ℕ) → pos 0 ≤ℤ demand_of ds node) demands_are
    (demand_low demands (λ k d lt. (range k d lt).0)) in
    let none_here : demand_of (demands_of inst) (depot_of inst) ≡ pos 0 =
    subst (λ d. demand_of (demands_of inst) d ≡ pos 0) depot_is empty in (
      after_loads inst sol (none_unserved inst sol m.none served) (λ place first. over place first carried),
      record {
        plan_of = record { customers = all; once = all_apart (visited sol) m.marks.once; served = served; within = carried };
        filled = filled;
        measured = long ∙ ap (λ d. plan_length (cost inst) d routes) depot_is ∙ ap (plan_length (cost inst) (depot_of inst)) are;
        counted = counted ∙ ap length are;
        least_is = least_here;
        none_fewer = none_fewer (routing_of inst) least low none_here least_here;
      },
      refl,
    )
  where
    over : (place : ℕ) → IsFirstPlace (IsOverloaded (demands_of inst) (capacity_of inst) (tours_of sol)) (tours_of sol) place
        → All (λ route. load_of (demands_of inst) route ≤ℤ capacity_of inst) (tours_of sol) → ⊥
    over place first carried =
        omega (arith, ints, first.applies.1, carried (place - 1) [] (omega (arith, first.applies.0.0, first.applies.0.1)))

-- ---- of four nodes with the depot 1 the customers are 2, 3 and 4

-- ---- reasons against a certificate for routes, ruled out one by one, and its bound

-- ---- what is found of the files

-- what is found of the instance and the tree
pub record IsReportedOfRoutes (inst tree : Fields) (verdict : TreeVerdict) : Type 0 where
  pub steps : List Step
  pub steps_are : tree.branches ≡ Some steps
  pub by_steps : IsPlanVerdict (routing_of inst) (scale_in tree) (unit_in tree) (families_listed tree) (memories_listed tree)
      (rows_listed tree) steps verdict

-- the numbers of the code are those of the files
pub record AreOfFiles (inst tree : Fields) (depot : ℕ) (demands : List ℤ) (capacity scale unit : ℤ)
    (families : List (List (List ℕ))) (lists : List (List ℕ)) (rows : List SubsetRow) (steps : List Step) : Type 0 where
  pub depot_is : depot ≡ depot_of inst
  pub demands_are : demands ≡ demands_of inst
  pub capacity_is : capacity ≡ capacity_of inst
  pub scale_is : scale ≡ scale_in tree
  pub unit_is : nat_abs unit ≡ unit_in tree
  pub families_are : families ≡ families_listed tree
  pub lists_are : lists ≡ memories_listed tree
  pub rows_are : rows ≡ rows_listed tree
  pub steps_are : tree.branches ≡ Some steps

-- a file that holds these numbers
pub of_files : (inst tree : Fields) (depot : ℕ) (demands : List ℤ) (capacity scale unit : ℤ) (families : List (Vec (Vec ℕ)))
    (lists : List (List ℕ)) (rows : List SubsetRow) (steps : List Step) → FitsSigned w64 capacity → FitsSigned w64 scale → FitsSigned w64 unit
    → depot ≡ depot_of inst → demands ≡ demands_of inst → capacity ≡ capacity_of inst
    → HoldsCases tree scale unit (families_of families) steps → HoldsMemory tree lists rows
    → AreOfFiles inst tree depot demands (to_z w64 (of_z w64 capacity)) (to_z w64 (of_z w64 scale)) (to_z w64 (of_z w64 unit))
    (families_of families) lists rows steps
of_files inst tree depot demands capacity scale unit families lists rows steps capable scaled united depot_is demands_are capacity_is held
    memory = record {
      depot_is = depot_is;
      demands_are = demands_are;
      capacity_is = to_z-of_z w64 capacity capable ∙ capacity_is;
      scale_is = to_z-of_z w64 scale scaled ∙ held.scale_is;
      unit_is = ap nat_abs (to_z-of_z w64 unit united ∙ held.load_unit_is);
      families_are = held.families_kept;
      lists_are = memory.lists_kept;
      rows_are = memory.rows_kept;
      steps_are = held.steps_are;
    }

problem_is : (inst tree : Fields) (depot : ℕ) (demands : List ℤ) (capacity scale unit : ℤ)
    (families : List (List (List ℕ))) (lists : List (List ℕ)) (rows : List SubsetRow) (steps : List Step)
    → AreOfFiles inst tree depot demands capacity scale unit families lists rows steps
    → routing_with (nodes_of inst) (cost inst) depot demands capacity ≡ routing_of inst
problem_is inst tree depot demands capacity scale unit families lists rows steps are =
    ap (λ (d : ℕ). routing_with (nodes_of inst) (cost inst) d demands capacity) are.depot_is
    ∙ ap (λ (ds : List ℤ). routing_with (nodes_of inst) (cost inst) (depot_of inst) ds capacity) are.demands_are
    ∙ ap (λ (z : ℤ). routing_with (nodes_of inst) (cost inst) (depot_of inst) (demands_of inst) z) are.capacity_is

pub reported_of_routes : (inst tree : Fields) (depot : ℕ) (demands : List ℤ) (capacity scale unit : ℤ)
    (families : List (List (List ℕ))) (lists : List (List ℕ)) (rows : List SubsetRow) (steps : List Step) (verdict : TreeVerdict)
    → AreOfFiles inst tree depot demands capacity scale unit families lists rows steps
    → IsPlanVerdict (routing_with (nodes_of inst) (cost inst) depot demands capacity) scale (nat_abs unit) families lists rows steps verdict
    → IsReportedOfRoutes inst tree verdict
reported_of_routes inst tree depot demands capacity scale unit families lists rows steps verdict are is = record {
  steps = steps;
  steps_are = are.steps_are;
  by_steps =
      subst (λ (rs : List SubsetRow). IsPlanVerdict (routing_of inst) (scale_in tree) (unit_in tree) (families_listed tree)
      (memories_listed tree) rs steps verdict) are.rows_are
      (subst (λ (ls : List (List ℕ)). IsPlanVerdict (routing_of inst) (scale_in tree) (unit_in tree) (families_listed tree) ls rows steps verdict)
      are.lists_are
      (subst (λ (fs : List (List (List ℕ))). IsPlanVerdict (routing_of inst) (scale_in tree) (unit_in tree) fs lists rows steps verdict)
      are.families_are
      (subst (λ (u : ℕ). IsPlanVerdict (routing_of inst) (scale_in tree) u families lists rows steps verdict) are.unit_is
      (subst (λ (z : ℤ). IsPlanVerdict (routing_of inst) z (nat_abs unit) families lists rows steps verdict) are.scale_is
      (subst (λ (p : RoutingProblem). IsPlanVerdict p scale (nat_abs unit) families lists rows steps verdict)
      (problem_is inst tree depot demands capacity scale unit families lists rows steps are) is)))));
}

pub bounds_of_routes : (inst tree : Fields) (depot : ℕ) (demands : List ℤ) (capacity scale unit : ℤ)
    (families : List (List (List ℕ))) (lists : List (List ℕ)) (rows : List SubsetRow) (steps : List Step) (verdict : TreeVerdict)
    → AreOfFiles inst tree depot demands capacity scale unit families lists rows steps
    → VerdictBoundsPlans (routing_with (nodes_of inst) (cost inst) depot demands capacity) verdict
    → VerdictBoundsPlans (routing_of inst) verdict
bounds_of_routes inst tree depot demands capacity scale unit families lists rows steps verdict are is =
    subst (λ (p : RoutingProblem). VerdictBoundsPlans p verdict)
    (problem_is inst tree depot demands capacity scale unit families lists rows steps are) is

-- ---- places fit 32 bits

pub leaves_few : (steps : List Step) → length (leaf_changes steps) ≤ length steps
leaves_few [] = omega arith
leaves_few (Branch first second ∷ steps) = let rest = leaves_few steps in omega (arith, rest)
leaves_few (Leaf changes ∷ steps) = let rest = leaves_few steps in omega (arith, rest)

-- no leaf has a number above that of the steps
pub placed_few : (n families : ℕ) (steps : List Step) (leaf : ℕ) → leaf ≤ length (leaf_changes (placed_steps n families steps))
    → leaf ≤ length steps
placed_few n families steps leaf most =
    let few = leaves_few (placed_steps n families steps) in
    let long = length-map steps (step_with_places n families) in
    omega (arith, most, few, long)

pub leaf_few : (by_runs : Bool) (n families rows : ℕ) (steps : List Step) (leaf : ℕ)
    → IsFirstBadLeafOf by_runs n families rows steps leaf → leaf ≤ length steps
leaf_few false n families rows steps leaf bad = let most = bad.applies.0.1 in let few = leaves_few steps in omega (arith, most, few)
leaf_few true n families rows steps leaf bad = placed_few n families steps leaf bad.applies.0.1

-- a branch of a file has a number from 1 to n second, and the differences of a leaf are some of all
by_steps : (n most : ℕ) (steps : List Step) → most < 2 ^ 32 → AllByRecursion (IsStep n) steps → change_count steps ≤ most
    → AllByRecursion (IsPlanStep n) steps
by_steps n most [] low each few = tt
by_steps n most (Branch first second ∷ steps) low each few = (each.0.1, by_steps n most steps low each.1 few)
by_steps n most (Leaf changes ∷ steps) low each few =
    (omega (arith, low, few), by_steps n most steps low each.1 (omega (arith, few)))

pub plan_steps : (f : Fields) (steps : List Step) → AreTreeSteps f steps → All (IsPlanStep (nodes_of f)) steps
plan_steps f steps held =
    let same : held.n ≡ nodes_of f = sym (ap (λ (d : Option ℕ). unwrap_or d 0) held.dimension) in
    All-from_recursion (IsPlanStep (nodes_of f)) steps
    (by_steps (nodes_of f) most_changes steps (omega arith)
    (subst (λ (n : ℕ). AllByRecursion (IsStep n) steps) same (recursion_from_All (IsStep held.n) steps held.each))
    held.few_changes)

-- ---- what rules a reason out

no_bad_set : (inst tree : Fields) (crossed : List Crossings) → AreCapacityCuts (routing_of inst) (families_listed tree) crossed
    → (index : ℕ) → AppliesToQRoutes inst tree (BadFamily index) → ⊥
no_bad_set inst tree crossed cuts index bad =
    bad.applies.1 (cuts.good (index - 1) (omega (arith, bad.applies.0.0, bad.applies.0.1)))

no_bad_branch : (inst tree : Fields) (steps : List Step) → tree.branches ≡ Some steps
    → AreGoodBranches (nodes_of inst) (length (families_listed tree)) steps
    → (index : ℕ) → AppliesToQRoutes inst tree (BadBranch index) → ⊥
no_bad_branch inst tree steps are good index applies =
    let same = one_value tree.branches applies.0 steps applies.1 are in
    let bad = subst (λ steps. IsFirstBadPlanBranch (nodes_of inst) (length (families_listed tree)) steps index) same applies.2 in
    bad.applies.1 (good (index - 1) (0, 0) (omega (arith, bad.applies.0.0, bad.applies.0.1)))

no_bad_memory : (n depot : ℕ) (lists : List (List ℕ)) (rows : List SubsetRow) → IsGoodMemory n depot lists rows → (node : ℕ)
    → IsBadMemory n depot lists rows node → ⊥
no_bad_memory n depot lists rows good node (inl first) = first.bad (good.lists_are first.place first.inside)
no_bad_memory n depot lists rows good node (inr full) = full.2.full (good.fits node full.2.there)

no_bad_row : (n depot : ℕ) (rows : List SubsetRow) → AreGoodRows n depot rows → (row : ℕ) → IsFirstBadRow n depot rows row → ⊥
no_bad_row n depot rows good row bad =
    bad.applies.1 (good (row - 1) (omega (arith, bad.applies.0.0, bad.applies.0.1)))

-- if lists are good and a row isn't, no list is bad, and it doesn't matter what customers keep
row_alone : (n depot : ℕ) (lists : List (List ℕ)) (rows : List SubsetRow) (row : ℕ) → AreGoodLists n depot lists
    → IsFirstBadRow n depot rows row → (node : ℕ) → IsBadMemory n depot lists rows node → ⊥
row_alone n depot lists rows row good bad node (inl first) = first.bad (good first.place first.inside)
row_alone n depot lists rows row good bad node (inr full) = no_bad_row n depot rows full.1 row bad

good_leaf : (by_runs : Bool) (n families rows : ℕ) (steps : List Step) → AreGoodLeavesOf by_runs n families rows steps → (leaf : ℕ)
    → IsFirstBadLeafOf by_runs n families rows steps leaf → ⊥
good_leaf false n families rows steps good leaf bad = bad.applies.1 (good leaf bad.applies.0.0 bad.applies.0.1)
good_leaf true n families rows steps good leaf bad = bad.applies.1 (good leaf bad.applies.0.0 bad.applies.0.1)

no_bad_plan_leaf : (inst tree : Fields) (steps : List Step) → tree.branches ≡ Some steps
    → AreGoodLeavesOf (by_runs_in tree) (nodes_of inst) (length (families_listed tree)) (length (rows_listed tree)) steps
    → (index : ℕ) → AppliesToQRoutes inst tree (BadLeaf index) → ⊥
no_bad_plan_leaf inst tree steps are good index applies =
    let same = one_value tree.branches applies.0 steps applies.1 are in
    good_leaf (by_runs_in tree) (nodes_of inst) (length (families_listed tree)) (length (rows_listed tree)) steps good index
    (subst (λ steps. IsFirstBadLeafOf (by_runs_in tree) (nodes_of inst) (length (families_listed tree)) (length (rows_listed tree)) steps index)
    same applies.2)

no_many_loads : (problem : RoutingProblem) (unit light : ℕ) → AreUnits problem unit light
    → problem.nodes * (capacity_in_parts problem unit light + 1) ≤ most_entries → HasTooManyLoads problem unit → ⊥
no_many_loads problem unit light units few many =
    let same = one_light problem unit many.light light many.units units in
    let more = subst (λ (l : ℕ). most_entries < problem.nodes * (capacity_in_parts problem unit l + 1)) same many.many in
    omega (arith, few, more)

-- the facts before a rank rule out the reasons before it
none_before : (inst tree : Fields) (rank : ℕ) → is_branches_file tree.kind ≡ true → nodes_of tree ≡ nodes_of inst
    → rank ≤ rank_of (TooManyStates 1)
    → (rank_of (BadFamily 1) < rank → (index : ℕ) → AppliesToQRoutes inst tree (BadFamily index) → ⊥)
    → (rank_of (BadMemory 1) < rank → (node : ℕ) → AppliesToQRoutes inst tree (BadMemory node) → ⊥)
    → (rank_of (BadRow 1) < rank → (index : ℕ) → AppliesToQRoutes inst tree (BadRow index) → ⊥)
    → (rank_of (BadBranch 1) < rank → (index : ℕ) → AppliesToQRoutes inst tree (BadBranch index) → ⊥)
    → (rank_of (BadLeaf 1) < rank → (index : ℕ) → AppliesToQRoutes inst tree (BadLeaf index) → ⊥)
    → (rank_of TooManyLoads < rank → AppliesToQRoutes inst tree TooManyLoads → ⊥)
    → NoneBefore (AppliesToQRoutes inst tree) rank
none_before inst tree rank sort size last sets memories rows branches leaves loads NotBranches low applies = false≢true (sym applies ∙ sort)
none_before inst tree rank sort size last sets memories rows branches leaves loads BranchesDimension low applies = applies size
none_before inst tree rank sort size last sets memories rows branches leaves loads (BadFamily index) low applies = sets low index applies
none_before inst tree rank sort size last sets memories rows branches leaves loads (BadMemory node) low applies = memories low node applies
none_before inst tree rank sort size last sets memories rows branches leaves loads (BadRow index) low applies = rows low index applies
none_before inst tree rank sort size last sets memories rows branches leaves loads (BadBranch index) low applies = branches low index applies
none_before inst tree rank sort size last sets memories rows branches leaves loads (BadLeaf index) low applies = leaves low index applies
none_before inst tree rank sort size last sets memories rows branches leaves loads TooManyLoads low applies = loads low applies
none_before inst tree rank sort size last sets memories rows branches leaves loads (TooManyStates index) low applies = omega (arith, low, last)
none_before inst tree rank sort size last sets memories rows branches leaves loads reason low applies = applies

-- of its routes the reasons against the certificate are these
for_q_routes : (P : (Reason → Type 0) → Type 0) (inst tree : Fields) → inst.kind ≡ Some kinds.Cvrp
    → P (AppliesToQRoutes inst tree) → P (AppliesToCertificate Branches inst tree)
for_q_routes P inst tree cvrp first = subst (λ k. P (AppliesToCertificateBy Branches k inst tree)) (sym cvrp) first

-- ---- the verdict

-- the numbers of all leaves are good, if one of them has too many states
run_leaves : (inst tree : Fields) (steps : List Step) (index : ℕ)
    → HasFullLeaf (routing_of inst) (scale_in tree) (unit_in tree) (families_listed tree) (memories_listed tree) (rows_listed tree) steps index
    → AreGoodLeavesOf (by_runs_in tree) (nodes_of inst) (length (families_listed tree)) (length (rows_listed tree)) steps
run_leaves inst tree steps index full =
    subst (λ (b : Bool). AreGoodLeavesOf b (nodes_of inst) (length (families_listed tree)) (length (rows_listed tree)) steps)
    (sym full.by_runs) full.leaves

pub set_first : (inst tree : Fields) (index : ℕ) → inst.kind ≡ Some kinds.Cvrp → is_branches_file tree.kind ≡ true
    → nodes_of tree ≡ nodes_of inst → IsReportedOfRoutes inst tree (found.BadFamily index)
    → FindsBound Branches inst tree (Err (BadFamily index))
set_first inst tree index cvrp sort size is = for_q_routes (λ Applies. IsFirstReason Applies (BadFamily index)) inst tree cvrp (record {
  applies = is.by_steps;
  none_before = none_before inst tree (rank_of (BadFamily 1)) sort size (omega arith)
      (λ low. absurd (omega (arith, low))) (λ low. absurd (omega (arith, low)))
      (λ low. absurd (omega (arith, low))) (λ low. absurd (omega (arith, low)))
      (λ low. absurd (omega (arith, low))) (λ low. absurd (omega (arith, low)));
})

pub memory_first : (inst tree : Fields) (node : ℕ) → inst.kind ≡ Some kinds.Cvrp → is_branches_file tree.kind ≡ true
    → nodes_of tree ≡ nodes_of inst → IsReportedOfRoutes inst tree (found.BadMemory node)
    → FindsBound Branches inst tree (Err (BadMemory node))
memory_first inst tree node cvrp sort size is = for_q_routes (λ Applies. IsFirstReason Applies (BadMemory node)) inst tree cvrp (record {
  applies = is.by_steps.1;
  none_before = none_before inst tree (rank_of (BadMemory 1)) sort size (omega arith)
      (λ low. no_bad_set inst tree is.by_steps.0.0 is.by_steps.0.1)
      (λ low. absurd (omega (arith, low))) (λ low. absurd (omega (arith, low)))
      (λ low. absurd (omega (arith, low))) (λ low. absurd (omega (arith, low)))
      (λ low. absurd (omega (arith, low)));
})

pub row_first : (inst tree : Fields) (index : ℕ) → inst.kind ≡ Some kinds.Cvrp → is_branches_file tree.kind ≡ true
    → nodes_of tree ≡ nodes_of inst → IsReportedOfRoutes inst tree (found.BadRow index)
    → FindsBound Branches inst tree (Err (BadRow index))
row_first inst tree index cvrp sort size is = for_q_routes (λ Applies. IsFirstReason Applies (BadRow index)) inst tree cvrp (record {
  applies = is.by_steps.2;
  none_before = none_before inst tree (rank_of (BadRow 1)) sort size (omega arith)
      (λ low. no_bad_set inst tree is.by_steps.0.0 is.by_steps.0.1)
      (λ low. row_alone (nodes_of inst) (depot_of inst) (memories_listed tree) (rows_listed tree) index is.by_steps.1 is.by_steps.2)
      (λ low. absurd (omega (arith, low))) (λ low. absurd (omega (arith, low)))
      (λ low. absurd (omega (arith, low))) (λ low. absurd (omega (arith, low)));
})

pub branch_first : (inst tree : Fields) (index : ℕ) → inst.kind ≡ Some kinds.Cvrp → is_branches_file tree.kind ≡ true
    → nodes_of tree ≡ nodes_of inst → IsReportedOfRoutes inst tree (found.BadBranch index)
    → FindsBound Branches inst tree (Err (BadBranch index))
branch_first inst tree index cvrp sort size is = for_q_routes (λ Applies. IsFirstReason Applies (BadBranch index)) inst tree cvrp (record {
  applies = (is.steps, is.steps_are, is.by_steps.2);
  none_before = none_before inst tree (rank_of (BadBranch 1)) sort size (omega arith)
      (λ low. no_bad_set inst tree is.by_steps.0.0 is.by_steps.0.1)
      (λ low. no_bad_memory (nodes_of inst) (depot_of inst) (memories_listed tree) (rows_listed tree) is.by_steps.1)
      (λ low. no_bad_row (nodes_of inst) (depot_of inst) (rows_listed tree) is.by_steps.1.rows_are)
      (λ low. absurd (omega (arith, low))) (λ low. absurd (omega (arith, low)))
      (λ low. absurd (omega (arith, low)));
})

pub plan_leaf_first : (inst tree : Fields) (index : ℕ) → inst.kind ≡ Some kinds.Cvrp → is_branches_file tree.kind ≡ true
    → nodes_of tree ≡ nodes_of inst → IsReportedOfRoutes inst tree (found.BadLeaf index)
    → FindsBound Branches inst tree (Err (BadLeaf index))
plan_leaf_first inst tree index cvrp sort size is = for_q_routes (λ Applies. IsFirstReason Applies (BadLeaf index)) inst tree cvrp (record {
  applies = (is.steps, is.steps_are, is.by_steps.2);
  none_before = none_before inst tree (rank_of (BadLeaf 1)) sort size (omega arith)
      (λ low. no_bad_set inst tree is.by_steps.0.0.0 is.by_steps.0.0.1)
      (λ low. no_bad_memory (nodes_of inst) (depot_of inst) (memories_listed tree) (rows_listed tree) is.by_steps.1)
      (λ low. no_bad_row (nodes_of inst) (depot_of inst) (rows_listed tree) is.by_steps.1.rows_are)
      (λ low. no_bad_branch inst tree is.steps is.steps_are is.by_steps.0.1)
      (λ low. absurd (omega (arith, low))) (λ low. absurd (omega (arith, low)));
})

pub loads_first : (inst tree : Fields) → inst.kind ≡ Some kinds.Cvrp → is_branches_file tree.kind ≡ true
    → nodes_of tree ≡ nodes_of inst → IsReportedOfRoutes inst tree (found.TooManyLoads)
    → FindsBound Branches inst tree (Err (TooManyLoads))
loads_first inst tree cvrp sort size is = for_q_routes (λ Applies. IsFirstReason Applies (TooManyLoads)) inst tree cvrp (record {
  applies = is.by_steps.3;
  none_before = none_before inst tree (rank_of (TooManyLoads)) sort size (omega arith)
      (λ low. no_bad_set inst tree is.by_steps.0.0.0 is.by_steps.0.0.1)
      (λ low. no_bad_memory (nodes_of inst) (depot_of inst) (memories_listed tree) (rows_listed tree) is.by_steps.1)
      (λ low. no_bad_row (nodes_of inst) (depot_of inst) (rows_listed tree) is.by_steps.1.rows_are)
      (λ low. no_bad_branch inst tree is.steps is.steps_are is.by_steps.0.1)
      (λ low. no_bad_plan_leaf inst tree is.steps is.steps_are is.by_steps.2) (λ low. absurd (omega (arith, low)));
})

pub states_first : (inst tree : Fields) (index : ℕ) → inst.kind ≡ Some kinds.Cvrp → is_branches_file tree.kind ≡ true
    → nodes_of tree ≡ nodes_of inst → IsReportedOfRoutes inst tree (found.TooManyStates index)
    → FindsBound Branches inst tree (Err (TooManyStates index))
states_first inst tree index cvrp sort size is = for_q_routes (λ Applies. IsFirstReason Applies (TooManyStates index)) inst tree cvrp (record {
  applies = (is.steps, is.steps_are, is.by_steps.3);
  none_before = none_before inst tree (rank_of (TooManyStates 1)) sort size (omega arith)
      (λ low. no_bad_set inst tree is.by_steps.0.0.0 is.by_steps.0.0.1)
      (λ low. no_bad_memory (nodes_of inst) (depot_of inst) (memories_listed tree) (rows_listed tree) is.by_steps.1)
      (λ low. no_bad_row (nodes_of inst) (depot_of inst) (rows_listed tree) is.by_steps.1.rows_are)
      (λ low. no_bad_branch inst tree is.steps is.steps_are is.by_steps.0.1)
      (λ low. no_bad_plan_leaf inst tree is.steps is.steps_are (run_leaves inst tree is.steps index is.by_steps.3)) (λ low. is.by_steps.2);
})

-- what a bound found rules out
module _ (problem : RoutingProblem) (scale : ℤ) (unit : ℕ) (families : List (List (List ℕ))) (lists : List (List ℕ))
    (rows : List SubsetRow) (steps : List Step) (found : Option ℤ) where
  bound_cuts : (by_runs : Bool) → IsPlanBoundFound by_runs problem scale unit families lists rows steps found
      → (crossed : List Crossings) × AreCapacityCuts problem families crossed
  bound_cuts false is = (is.crossed, is.cuts)
  bound_cuts true is = (is.crossed, is.cuts)

  bound_branches : (by_runs : Bool) → IsPlanBoundFound by_runs problem scale unit families lists rows steps found
      → AreGoodBranches problem.nodes (length families) steps
  bound_branches false is = is.branches
  bound_branches true is = is.branches

  bound_leaves : (by_runs : Bool) → IsPlanBoundFound by_runs problem scale unit families lists rows steps found
      → AreGoodLeavesOf by_runs problem.nodes (length families) (length rows) steps
  bound_leaves false is = is.leaves
  bound_leaves true is = is.leaves

  bound_loads : (by_runs : Bool) → IsPlanBoundFound by_runs problem scale unit families lists rows steps found
      → HasTooManyLoads problem unit → ⊥
  bound_loads false is = no_many_loads problem unit is.light is.units is.few
  bound_loads true is = no_many_loads problem unit is.light is.units is.few

  bound_states : (by_runs : Bool) → is_by_runs lists rows ≡ by_runs
      → IsPlanBoundFound by_runs problem scale unit families lists rows steps found
      → (leaf : ℕ) → HasFullLeaf problem scale unit families lists rows steps leaf → ⊥
  bound_states false neither is leaf full = false≢true (sym neither ∙ full.by_runs)
  bound_states true either is leaf full =
      let crossed : full.crossed ≡ is.crossed = all_crossed problem families full.crossed is.crossed full.cuts.many is.cuts.many
      (recursion_from_All (IsCutFamily problem) (families_with full.crossed families) full.cuts.are)
      (recursion_from_All (IsCutFamily problem) (families_with is.crossed families) is.cuts.are) in
      let light : full.light ≡ is.light = one_light problem unit full.light is.light full.units is.units in
      let first = subst (λ (cs : List Crossings). IsFirstFullLeaf (tree_with problem scale unit families lists rows is.light cs) steps leaf) crossed
      (subst (λ (l : ℕ). IsFirstFullLeaf (tree_with problem scale unit families lists rows l full.crossed) steps leaf) light full.first) in
      first.applies.1 (is.states leaf first.applies.0.0 first.applies.0.1)

none_of_q_routes : (inst tree : Fields) (bound : Option ℤ) → is_branches_file tree.kind ≡ true → nodes_of tree ≡ nodes_of inst
    → IsReportedOfRoutes inst tree (found.Bound bound) → (reason : Reason) → AppliesToQRoutes inst tree reason → ⊥
none_of_q_routes inst tree bound sort size is NotBranches applies = false≢true (sym applies ∙ sort)
none_of_q_routes inst tree bound sort size is BranchesDimension applies = applies size
none_of_q_routes inst tree bound sort size is (BadFamily index) applies =
    let cuts = bound_cuts (routing_of inst) (scale_in tree) (unit_in tree) (families_listed tree) (memories_listed tree) (rows_listed tree) is.steps bound (by_runs_in tree) is.by_steps.1 in no_bad_set inst tree cuts.0 cuts.1 index applies
none_of_q_routes inst tree bound sort size is (BadMemory node) applies =
    no_bad_memory (nodes_of inst) (depot_of inst) (memories_listed tree) (rows_listed tree) is.by_steps.0 node applies
none_of_q_routes inst tree bound sort size is (BadRow index) applies =
    no_bad_row (nodes_of inst) (depot_of inst) (rows_listed tree) is.by_steps.0.rows_are index applies
none_of_q_routes inst tree bound sort size is (BadBranch index) applies =
    no_bad_branch inst tree is.steps is.steps_are (bound_branches (routing_of inst) (scale_in tree) (unit_in tree) (families_listed tree) (memories_listed tree) (rows_listed tree) is.steps bound (by_runs_in tree) is.by_steps.1) index applies
none_of_q_routes inst tree bound sort size is (BadLeaf index) applies =
    no_bad_plan_leaf inst tree is.steps is.steps_are (bound_leaves (routing_of inst) (scale_in tree) (unit_in tree) (families_listed tree) (memories_listed tree) (rows_listed tree) is.steps bound (by_runs_in tree) is.by_steps.1) index applies
none_of_q_routes inst tree bound sort size is TooManyLoads applies =
    bound_loads (routing_of inst) (scale_in tree) (unit_in tree) (families_listed tree) (memories_listed tree) (rows_listed tree) is.steps bound (by_runs_in tree) is.by_steps.1 applies
none_of_q_routes inst tree bound sort size is (TooManyStates index) applies =
    let same = one_value tree.branches applies.0 is.steps applies.1 is.steps_are in
    bound_states (routing_of inst) (scale_in tree) (unit_in tree) (families_listed tree) (memories_listed tree) (rows_listed tree) is.steps
    bound (by_runs_in tree) refl is.by_steps.1 index
    (subst (λ steps. HasFullLeaf (routing_of inst) (scale_in tree) (unit_in tree) (families_listed tree) (memories_listed tree)
    (rows_listed tree) steps index) same applies.2)
none_of_q_routes inst tree bound sort size is reason applies = applies

has_bound : (inst tree : Fields) (bound : Option ℤ) → IsReportedOfRoutes inst tree (found.Bound bound)
    → HasBoundByQRoutes inst tree bound
has_bound inst tree bound is = record { steps = is.steps; steps_are = is.steps_are; bound = is.by_steps.1 }

pub plans_bounded : (inst tree : Fields) (bound : ℤ) → inst.kind ≡ Some kinds.Cvrp → is_branches_file tree.kind ≡ true
    → nodes_of tree ≡ nodes_of inst → IsReportedOfRoutes inst tree (found.Bound (Some bound))
    → VerdictBoundsPlans (routing_of inst) (found.Bound (Some bound)) → IsBoundSized bound
    → FindsBound Branches inst tree (Ok (Some bound))
plans_bounded inst tree bound cvrp sort size is below sized = (
  for_q_routes (λ Applies. (reason : Reason) → Applies reason → ⊥) inst tree cvrp (none_of_q_routes inst tree (Some bound) sort size is),
  (
    subst (λ k. IsBoundBy Branches k inst tree bound) (sym cvrp) (has_bound inst tree (Some bound) is),
    subst (λ k. BoundsSolutionsBy k inst bound) (sym cvrp) below,
    fitting bound sized,
  ),
)

pub plans_missing : (inst tree : Fields) → inst.kind ≡ Some kinds.Cvrp → is_branches_file tree.kind ≡ true
    → nodes_of tree ≡ nodes_of inst → IsReportedOfRoutes inst tree (found.Bound None)
    → VerdictBoundsPlans (routing_of inst) (found.Bound None) → FindsBound Branches inst tree (Ok None)
plans_missing inst tree cvrp sort size is none = (
  for_q_routes (λ Applies. (reason : Reason) → Applies reason → ⊥) inst tree cvrp (none_of_q_routes inst tree None sort size is),
  subst (λ k. HasNoBoundBy Branches k inst tree) (sym cvrp) (has_bound inst tree None is),
  subst (λ k. HasNoSolutionBy k inst) (sym cvrp) none,
)

-- ---- what the certificate gives, by the verdict on its tree

pub plans_find : (inst tree : Fields) (verdict : TreeVerdict) → inst.kind ≡ Some kinds.Cvrp → is_branches_file tree.kind ≡ true
    → nodes_of tree ≡ nodes_of inst → IsReportedOfRoutes inst tree verdict → VerdictBoundsPlans (routing_of inst) verdict
    → IsSizedVerdict verdict → FindsBound Branches inst tree (found_by_tree verdict)
plans_find inst tree (found.Bound (Some bound)) cvrp sort size is below sized = plans_bounded inst tree bound cvrp sort size is below sized
plans_find inst tree (found.Bound None) cvrp sort size is below sized = plans_missing inst tree cvrp sort size is below
plans_find inst tree (found.BadFamily index) cvrp sort size is below sized = set_first inst tree index cvrp sort size is
plans_find inst tree (found.BadMemory node) cvrp sort size is below sized = memory_first inst tree node cvrp sort size is
plans_find inst tree (found.BadRow index) cvrp sort size is below sized = row_first inst tree index cvrp sort size is
plans_find inst tree (found.BadBranch index) cvrp sort size is below sized = branch_first inst tree index cvrp sort size is
plans_find inst tree (found.BranchTwice index) cvrp sort size is below sized = absurd is.by_steps
plans_find inst tree (found.BadLeaf index) cvrp sort size is below sized = plan_leaf_first inst tree index cvrp sort size is
plans_find inst tree found.TooManyLoads cvrp sort size is below sized = loads_first inst tree cvrp sort size is
plans_find inst tree (found.TooManyStates index) cvrp sort size is below sized = states_first inst tree index cvrp sort size is

-- its number fits 32 bits
pub plans_numbered : (problem : RoutingProblem) (scale : ℤ) (unit : ℕ) (families : List (List (List ℕ))) (lists : List (List ℕ))
    (rows : List SubsetRow) (steps : List Step) (verdict : TreeVerdict) → length families < 2 ^ 32 → length rows < 2 ^ 32
    → length steps < 2 ^ 32 → IsPlanVerdict problem scale unit families lists rows steps verdict → IsNumbered verdict
plans_numbered problem scale unit families lists rows steps (found.Bound bound) sets_few rows_few few is = tt
plans_numbered problem scale unit families lists rows steps (found.BadFamily index) sets_few rows_few few is = omega (arith, is.applies.0.1, sets_few)
plans_numbered problem scale unit families lists rows steps (found.BadMemory node) sets_few rows_few few is = tt
plans_numbered problem scale unit families lists rows steps (found.BadRow index) sets_few rows_few few is = omega (arith, is.2.applies.0.1, rows_few)
plans_numbered problem scale unit families lists rows steps (found.BadBranch index) sets_few rows_few few is =
    omega (arith, is.2.applies.0.1, pairs_few steps, few)
plans_numbered problem scale unit families lists rows steps (found.BranchTwice index) sets_few rows_few few is = absurd is
plans_numbered problem scale unit families lists rows steps (found.BadLeaf index) sets_few rows_few few is =
    omega (arith, leaf_few (is_by_runs lists rows) problem.nodes (length families) (length rows) steps index is.2, few)
plans_numbered problem scale unit families lists rows steps found.TooManyLoads sets_few rows_few few is = tt
plans_numbered problem scale unit families lists rows steps (found.TooManyStates index) sets_few rows_few few is =
    omega (arith, placed_few problem.nodes (length families) steps index is.3.first.applies.0.1, few)

-- ---- memories and rows as plans have them

-- as many lists as nodes at most
pub lists_few : (n : ℕ) (lists : List (Vec ℕ)) → AreSomeLists n (map (λ (list : Vec ℕ). list.items) lists) → length lists ≤ 1000000
lists_few n lists held = let all = count lists (recursion_from_All (IsSetOf n) (map (λ (list : Vec ℕ). list.items) lists) held.each) in
    let few = held.few_nodes in omega (arith, all, few)
  where
    count : (xs : List (Vec ℕ)) → AllByRecursion (IsSetOf n) (map (λ (list : Vec ℕ). list.items) xs)
        → length xs ≤ sum_by length (map (λ (list : Vec ℕ). list.items) xs)
    count [] all = omega arith
    count (x ∷ xs) all = let rest = count xs all.1 in let own = all.0.0 in
        let sum = sum_by-cons length x.items (map (λ (list : Vec ℕ). list.items) xs) in omega (arith, rest, own, sum)

-- a list as plans have it, and a row
abbrev IsListOf : ℕ → Vec ℕ → Type 0
IsListOf n list = (1 ≤ length list.items) × All (IsNode n) list.items

abbrev HasNodes : ℕ → RowSets → Type 0
HasNodes n row = All (IsNode n) row.set.items × All (IsNode n) row.further.items

pub lists_hold : (n m : ℕ) (lists : List (Vec ℕ)) → n ≡ m → AreSomeLists n (map (λ (list : Vec ℕ). list.items) lists) → AreListsOf m lists
lists_hold n m lists same held = subst (λ (k : ℕ). AreListsOf k lists) same (All-from_recursion (IsListOf n) lists
    (each lists (recursion_from_All (IsSetOf n) (map (λ (list : Vec ℕ). list.items) lists) held.each)))
  where
    each : (xs : List (Vec ℕ)) → AllByRecursion (IsSetOf n) (map (λ (list : Vec ℕ). list.items) xs) → AllByRecursion (IsListOf n) xs
    each [] all = tt
    each (x ∷ xs) all = (all.0, each xs all.1)

pub rows_hold : (n m : ℕ) (rows : List RowSets) → n ≡ m → AreSomeRows n (subset_rows_of rows) → AreRowsOf m rows
rows_hold n m rows same held = subst (λ (k : ℕ). AreRowsOf k rows) same (All-from_recursion (HasNodes n) rows
    (each rows (recursion_from_All (IsRowOf n) (subset_rows_of rows) held.each)))
  where
    each : (xs : List RowSets) → AllByRecursion (IsRowOf n) (subset_rows_of xs) → AllByRecursion (HasNodes n) xs
    each [] all = tt
    each (x ∷ xs) all = ((all.0.0.1, all.0.1), each xs all.1)
