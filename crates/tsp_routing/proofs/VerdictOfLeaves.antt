-- For src/plan_verdict.rt and src/run_verdict.rt: the verdict on a certificate for routes, by that on its leaves, and
-- the plans that it bounds.
use Rattle.tsp_routing.proofs.Prelude.{◌≡◌, ◌∙◌, ℕ, ◌+◌, ◌≤◌, ◌<◌, ◌*◌, Bool, true, false, List, [], ◌∷◌, length, refl, sym, ap, subst, arith, ℤ, Option, Some, None, recursion_from_All, are_whole, IsScale, RoutingProblem, families_with, listed_steps, no_numbers_of, whole_trees, Crossings, CaseStep, LeafNumbers, leaves_of, Decision}
use Rattle.std.proofs.Math.Logic.{∥∥₁_elim}
use Rattle.std.proofs.Props.{props}
use Rattle.tsp_format.specs.Steps as listed
use Rattle.tsp_format.specs.Steps.{SubsetRow}
use Rattle.tsp_cases.specs.declared.judged.TreeVerdict.{TreeVerdict}
use Rattle.tsp_cases.specs.declared.judged.TreeVerdict.TheVariants as verdict
use Rattle.tsp_routing.specs.PlanBounds.{IsPlanTreeBound, PlanTreesBoundPlans, BoundsPlansIfAny}
use Rattle.tsp_routing.specs.PlanLinks.{IsCutFamily, AreUnits, IsRoutable, capacity_in_parts}
use Rattle.tsp_routing.specs.PlanVerdicts.{AreCapacityCuts, AreGoodBranches, most_entries, HasTooManyLoads}
use Rattle.tsp_routing.specs.RunTrees.{near_of, IsGoodMemory, AreGoodRunLeaves, placed_steps, family_numbers, rows_of_leaf, RunTree, IsFoundByRuns, IsRunTreeBound, RunTreesBoundPlans}
use Rattle.tsp_routing.specs.RunVerdicts.{is_by_runs, AreGoodLeavesOf, IsFirstBadLeafOf, tree_with, IsPlanBoundFound, IsPlanVerdict, VerdictBoundsPlans, PlanBoundsFoundAreUnique}
use Rattle.tsp_routing.specs.states.Judged.{IsLeafVerdict, entries_in}
use Rattle.tsp_routing.specs.states.RunJudged.{AreRunsJudged, IsRunLeafVerdict}
use Rattle.tsp_cases.proofs.Passes.{by_leaves, on_bound}
use Rattle.tsp_routing.proofs.RunJudging.{whole_placed}
use Rattle.tsp_cases.specs.JudgedLeaves.{AreJudgedBy}
use Rattle.tsp_cases.specs.ListedCases.{AreGoodLeavesBy}
use Rattle.tsp_cases.proofs.Solutions.{one_found}
use Rattle.tsp_routing.proofs.QRoutesBoundPlans.{plan_tree_bounds_are_unique, all_crossed, one_light}
use Rattle.tsp_routing.proofs.RunsBoundPlans.{run_bounds_are_unique}

-- ---- the verdict on the leaves, after both passes

-- if no leaf is bad, all are good
pub all_good : (Found : List Decision × LeafNumbers → Option ℤ → Type 0) (Good : LeafNumbers → Type 0) (n count : ℕ)
    (given : List Decision) (steps : List listed.Step) (judged : TreeVerdict)
    → AreJudgedBy Found Good n count given steps judged → ((leaf : ℕ) → judged ≡ verdict.BadLeaf leaf → ⊥)
    → AreGoodLeavesBy Good n count steps
all_good Found Good n count given steps judged is =
    by_leaves _ _ (λ (other : TreeVerdict). ((leaf : ℕ) → other ≡ verdict.BadLeaf leaf → ⊥) → AreGoodLeavesBy Good n count steps)
    judged is (λ found is none. is.2) (λ leaf is none. absurd (none leaf refl))

pub verdict_of_judged_runs : (tree : RunTree) (steps : List listed.Step) (judged : TreeVerdict)
    → AreGoodRunLeaves tree.problem.nodes tree.family_count tree.row_count steps
    → entries_in tree.problem tree.unit tree.light ≤ most_entries
    → AreRunsJudged tree (placed_steps tree.problem.nodes tree.family_count steps) judged → IsRunLeafVerdict tree steps judged
verdict_of_judged_runs tree steps (verdict.Bound found) good few is = (good, few, is.0, is.1)
verdict_of_judged_runs tree steps (verdict.TooManyStates leaf) good few is = (good, few, is)
verdict_of_judged_runs tree steps other good few is = absurd is

module _ (problem : RoutingProblem) (scale : ℤ) (unit : ℕ) (families : List (List (List ℕ))) (lists : List (List ℕ))
    (rows : List SubsetRow) (steps : List listed.Step) where
  -- ---- by q-routes

  pub verdict_of_leaves : (light : ℕ) (crossed : List Crossings) (found : TreeVerdict) → is_by_runs lists rows ≡ false
      → AreUnits problem unit light → AreCapacityCuts problem families crossed
      → IsGoodMemory problem.nodes problem.depot lists rows → AreGoodBranches problem.nodes (length families) steps
      → IsLeafVerdict problem scale unit light (length families) (families_with crossed families) steps found
      → IsPlanVerdict problem scale unit families lists rows steps found
  verdict_of_leaves light crossed (verdict.BadLeaf leaf) neither units cuts memory branches is = (
    ((crossed, cuts), branches),
    memory,
    subst (λ (b : Bool). IsFirstBadLeafOf b problem.nodes (length families) (length rows) steps leaf) (sym neither) is,
  )
  verdict_of_leaves light crossed verdict.TooManyLoads neither units cuts memory branches is = (
    ((crossed, cuts), branches),
    memory,
    subst (λ (b : Bool). AreGoodLeavesOf b problem.nodes (length families) (length rows) steps) (sym neither) is.0,
    record { light = light; units = units; many = is.1 },
  )
  verdict_of_leaves light crossed (verdict.Bound found) neither units cuts memory branches is = (
    memory,
    subst (λ (b : Bool). IsPlanBoundFound b problem scale unit families lists rows steps found) (sym neither) (record {
      crossed = crossed;
      cuts = cuts;
      branches = branches;
      leaves = is.0;
      light = light;
      units = units;
      few = is.1;
      bound = is.2;
    }),
  )
  verdict_of_leaves light crossed other neither units cuts memory branches is = absurd is

  -- ---- by runs

  few_loads : (light : ℕ) → AreUnits problem unit light → problem.nodes * (capacity_in_parts problem unit light + 1) ≤ most_entries
      → HasTooManyLoads problem unit → ⊥
  few_loads light units few loads =
      let many = subst (λ (l : ℕ). most_entries < problem.nodes * (capacity_in_parts problem unit l + 1))
      (one_light problem unit loads.light light loads.units units) loads.many in
      omega (arith, few, many)

  pub verdict_of_runs : (light : ℕ) (crossed : List Crossings) (found : TreeVerdict) → is_by_runs lists rows ≡ true
      → AreUnits problem unit light → AreCapacityCuts problem families crossed
      → IsGoodMemory problem.nodes problem.depot lists rows → AreGoodBranches problem.nodes (length families) steps
      → IsRunLeafVerdict (tree_with problem scale unit families lists rows light crossed) steps found
      → IsPlanVerdict problem scale unit families lists rows steps found
  verdict_of_runs light crossed (verdict.BadLeaf leaf) either units cuts memory branches is = (
    ((crossed, cuts), branches),
    memory,
    subst (λ (b : Bool). IsFirstBadLeafOf b problem.nodes (length families) (length rows) steps leaf) (sym either) is,
  )
  verdict_of_runs light crossed verdict.TooManyLoads either units cuts memory branches is = (
    ((crossed, cuts), branches),
    memory,
    subst (λ (b : Bool). AreGoodLeavesOf b problem.nodes (length families) (length rows) steps) (sym either) is.0,
    record { light = light; units = units; many = is.1 },
  )
  verdict_of_runs light crossed (verdict.TooManyStates leaf) either units cuts memory branches is = (
    ((crossed, cuts), branches),
    memory,
    few_loads light units is.1,
    record { by_runs = either; crossed = crossed; cuts = cuts; light = light; units = units; leaves = is.0; first = is.2 },
  )
  verdict_of_runs light crossed (verdict.Bound found) either units cuts memory branches is = (
    memory,
    subst (λ (b : Bool). IsPlanBoundFound b problem scale unit families lists rows steps found) (sym either) (record {
      crossed = crossed;
      cuts = cuts;
      branches = branches;
      memory = memory;
      leaves = is.0;
      light = light;
      units = units;
      few = is.1;
      states = is.2;
      bound = is.3;
    }),
  )
  verdict_of_runs light crossed other either units cuts memory branches is = absurd is

  -- ---- the plans that it bounds

  module _ (by_walks : PlanTreesBoundPlans) (of_runs : RunTreesBoundPlans) (routing : IsRoutable problem) (scale_in : IsScale scale)
      (whole : are_whole 1 steps ≡ true) where
    bounded : (by_runs : Bool) (found : Option ℤ) → IsPlanBoundFound by_runs problem scale unit families lists rows steps found
        → BoundsPlansIfAny problem found
    bounded false found is =
        by_walks problem scale unit is.light (families_with is.crossed families)
        (listed_steps problem.nodes (length families) steps) found routing scale_in is.units is.cuts.are
        (sym (whole_trees problem.nodes (no_numbers_of problem.nodes (length families)) 1 steps) ∙ whole) is.bound
    bounded true found is =
        let placed = placed_steps problem.nodes (length families) steps in
        of_runs (tree_with problem scale unit families lists rows is.light is.crossed)
        (listed_steps problem.nodes (length families + length rows) placed) found routing scale_in is.units is.cuts.are
        (sym (whole_trees problem.nodes (no_numbers_of problem.nodes (length families + length rows)) 1 placed)
        ∙ (whole_placed problem.nodes (length families) 1 steps ∙ whole)) is.bound

    pub verdict_bounds : (found : TreeVerdict) → IsPlanVerdict problem scale unit families lists rows steps found
        → VerdictBoundsPlans problem found
    verdict_bounds found is = on_bound (BoundsPlansIfAny problem) found (λ bound same.
        bounded (is_by_runs lists rows) bound (subst (IsPlanVerdict problem scale unit families lists rows steps) same is).1)

-- ---- a certificate has one bound, or none

one_run_tree_bound : (tree : RunTree) (steps : List CaseStep) (a b : Option ℤ) → IsRunTreeBound tree steps a → IsRunTreeBound tree steps b
    → a ≡ b
one_run_tree_bound tree steps a b p q =
    one_found (IsFoundByRuns tree) (λ leaf x y s t. one leaf x y s t) (leaves_of ([] ∷ []) steps) a b p q
  where
    one : (leaf : List Decision × LeafNumbers) (x y : Option ℤ) → IsFoundByRuns tree leaf x → IsFoundByRuns tree leaf y → x ≡ y
    one leaf (Some x) (Some y) s t =
        let same : x ≡ y = ∥∥₁_elim s.1 (hlevel props) (λ first. ∥∥₁_elim t.1 (hlevel props) (λ second.
        run_bounds_are_unique tree.problem tree.scale tree.unit tree.light tree.families leaf.0
        (family_numbers tree.family_count leaf.1) (near_of tree.lists) (rows_of_leaf tree.family_count tree.rows leaf.1) x y first second)) in
        ap (λ (z : ℤ). Some z) same
    one leaf (Some x) None s t = absurd t
    one leaf None y s t = absurd s

pub one_plan_bound_found : PlanBoundsFoundAreUnique
one_plan_bound_found false problem scale unit families lists rows steps a b p q =
    let crossed : p.crossed ≡ q.crossed = all_crossed problem families p.crossed q.crossed p.cuts.many q.cuts.many
    (recursion_from_All (IsCutFamily problem) (families_with p.crossed families) p.cuts.are)
    (recursion_from_All (IsCutFamily problem) (families_with q.crossed families) q.cuts.are) in
    let light : p.light ≡ q.light = one_light problem unit p.light q.light p.units q.units in
    let listed = listed_steps problem.nodes (length families) steps in
    plan_tree_bounds_are_unique problem scale unit q.light (families_with q.crossed families) listed a b
    (subst (λ (l : ℕ). IsPlanTreeBound problem scale unit l (families_with q.crossed families) listed a) light
    (subst (λ (cs : List Crossings). IsPlanTreeBound problem scale unit p.light (families_with cs families) listed a) crossed p.bound))
    q.bound
one_plan_bound_found true problem scale unit families lists rows steps a b p q =
    let crossed : p.crossed ≡ q.crossed = all_crossed problem families p.crossed q.crossed p.cuts.many q.cuts.many
    (recursion_from_All (IsCutFamily problem) (families_with p.crossed families) p.cuts.are)
    (recursion_from_All (IsCutFamily problem) (families_with q.crossed families) q.cuts.are) in
    let light : p.light ≡ q.light = one_light problem unit p.light q.light p.units q.units in
    let listed = listed_steps problem.nodes (length families + length rows) (placed_steps problem.nodes (length families) steps) in
    one_run_tree_bound (tree_with problem scale unit families lists rows q.light q.crossed) listed a b
    (subst (λ (l : ℕ). IsRunTreeBound (tree_with problem scale unit families lists rows l q.crossed) listed a) light
    (subst (λ (cs : List Crossings). IsRunTreeBound (tree_with problem scale unit families lists rows p.light cs) listed a) crossed p.bound))
    q.bound
