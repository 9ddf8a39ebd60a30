-- The goals of `judge_tour_tree` in src/certificate.rt, which bounds by a tree of cases, or returns the first reason:
-- the facts of the cases that it makes, that places fit 32 bits, and what it ensures.
use Rattle.tsp_verdict.proofs.Prelude.{◌≡◌, ◌∙◌, ℕ, List, map, ap, sym, subst, arith, rules, FitsSigned, to_z, of_z, w64, Option, Some, unwrap_or, All, Vec, to_z-of_z, length-map, most_fixed, families_of, IsPairOf, IsScale, IsListedStep, nodes_of, memories_listed, Reason, Branches}
use Rattle.tsp_format.specs.states.TreeSteps.{step_of, steps_of, subset_rows_of}
use Rattle.tsp_format.specs.Steps.{SubsetRow}
use Rattle.tsp_cases.specs.Crossings.{AreFamiliesOf, lists_of}
use Rattle.tsp_verdict.proofs.RouteFiles.{steps_hold, steps_few}
use Rattle.tsp_verdict.proofs.GivenPairs.{given_once, given_are, given_few}
use Rattle.tsp_verdict.proofs.TreeReasons.{families_hold, families_few, directed_is, symmetric_view, are_of, reported, lists_neither, lists_some, memory_first, tree_finds, tree_numbered}
use Rattle.tsp_verdict.specs.Certified.{AppliesToCertificate, FindsBound}
use Rattle.tsp_verdict.specs.SolutionReasons.{IsFirstReason}
use Rattle.tsp_verdict.specs.states.MemoryReasons.{IsMemoryReason, IsBadFamilyIfAny}
use Rattle.tsp_verdict.proofs.certificate.judge_tour_tree.Goals as goal

-- plan: by the verdict on the tree: each of its reasons is the first of the file's, and its bound is the certificate's
pub invariant_of-cases : goal.invariant_of-cases
invariant_of-cases g c =
    let tree = c.args.tree.now in
    let held = c.requires.held in
    let n : ℕ = g.C.Costs.nodes c.args.costs.now in
    let own : nodes_of c.args.instance.now ≡ n = ap (λ (d : Option ℕ). unwrap_or d 0) c.requires.keeps.count in
    let same : nodes_of c.args.branches.now ≡ n = c.requires.count ∙ own in
    let directed = c.is_directed-directed.result in
    let given_is = c.deref.ensures.value ∙ c.in_ok-given.ensures in
    let scaled : FitsSigned w64 tree.scale = search rules in
    record {
      some = omega (arith, c.requires.some, own);
      even = symmetric_view c.args.instance.now directed (g.C.Costs.at c.args.costs.now) c.requires.kind
          (directed_is directed c.args.instance.now c.kind.result c.is_directed-directed.ensures c.kind.ensures.value)
          c.requires.even c.requires.keeps.every;
      scaled = subst IsScale (sym (to_z-of_z w64 tree.scale scaled)) held.scaled;
      few_families = let few = held.each_family.few in
          let long = length-map tree.families.now (λ (sets : Vec (Vec ℕ)). lists_of sets.items) in omega (arith, few, long);
      few_sets = families_few (nodes_of c.args.branches.now) tree.families.now held.each_family;
      few_given = let few = given_few directed most_fixed c.deref.result.now c.fixed.result.now given_is c.fixed.ensures.few in
          omega (arith, few);
      few_steps = steps_few c.args.branches.now tree.steps.now held.each_step;
      sets_are = subst (λ (m : ℕ). AreFamiliesOf m tree.families.now) same
          (families_hold (nodes_of c.args.branches.now) tree.families.now held.each_family);
      given_are = given_are directed n c.deref.result.now c.fixed.result.now given_is
          (subst (λ (m : ℕ). All (IsPairOf m) c.fixed.result.now) own c.fixed.ensures.range);
      given_once = given_once directed c.deref.result.now c.fixed.result.now given_is;
      steps_are = ∣ subst (λ (m : ℕ). All (IsListedStep m) (steps_of tree.steps.now)) same
          (steps_hold c.args.branches.now (steps_of tree.steps.now) held.each_step) ∣₁;
      whole = held.each_step.whole;
    }

pub memory_reason-requires : goal.memory_reason-requires
memory_reason-requires g c =
    lists_some (nodes_of c.args.branches.now) c.args.tree.now.memories.now c.requires.memory.each_list

pub returns-in-Some : goal.returns-in-Some
returns-in-Some g c =
    let instance = c.args.instance.now in
    let tree = c.args.branches.now in
    let n : ℕ = g.C.Costs.nodes c.args.costs.now in
    let own : n ≡ nodes_of instance = sym (ap (λ (d : Option ℕ). unwrap_or d 0) c.requires.keeps.count) in
    let families : List (List (List ℕ)) = families_of c.args.tree.now.families.now in
    let rows : List SubsetRow = subset_rows_of c.args.tree.now.subset_rows.now in
    let bad = subst (λ (fs : List (List (List ℕ))). IsBadFamilyIfAny (nodes_of instance) fs c.in_ok-family.family) c.requires.held.families_kept
    (subst (λ (k : ℕ). IsBadFamilyIfAny k families c.in_ok-family.family) own c.in_ok-family.ensures) in
    let against = subst (λ (rs : List SubsetRow). IsMemoryReason (memories_listed tree) rs (Some c.in-Some.reason)) c.requires.memory.rows_kept
    (subst (λ (ls : List (List ℕ)). IsMemoryReason ls rows (Some c.in-Some.reason)) c.requires.memory.lists_kept c.in-Some.ensures) in
    subst (λ (r : Reason). IsFirstReason (AppliesToCertificate Branches instance tree) r) (sym c.family_or.ensures)
    (memory_first instance tree c.in_ok-family.family c.in-Some.reason c.requires.kind c.requires.sort c.requires.count bad against)

pub found_by_tree-requires : goal.found_by_tree-requires
found_by_tree-requires g c =
    let tree = c.args.tree.now in
    let held = c.requires.held in
    let few_families = held.each_family.few in
    tree_numbered c.is_directed-directed.result _ _ _ (families_of tree.families.now) c.deref.result.now (steps_of tree.steps.now) c.in_ok-verdict.verdict
    (omega (arith, few_families))
    (omega (arith, length-map tree.steps.now step_of, steps_few c.args.branches.now tree.steps.now held.each_step))
    c.in_ok-verdict.ensures.verdict

pub returns : goal.returns
returns g c =
    let instance = c.args.instance.now in
    let tree = c.args.branches.now in
    let n : ℕ = g.C.Costs.nodes c.args.costs.now in
    let costs = g.C.Costs.at c.args.costs.now in
    let kept_families = c.args.tree.now.families.now in
    let given = c.deref.result.now in
    let steps = steps_of c.args.tree.now.steps.now in
    let lists : List (List ℕ) = map (λ (list : Vec ℕ). list.items) c.args.tree.now.memories.now in
    let rows : List SubsetRow = subset_rows_of c.args.tree.now.subset_rows.now in
    let scaled : FitsSigned w64 c.args.tree.now.scale = search rules in
    let are = are_of instance tree c.is_directed-directed.result n (to_z w64 (of_z w64 c.args.tree.now.scale)) kept_families
    c.fixed.result.now given steps
    (directed_is c.is_directed-directed.result instance c.kind.result c.is_directed-directed.ensures c.kind.ensures.value)
    c.requires.keeps.count
    (to_z-of_z w64 c.args.tree.now.scale scaled ∙ c.requires.held.scale_is) c.requires.held.families_kept c.fixed.ensures.value
    (c.deref.ensures.value ∙ c.in_ok-given.ensures) c.requires.held.steps_are
    (lists_neither c.args.branches.now lists rows c.requires.memory c.in_default.ensures) in
    subst (FindsBound Branches instance tree) (sym c.found_by_tree.ensures)
    (tree_finds c.numbers_are_unique.ensures c.case_trees_bound_cycles.ensures.cycles instance tree costs c.in_ok-verdict.verdict
    c.requires.kind c.requires.sort c.requires.count c.requires.some c.requires.even
    (subst IsScale c.requires.held.scale_is c.requires.held.scaled) c.requires.keeps.every c.in_ok-verdict.ensures.size
    (reported instance tree c.is_directed-directed.result n costs _ (families_of kept_families) given steps c.in_ok-verdict.verdict are
    c.in_ok-verdict.ensures.verdict))
