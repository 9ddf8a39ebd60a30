-- The goals of `tree_verdict` in src/plan_verdict.rt, which judges branches and leaves: the facts of the context that
-- it makes, what its calls require and what it ensures.
use Rattle.tsp_routing.proofs.Prelude.{◌≡◌, ◌∙◌, ◌+◌, ℕ, ℤ, List, length, true, false, ap, ap₂, sym, subst, subst₂, arith, rules, to_z, of_z, FitsSigned, nat_abs, map, Vec, w64, All, to_z-of_z, length-map, IsNode, lists_of, families_in, Crossings, BeginsWithin, branch_pairs, IsFirstBadBranch, IsStepOf, families_with, lent_in, IsSetTable}
use Rattle.std.proofs.Math.Logic.{∥∥₁_elim}
use Rattle.std.proofs.Props.{props}
use Rattle.std.proofs.lemmas.Result.{IfOk-weaker}
use Rattle.tsp_format.specs.Steps as listed
use Rattle.tsp_format.specs.Steps.{SubsetRow}
use Rattle.tsp_format.specs.states.TreeSteps.{steps_of, subset_row_of}
use Rattle.tsp_routing.specs.PlanVerdicts.{AreCapacityCuts}
use Rattle.tsp_routing.specs.PlanLinks.{AreUnits}
use Rattle.tsp_routing.specs.RunTrees.{RunTree}
use Rattle.tsp_routing.specs.states.Demands.{loads_problem}
use Rattle.tsp_routing.specs.states.Judged.{IsLeafVerdict}
use Rattle.tsp_routing.specs.states.LeafWeights.{IsPlanStep}
use Rattle.tsp_routing.specs.states.RunJudged.{IsRunLeafVerdict}
use Rattle.tsp_routing.specs.states.RunTables.{item_lists}
use Rattle.tsp_routing.proofs.PlanJudging.{single_sets, steps_on_families}
use Rattle.tsp_routing.proofs.VerdictOfLeaves.{verdict_of_leaves, verdict_of_runs}
use Rattle.tsp_routing.proofs.plan_verdict.tree_verdict.Goals as goal

-- plan: the parts of the certificate are those of the context, field by field; then the verdict on the leaves is that on the
-- certificate (`verdict_of_leaves`, `verdict_of_runs`)
pub invariant_of-context : goal.invariant_of-context
invariant_of-context g c =
    let tree = c.args.tree.now in
    let demands = c.args.demands in
    let families = c.args.families.now in
    let scalable : FitsSigned w64 tree.scale = search rules in
    let long = length-map tree.families.now (λ (f : Vec (Vec ℕ)). lists_of f.items) in
    let many : length c.args.crossed.now ≡ length tree.families.now = c.requires.cuts.many ∙ long in
    let some = tree.some in
    let same = c.requires.same in
    let few = tree.few_families in
    record {
      some = omega (arith, some, same);
      same = same;
      are = c.requires.demands;
      scaled = rw (to_z-of_z w64 tree.scale scalable) tree.scaled;
      own = c.requires.own;
      single = subst (λ (lent : List (Vec (Vec ℕ))). All (λ sets. length sets ≡ 1) (families_in lent)) (sym c.requires.lent)
          (single_sets demands.nodes demands.depot (families_in tree.families.now) c.requires.cuts.good);
      table = subst (λ xs. IsSetTable demands.nodes (lent_in families) xs) (sym c.deref.ensures.value)
          (subst (λ (k : ℕ). IsSetTable k (lent_in families) c.in_ok-by_node.by_node.items) c.requires.own c.in_ok-by_node.ensures);
      many = many ∙ ap (λ (xs : List (Vec (Vec ℕ))). length xs) (sym c.requires.lent);
      few = c.requires.few;
      few_families = omega (arith, many, few);
      loads = c.in_ok-units.ensures;
    }

pub run_leaf_verdict-requires-clause-steps : goal.run_leaf_verdict-requires-clause-steps
run_leaf_verdict-requires-clause-steps g c =
    let tree = c.args.tree.now in
    let n : ℕ = c.args.demands.nodes in
    let steps : List listed.Step = steps_of tree.steps.now in
    let long = length-map tree.families.now (λ (f : Vec (Vec ℕ)). lists_of f.items) in
    ∥∥₁_elim tree.steps_are (hlevel props) (λ each. ∣ subst (λ (k : ℕ). All (IsStepOf (n + k)) steps) (sym (c.requires.cuts.many ∙ long))
    (steps_on_families n (length tree.families.now) steps (subst (λ (k : ℕ). All (IsPlanStep k) steps) c.requires.same each)
    c.in_default.ensures.1) ∣₁)

pub returns-then-is_by_runs-clause-verdict : goal.returns-then-is_by_runs-clause-verdict
returns-then-is_by_runs-clause-verdict g c =
    let tree = c.args.tree.now in
    let n : ℕ = c.args.demands.nodes in
    let cost = g.C.Costs.at tree.costs.now in
    let steps : List listed.Step = steps_of tree.steps.now in
    let families : List (List (List ℕ)) = families_in tree.families.now in
    let lists : List (List ℕ) = item_lists tree.near.now in
    let rows : List SubsetRow = map subset_row_of tree.rows.now in
    let scalable : FitsSigned w64 tree.scale = search rules in
    let unitable : FitsSigned w64 tree.unit = search rules in
    let problem = loads_problem c.args.demands cost in
    let scale_is : to_z w64 (of_z w64 tree.scale) ≡ tree.scale = to_z-of_z w64 tree.scale scalable in
    let unit : ℕ = nat_abs (to_z w64 (of_z w64 tree.unit)) in
    let unit_is : unit ≡ nat_abs tree.unit = ap nat_abs (to_z-of_z w64 tree.unit unitable) in
    let light : ℕ = c.in_ok-units.units.light in
    let crossed : List Crossings = c.args.crossed.now in
    let lists_are : lent_in c.args.families.now ≡ families = ap families_in c.requires.lent in
    let cuts : AreCapacityCuts problem families crossed = c.requires.cuts in
    let units : AreUnits problem (nat_abs tree.unit) light = subst (λ (u : ℕ). AreUnits problem u light) unit_is (c.in_ok-units.ensures.are cost) in
    let long = length-map tree.families.now (λ (f : Vec (Vec ℕ)). lists_of f.items) in
    let branches : All (BeginsWithin (n + 1) (n + length families)) (branch_pairs steps) =
    subst (λ (k : ℕ). All (BeginsWithin (n + 1) (n + k)) (branch_pairs steps)) (sym long) c.in_default.ensures.1 in
    let all : ℤ → ℕ → List (List (List ℕ)) → ℕ → ℕ → RunTree = λ z u fs k r. record {
      problem = problem;
      scale = z;
      unit = u;
      light = light;
      family_count = k;
      families = families_with crossed fs;
      lists = lists;
      row_count = r;
      rows = rows;
    } in
    let many : length tree.rows.now ≡ length rows = sym (length-map tree.rows.now subset_row_of) in
    IfOk-weaker c.run_leaf_verdict.result _ _ (λ found own.
    verdict_of_runs problem tree.scale (nat_abs tree.unit) families lists rows steps light crossed found (sym c.if-is_by_runs.ensures) units cuts
    c.requires.memory branches
    (subst (λ (r : ℕ). IsRunLeafVerdict (all tree.scale (nat_abs tree.unit) families (length families) r) steps found) many
    (subst (λ (k : ℕ). IsRunLeafVerdict (all tree.scale (nat_abs tree.unit) families k (length tree.rows.now)) steps found) cuts.many
    (subst (λ (fs : List (List (List ℕ))). IsRunLeafVerdict (all tree.scale (nat_abs tree.unit) fs (length crossed) (length tree.rows.now)) steps found) lists_are
    (subst (λ (u : ℕ). IsRunLeafVerdict (all tree.scale u (lent_in c.args.families.now) (length crossed) (length tree.rows.now)) steps found) unit_is
    (subst (λ (z : ℤ). IsRunLeafVerdict (all z unit (lent_in c.args.families.now) (length crossed) (length tree.rows.now)) steps found) scale_is
    own))))))
    c.run_leaf_verdict.ensures.verdict

pub leaf_verdict-requires-clause-steps : goal.leaf_verdict-requires-clause-steps
leaf_verdict-requires-clause-steps g c =
    let tree = c.args.tree.now in
    let n : ℕ = c.args.demands.nodes in
    let steps : List listed.Step = steps_of tree.steps.now in
    let long = length-map tree.families.now (λ (f : Vec (Vec ℕ)). lists_of f.items) in
    ∥∥₁_elim tree.steps_are (hlevel props) (λ each. ∣ subst (λ (k : ℕ). All (IsStepOf (n + k)) steps) (sym (c.requires.cuts.many ∙ long))
    (steps_on_families n (length tree.families.now) steps (subst (λ (k : ℕ). All (IsPlanStep k) steps) c.requires.same each)
    c.in_default.ensures.1) ∣₁)

pub returns-clause-verdict : goal.returns-clause-verdict
returns-clause-verdict g c =
    let tree = c.args.tree.now in
    let n : ℕ = c.args.demands.nodes in
    let cost = g.C.Costs.at tree.costs.now in
    let steps : List listed.Step = steps_of tree.steps.now in
    let families : List (List (List ℕ)) = families_in tree.families.now in
    let lists : List (List ℕ) = item_lists tree.near.now in
    let rows : List SubsetRow = map subset_row_of tree.rows.now in
    let scalable : FitsSigned w64 tree.scale = search rules in
    let unitable : FitsSigned w64 tree.unit = search rules in
    let problem = loads_problem c.args.demands cost in
    let scale_is : to_z w64 (of_z w64 tree.scale) ≡ tree.scale = to_z-of_z w64 tree.scale scalable in
    let unit : ℕ = nat_abs (to_z w64 (of_z w64 tree.unit)) in
    let unit_is : unit ≡ nat_abs tree.unit = ap nat_abs (to_z-of_z w64 tree.unit unitable) in
    let light : ℕ = c.in_ok-units.units.light in
    let crossed : List Crossings = c.args.crossed.now in
    let lists_are : lent_in c.args.families.now ≡ families = ap families_in c.requires.lent in
    let cuts : AreCapacityCuts problem families crossed = c.requires.cuts in
    let units : AreUnits problem (nat_abs tree.unit) light = subst (λ (u : ℕ). AreUnits problem u light) unit_is (c.in_ok-units.ensures.are cost) in
    let long = length-map tree.families.now (λ (f : Vec (Vec ℕ)). lists_of f.items) in
    let branches : All (BeginsWithin (n + 1) (n + length families)) (branch_pairs steps) =
    subst (λ (k : ℕ). All (BeginsWithin (n + 1) (n + k)) (branch_pairs steps)) (sym long) c.in_default.ensures.1 in
    IfOk-weaker c.leaf_verdict.result _ _ (λ found own.
    verdict_of_leaves problem tree.scale (nat_abs tree.unit) families lists rows steps light crossed found (sym c.if-is_by_runs.ensures) units cuts
    c.requires.memory branches
    (subst (λ (k : ℕ). IsLeafVerdict problem tree.scale (nat_abs tree.unit) light k (families_with crossed families) steps found) cuts.many
    (subst (λ (fs : List (List (List ℕ))). IsLeafVerdict problem tree.scale (nat_abs tree.unit) light (length crossed) (families_with crossed fs) steps found) lists_are
    (subst (λ (u : ℕ). IsLeafVerdict problem tree.scale u light (length crossed) (families_with crossed (lent_in c.args.families.now)) steps found) unit_is
    (subst (λ (z : ℤ). IsLeafVerdict problem z unit light (length crossed) (families_with crossed (lent_in c.args.families.now)) steps found) scale_is
    own)))))
    c.leaf_verdict.ensures.verdict
