-- The goals of `bound_of_trees` in src/boxed.rt, which bounds a leaf by minimum 1-trees, by kept rows or by boxes:
-- the facts of the values that it makes, what its calls require and what it ensures.
use Rattle.tsp_branch.proofs.Prelude.{◌≡◌, ◌∙◌, ℕ, ℤ, Bool, List, refl, sym, subst, rules, FitsSigned, to_z, of_z, w64, w128, to_z-of_z, IfOk-weaker, same_scale, Decision, DecideOnce, lent_in, set_weight, decisions_in, few_changes}
use Rattle.tsp_branch.specs.BranchVerdicts.{BoundsEachLeaf}
use Rattle.tsp_branch.specs.states.LeafRows.{decided_by}
use Rattle.tsp_branch.proofs.BoxedLeaves.{decided_even}
use Rattle.tsp_branch.proofs.boxed.bound_of_trees.Goals as goal

-- plan: by whether boxes suit the leaf: its 1-tree is found by boxes, or by rows. The weights are symmetric as the
-- costs are (`decided_even`)
pub invariant_of-boxed : goal.invariant_of-boxed
invariant_of-boxed g c =
    let leaf = c.args.leaf.now in
    record {
      undirected = c.requires.undirected;
      once = few_changes (decisions_in leaf.case.now) (subst (λ (d : Bool). DecideOnce d (decisions_in leaf.case.now)) c.requires.undirected leaf.once);
      exact = c.if-are_exact.ensures refl;
    }

pub tour_leaf_bound-requires-clause-even : goal.tour_leaf_bound-requires-clause-even
tour_leaf_bound-requires-clause-even g c =
    let leaf = c.args.leaf.now in
    let s = leaf.context.now in
    let families = s.families.now in
    decided_even s.cases.now.scale families.crossed.items leaf.potentials.now leaf.multipliers.now (lent_in families) (decisions_in leaf.case.now)
    (g.C.Costs.at s.costs.now) families.many (leaf.numbers.each_family ∙ families.many) (s.even c.requires.undirected)

pub tour_leaf_bound-requires-2-clause-even : goal.tour_leaf_bound-requires-2-clause-even
tour_leaf_bound-requires-2-clause-even g c =
    let leaf = c.args.leaf.now in
    let s = leaf.context.now in
    let families = s.families.now in
    let case : List Decision = decisions_in leaf.case.now in
    let w : ℕ → ℕ → ℤ = set_weight s.cases.now.scale leaf.potentials.now leaf.multipliers.now (lent_in families) (g.C.Costs.at s.costs.now) in
    subst (λ (d : Bool). (i j : ℕ) → decided_by d case w i j ≡ decided_by d case w j i) (sym c.requires.undirected)
    (decided_even s.cases.now.scale families.crossed.items leaf.potentials.now leaf.multipliers.now (lent_in families) case
    (g.C.Costs.at s.costs.now) families.many (leaf.numbers.each_family ∙ families.many) (s.even c.requires.undirected))

pub returns-clause-leaf : goal.returns-clause-leaf
returns-clause-leaf g c =
    let leaf = c.args.leaf.now in
    let s = leaf.context.now in
    let n : ℕ = g.C.Costs.nodes s.costs.now in
    let case : List Decision = decisions_in leaf.case.now in
    let w : ℕ → ℕ → ℤ = set_weight s.cases.now.scale leaf.potentials.now leaf.multipliers.now (lent_in s.families.now) (g.C.Costs.at s.costs.now) in
    let back : ℤ = c.args.sum.given_back in
    let fits : FitsSigned w128 back = search rules in
    IfOk-weaker c.tour_leaf_bound-2.result _ _
    (λ (bound : ℤ) bounds. subst (λ (d : Bool). BoundsEachLeaf n (decided_by d case w) c.args.sum.scale back bound) c.requires.undirected
    (subst (λ (z : ℤ). BoundsEachLeaf n (decided_by s.cases.now.directed case w) z back bound) (same_scale c.args.sum.scale c.args.sum.scaled)
    (subst (λ (z : ℤ). BoundsEachLeaf n (decided_by s.cases.now.directed case w) (to_z w64 (of_z w64 c.args.sum.scale)) z bound) (to_z-of_z w128 back fits) bounds)))
    c.tour_leaf_bound-2.ensures.leaf
