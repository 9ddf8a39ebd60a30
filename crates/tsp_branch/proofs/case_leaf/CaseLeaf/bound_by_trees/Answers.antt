-- The goals of `CaseLeaf::bound_by_trees` in src/case_leaf.rt, which bounds a leaf by a minimum 1-tree, by kept rows or
-- by boxes: the facts of the values that it makes, what its calls require and what it ensures.
use Rattle.tsp_branch.proofs.Prelude.{◌≡◌, ◌∙◌, ◌^◌, ℕ, ℤ, List, refl, ap, sym, subst, arith, to_z, of_z, pos, neg_ℤ, ◌+ℤ◌, w128, ints, IfOk-weaker, IsFromTo, IsScale, same_scale, Family, Decision, DecideOnce, on_taken, on_avoided, decided_number, IsLeafBound, multiplied, lent_in, good_in, set_weight, stack_of, decided, marks_in, IsOpenCase, decisions_in, few_changes, case_weight, back_of}
use Rattle.tsp_branch.specs.states.KeptRows.{kept_weight, AreRowsIfAny}
use Rattle.tsp_branch.specs.BranchVerdicts.{BoundsEachLeaf, given_back_of}
use Rattle.tsp_cases.proofs.LeavesBoundCycles.{leaf_even}
use Rattle.tsp_branch.proofs.CaseLeaves.{back_held, taken_listed, taken_few}
use Rattle.tsp_branch.proofs.case_leaf.CaseLeaf.bound_by_trees.Goals as goal

pub taken_back-taken-requires : goal.taken_back-taken-requires
taken_back-taken-requires g c =
    let leaf = c.args.self.now in
    taken_few (decisions_in leaf.case.now) c.deref.result.now (2 ^ 33) (ap stack_of c.deref.ensures.value ∙ leaf.is_case.by_node.taken) leaf.few

pub invariant_of-sum : goal.invariant_of-sum
invariant_of-sum g c =
    let cases = c.args.self.now.context.now.cases.now in
    let taken = c.taken_back-taken.ensures.size in
    let less = c.given_back.ensures.size in
    record {
      scaled = subst IsScale (sym (same_scale cases.scale cases.scaled)) cases.scaled;
      size = subst (IsFromTo (neg_ℤ (pos (2 ^ 99))) (pos (2 ^ 99))) (sym (back_held c.taken_back-taken.result c.given_back.result taken less))
          (omega (arith, ints, taken.0, less.0), omega (arith, ints, taken.1, less.1));
    }

-- plan: the weights of the 1-tree are those of the leaf (`case_weight`). The sum that is passed is the one that its
-- bound gives back (`back_of`)
pub returns-clause-bound : goal.returns-clause-bound
returns-clause-bound g c =
    let leaf = c.args.self.now in
    let p = leaf.context.now in
    let n : ℕ = g.C.Costs.nodes p.costs.now in
    let cost = g.C.Costs.at p.costs.now in
    let families = p.families.now in
    let ps : List ℤ = leaf.potentials.now in
    let ms : List ℤ = leaf.multipliers.now in
    let case : List Decision = decisions_in leaf.case.now in
    let w : ℕ → ℕ → ℤ = set_weight p.cases.now.scale ps ms (lent_in families) cost in
    let many = families.many in
    let long = leaf.numbers.each_family ∙ many in
    let weighted : List (Family × ℤ) = multiplied (good_in families) ms in
    let agree = λ (i j : ℕ). case_weight w p.cases.now.scale families.crossed.items ps ms (lent_in families) case cost i j many long
    refl in
    let v : ℕ → ℕ → ℤ = decided case w in
    let taken : ℤ = c.taken_back-taken.result in
    let less : ℤ = c.given_back.result in
    let back : ℤ = to_z w128 (of_z w128 (to_z w128 (of_z w128 taken) +ℤ to_z w128 (of_z w128 less))) in
    let sum_is : back ≡ taken +ℤ less = back_held taken less c.taken_back-taken.ensures.size c.given_back.ensures.size in
    let least = c.given_back.ensures.value in
    let taken_is = c.taken_back-taken.ensures.value ∙ taken_listed case c.deref.result.now (ap stack_of c.deref.ensures.value ∙ leaf.is_case.by_node.taken) in
    let back_is : back ≡ given_back_of ps (on_taken decided_number case) weighted = sum_is ∙ back_of taken less _ _ _ taken_is least in
    IfOk-weaker c.bound_of_trees.result _ _
    (λ (bound : ℤ) bounds.
    let whole : BoundsEachLeaf n v p.cases.now.scale back bound = subst (λ (z : ℤ). BoundsEachLeaf n v z back bound) (same_scale p.cases.now.scale p.cases.now.scaled) bounds in
    whole cost ps (on_taken decided_number case) (on_avoided decided_number case) weighted agree back_is)
    c.bound_of_trees.ensures.leaf
