-- The goals of `CaseLeaf::bound_by_rows` in src/case_leaf.rt, which bounds a leaf by the least link from each node: the
-- facts of the values that it makes and what it ensures.
use Rattle.tsp_branch.proofs.Prelude.{◌≡◌, ◌∙◌, ◌^◌, ℕ, ℤ, Bool, List, refl, ap, sym, subst, arith, rules, FitsSigned, to_z, of_z, pos, neg_ℤ, ◌-ℤ◌, ◌*ℤ◌, w128, ints, to_z-of_z, IsFromTo, IsScale, total, weight_between, same_scale, Family, Decision, decided_number, combed, least_of, multiplied, lent_in, good_in, set_weight, decisions_in, row_weight, found_by_rows}
use Rattle.tsp_branch.specs.states.LeafRows.{decided_by}
use Rattle.tsp_branch.proofs.case_leaf.CaseLeaf.bound_by_rows.Goals as goal

pub invariant_of-rows : goal.invariant_of-rows
invariant_of-rows g c =
    let leaf = c.args.self.now in
    record {
      is_case = leaf.is_case;
      direction = leaf.direction ∙ c.requires.directed;
    }

pub invariant_of-sum : goal.invariant_of-sum
invariant_of-sum g c =
    let cases = c.args.self.now.context.now.cases.now in
    let size = c.given_back.ensures.size in
    let fits : FitsSigned w128 c.given_back.result = search rules in
    record {
      scaled = subst IsScale (sym (same_scale cases.scale cases.scaled)) cases.scaled;
      size = subst (IsFromTo (neg_ℤ (pos (2 ^ 99))) (pos (2 ^ 99))) (sym (to_z-of_z w128 c.given_back.result fits))
          (omega (arith, ints, size.0), omega (arith, ints, size.1));
    }

-- plan: the weights in the rows are those of the leaf (`row_weight`), so the sum of their least links is its bound
-- (`found_by_rows`)
pub returns-clause-bound : goal.returns-clause-bound
returns-clause-bound g c =
    let leaf = c.args.self.now in
    let p = leaf.context.now in
    let n : ℕ = g.C.Costs.nodes p.costs.now in
    let cost = g.C.Costs.at p.costs.now in
    let families = p.families.now in
    let ps : List ℤ = leaf.potentials.now in
    let ms : List ℤ = leaf.multipliers.now in
    let case : List Decision = decisions_in leaf.case.now in
    let good = leaf.numbers in
    let weighted : List (Family × ℤ) = multiplied (good_in families) ms in
    let sets : ℕ → ℕ → ℤ = set_weight p.cases.now.scale ps ms (lent_in families) cost in
    let w : ℕ → ℕ → ℤ = decided_by p.cases.now.directed case sets in
    let agree : (i j : ℕ) → w i j ≡ combed weighted (weight_between p.cases.now.scale ps cost) i j = λ i j.
    ap (λ (d : Bool). decided_by d case sets i j) c.requires.directed
    ∙ row_weight families.crossed.items p.cases.now.scale ps ms (lent_in families) cost i j families.many
    (good.each_family ∙ families.many) in
    let back : ℤ = c.given_back.result in
    let fits : FitsSigned w128 c.given_back.result = search rules in
    let back_is : to_z w128 (of_z w128 back) ≡ least_of weighted -ℤ (pos 2 *ℤ total ps) =
    to_z-of_z w128 back fits ∙ c.given_back.ensures.value in
    found_by_rows n n cost p.cases.now.scale _ decided_number (good_in families) case ps ms w _ c.bound.result refl
    (same_scale p.cases.now.scale p.cases.now.scaled) agree back_is c.bound.ensures.bound
