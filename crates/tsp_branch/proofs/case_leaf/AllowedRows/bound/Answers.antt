-- The goals of `AllowedRows::bound` in src/case_leaf.rt, which bounds a case of an ATSP by least links: what it
-- ensures.
use Rattle.tsp_branch.proofs.Prelude.{ℤ, rules, FitsSigned, to_z, of_z, subst, sym, ◌+ℤ◌, w128, to_z-of_z, IsLeastBound, same_scale}
use Rattle.tsp_branch.proofs.CaseLeaves.{with_back}
use Rattle.tsp_branch.proofs.case_leaf.AllowedRows.bound.Goals as goal

-- plan: the sum of the least links plus the number given back fits 128 bits (`with_back`), and is rounded up
pub returns-clause-bound : goal.returns-clause-bound
returns-clause-bound g c =
    let sum : ℤ = c.in_ok-least.least in
    let back : ℤ = c.args.sum.given_back in
    let found = c.least_bound.result in
    let fits : FitsSigned w128 c.least_bound.result = search rules in
    let computed = with_back sum back c.in_ok-least.ensures.size c.args.sum.size in
    let rounded : IsLeastBound c.args.sum.scale (sum +ℤ back) found = subst (λ (z : ℤ). IsLeastBound c.args.sum.scale z found) computed
    (subst (λ (z : ℤ). IsLeastBound z (to_z w128 (of_z w128 (to_z w128 (of_z w128 sum) +ℤ to_z w128 (of_z w128 back)))) found) (same_scale c.args.sum.scale c.args.sum.scaled)
    c.least_bound.ensures.value) in
    record {
      sum = sum;
      least = c.in_ok-least.ensures.sum;
      bound_is = subst (λ (z : ℤ). IsLeastBound c.args.sum.scale (sum +ℤ back) z) (sym (to_z-of_z w128 found fits)) rounded;
    }
