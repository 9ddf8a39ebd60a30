-- The goals of `given_back` in src/case_leaf.rt, which sums what a leaf gives back to its bound: that no difference
-- overflows, the facts of the values that it makes and what it ensures.
use Rattle.tsp_branch.proofs.Prelude.{◌∙◌, ℤ, List, ap, sym, pos, ◌-ℤ◌, ◌*ℤ◌, least_of, multiplied, sum_with, lent_in, good_in, few_multipliers, small_multipliers}
use Rattle.tsp_cases.proofs.FamilyCrossings.{least_fits}
use Rattle.tsp_branch.proofs.CaseLeaves.{least_told, less_fits, less_held, less_sized}
use Rattle.tsp_branch.proofs.case_leaf.given_back.Goals as goal

-- plan: the least crossings times their multipliers, less twice the potentials, fit 128 bits (`less_fits`)
pub invariant_of-multipliers : goal.invariant_of-multipliers
invariant_of-multipliers g c =
    let leaf = c.args.leaf.now in
    let context = leaf.context.now in
    let families = context.families.now in
    record {
      as_many = leaf.numbers.each_family ∙ families.as_many;
      small = small_multipliers (g.C.Costs.nodes context.costs.now) families.crossed.items leaf.potentials.now leaf.multipliers.now
          families.some leaf.numbers;
    }

pub overflow_sub-result : goal.overflow_sub-result
overflow_sub-result g c =
    let leaf = c.args.leaf.now in
    let families = leaf.context.now.families.now in
    let ms : List ℤ = leaf.multipliers.now in
    let sum = few_multipliers families.crossed.items ms leaf.numbers.each_family families.some leaf.numbers.signs leaf.numbers.sum in
    let size = least_fits families.crossed.items ms c.sum_with.result families.small leaf.numbers.signs sum c.sum_with.ensures in
    less_fits c.sum_with.result c.total.result size c.total.ensures.size

pub returns : goal.returns
returns g c =
    let leaf = c.args.leaf.now in
    let families = leaf.context.now.families.now in
    let crossed : ℤ = c.sum_with.result in
    let ps : ℤ = c.total.result in
    let ms : List ℤ = leaf.multipliers.now in
    let sum = few_multipliers families.crossed.items ms leaf.numbers.each_family families.some leaf.numbers.signs leaf.numbers.sum in
    let value = c.sum_with.ensures in
    let size = least_fits families.crossed.items ms crossed families.small leaf.numbers.signs sum value in
    let is = less_held crossed ps size c.total.ensures.size in
    rw is (record {
      value = ap (λ (z : ℤ). z -ℤ (pos 2 *ℤ ps)) (value ∙ sym (least_told families.crossed.items ms (lent_in families) families.many))
          ∙ ap (λ (z : ℤ). least_of (multiplied (good_in families) ms) -ℤ (pos 2 *ℤ z)) c.total.ensures.value;
      size = less_sized crossed ps size c.total.ensures.size;
    })
