-- The goals of `total` in src/case_leaf.rt, which sums the potentials of a leaf: its loop.
use Rattle.tsp_branch.proofs.Prelude.{◌≡◌, ◌+◌, ◌<◌, ◌^◌, ℕ, ℤ, List, drop, ap, sym, rules, FitsSigned, ◌∙◌, arith, to_z, get_or, pos, ◌+ℤ◌, w64, w128, to_z-of_z, sum_more, total}
use Rattle.std.proofs.Math.IntN.{+ℤ_assoc}
use Rattle.tsp_branch.proofs.CaseLeaves.{computed_of_64, total_left}
use Rattle.tsp_branch.proofs.case_leaf.total.Goals as goal

-- plan: one number more (`total_left`), which fits 128 bits (`computed_of_64`)
pub numbers-preserved : goal.numbers-preserved
numbers-preserved g c =
    let leaf = c.args.leaf.now in
    let context = leaf.context.now in
    let xs : List ℤ = leaf.potentials.now in
    let index : ℕ = c.numbers.number-index in
    let number : ℤ = get_or xs index (pos 0) in
    let sum : ℤ = to_z w128 c.numbers.sum-bits in
    let few : index < 2 ^ 32 = omega (arith, leaf.numbers.each_node, context.same, context.families.now.few_nodes, c.numbers-test.true) in
    let fits : FitsSigned w64 (get_or xs index (pos 0)) = search rules in
    let is = computed_of_64 sum number c.from-sum.result index few c.numbers.invariant.size fits (c.from-sum.ensures ∙ to_z-of_z w64 number fits) in
    let parts : total (drop index xs) ≡ number +ℤ total (drop (index + 1) xs) = total_left xs index (pos 0) c.numbers-test.true in
    record {
      size = rw is (sum_more sum number index c.numbers.invariant.size fits);
      so_far = rw is (+ℤ_assoc sum number (total (drop (index + 1) xs)) ∙ ap (λ z. sum +ℤ z) (sym parts) ∙ c.numbers.invariant.so_far);
    }
