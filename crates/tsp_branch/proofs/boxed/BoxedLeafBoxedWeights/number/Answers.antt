-- The goals of `number` in src/boxed.rt, of the trait `BoxedWeights` for `BoxedLeaf`: what it ensures. It returns
-- what a node adds to its weights.
use Rattle.tsp_branch.proofs.Prelude.{◌≡◌, ◌∙◌, ℤ, sym, subst, rules, to_z, of_z, FitsSigned, w64, pos, neg_ℤ, to_z-of_z, IsFromTo, most_number, least_at}
use Rattle.tsp_branch.proofs.boxed.BoxedLeafBoxedWeights.number.Goals as goal

-- plan: the number of the node, as 64 bits hold it
pub returns : goal.returns
returns g c =
    let p = c.args.self.now in
    let fits : FitsSigned w64 c.weight_in.result = search rules in
    let is : to_z w64 (of_z w64 c.weight_in.result) ≡ least_at p.leaf.now.moved.now c.args.node = to_z-of_z w64 c.weight_in.result fits ∙ c.weight_in.ensures in
    record { value = is; size = subst (λ (z : ℤ). IsFromTo (neg_ℤ (pos most_number)) (pos most_number) z) (sym is) (p.exact c.args.node c.requires).1 }
