-- The goals of `weight` in src/boxed.rt, of the trait `BoxedWeights` for `BoxedLeaf`: what it ensures.
use Rattle.tsp_branch.proofs.Prelude.{◌∙◌, sym, rules, FitsSigned, w64, to_z-of_z, lent_in, set_weight, decisions_in, changes_are}
use Rattle.tsp_branch.proofs.boxed.BoxedLeafBoxedWeights.weight.Goals as goal

-- plan: the weight with the changes of both nodes is the leaf's (`changes_are`)
pub returns : goal.returns
returns g c =
    let q = c.args.self.now.leaf.now in
    let w = set_weight q.context.now.cases.now.scale q.potentials.now q.multipliers.now (lent_in q.context.now.families.now) (g.C.Costs.at q.context.now.costs.now) in
    let fits : FitsSigned w64 c.decided.result = search rules in
    to_z-of_z w64 c.decided.result fits ∙ c.decided.ensures ∙ sym (changes_are (decisions_in c.args.self.now.leaf.now.case.now) w c.args.from c.args.to)
