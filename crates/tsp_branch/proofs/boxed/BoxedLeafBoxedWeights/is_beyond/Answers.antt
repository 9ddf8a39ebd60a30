-- The goals of `is_beyond` in src/boxed.rt, of the trait `BoxedWeights` for `BoxedLeaf`: what it ensures. It says
-- whether all nodes of a region are known to cost at least a number.
use Rattle.tsp_branch.proofs.Prelude.{◌∙◌, refl, least_at, lent_in, decisions_in, small_multipliers}
use Rattle.tsp_branch.proofs.BoxedLeaves.{base_below}
use Rattle.tsp_branch.proofs.boxed.BoxedLeafBoxedWeights.is_beyond.Goals as goal

-- plan: the base is at most the weight (`base_below`), so a region that is too far by its base is too far by its
-- weights
pub returns-clause-above : goal.returns-clause-above
returns-clause-above g c = λ to node.
    let p = c.args.self.now in
    let q = p.leaf.now in
    base_below q.context.now.cases.now.scale q.potentials.now q.multipliers.now (lent_in q.context.now.families.now)
    (g.C.Costs.at q.context.now.costs.now) c.args.from.now.node to (least_at q.moved.now c.args.from.now.node)
    (least_at q.moved.now to) _
    q.context.now.families.now.once (p.exact c.args.from.now.node c.requires.node_in).0 (p.exact to node).0 refl
    (decisions_in p.leaf.now.case.now) (small_multipliers _ q.context.now.families.now.crossed.items _ _
    q.context.now.families.now.some q.numbers)
    (q.numbers.each_family ∙ q.context.now.families.now.as_many) q.context.now.families.now.many q.context.now.families.now.as_many
