-- The goals of `count_lowered` in src/boxed.rt, of the trait `BoxedWeights` for `BoxedLeaf`: what it ensures. It
-- counts the nodes to which a node's weight may be lowered.
use Rattle.tsp_branch.proofs.Prelude.{◌≡◌, ◌∙◌, Bool, List, length, ap, sym, subst, filter, length-map, Decision, stack_of, bears_on, decisions_in, lent_in, set_weight}
use Rattle.tsp_branch.specs.states.LeafRows.{other_of}
use Rattle.tsp_branch.proofs.BoxedLeaves.{listed_is, lowered_no_more, others_same}
use Rattle.tsp_branch.proofs.boxed.BoxedLeafBoxedWeights.count_lowered.Goals as goal

-- plan: a node's pairs are listed with it (`listed_is`), and no other pair lowers it (`others_same`)
pub returns-clause-value : goal.returns-clause-value
returns-clause-value g c =
    let boxed = c.args.self.now in
    let p = boxed.leaf.now in
    let case : List Decision = decisions_in p.case.now in
    let own_is = subst (λ (d : Bool). stack_of c.at.result.now ≡ filter (bears_on d c.args.from) case) (p.direction ∙ boxed.undirected)
    (c.at.ensures (g.C.Costs.nodes p.context.now.costs.now) p.is_case c.requires.1) in
    sym (length-map c.at.result.now (other_of c.args.from)) ∙ ap length (listed_is case c.at.result.now c.args.from own_is)

pub returns-clause-no_more : goal.returns-clause-no_more
returns-clause-no_more g c = λ to node.
    let q = c.args.self.now.leaf.now in
    lowered_no_more (decisions_in c.args.self.now.leaf.now.case.now)
    (set_weight q.context.now.cases.now.scale q.potentials.now q.multipliers.now (lent_in q.context.now.families.now)
    (g.C.Costs.at q.context.now.costs.now)) c.args.from to

pub returns-clause-others : goal.returns-clause-others
returns-clause-others g c = λ to node none.
    let q = c.args.self.now.leaf.now in
    others_same (decisions_in c.args.self.now.leaf.now.case.now)
    (set_weight q.context.now.cases.now.scale q.potentials.now q.multipliers.now (lent_in q.context.now.families.now)
    (g.C.Costs.at q.context.now.costs.now)) c.args.from to none
