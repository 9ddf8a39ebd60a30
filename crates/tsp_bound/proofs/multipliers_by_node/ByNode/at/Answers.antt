-- The goals of `ByNode::at` in src/multipliers_by_node.rt, which returns the multipliers of a node's pairs: what it
-- ensures.
use Rattle.tsp_bound.proofs.Prelude.{ℕ, ap, ◌∙◌, recursion_from_All, IsMultiplier}
use Rattle.tsp_bound.proofs.LoweredWeights.{are_lowerings, lowered_said}
use Rattle.tsp_bound.proofs.multipliers_by_node.ByNode.at.Goals as goal

-- plan: the node's list in the table is that of its pairs (`are_lowerings`, `lowered_said`)
pub returns-clause-are : goal.returns-clause-are
returns-clause-are c =
    let t = c.args.self.now in
    let is = c.as_slice.ensures.value ∙ ap (λ v. v.items) c.index.ensures ∙ t.table.said c.args.node c.index.result.now c.requires.1 in
    rw is (are_lowerings t.nodes c.args.node t.triples.now t.are.each t.on_pairs)

pub returns-clause-sums : goal.returns-clause-sums
returns-clause-sums c =
    let t = c.args.self.now in
    let is = c.as_slice.ensures.value ∙ ap (λ v. v.items) c.index.ensures ∙ t.table.said c.args.node c.index.result.now c.requires.1 in
    rw is (λ (x : ℕ). lowered_said c.args.node t.triples.now x (recursion_from_All IsMultiplier t.triples.now t.are.each))

pub returns-clause-said : goal.returns-clause-said
returns-clause-said c =
    let t = c.args.self.now in
    c.as_slice.ensures.value ∙ ap (λ v. v.items) c.index.ensures ∙ t.table.said c.args.node c.index.result.now c.requires.1
