-- The goals of `clear_diagonal` in src/relayout.rt, which sets the diagonal to 0: its loop and what it ensures.
use Rattle.tsp_file.proofs.Prelude.{◌∙◌, refl, sym, arith, pos, false≢true, length-set, IsNode, FullMatrix, cells_counted}
use Rattle.tsp_file.specs.Cost.{listed_cost}
use Rattle.tsp_file.proofs.Relaid.{triangle_holds}
use Rattle.tsp_file.proofs.Spread.{side_filled, zero_diagonal, diagonal_more}
use Rattle.tsp_file.proofs.relayout.clear_diagonal.Goals as goal

-- plan: one cell of the diagonal more is 0 (`diagonal_more`); after the last one the whole listed side has its costs
-- (`side_filled`)
pub returns-then-lists-clause-side : goal.returns-then-lists-clause-side
returns-then-lists-clause-side c = λ half long partly lines.
    let items = c.args.weights.now.items in
    side_filled c.args.from c.args.nodes half items partly (triangle_holds c.args.from c.args.nodes half partly) lines items
    (λ a b la lb had. had)
    (λ out i node. absurd (false≢true (sym out ∙ sym c.lists.ensures ∙ c.if-lists.true)))

pub nodes-preserved : goal.nodes-preserved
nodes-preserved c =
    let items = c.nodes.weights.items in
    let node : IsNode c.args.nodes c.nodes.node = (omega (arith, c.nodes.auto.node), omega (arith, c.nodes-test.true)) in
    record {
      size = length-set items c.place.result (pos 0) ∙ c.nodes.invariant.size;
      costs = λ cost nothing.
          diagonal_more cost c.args.nodes c.nodes.node c.place.result c.args.weights.now.items items nothing node
          c.place.ensures.table
          (omega (arith, c.place.ensures.within, c.nodes.invariant.size, cells_counted FullMatrix c.args.nodes))
          (c.nodes.invariant.costs cost nothing);
    }

pub returns-clause-side : goal.returns-clause-side
returns-clause-side c = λ half long partly lines.
    let out = sym c.lists.ensures ∙ c.if-lists.false in
    let cost = listed_cost c.args.from c.args.nodes half in
    let all = c.nodes.invariant.costs cost (λ i. zero_diagonal c.args.from c.args.nodes half i out) in
    side_filled c.args.from c.args.nodes half c.args.weights.now.items partly
    (triangle_holds c.args.from c.args.nodes half partly) lines c.nodes.weights.items all.0
    (λ unlisted i node. all.1 i i node node (refl, omega (arith, node.1, c.nodes-test.false)))
