-- The goals of `mark_different` in src/tour.rt, which marks nodes, and says whether all are new and at most n:
-- its loop and what it ensures.
use Rattle.tsp_verdict.proofs.Prelude.{◌≡◌, ◌≤◌, ◌<◌, ℕ, true, false, length, get_or, ◌∙◌, arith, length-set}
use Rattle.tsp_verdict.proofs.TourVerdicts.{mark_more, small_next}
use Rattle.tsp_verdict.proofs.tour.mark_different.Goals as goal

-- plan: one node more is marked and small (`mark_more`, `small_next`)
pub nodes-preserved : goal.nodes-preserved
nodes-preserved c =
    let nodes = c.args.nodes.now in
    let index : ℕ = c.nodes.node-index in
    let small : get_or nodes index 0 ≤ c.args.n = omega (arith, c.if-node-n.false) in
    let fits : get_or nodes index 0 < length c.nodes.taken = omega (arith, small, c.nodes.invariant.wide) in
    let free : get_or c.nodes.taken (get_or nodes index 0) false ≡ false = c.if-taken-node.false in
    record {
      wide = length-set c.nodes.taken (get_or nodes index 0) true ∙ c.nodes.invariant.wide;
      small = small_next nodes c.args.n index c.nodes-test.true small c.nodes.invariant.small;
      marks = mark_more nodes c.nodes.taken index fits free c.nodes.invariant.marks;
    }

pub returns : goal.returns
returns c =
    let whole : length c.args.nodes.now ≤ c.nodes.node-index = omega (arith, c.nodes-test.false, c.nodes.auto.node-index-end) in (
      λ k d below. c.nodes.invariant.small k d (omega (arith, below, whole)),
      λ place low high. c.nodes.invariant.marks.once place low (omega (arith, high, whole)),
    )
