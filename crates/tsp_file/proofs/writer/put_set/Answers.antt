-- The goals of `put_set` in src/writer.rt: its loop and what it ensures.
use Rattle.tsp_file.proofs.Prelude.{map, arith, ℕ, codes, flat_map, decimal, way_of, carried_then, carried_mapped, carried_none, carried_next_or}
use Rattle.tsp_file.specs.CanonicalText.{before_blank}
use Rattle.tsp_file.proofs.writer.put_set.Goals as goal

-- plan: one node more (`carried_next_or`), and the -1 at the end (`carried_then`)
pub nodes-init : goal.nodes-init
nodes-init g c = carried_none (way_of g.W.Takes.contents c.args.out.now c.args.piece.now.items)

pub nodes-preserved : goal.nodes-preserved
nodes-preserved g c =
    let start = way_of g.W.Takes.contents c.args.out.now c.args.piece.now.items in
    let before = way_of g.W.Takes.contents c.nodes.out c.nodes.piece.items in
    let after = way_of g.W.Takes.contents c.put_before_blank.new.out c.put_before_blank.new.piece.items in
    carried_next_or (λ (node : ℕ). before_blank (decimal node)) c.args.set.now c.nodes.node-index 0 start before after
    c.nodes-test.true c.nodes.invariant c.put_before_blank.ensures

pub returns : goal.returns
returns g c =
    let start = way_of g.W.Takes.contents c.args.out.now c.args.piece.now.items in
    let after_nodes = way_of g.W.Takes.contents c.nodes.out c.nodes.piece.items in
    let last = way_of g.W.Takes.contents c.put.new.out c.put.new.piece.items in
    carried_then start after_nodes last (flat_map before_blank (map decimal c.args.set.now)) (codes "-1\n")
    (carried_mapped before_blank decimal c.args.set.now c.nodes.node-index start after_nodes (omega arith) c.nodes.invariant)
    c.put.ensures
