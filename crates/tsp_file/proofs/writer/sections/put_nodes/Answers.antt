-- The goals of `put_nodes` in src/writer/sections.rt: its loop and what it ensures.
use Rattle.tsp_file.proofs.Prelude.{ℕ, [], codes, flat_map, decimal, way_of, carried_none, carried_then, carried_all, carried_next_or}
use Rattle.tsp_file.specs.CanonicalText.{number_line}
use Rattle.tsp_file.proofs.writer.sections.put_nodes.Goals as goal

-- plan: one node's line more (`carried_next_or`), and the -1 at the end (`carried_then`)
pub nodes-init : goal.nodes-init
nodes-init g c = carried_none (way_of g.W.Takes.contents c.args.out.now c.args.piece.now.items)

pub nodes-preserved : goal.nodes-preserved
nodes-preserved g c =
    let start = way_of g.W.Takes.contents c.args.out.now c.args.piece.now.items in
    let before = way_of g.W.Takes.contents c.nodes.out c.nodes.piece.items in
    let after = way_of g.W.Takes.contents c.put_node_line.new.out c.put_node_line.new.piece.items in
    carried_next_or (λ (node : ℕ). number_line (decimal node) []) c.args.nodes.now c.nodes.node-index 0 start before after
    c.nodes-test.true c.nodes.invariant c.put_node_line.ensures

pub returns : goal.returns
returns g c =
    let start = way_of g.W.Takes.contents c.args.out.now c.args.piece.now.items in
    let after_lines = way_of g.W.Takes.contents c.nodes.out c.nodes.piece.items in
    let last = way_of g.W.Takes.contents c.put.new.out c.put.new.piece.items in
    let lines = λ (node : ℕ). number_line (decimal node) [] in
    carried_then start after_lines last (flat_map lines c.args.nodes.now) (codes "-1\n")
    (carried_all lines c.args.nodes.now c.nodes.node-index start after_lines c.nodes-test.false c.nodes.invariant) c.put.ensures
