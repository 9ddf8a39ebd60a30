-- The goals of `put_points` in src/writer/sections.rt: its loop and what it ensures.
use Rattle.tsp_file.proofs.Prelude.{◌≡◌, ◌∙◌, ℕ, ◌+◌, List, map, get_or, sym, ap, subst, arith, length-map, get_or-map, Point, decimal, Way, Carried, way_of, carried_node, carried_nodes}
use Rattle.tsp_file.specs.CanonicalText.{number_line, coordinate_words}
use Rattle.tsp_file.proofs.writer.sections.put_points.Goals as goal

-- plan: the line of one node more is added, with its coordinates (`carried_node`)
pub nodes-preserved : goal.nodes-preserved
nodes-preserved g c =
    let line : ℕ × Point → List ℕ = λ entry. number_line (decimal entry.0) (coordinate_words c.args.spatial entry.1) in
    let place = g.P.InSpace.place in
    let point = c.index-points-index.result in
    let before : Way = way_of g.W.Takes.contents c.nodes.out c.nodes.piece.items in
    let after : Way = way_of g.W.Takes.contents c.put_point_line.new.out c.put_point_line.new.piece.items in
    let put : Carried before after (line (c.nodes.index + 1, place point)) =
    subst (λ p. Carried before after (line (c.nodes.index + 1, p))) c.in_space.ensures c.put_point_line.ensures in
    let here : place point ≡ get_or (map place c.args.points.now) c.nodes.index (place point) =
    ap place c.index-points-index.is
    ∙ sym (get_or-map place c.args.points.now c.nodes.index point (place point) c.nodes-test.true) in
    carried_node line (map place c.args.points.now) c.nodes.index (place point)
    (way_of g.W.Takes.contents c.args.out.now c.args.piece.now.items) before after
    (omega (arith, c.nodes-test.true, length-map c.args.points.now place)) here c.nodes.invariant put

pub returns : goal.returns
returns g c =
    carried_nodes (λ (entry : ℕ × Point). number_line (decimal entry.0) (coordinate_words c.args.spatial entry.1))
    (map g.P.InSpace.place c.args.points.now) c.nodes.index
    (way_of g.W.Takes.contents c.args.out.now c.args.piece.now.items) (way_of g.W.Takes.contents c.nodes.out c.nodes.piece.items)
    (omega (arith, c.nodes-test.false, length-map c.args.points.now g.P.InSpace.place)) c.nodes.invariant
