-- The goals of `put_point_section` in src/writer/sections.rt: what it ensures.
use Rattle.tsp_file.proofs.Prelude.{◌∙◌, map-id, way_of, carried_none}
use Rattle.tsp_file.specs.states.Drafts.{points_of}
use Rattle.tsp_file.specs.CanonicalText.{lines_by_node, coordinate_words}
use Rattle.tsp_file.proofs.WrittenLines.{opened}
use Rattle.tsp_file.proofs.writer.sections.put_point_section.Goals as goal

-- plan: by whether there are points, of the plane or of space: the section's word and its lines are added (`opened`),
-- or nothing
pub returns-in-Plane : goal.returns-in-Plane
returns-in-Plane g c =
    let start = way_of g.W.Takes.contents c.args.out.now c.args.piece.now.items in
    let after_opening = way_of g.W.Takes.contents c.put_opening.new.out c.put_opening.new.piece.items in
    let last = way_of g.W.Takes.contents c.put_points.new.out c.put_points.new.piece.items in
    let text = lines_by_node (coordinate_words c.args.spatial) (points_of c.in-Some.points.now) in
    let lines = rw c.deref.ensures.value at c.put_points.ensures in
    rw c.in-Some.is (opened start after_opening last c.args.field text c.put_opening.ensures (rw c.in-Plane.is lines))

pub returns-in-Space : goal.returns-in-Space
returns-in-Space g c =
    let start = way_of g.W.Takes.contents c.args.out.now c.args.piece.now.items in
    let after_opening = way_of g.W.Takes.contents c.put_opening.new.out c.put_opening.new.piece.items in
    let last = way_of g.W.Takes.contents c.put_points-in-Space.new.out c.put_points-in-Space.new.piece.items in
    let text = lines_by_node (coordinate_words c.args.spatial) (points_of c.in-Some.points.now) in
    let points = map-id c.deref-in-Space.result.now ∙ c.deref-in-Space.ensures.value in
    let lines = rw points at c.put_points-in-Space.ensures in
    rw c.in-Some.is (opened start after_opening last c.args.field text c.put_opening.ensures (rw c.in-Space.is lines))

pub returns-in_default : goal.returns-in_default
returns-in_default g c = rw c.in_default.is (carried_none (way_of g.W.Takes.contents c.args.out.now c.args.piece.now.items))
