-- The goals of `are_points` in src/validity.rt, which says whether every point is valid: what it ensures.
use Rattle.tsp_file.proofs.Prelude.{◌≡◌, map, sym, ap, ◌∙◌, list_all, list_all-map, Point}
use Rattle.tsp_number.specs.declared.decimal.PlanePoint.{PlanePoint}
use Rattle.tsp_number.specs.Distances.{on_plane}
use Rattle.tsp_file.specs.states.Drafts.{points_of}
use Rattle.tsp_file.specs.Validity.{is_point}
use Rattle.tsp_file.proofs.validity.are_points.Goals as goal

-- plan: a point of the plane is within the limits if it is as a point whose third coordinate is 0
pub returns-in-Plane : goal.returns-in-Plane
returns-in-Plane c =
    let place : PlanePoint → Point = λ point. on_plane point.x point.y in
    let points : map place c.deref.result.now ≡ points_of c.args.points.now = ap (map place) c.deref.ensures.value ∙ ap points_of (sym c.in-Plane.is) in
    c.are_within.ensures ∙ sym (list_all-map (is_point c.args.spatial) place c.deref.result.now)
    ∙ ap (list_all (is_point c.args.spatial)) points
