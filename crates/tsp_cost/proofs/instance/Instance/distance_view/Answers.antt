-- The goals of `Instance::distance_view` in src/instance.rt, which returns the points of an instance with distances:
-- what it ensures.
use Rattle.tsp_cost.proofs.Prelude.{◌≡◌, List, Some, length, map, sym, ap, subst, ◌∙◌, Point, Fields, distance, point_of}
use Rattle.std.specs.Option.{option_map}
use Rattle.std.proofs.lemmas.List.{length-map, map-id}
use Rattle.tsp_number.specs.declared.decimal.PlanePoint.{PlanePoint}
use Rattle.tsp_number.specs.Distances.{on_plane}
use Rattle.tsp_file.specs.states.Drafts.{points_of}
use Rattle.tsp_cost.specs.states.Metrics.{weight_kind_of}
use Rattle.tsp_cost.specs.states.Views.{HasFound}
use Rattle.tsp_cost.proofs.OneProblem.{AreOfPoints, of_points}
use Rattle.tsp_cost.proofs.instance.Instance.distance_view.Goals as goal

-- plan: by the coordinates, of the plane or of space: the costs are the distances of the points (`of_points`)
pub returns-in-Plane : goal.returns-in-Plane
returns-in-Plane c =
    let f : Fields = c.args.self.now in
    let place : PlanePoint → Point = λ point. on_plane point.x point.y in
    let points : List Point = points_of c.unwrap.result.now in
    let stand : f.coords ≡ Some points = ap (λ (g : Fields). g.coords) (sym c.self.view_is) ∙ sym c.coords.ensures
    ∙ ap (option_map (λ p. points_of p.now)) c.unwrap.ensures in
    let found = subst (λ (g : Fields). HasFound g c.self.inside.nodes c.self.inside.source) c.self.view_is c.self.invariant in
    let are : AreOfPoints f c.args.metric points =
    of_points f c.self.inside.nodes c.self.inside.source c.args.metric points found c.requires stand in
    let same : map place c.deref.result.now ≡ points = ap (map place) c.deref.ensures.value ∙ ap points_of (sym c.in-Plane.is) in (
      are.kind,
      record {
        count = are.count ∙ ap (λ ps. Some (length ps)) (sym same)
            ∙ ap (λ n. Some n) (length-map c.deref.result.now place ∙ sym c.of.ensures.nodes);
        every = λ i j. c.of.ensures.costs i j ∙ ap (λ ps. distance (weight_kind_of c.args.metric) (point_of ps i) (point_of ps j))
            same ∙ are.every i j;
      },
    )

pub returns-in-Space : goal.returns-in-Space
returns-in-Space c =
    let f : Fields = c.args.self.now in
    let points : List Point = points_of c.unwrap.result.now in
    let stand : f.coords ≡ Some points = ap (λ (g : Fields). g.coords) (sym c.self.view_is) ∙ sym c.coords.ensures
    ∙ ap (option_map (λ p. points_of p.now)) c.unwrap.ensures in
    let found = subst (λ (g : Fields). HasFound g c.self.inside.nodes c.self.inside.source) c.self.view_is c.self.invariant in
    let are : AreOfPoints f c.args.metric points =
    of_points f c.self.inside.nodes c.self.inside.source c.args.metric points found c.requires stand in
    let same : c.deref-in-Space.result.now ≡ points = c.deref-in-Space.ensures.value ∙ ap points_of (sym c.in-Space.is) in
    let places : map (λ (point : Point). point) c.deref-in-Space.result.now ≡ points = map-id c.deref-in-Space.result.now
    ∙ same in (
      are.kind,
      record {
        count = are.count ∙ ap (λ ps. Some (length ps)) (sym same) ∙ ap (λ n. Some n) (sym c.of-in-Space.ensures.nodes);
        every = λ i j. c.of-in-Space.ensures.costs i j
            ∙ ap (λ ps. distance (weight_kind_of c.args.metric) (point_of ps i) (point_of ps j)) places ∙ are.every i j;
      },
    )
