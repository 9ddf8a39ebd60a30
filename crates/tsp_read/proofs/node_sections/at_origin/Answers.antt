-- The goals of `at_origin` in src/node_sections.rt, which makes points with coordinates 0: what it ensures.
use Rattle.tsp_read.proofs.Prelude.{map, ap, sym, ◌∙◌, replicate, Point}
use Rattle.tsp_number.specs.declared.decimal.PlanePoint.{PlanePoint}
use Rattle.tsp_number.specs.Distances.{on_plane}
use Rattle.tsp_file.proofs.ValidFields.{map_replicate}
use Rattle.tsp_read.proofs.node_sections.at_origin.Goals as goal

-- plan: the coordinates are 0, so each point is the origin (`map_replicate`)
pub returns : goal.returns
returns c =
    let place : PlanePoint → Point = λ point. on_plane point.x point.y in
    let items = c.in_ok-filled-2.ensures.items_if_clones_equal (λ y h. h) in (
      sym c.if-in_space.false,
      ap (map place) items ∙ map_replicate place c.args.n (record { x = c.of_nanos-zero.result; y = c.of_nanos-zero.result })
          ∙ ap (λ zero. replicate c.args.n (on_plane zero zero)) c.of_nanos-zero.ensures,
    )
