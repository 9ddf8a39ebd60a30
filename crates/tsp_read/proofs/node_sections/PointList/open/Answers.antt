-- The goals of `PointList::open` in src/node_sections.rt, which begins the section: what it ensures.
use Rattle.tsp_file.specs.states.Drafts.{points_of}
use Rattle.tsp_read.proofs.CoordSteps.{none_so_far}
use Rattle.tsp_read.proofs.node_sections.PointList.open.Goals as goal

-- plan: no words have come (`none_so_far`)
pub returns : goal.returns
returns c = record {
  kind = c.in_ok-at_origin.ensures.0;
  read = none_so_far c.args.in_space c.in_ok-filled.field-0.items (points_of c.in_ok-at_origin.field-0) c.args.n
      (c.in_ok-filled.ensures.items_if_clones_equal (λ y h. h)) c.in_ok-at_origin.ensures.1;
}
