-- The goals of `PointList::put` in src/node_sections.rt, which takes the next coordinate of a group: what it ensures.
use Rattle.tsp_read.proofs.Prelude.{◌-◌, ◌∙◌, sym, ap, map-set, Point, points_of}
use Rattle.tsp_number.specs.declared.decimal.PlanePoint.{PlanePoint}
use Rattle.tsp_number.specs.Distances.{on_plane}
use Rattle.tsp_read.specs.states.Parts.{are_in_space}
use Rattle.tsp_read.proofs.CoordSteps.{plane_points, first_taken, plane_taken, second_taken, third_taken}
use Rattle.tsp_read.proofs.node_sections.PointList.put.Goals as goal
use Rattle.tsp_read.proofs.node_sections.PointList.put.Goals.{in-Plane, in-Space+in-Some-y}

pub returns-in_default : goal.returns-in_default
returns-in_default c = λ in_space n words word h read.
    let s = c.args.self.now in
    let next = first_taken s.seen.items (points_of s.entries) s.left s.begun s.x s.y n words in_space h.read word c.args.node c.args.coordinate c.requires.to_come c.requires.begun c.in_default.is read in
    (next.0, record { kind = h.kind; read = next.1 })

pub returns-in_default-y : goal.returns-in_default-y
returns-in_default-y c = λ in_space n words word h read.
    let s = c.args.self.now in
    let kind = sym (ap are_in_space c.in-Space.is) ∙ h.kind in
    let held = rw c.in-Space.is at h.read in
    let next = second_taken s.seen.items c.in-Space.points.items s.left s.begun s.x s.y n words in_space held word c.args.node c.in-Some.x c.args.coordinate kind
    c.requires.to_come c.requires.begun c.in-Some.is c.in_default-y.is read in
    (next.0, record { kind = kind; read = next.1 })

-- plan: by the coordinate: the first (`first_taken`), the second of the plane (`plane_taken`), or those in space
pub returns : goal.returns
returns c = λ in_space n words word h read.
    let s = c.args.self.now in
    elim c.match-self-2.branch [
      | in-Plane u ↦
          let kind = sym (ap are_in_space u.in-Plane.is) ∙ h.kind in
          let held = rw u.in-Plane.is at h.read in
          let place : PlanePoint → Point = λ point. on_plane point.x point.y in
          let next = plane_taken s.seen.items (plane_points u.in-Plane.points.items) s.left s.begun s.x s.y n words in_space held word c.args.node c.in-Some.x
          c.args.coordinate kind c.requires.to_come c.requires.begun c.in-Some.is read in
          let set = map-set place u.in-Plane.points.items (c.args.node - 1) (record { x = c.in-Some.x; y = c.args.coordinate }) in
          (next.0, record { kind = rw u.self-is kind; read = rw (u.self-is, set) next.1 })
      | in-Space+in-Some-y u ↦
          let kind = sym (ap are_in_space u.in-Space.is) ∙ h.kind in
          let held = rw u.in-Space.is at h.read in
          let next = third_taken s.seen.items u.in-Space.points.items s.left s.begun s.x s.y n words in_space held word c.args.node c.in-Some.x u.in-Some-y.y
          c.args.coordinate kind c.requires.to_come c.requires.begun c.in-Some.is u.in-Some-y.is read in
          (next.0, record { kind = rw u.self-is kind; read = rw u.self-is next.1 })
    ]
