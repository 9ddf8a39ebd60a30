-- The goals of `put_points` in src/point_calls.rt, which puts coordinates into a buffer: its loop.
use Rattle.tsp_c.proofs.Prelude.{◌≡◌, ℕ, ◌+◌, ◌-◌, ◌/◌, ◌%◌, ◌∙◌, ap, arith, rules, FitsSigned, w64, slice_index_or, to_z-of_z, origin}
use Rattle.tsp_file.specs.states.Drafts.{points_of}
use Rattle.tsp_c.specs.NumberCalls.{point_number, coordinate}
use Rattle.tsp_c.proofs.point_calls.put_points.Goals as goal

-- plan: the two or three coordinates of one node more are in the buffer
pub places-preserved : goal.places-preserved
places-preserved c =
    let fits : FitsSigned w64 c.coordinate.result = search rules in
    let k : ℕ = c.places.k in
    let back : k / 3 ≡ k / 3 + 1 - 1 = omega arith in
    c.put.ensures (point_number (points_of c.args.points.now)) c.args.out.now
    (to_z-of_z w64 c.coordinate.result fits ∙ c.coordinate.ensures ∙ ap (coordinate (k % 3)) c.point_at.ensures
    ∙ ap (λ (i : ℕ). coordinate (k % 3) (slice_index_or (points_of c.args.points.now) i origin)) back)
    c.places.invariant
