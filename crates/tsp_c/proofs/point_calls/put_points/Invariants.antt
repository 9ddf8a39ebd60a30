-- The loop of `put_points` in src/point_calls.rt, which puts coordinates into a buffer.
use Rattle.tsp_file.specs.states.Drafts.{points_of}
use Rattle.tsp_c.specs.NumberCalls.{IsFilled, point_number}
use Rattle.tsp_c.proofs.point_calls.put_points.Given as goal

-- the coordinates before this one are in the buffer, and its other numbers are as they were
abbrev pub invariant-places : goal.invariant-places
invariant-places l = IsFilled l.k (point_number (points_of l.points)) l.fn.out l.out
