-- The goals of `fill_lengths` in src/point_calls.rt, which puts the lengths of lists of nodes into a buffer: what it
-- ensures.
use Rattle.std.proofs.Common.{inl, inr, refl}
use Rattle.tsp_c.proofs.point_calls.fill_lengths.Goals as goal

-- plan: by whether the text is an instance: its fault is the status, or the lengths are filled in
pub returns-in-Err : goal.returns-in-Err
returns-in-Err c = inr (c.in-Err.error, c.in-Err.ensures, (c.of_fault.ensures, refl))

pub returns-in-Ok : goal.returns-in-Ok
returns-in-Ok c = inl (c.in-Ok.instance, c.in-Ok.ensures, c.lengths_of-status.ensures)
