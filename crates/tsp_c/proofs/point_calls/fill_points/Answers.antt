-- The goals of `fill_points` in src/point_calls.rt, which puts the coordinates of a section into a buffer: what it
-- ensures.
use Rattle.std.proofs.Common.{inl, inr, refl, rules}
use Rattle.tsp_c.specs.NumberCalls.{IsSection}
use Rattle.tsp_c.proofs.point_calls.fill_points.Goals as goal

-- plan: by whether the text is a file with points in this section: they are filled in, or the status says why not
pub returns-in-Err : goal.returns-in-Err
returns-in-Err c =
    let section : IsSection c.args.section = search rules in
    inr (inl (section, (c.in-Err.error, c.in-Err.ensures, (c.of_fault.ensures, refl))))

pub returns-in-Ok : goal.returns-in-Ok
returns-in-Ok c =
    let section : IsSection c.args.section = search rules in
    inl (section, (c.in-Ok.file, c.in-Ok.ensures, c.points_of_file-status.ensures))
