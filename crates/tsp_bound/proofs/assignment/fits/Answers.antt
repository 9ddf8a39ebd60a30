-- The goals of `fits` in src/assignment.rt, which says whether a row's and a column's number are within the cost: what
-- it ensures.
use Rattle.tsp_bound.proofs.Prelude.{◌-◌, ◌<◌, length, arith, pos, slice_index_or, fit_decided}
use Rattle.tsp_bound.proofs.assignment.fits.Goals as goal

-- plan: the sum in 64 bits is the whole one, so the test decides (`fit_decided`)
pub returns : goal.returns
returns g c =
    let d = c.args.d.now in
    let row_in : c.args.i - 1 < length d.rows.now = omega (arith, c.requires.row, c.requires.count) in
    let column_in : c.args.j - 1 < length d.columns.now = omega (arith, c.requires.column, c.requires.count, d.are.as_many) in
    rw c.requires.number
    (fit_decided (slice_index_or d.rows.now (c.args.i - 1) (pos 0)) (slice_index_or d.columns.now (c.args.j - 1) (pos 0)) d.scale (g.C.Costs.at c.args.c.now c.args.i c.args.j) c.scaled_cost.result
    (d.are.rows_are (c.args.i - 1) (pos 0) row_in) (d.are.columns_are (c.args.j - 1) (pos 0) column_in) d.are.scale_is c.scaled_cost.ensures.value c.scaled_cost.ensures.size)
