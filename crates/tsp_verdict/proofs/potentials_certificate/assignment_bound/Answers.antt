-- The goals of `assignment_bound` in src/potentials_certificate.rt, which bounds by duals, or finds the first pair that
-- breaks them: what it ensures.
use Rattle.tsp_verdict.proofs.Prelude.{◌∙◌, rules, FitsSigned, w128, to_z-of_z}
use Rattle.tsp_verdict.proofs.CarriedBounds.{assigned, broken_stands, duals_are, rows_counted, columns_counted}
use Rattle.tsp_verdict.proofs.potentials_certificate.assignment_bound.Goals as goal

-- plan: by the duals: a pair that breaks them is the first reason (`broken_stands`), else their bound (`assigned`)
pub returns-in-Ok : goal.returns-in-Ok
returns-in-Ok g c =
    let pot = c.args.pot.now in
    let duals = c.args.duals.now in
    let held = c.requires.held in
    let fits : FitsSigned w128 c.in-Ok.bound = search rules in
    rw (to_z-of_z w128 c.in-Ok.bound fits)
    (assigned c.args.inst.now pot (g.C.Costs.nodes c.args.c.now) (g.C.Costs.at c.args.c.now)
    duals.scale duals.rows.now duals.columns.now c.in-Ok.bound
    c.duals_bound_cycles.ensures c.requires.kind c.requires.some held.scaled (duals_are pot _ _ _ held)
    (rows_counted pot _ _ _ held ∙ c.requires.count)
    (columns_counted pot _ _ _ held ∙ c.requires.count) c.requires.keeps c.in-Ok.ensures.value c.in-Ok.ensures.size)

pub returns-in-Err : goal.returns-in-Err
returns-in-Err g c =
    let pot = c.args.pot.now in
    let duals = c.args.duals.now in
    (broken_stands c.args.inst.now pot (g.C.Costs.nodes c.args.c.now) (g.C.Costs.at c.args.c.now) duals.scale duals.rows.now
    duals.columns.now c.in-Err.pair.i c.in-Err.pair.j
    c.requires.kind (duals_are pot _ _ _ c.requires.held) c.requires.keeps c.in-Err.ensures.value).1
